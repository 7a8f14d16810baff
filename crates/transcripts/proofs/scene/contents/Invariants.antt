use Rattle.std.proofs.Common.{All}
use Rattle.acct_outside.specs.Contract.{IsName}
use Rattle.transcripts.proofs.scene.contents.Given as goal

-- each file so far has the name of one
abbrev pub invariant-loop-file : goal.invariant-loop-file
invariant-loop-file l = All (λ file. IsName file.0) l.contents.items
