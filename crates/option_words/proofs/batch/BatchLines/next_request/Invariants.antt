use Rattle.std.proofs.Common.{◌≡◌, length}
use Rattle.option_words.specs.Batch.{requests_of}
use Rattle.option_words.proofs.batch.BatchLines.next_request.Given as goal

-- the lines that are left ask for what they asked for at first
abbrev pub invariant-lines : goal.invariant-lines
invariant-lines l = requests_of l.self ≡ requests_of l.initial.self

abbrev pub decreases-lines : goal.decreases-lines
decreases-lines l = length l.self
