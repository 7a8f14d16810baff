use Rattle.std.proofs.Common.{◌≡◌, ◌++◌, take}
use Rattle.acct_text.specs.Texts.{text_of}
use Rattle.acct_text.proofs.bytes.Bytes.push_pieces.Given as goal

-- the pieces so far stand behind what was there
abbrev pub invariant-loop-piece : goal.invariant-loop-piece
invariant-loop-piece l = l.self ≡ l.initial.self ++ text_of (take l.piece-index l.pieces)
