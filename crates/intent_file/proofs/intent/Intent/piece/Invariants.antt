use Rattle.std.proofs.Common.{◌≡◌, ◌+◌, length, drop, slice_get}
use Rattle.std.specs.List.{flat_map}
use Rattle.std.specs.Slice.Iter.{iter_rest}
use Rattle.acct_outside.specs.Pieces.{pieces_of}
use Rattle.intent_file.specs.Pieces.{intent_pieces, in_turn}
use Rattle.intent_file.proofs.intent.Intent.piece.Given as goal

-- the place among the pieces of what is to come is that among all; one line more than tables is to come
abbrev pub invariant-tables : goal.invariant-tables
invariant-tables l =
    (slice_get (flat_map pieces_of (in_turn (iter_rest l.lines) (drop l.table-index l.self.tables)))
    l.place ≡ slice_get (intent_pieces l.self) l.fn.place)
    × (length (iter_rest l.lines) ≡ length (drop l.table-index l.self.tables) + 1)
