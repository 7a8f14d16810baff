use Rattle.std.proofs.Common.{◌≡◌, ◌++◌, length, All}
use Rattle.memchr.specs.Find.{is_byte, places}
use Rattle.acct_text.proofs.PiecePlaces.{IsSeparatorAt, places_to}
use Rattle.acct_text.proofs.cuts.piece_places.Given as goal

-- the places so far and those up to the separators to come are the places of all pieces
abbrev pub invariant-loop-end : goal.invariant-loop-end
invariant-loop-end l = record {
  whole :
      l.places.items ++ places_to l.start l.end-iterator (length l.text)
      ≡ places_to 0 (places (is_byte l.separator) l.text) (length l.text);
  inside : All (IsSeparatorAt l.separator l.text) l.end-iterator;
}
