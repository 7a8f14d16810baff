use Rattle.std.proofs.Common.{ℕ, List, ◌≡◌, ◌∙◌, ap, map, All, subst, sym}
use Rattle.acct_text.specs.Bytes.{IsWithin, newline, part_of, places_from}
use Rattle.acct_text.specs.Pieces.{cut_at}
use Rattle.acct_text.specs.Lines.{lines_of, texts_of}
use Rattle.acct_text.proofs.PartPlaces.{LieFrom, cut_at-lies, lines-lie, parts-shown, parts-within}
use Rattle.acct_text.proofs.LinePlaces.{lines-kept, lines-all, lines-none}
use Rattle.acct_text.proofs.cuts.lines.Goals as goal
use Rattle.acct_text.proofs.cuts.lines.Goals.{in-Some+then-start-end, in-Some+else-start-end, in_default}

-- what is left of the places of all pieces are the places of the lines
places-are :
    (c : goal.Joined-last)
    → c.match-last.places.items ≡ places_from 0 (texts_of (lines_of c.args.text.now))
places-are c =
    let pieces = cut_at newline c.args.text.now in
    let places = c.deref.result.now in
    let are : places ≡ places_from 0 pieces = c.deref.ensures.value ∙ c.in_ok-places.ensures in
    elim c.match-last.branch [
      | in-Some+then-start-end w ↦
          let last = w.in-Some.ensures.item in
          let empty = w.if-start-end.true in
          ap (λ vector. vector.items) w.places-is ∙ w.pop.ensures.rest
          ∙ rw (← c.deref.ensures.len, ← c.deref.ensures.value)
          (lines-kept pieces places w.in-Some.field-0.now are last.3.0 last.1 empty)
      | in-Some+else-start-end w ↦
          let last = w.in-Some.ensures.item in
          let full = w.if-start-end.false in
          ap (λ vector. vector.items) w.places-is ∙ sym c.deref.ensures.value
          ∙ lines-all pieces places w.in-Some.field-0.now are last.3.0 last.1 full
      | in_default w ↦
          ap (λ vector. vector.items) w.places-is ∙ sym c.deref.ensures.value
          ∙ lines-none pieces places are w.in_default.ensures.item.3
    ]

-- each line lies in the file
lines-lie-in : (text : List ℕ) → LieFrom text 0 (texts_of (lines_of text))
lines-lie-in text = lines-lie text 0 (cut_at newline text) (cut_at-lies newline text)

-- the places are those of the lines
pub returns-clause-places : goal.returns-clause-places
returns-clause-places c = places-are c

-- each place shows its line
pub returns-clause-texts : goal.returns-clause-texts
returns-clause-texts c =
    let text = c.args.text.now in
    ap (map (part_of text)) (places-are c)
    ∙ parts-shown text 0 (texts_of (lines_of text)) (lines-lie-in text)

-- each place lies within the file
pub returns-clause-within : goal.returns-clause-within
returns-clause-within c =
    let text = c.args.text.now in
    subst (All (IsWithin text)) (sym (places-are c))
    (parts-within text 0 (texts_of (lines_of text)) (lines-lie-in text))
