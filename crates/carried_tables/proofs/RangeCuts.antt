-- Claim: an edit makes of the lines of records, as they are printed, the lines of what it makes of
-- the records (`printed-edited`), and these are read as they are printed (`written-edited`). Way:
-- record by record, as an edit that makes records of each goes over them one by one.
use Rattle.std.proofs.Common.{◌≡◌, ◌∙◌, ℕ, ◌+◌, ◌<◌, zero, suc, Bool, true, false, List, [], ◌∷◌, ◌++◌, length, take, get_or, map, refl, sym, ap, subst, arith, inl, inr, append-nil}
use Rattle.std.specs.Prelude.{Option, bytes_eq, flat_map, not}
use Rattle.std.specs.List.{AllByRecursion}
use Rattle.std.proofs.lemmas.Bool.{cases_Bool}
use Rattle.std.proofs.lemmas.List.{map-append, take_more}
use Rattle.std.proofs.lemmas.Grind.{flat_map-append}
use Rattle.std.proofs.lemmas.Slice.Eq.{bytes_eq-Decides}
use Rattle.acct_text.specs.Lines.{Line, file_bytes, line_bytes}
use Rattle.account_model.specs.declared.records.SubidRecord.{SubidRecord}
use Rattle.account_model.specs.Format.{Format}
use Rattle.account_model.specs.Edits.{Edit, becomes, edited, line_becomes, printed_line}
use Rattle.account_model.specs.Edits.Edit.{Become, Add, AddMissing, Put, Arrange}
use Rattle.account_model.specs.RecordEdits.{IsWrittenEdit, TellsSame, records_edited}
use Rattle.account_model.specs.Written.{IsWritten}
use Rattle.account_model.proofs.ListLaws.{all-append}
use Rattle.line_edits.proofs.ChangedLines.{record-line}
use Rattle.carried_tables.specs.RangeRemovals.{KeepsApart, MakesRecords}

-- what is made of the items up to a place, and of the one there
pub flat-more :
    {X Y : Type 0} (f : X → List Y) (items : List X) (place : ℕ) (item : X)
    → place < length items
    → item ≡ get_or items place item
    → flat_map f (take (place + 1) items) ≡ flat_map f (take place items) ++ f item
flat-more f items place item inside is =
    ap (flat_map f) (take_more items place item inside)
    ∙ flat_map-append f (take place items) (get_or items place item ∷ [])
    ∙ ap (λ last. flat_map f (take place items) ++ last)
    (append-nil (f (get_or items place item)) ∙ ap f (sym is))

-- what holds of all items holds of the one at a place
pub item-at :
    {X : Type 0} (Holds : X → Type 0) (items : List X) (place : ℕ) (item : X)
    → AllByRecursion Holds items
    → place < length items
    → item ≡ get_or items place item
    → Holds item
item-at Holds [] place item all inside is = absurd (omega arith)
item-at Holds (first ∷ items) zero item all inside is = subst Holds (sym is) all.0
item-at Holds (first ∷ items) (suc place) item all inside is =
    item-at Holds items place item all.1 (omega arith) is

-- the bytes of lines, as those of items
pub bytes-of :
    {X : Type 0} (line : X → Line) (items : List X)
    → flat_map (λ item. line_bytes (line item)) items ≡ file_bytes (map line items)
bytes-of line [] = refl
bytes-of line (item ∷ items) = ap (λ back. line_bytes (line item) ++ back) (bytes-of line items)

-- two texts that aren't different are the same
pub same-texts :
    (a b : List ℕ) (other : Bool) → other ≡ not (bytes_eq a b) → other ≡ false → a ≡ b
same-texts a b other is same = (bytes_eq-Decides a b).0 (both (bytes_eq a b) (sym is ∙ same))
  where
    both : (equal : Bool) → not equal ≡ false → equal ≡ true
    both true none = refl
    both false none = absurd cc

-- a line with this text and an end
pub line-of :
    (line : Line) (text : List ℕ)
    → line.text ≡ text
    → line.ended ≡ true
    → line ≡ record { text = text; ended = true }
line-of line text same ended =
    let put : line ≡ record line { text = text } = ap (λ t. record line { text = t }) same in
    put ∙ ap (λ e. record line { text = text; ended = e }) ended

-- an edit that leaves what is apart from IDs makes records of records
pub all-make :
    (name : List ℕ) (uid : Option ℕ) (ids : List ℕ) (edits : List (Edit SubidRecord))
    → AllByRecursion (KeepsApart name uid ids) edits
    → AllByRecursion MakesRecords edits
all-make name uid ids [] keep = tt
all-make name uid ids (Become f ∷ edits) keep = (tt, all-make name uid ids edits keep.1)
all-make name uid ids (Add r ∷ edits) keep = absurd keep.0
all-make name uid ids (AddMissing r ∷ edits) keep = absurd keep.0
all-make name uid ids (Put r ∷ edits) keep = absurd keep.0
all-make name uid ids (Arrange key ∷ edits) keep = absurd keep.0

module _ {R : Type 0} (format : Format R) where
  -- what the line of a record becomes, as it's printed
  line-printed :
      TellsSame format
      → (r : R) (left : List R)
      → line_becomes format (printed_line format r) r left ≡ map (printed_line format) left
  line-printed tells r [] = refl
  line-printed tells r (s ∷ []) = elim (cases_Bool (format.same r s)) [
    | inl same ↦
        let one : r ≡ s = (tells r s).0 same in
        rw same (ap (λ t. printed_line format t ∷ []) one)
    | inr other ↦ rw other refl
  ]
  line-printed tells r (s ∷ t ∷ rest) = refl

  -- what the lines of records become by an edit
  pub printed-edited :
      (records : List R) (edit : Edit R)
      → TellsSame format
      → MakesRecords edit
      → AllByRecursion (IsWritten format) records
      → edited format (map (printed_line format) records) edit
      ≡ map (printed_line format) (records_edited format records edit)
  printed-edited [] (Become f) tells makes written = refl
  printed-edited (r ∷ records) (Become f) tells makes written =
      ap (λ front. front ++ flat_map (becomes format f) (map (printed_line format) records))
      (record-line format f (printed_line format r) r written.0.reads ∙ line-printed tells r (f r))
      ∙ ap (λ back. map (printed_line format) (f r) ++ back)
      (printed-edited records (Become f) tells makes written.1)
      ∙ sym (map-append (printed_line format) (f r) (flat_map f records))
  printed-edited records (Add r) tells makes written = absurd makes
  printed-edited records (AddMissing r) tells makes written = absurd makes
  printed-edited records (Put r) tells makes written = absurd makes
  printed-edited records (Arrange key) tells makes written = absurd makes

  -- the records that they become are read as they are printed
  pub written-edited :
      (records : List R) (edit : Edit R)
      → MakesRecords edit
      → IsWrittenEdit format edit
      → AllByRecursion (IsWritten format) records
      → AllByRecursion (IsWritten format) (records_edited format records edit)
  written-edited [] (Become f) makes edits written = tt
  written-edited (r ∷ records) (Become f) makes edits written =
      all-append (IsWritten format) (f r) (flat_map f records)
      (edits (format.print r) r written.0.one_line written.0.reads)
      (written-edited records (Become f) makes edits written.1)
  written-edited records (Add r) makes edits written = absurd makes
  written-edited records (AddMissing r) makes edits written = absurd makes
  written-edited records (Put r) makes edits written = absurd makes
  written-edited records (Arrange key) makes edits written = absurd makes
