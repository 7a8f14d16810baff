-- What edits make of the texts in places (passwd(5), shadow(5), group(5), gshadow(5), subuid(5),
-- subgid(5)).
use Rattle.std.specs.Prelude.{ℕ, List, [], ◌∷◌, flat_map, map, None, Some, if◌then◌else◌}
use Rattle.account_model.specs.Format.{Format}
use Rattle.account_model.specs.Ids.{is_used}
use Rattle.acct_tables.specs.TableLines.{text_is_named}
use Rattle.acct_tables.specs.Cells.{with_texts}
use Rattle.acct_tables.specs.declared.cell.Cell.{Cell}

-- the text of a record with another in its place, which keeps its bytes where both are the same
abbrev pub text_instead : {R : Type 0} → Format R → List ℕ → R → R → List ℕ
text_instead format text r s = if format.same r s then text else format.print s

-- what stands in place of the text of a record that becomes these
abbrev pub text_becomes : {R : Type 0} → Format R → List ℕ → R → List R → List (List ℕ)
text_becomes format text r [] = []
text_becomes format text r (s ∷ []) = text_instead format text r s ∷ []
text_becomes format text r (s ∷ t ∷ rest) = map format.print (s ∷ t ∷ rest)

-- what stands in place of a text where each record becomes what f gives; other text stays
abbrev pub texts_becoming : {R : Type 0} → Format R → (R → List R) → List ℕ → List (List ℕ)
texts_becoming format f text = elim (format.read text) [
  | None ↦ text ∷ []
  | Some r ↦ text_becomes format text r (f r)
]

-- what stands in a place then
abbrev pub changed_cell : {R : Type 0} → Format R → (R → List R) → Cell → Cell
changed_cell format f cell = with_texts (flat_map (texts_becoming format f) cell.texts) cell

-- and in all places, where the records in these become what f gives
abbrev pub changed_there :
    {R : Type 0} → Format R → (R → List R) → List ℕ → List Cell → List Cell
changed_there format f places cells =
    map (λ cell. if is_used places cell.place then changed_cell format f cell else cell) cells

-- the text of a record with another in its place; other text stays
abbrev pub text_put : {R : Type 0} → Format R → R → List ℕ → List ℕ
text_put format r text = elim (format.read text) [
  | None ↦ text
  | Some s ↦ text_instead format text s r
]

-- the texts with the record in place of the first of its name
abbrev pub texts_with : {R : Type 0} → Format R → R → List (List ℕ) → List (List ℕ)
texts_with format r [] = []
texts_with format r (text ∷ rest) = if text_is_named format (format.name r) text
    then text_put format r text ∷ rest
    else text ∷ texts_with format r rest
