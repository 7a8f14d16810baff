-- The records that edits touch and whose names have several, by the places where they stand (passwd(5),
-- shadow(5), group(5), gshadow(5), subuid(5), subgid(5)).
use Rattle.std.specs.Prelude.{◌≢◌, ℕ, Bool, List, [], ◌∷◌, Option, None, Some, find, min, option_map, ⊤}
use Rattle.account_model.specs.Edits as model
use Rattle.account_model.specs.Edits.Edit.{Become}
use Rattle.account_model.specs.Format.{Format, records_of}
use Rattle.line_edits.specs.Naming.{TouchesOnly}
use Rattle.line_edits.specs.Touching.{is_met}
use Rattle.acct_tables.specs.Cells.{lines_now}
use Rattle.acct_tables.specs.declared.cell.Cell.{Cell}
use Rattle.table.specs.Accepting.{is_accepted}
use Rattle.table.specs.TableCells.{Reaches, TouchesAt, has_in}

-- whether the text is a record that the edits touch, and several of the table have its name
abbrev pub meets :
    {R : Type 0} → Format R → List (model.Edit R) → List Cell → List ℕ → Bool
meets format edits cells text =
    is_accepted (is_met format edits (records_of format (lines_now cells))) (format.read text)

-- whether one stands in the place
abbrev pub has_met : {R : Type 0} → Format R → List (model.Edit R) → List Cell → Cell → Bool
has_met format edits cells cell =
    has_in format (is_met format edits (records_of format (lines_now cells))) cell

-- each that the edit alone touches stands in one of these places
abbrev pub MeetsAt :
    {R : Type 0} → Format R → model.Edit R → List Cell → List ℕ → Type 0
MeetsAt format edit cells places = Reaches format
    (is_met format (edit ∷ []) (records_of format (lines_now cells))) cells places

-- the edit is a change that touches only records of the name
abbrev pub TouchesNamed : {R : Type 0} → Format R → model.Edit R → List ℕ → Type 0
TouchesNamed format (Become f) name = TouchesOnly format f (name ∷ [])
TouchesNamed format edit name = ⊥

-- a change touches only records in these places
abbrev pub IsEditedAt : {R : Type 0} → Format R → model.Edit R → List Cell → List ℕ → Type 0
IsEditedAt format (Become f) cells places = TouchesAt format f cells places
IsEditedAt format edit cells places = ⊤

-- so does the only edit, where places are told
abbrev pub AreEditedAt :
    {R : Type 0} → Format R → List (model.Edit R) → List Cell → List ℕ → Type 0
AreEditedAt format (edit ∷ []) cells places = places ≢ [] → IsEditedAt format edit cells places
AreEditedAt format edits cells places = ⊤

-- the place of the first that passes the test
abbrev pub first_in : (Cell → Bool) → List Cell → Option ℕ
first_in test cells = option_map (λ cell. cell.place) (find test cells)

-- the lower one of two places, or the only one
abbrev pub earlier : Option ℕ → Option ℕ → Option ℕ
earlier None other = other
earlier (Some place) None = Some place
earlier (Some place) (Some found) = Some (min place found)
