-- What becomes of the lines of a table of which a change may touch every record (pwconv(8)).
use Rattle.std.specs.Prelude.{ℕ, Bool, ◌&&◌, List, [], ◌∷◌, Option, Some, None, if◌then◌else◌}
use Rattle.account_model.specs.Format.{Format}
use Rattle.account_model.specs.Edits.{Become, touches, is_multiple}

-- a record is touched, and its name is multiple in the whole table
abbrev pub is_met_by : {R : Type 0} → Format R → (R → List R) → List R → R → Bool
is_met_by format f records r =
    touches format (Become f ∷ []) r && is_multiple format records r

-- the name of the record that a text is, where that is so
abbrev pub met_in : {R : Type 0} → Format R → (R → List R) → List R → List ℕ → Option (List ℕ)
met_in format f records text = elim (format.read text) [
  | None ↦ None
  | Some r ↦ if is_met_by format f records r then Some (format.name r) else None
]
