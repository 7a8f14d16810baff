-- A list of names in which one is renamed, as far as it is made name by name (usermod(8), `-l`).
use Rattle.std.specs.Prelude.{ℕ, Bool, true, false, List, bytes_eq, if◌then◌else◌}
use Rattle.account_model.specs.Members.{name_once, without_name}

-- a name by its renaming
abbrev pub renamed_name : List ℕ → List ℕ → List ℕ → List ℕ
renamed_name old new name = if bytes_eq name old then new else name

-- the names left, of which the new one comes once, or no more where it stands already
abbrev pub once_more : Bool → List ℕ → List (List ℕ) → List (List ℕ)
once_more true new names = without_name new names
once_more false new names = name_once new names
