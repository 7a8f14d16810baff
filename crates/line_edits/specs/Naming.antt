-- Which records a change may touch, by their names (passwd(5), shadow(5), group(5), gshadow(5)).
use Rattle.std.specs.Prelude.{◌≡◌, ℕ, false, List, [], ◌∷◌, map, Some, if◌then◌else◌}
use Rattle.std.specs.Vec.{vec_items}
use Rattle.account_model.specs.Format.{Format, is_named}
use Rattle.account_model.specs.Text.{is_listed}
use Rattle.acct_tables.specs.Marks.{IsWithoutAll}
use Rattle.line_edits.specs.declared.edit.ChangedNames.{ChangedNames}
use Rattle.line_edits.specs.declared.edit.ChangedNames.TheVariants.{One, Each}

-- f leaves the record that the text is, if it is one
abbrev pub LeavesIt : {R : Type 0} → Format R → (R → List R) → List ℕ → Type 0
LeavesIt {R = R} format f text = (r : R) → format.read text ≡ Some r → f r ≡ r ∷ []

-- f leaves each record whose line is without all of these marks
abbrev pub AreMarksOf : {R : Type 0} → Format R → (R → List R) → List (List ℕ) → Type 0
AreMarksOf format f marks = (line : List ℕ) → IsWithoutAll marks line → LeavesIt format f line

-- the names as a list, in their order
abbrev pub names_in : ChangedNames → List (List ℕ)
names_in (One name) = name.now ∷ []
names_in (Each names) = map vec_items names.now

-- f touches only records of these names
abbrev pub TouchesOnly : {R : Type 0} → Format R → (R → List R) → List (List ℕ) → Type 0
TouchesOnly {R = R} format f names =
    (r : R) → is_listed (format.name r) names ≡ false → f r ≡ r ∷ []

-- a record of the name becomes what an act makes of it, and each other one stays
abbrev pub changed_named : {R : Type 0} → Format R → List ℕ → (R → R) → R → List R
changed_named format name after r = (if is_named format name r then after r else r) ∷ []

-- a record of the name goes, and each other one stays
abbrev pub without_named : {R : Type 0} → Format R → List ℕ → R → List R
without_named format name r = if is_named format name r then [] else r ∷ []
