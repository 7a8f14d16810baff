-- Which lines of a table a command touches, said line by line, and that all others stay byte for byte.
use Rattle.std.specs.Prelude.{ℕ, Bool, true, false, ◌&&◌, ◌||◌, not, List, [], ◌∷◌, ◌++◌, filter, map, Option, Some, None, ⊤, if◌then◌else◌}
use Rattle.acct_text.specs.Lines.{Line}
use Rattle.account_model.specs.Format.{Format, is_named, has_named}
use Rattle.account_model.specs.Edits.{Edit, Become, Add, AddMissing, Put, Arrange, becoming_touches, touches, is_multiple}

-- ---- The line that a `put` meets

-- Whether the edits touch a record behind the earlier ones of its table: a `put` meets it, as the first of its name; it
-- becomes another record; or it goes.
abbrev pub touches_behind : {R : Type 0} → Format R → List R → List (Edit R) → R → Bool
touches_behind format earlier [] r = false
touches_behind format earlier (Become f ∷ edits) r =
    becoming_touches format r (f r) (touches_behind format earlier edits)
touches_behind format earlier (Put s ∷ edits) r =
    (is_named format (format.name s) r && not (has_named format (format.name s) earlier))
    || touches_behind format earlier edits r
touches_behind format earlier (Add s ∷ edits) r = touches_behind format earlier edits r
touches_behind format earlier (AddMissing s ∷ edits) r = touches_behind format earlier edits r
touches_behind format earlier (Arrange key ∷ edits) r = touches_behind format earlier edits r

-- the name of the first of these records, behind the earlier ones, that is touched so and multiple in the whole table
abbrev pub first_met :
    {R : Type 0} → Format R → List R → List (Edit R) → List R → List R → Option (List ℕ)
first_met format whole edits earlier [] = None
first_met format whole edits earlier (r ∷ rest) =
    if touches_behind format earlier edits r && is_multiple format whole r
    then Some (format.name r)
    else first_met format whole edits (earlier ++ r ∷ []) rest

-- ---- The lines that stay

-- the edit changes no order
abbrev pub KeepsOrder : {R : Type 0} → Edit R → Type 0
KeepsOrder (Arrange key) = ⊥
KeepsOrder edit = ⊤

-- the line is other text, or its record isn't touched
abbrev pub is_untouched : {R : Type 0} → Format R → List (Edit R) → Line → Bool
is_untouched format edits line =
    elim (format.read line.text) [ None ↦ true | Some r ↦ not (touches format edits r) ]

-- the texts of the lines that aren't touched, in order
abbrev pub untouched_texts : {R : Type 0} → Format R → List (Edit R) → List Line → List (List ℕ)
untouched_texts format edits lines =
    map (λ line. line.text) (filter (is_untouched format edits) lines)

-- the first texts stand among the others, in their order
pub data AreAmong : List (List ℕ) → List (List ℕ) → Type 0 where
  ends : AreAmong [] []
  skips : {few many : List (List ℕ)} {text : List ℕ} → AreAmong few many
      → AreAmong few (text ∷ many)
  keeps : {few many : List (List ℕ)} {text : List ℕ} → AreAmong few many
      → AreAmong (text ∷ few) (text ∷ many)
