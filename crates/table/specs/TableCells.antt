-- The records of a table that stand in the places of its file's lines, and an index that tells where
-- records may have a key (passwd(5), shadow(5), group(5), gshadow(5), subuid(5), subgid(5)).
use Rattle.std.specs.Prelude.{◌≡◌, ℕ, ◌<◌, ◌≤◌, AllPairs, Bool, true, false, List, [], filter_map, flat_map, length, Option, None, Some, ◌∷◌}
use Rattle.std.specs.List.{AllByRecursion, cons_option, list_any}
use Rattle.acct_text.specs.Bytes.{newline}
use Rattle.acct_text.specs.Pieces.{Lacks}
use Rattle.account_model.specs.Format.{Format}
use Rattle.account_model.specs.Ids.{is_used}
use Rattle.account_model.specs.Text.{is_listed}
use Rattle.acct_tables.specs.TableLines.{text_is_named}
use Rattle.acct_tables.specs.Cells.{ArePlaced, cell_at}
use Rattle.acct_tables.specs.declared.cell.Cell.{Cell}
use Rattle.acct_tables.specs.KeyPlaces.{MayBeAt, has_key}
use Rattle.table.specs.Accepting.{is_accepted}

-- ---- Records in places

-- P holds of the record that the text is, if it is one
abbrev pub HoldsOf : {R : Type 0} → Format R → (R → Type 0) → List ℕ → Type 0
HoldsOf {R = R} format P text = (r : R) → format.read text ≡ Some r → P r

-- P holds of each record that stands in a place
abbrev pub HoldsIn : {R : Type 0} → Format R → (R → Type 0) → Cell → Type 0
HoldsIn format P cell = AllByRecursion (HoldsOf format P) cell.texts

-- P holds of each record and its place
abbrev pub HoldsThere : {R : Type 0} → Format R → (ℕ → R → Type 0) → List Cell → Type 0
HoldsThere format P cells = AllByRecursion (λ cell. HoldsIn format (P cell.place) cell) cells

-- the index tells at the place of each key of the record
abbrev pub IsKeyed :
    {R : Type 0} → (R → List ℕ) → (ℕ → Option (List ℕ)) → ℕ → R → Type 0
IsKeyed keys_of told place r =
    (key : ℕ) → has_key key (keys_of r) ≡ true → MayBeAt told key place

-- ---- Places

-- the texts in a place are lines, of which several have an end each
pub record IsSound (cell : Cell) : Type 0 where
  pub one_line : AllByRecursion (Lacks newline) cell.texts
  pub ended : cell.ended ≡ false → length cell.texts ≤ 1

-- The cells of a table as they are kept: a place stands once, in front of those behind it, and the index
-- tells of each key of each record.
pub record AreKept {R : Type 0} (format : Format R) (keys_of : R → List ℕ)
    (told : ℕ → Option (List ℕ)) (cells : List Cell) : Type 0 where
  pub sound : AllByRecursion IsSound cells
  pub placed : ArePlaced cells
  pub told_of : HoldsThere format (IsKeyed keys_of told) cells

-- what stands in these places, one after another
abbrev pub cells_there : List Cell → List ℕ → List Cell
cells_there cells places = flat_map (λ place. cons_option (cell_at place cells) []) places

-- the texts in a place
abbrev pub texts_at : List Cell → ℕ → List (List ℕ)
texts_at cells place = elim (cell_at place cells) [ None ↦ [] | Some cell ↦ cell.texts ]

-- the texts of these places
abbrev pub texts_there : List Cell → List ℕ → List (List ℕ)
texts_there cells places = flat_map (λ cell. cell.texts) (cells_there cells places)

-- the records among texts
abbrev pub records_read : {R : Type 0} → Format R → List (List ℕ) → List R
records_read format texts = filter_map format.read texts

-- whether a record that passes the test stands in the place
abbrev pub has_in : {R : Type 0} → Format R → (R → Bool) → Cell → Bool
has_in format test cell = list_any (λ text. is_accepted test (format.read text)) cell.texts

-- whether a record of the name stands in the place
abbrev pub has_named_in : {R : Type 0} → Format R → List ℕ → Cell → Bool
has_named_in format name cell = list_any (text_is_named format name) cell.texts

-- whether one stands in this place
abbrev pub has_named_at : {R : Type 0} → Format R → List ℕ → List Cell → ℕ → Bool
has_named_at format name cells place =
    list_any (has_named_in format name) (cons_option (cell_at place cells) [])

-- ---- Which places are reached

-- Each record that the test accepts stands in one of these places, which go up; and the cells are sound
-- and in the order of their places.
pub record Reaches {R : Type 0} (format : Format R) (test : R → Bool) (cells : List Cell)
    (places : List ℕ) : Type 0 where
  pub all : HoldsThere format (λ place r. test r ≡ true → is_used places place ≡ true) cells
  pub ascending : AllPairs (λ earlier later. earlier < later) places
  pub sound : AllByRecursion IsSound cells
  pub placed : ArePlaced cells

-- f leaves each record elsewhere than in these places, which go up; and the cells are sound and in the
-- order of their places
pub record TouchesAt {R : Type 0} (format : Format R) (f : R → List R) (cells : List Cell)
    (places : List ℕ) : Type 0 where
  pub others : HoldsThere format (λ place r. is_used places place ≡ false → f r ≡ r ∷ []) cells
  pub ascending : AllPairs (λ earlier later. earlier < later) places
  pub sound : AllByRecursion IsSound cells
  pub placed : ArePlaced cells

-- each record of one of these names stands in one of these places, in whatever order
abbrev pub ReachesNames :
    {R : Type 0} → Format R → List (List ℕ) → List Cell → List ℕ → Type 0
ReachesNames format names cells places = HoldsThere format
    (λ place r. is_listed (format.name r) names ≡ true → is_used places place ≡ true) cells
