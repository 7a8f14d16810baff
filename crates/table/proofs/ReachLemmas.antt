-- Claims: the places that an index tells of a key reach each record that has it (`told-reaches`), and so
-- do all places (`all-reaches`); those of marked lines reach the records that the marks tell
-- (`marked-reaches`, `marked-touches`). The records of a name are reached by its own key
-- (`named-reached`). To change the records that a change touches is to change all (`reached-changes`).
-- Way: record by record.
use Rattle.std.proofs.Common.{◌≡◌, ◌∙◌, ℕ, ◌<◌, Bool, true, false, eqb, List, [], ◌∷◌, length, map, refl, sym, ap, subst, inl, inr, arith}
use Rattle.std.specs.Prelude.{AllPairs, Option, flat_map}
use Rattle.std.specs.List.{AllByRecursion}
use Rattle.std.proofs.ByRecursion.{All-weaker}
use Rattle.std.proofs.lemmas.Bool.{cases_Bool, eq-eqb, false_from_ne_true, or_left, or_right}
use Rattle.std.proofs.lemmas.List.{get_or-map, length-map}
use Rattle.std.proofs.lemmas.Slice.Eq.{bytes_eq-Decides}
use Rattle.account_model.specs.Edits.{becomes}
use Rattle.account_model.specs.Format.{Format, is_named}
use Rattle.account_model.specs.Ids.{is_used}
use Rattle.account_model.specs.RecordEdits.{TellsSame}
use Rattle.acct_tables.specs.Marks.{IsWithoutAll}
use Rattle.line_edits.specs.Naming.{AreMarksOf}
use Rattle.acct_tables.specs.Cells.{AreMarked, ArePlaced, IsMarkless, lines_now}
use Rattle.acct_tables.specs.declared.cell.Cell.{Cell}
use Rattle.acct_tables.specs.KeyPlaces.{ArePlacesOf, has_key}
use Rattle.table.specs.Keys.{HaveOwnKeys, own_key}
use Rattle.table.specs.Changed.{changed_there}
use Rattle.table.specs.TableCells.{AreKept, HoldsIn, HoldsOf, HoldsThere, IsSound, IsKeyed, Reaches, TouchesAt}
use Rattle.table.proofs.ChangedTexts.{all-changed}
use Rattle.table.proofs.EditedCells.{both-facts}

module _ {R : Type 0} (format : Format R) where
  -- what holds of each record and its place, in other words
  pub there-weaker :
      (P Q : ℕ → R → Type 0)
      → ((place : ℕ) (r : R) → P place r → Q place r)
      → (cells : List Cell)
      → HoldsThere format P cells
      → HoldsThere format Q cells
  there-weaker P Q weaker cells holds =
      All-weaker (λ cell. HoldsIn format (P cell.place) cell)
      (λ cell. HoldsIn format (Q cell.place) cell)
      (λ cell here. All-weaker (HoldsOf format (P cell.place)) (HoldsOf format (Q cell.place))
      (λ text is r reads. weaker cell.place r (is r reads)) cell.texts here) cells holds

  -- what holds of every record holds of those that stand in places
  pub there-all :
      (P : ℕ → R → Type 0) (cells : List Cell)
      → ((place : ℕ) (r : R) → P place r)
      → HoldsThere format P cells
  there-all P [] holds = tt
  there-all P (cell ∷ cells) holds = (texts-all cell.texts, there-all P cells holds)
    where
      texts-all : (texts : List (List ℕ)) → AllByRecursion (HoldsOf format (P cell.place)) texts
      texts-all [] = tt
      texts-all (text ∷ texts) = ((λ r reads. holds cell.place r), texts-all texts)

  -- two facts of each record are a third
  pub there-both :
      (P Q S : ℕ → R → Type 0)
      → ((place : ℕ) (r : R) → P place r → Q place r → S place r)
      → (cells : List Cell)
      → HoldsThere format P cells
      → HoldsThere format Q cells
      → HoldsThere format S cells
  there-both P Q S both cells first second =
      both-facts (λ cell. HoldsIn format (P cell.place) cell)
      (λ cell. HoldsIn format (Q cell.place) cell) (λ cell. HoldsIn format (S cell.place) cell)
      (λ cell one other.
      both-facts (HoldsOf format (P cell.place)) (HoldsOf format (Q cell.place))
      (HoldsOf format (S cell.place))
      (λ text one other r reads. both cell.place r (one r reads) (other r reads))
      cell.texts one other)
      cells first second

  -- fewer records are reached too
  pub reaches-weaker :
      (test other : R → Bool) (cells : List Cell) (places : List ℕ)
      → ((r : R) → test r ≡ true → other r ≡ true)
      → Reaches format other cells places
      → Reaches format test cells places
  reaches-weaker test other cells places needs reached = record {
    all = there-weaker (λ place r. other r ≡ true → is_used places place ≡ true)
        (λ place r. test r ≡ true → is_used places place ≡ true)
        (λ place r is passes. is (needs r passes)) cells reached.all;
    ascending = reached.ascending;
    sound = reached.sound;
    placed = reached.placed;
  }

  module _ (keys_of : R → List ℕ) where
    -- the records of a name are reached by its own key
    pub named-reached :
        (name : List ℕ) (cells : List Cell) (places : List ℕ)
        → HaveOwnKeys format keys_of
        → Reaches format (λ r. has_key (own_key name) (keys_of r)) cells places
        → Reaches format (is_named format name) cells places
    named-reached name cells places own reached =
        reaches-weaker (is_named format name) (λ r. has_key (own_key name) (keys_of r)) cells places
        (λ r named.
        subst (λ name. has_key (own_key name) (keys_of r) ≡ true)
        ((bytes_eq-Decides (format.name r) name).0 named) (own r))
        reached

    -- by the places that are told of a key
    pub told-reaches :
        (told : ℕ → Option (List ℕ)) (key : ℕ) (cells : List Cell) (places : List ℕ)
        → AreKept format keys_of told cells
        → ArePlacesOf told key places
        → Reaches format (λ r. has_key key (keys_of r)) cells places
    told-reaches told key cells places kept are = record {
      all = there-weaker (IsKeyed keys_of told)
          (λ place r. has_key key (keys_of r) ≡ true → is_used places place ≡ true)
          (λ place r tells has. are.all place (tells key has)) cells kept.told_of;
      ascending = are.ascending;
      sound = kept.sound;
      placed = kept.placed;
    }

-- ---- All places

-- those of the cells
abbrev pub places_in : List Cell → List ℕ
places_in cells = map (λ cell. cell.place) cells

-- each is one of them
used-all :
    (cells : List Cell) → AllByRecursion (λ cell. is_used (places_in cells) cell.place ≡ true) cells
used-all [] = tt
used-all (cell ∷ cells) = (
  or_left (eqb cell.place cell.place) (is_used (places_in cells) cell.place)
      (eq-eqb cell.place cell.place refl),
  All-weaker (λ found. is_used (places_in cells) found.place ≡ true)
      (λ found. is_used (cell.place ∷ places_in cells) found.place ≡ true)
      (λ found used. or_right (eqb cell.place found.place) (is_used (places_in cells) found.place)
      used) cells (used-all cells),
)

-- they go up
places-ascend :
    (cells : List Cell)
    → ArePlaced cells
    → AllPairs (λ earlier later. earlier < later) (places_in cells)
places-ascend [] placed = λ i j d before inside. absurd (omega (arith, inside))
places-ascend (cell ∷ cells) placed = λ i j d before inside.
    let all = cell ∷ cells in
    let place = λ (cell : Cell). cell.place in
    let behind : j < length all = omega (arith, length-map all place, inside) in
    let ahead : i < length all = omega (arith, behind, before) in
    omega (
      arith,
      placed i j cell before behind,
      get_or-map place all i cell d ahead,
      get_or-map place all j cell d behind,
    )

-- by them each record is reached
pub all-reaches :
    {R : Type 0} (format : Format R) (test : R → Bool) (cells : List Cell)
    → AllByRecursion IsSound cells
    → ArePlaced cells
    → Reaches format test cells (places_in cells)
all-reaches format test cells sound placed = record {
  all = All-weaker (λ cell. is_used (places_in cells) cell.place ≡ true)
      (λ cell. HoldsIn format
      (λ r. test r ≡ true → is_used (places_in cells) cell.place ≡ true) cell)
      (λ cell used. each format test (places_in cells) cell.place used cell.texts)
      cells (used-all cells);
  ascending = places-ascend cells placed;
  sound = sound;
  placed = placed;
}
  where
    each :
        {R : Type 0} (format : Format R) (test : R → Bool) (places : List ℕ) (place : ℕ)
        → is_used places place ≡ true
        → (texts : List (List ℕ))
        → AllByRecursion (HoldsOf format (λ r. test r ≡ true → is_used places place ≡ true)) texts
    each format test places place used [] = tt
    each format test places place used (text ∷ texts) =
        ((λ r reads passes. used), each format test places place used texts)

-- so they have all texts with marks
pub all-marked :
    (marks : List (List ℕ)) (cells : List Cell)
    → ArePlaced cells
    → AreMarked marks cells (places_in cells)
all-marked marks cells placed = record {
  others = All-weaker (λ cell. is_used (places_in cells) cell.place ≡ true)
      (IsMarkless marks (places_in cells))
      (λ cell used unused. let both : true ≡ false = sym used ∙ unused in absurd cc)
      cells (used-all cells);
  ascending = places-ascend cells placed;
}

-- ---- Marked lines

module _ {R : Type 0} (format : Format R) (marks : List (List ℕ)) (cells : List Cell)
    (places : List ℕ) (marked : AreMarked marks cells places) where
  -- what holds of each record of a line without marks holds of those in other places
  marked-hold :
      (P : R → Type 0)
      → ((text : List ℕ) → IsWithoutAll marks text → HoldsOf format P text)
      → HoldsThere format (λ place r. is_used places place ≡ false → P r) cells
  marked-hold P holds =
      All-weaker (IsMarkless marks places)
      (λ cell. HoldsIn format (λ r. is_used places cell.place ≡ false → P r) cell)
      (λ cell markless. elim (cases_Bool (is_used places cell.place)) [
        | inl used ↦ each cell.texts
            (λ text r reads unused. let both : true ≡ false = sym used ∙ unused in absurd cc)
        | inr unused ↦ All-weaker (IsWithoutAll marks)
            (HoldsOf format (λ r. is_used places cell.place ≡ false → P r))
            (λ text without r reads unused. holds text without r reads)
            cell.texts (markless unused)
      ])
      cells marked.others
    where
      each :
          {Q : List ℕ → Type 0}
          (texts : List (List ℕ)) → ((text : List ℕ) → Q text) → AllByRecursion Q texts
      each [] holds = tt
      each {Q = Q} (text ∷ texts) holds = (holds text, each {Q = Q} texts holds)

  module _ (sound : AllByRecursion IsSound cells) (placed : ArePlaced cells) where
    -- a change is at lines with its marks
    pub marked-touches :
        (f : R → List R) → AreMarksOf format f marks → TouchesAt format f cells places
    marked-touches f are = record {
      others = marked-hold (λ r. f r ≡ r ∷ []) are;
      ascending = marked.ascending;
      sound = sound;
      placed = placed;
    }

    -- records that a test accepts are
    pub marked-reaches :
        (test : R → Bool)
        → ((text : List ℕ) → IsWithoutAll marks text → HoldsOf format (λ r. test r ≡ false) text)
        → Reaches format test cells places
    marked-reaches test fails = record {
      all = there-weaker format (λ place r. is_used places place ≡ false → test r ≡ false)
          (λ place r. test r ≡ true → is_used places place ≡ true)
          (λ place r others passes. so (is_used places place) (test r) others passes)
          cells (marked-hold (λ r. test r ≡ false) fails);
      ascending = marked.ascending;
      sound = sound;
      placed = placed;
    }
      where
        so : (used passes : Bool) → (used ≡ false → passes ≡ false) → passes ≡ true → used ≡ true
        so true passes others is = refl
        so false passes others is = let both : true ≡ false = sym is ∙ others refl in absurd cc

-- ---- Changes

-- where records are reached without which a change leaves all, it touches none elsewhere
pub reached-touches :
    {R : Type 0} (format : Format R) (f : R → List R) (test : R → Bool) (cells : List Cell)
    (places : List ℕ)
    → ((r : R) → test r ≡ false → f r ≡ r ∷ [])
    → Reaches format test cells places
    → TouchesAt format f cells places
reached-touches format f test cells places left reached = record {
  others = there-weaker format (λ place r. test r ≡ true → is_used places place ≡ true)
      (λ place r. is_used places place ≡ false → f r ≡ r ∷ [])
      (λ place r reaches unused. left r
      (false_from_ne_true (test r) (λ has.
      let both : true ≡ false = sym (reaches has) ∙ unused in absurd cc)))
      cells reached.all;
  ascending = reached.ascending;
  sound = reached.sound;
  placed = reached.placed;
}

-- to change at these places is to change all lines
pub reached-changes :
    {R : Type 0} (format : Format R) (f : R → List R) (cells : List Cell)
    → TellsSame format
    → (places : List ℕ)
    → TouchesAt format f cells places
    → (slice : List ℕ)
    → slice ≡ places
    → lines_now (changed_there format f slice cells) ≡ flat_map (becomes format f) (lines_now cells)
reached-changes format f cells tells places touches slice same =
    ap (λ slice. lines_now (changed_there format f slice cells)) same
    ∙ all-changed format f places cells tells touches.sound touches.others
