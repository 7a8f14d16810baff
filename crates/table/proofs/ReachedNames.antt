-- Claim: places that reach the records of each of several names reach those of all (`names-none`,
-- `names-more`), and so do the same places sorted and each once (`names-sorted`). Way: name by name.
use Rattle.std.proofs.Common.{◌≡◌, ◌∙◌, ℕ, Bool, true, false, List, [], ◌∷◌, ◌++◌, sym, inl, inr, refl}
use Rattle.std.specs.Prelude.{◌||◌, ◌==◌, Some, bytes_eq, nat_eq}
use Rattle.std.specs.List.{AllByRecursion, dedup}
use Rattle.std.specs.List.Sorted.{IsPermutation, IsSorted}
use Rattle.std.specs.Ordering.{nat_cmp}
use Rattle.std.proofs.lemmas.Bool.{cases_Bool, or_left, or_right}
use Rattle.std.proofs.lemmas.List.Folds.{list_any-append}
use Rattle.account_model.specs.Format.{Format, is_named}
use Rattle.account_model.specs.Ids.{is_used}
use Rattle.account_model.specs.Text.{is_listed}
use Rattle.acct_tables.specs.Cells.{ArePlaced}
use Rattle.acct_tables.specs.declared.cell.Cell.{Cell}
use Rattle.acct_tables.specs.KeyPlaces.{ArePlacesOf}
use Rattle.acct_tables.proofs.FoundPlaces.{found-places}
use Rattle.table.specs.TableCells.{IsSound, Reaches, ReachesNames}
use Rattle.table.proofs.ReachLemmas.{there-all, there-both, there-weaker}

-- the last of several has what none before it has
last-has :
    (before named : Bool) → before ≡ false → (before || (named || false)) ≡ true → named ≡ true
last-has true named isnt either = absurd cc
last-has false true isnt either = refl
last-has false false isnt either = absurd cc

module _ {R : Type 0} (format : Format R) (cells : List Cell) where
  -- of no name there are no records
  pub names-none : (places : List ℕ) → ReachesNames format [] cells places
  names-none places =
      there-all format
      (λ place r. is_listed (format.name r) [] ≡ true → is_used places place ≡ true) cells
      (λ place r listed. absurd cc)

  -- a name more, with the places of its records behind the others
  pub names-more :
      (names : List (List ℕ)) (name : List ℕ) (places found : List ℕ)
      → ReachesNames format names cells places
      → Reaches format (is_named format name) cells found
      → ReachesNames format (names ++ name ∷ []) cells (places ++ found)
  names-more names name places found so_far reached =
      there-both format
      (λ place r. is_listed (format.name r) names ≡ true → is_used places place ≡ true)
      (λ place r. is_named format name r ≡ true → is_used found place ≡ true)
      (λ place r. is_listed (format.name r) (names ++ name ∷ []) ≡ true
      → is_used (places ++ found) place ≡ true)
      (λ place r before here listed.
      let either : (is_listed (format.name r) names || (bytes_eq (format.name r) name || false))
      ≡ true = sym (list_any-append (bytes_eq (format.name r)) names (name ∷ [])) ∙ listed in
      list_any-append (λ other. other == place) places found
      ∙ elim (cases_Bool (is_listed (format.name r) names)) [
        | inl is ↦ or_left (is_used places place) (is_used found place) (before is)
        | inr isnt ↦ or_right (is_used places place) (is_used found place) (here
            (last-has (is_listed (format.name r) names) (bytes_eq
            (format.name r) name) isnt either))
      ])
      cells so_far reached.all

  -- the same places in their order
  pub names-sorted :
      (names : List (List ℕ)) (noted sorted : List ℕ)
      → ReachesNames format names cells noted
      → IsPermutation noted sorted
      → IsSorted nat_cmp sorted
      → AllByRecursion IsSound cells
      → ArePlaced cells
      → Reaches format (λ r. is_listed (format.name r) names) cells (dedup nat_eq sorted)
  names-sorted names noted sorted reached moved ascends sound placed =
      let are : ArePlacesOf (λ key. Some noted) 0 (dedup nat_eq sorted) =
      found-places (λ key. Some noted) 0 noted sorted refl moved ascends in
      record {
        all = there-weaker format
            (λ place r. is_listed (format.name r) names ≡ true → is_used noted place ≡ true)
            (λ place r. is_listed (format.name r) names ≡ true
            → is_used (dedup nat_eq sorted) place ≡ true)
            (λ place r is listed. are.all place (is listed)) cells reached;
        ascending = are.ascending;
        sound = sound;
        placed = placed;
      }
