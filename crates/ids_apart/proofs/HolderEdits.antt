-- Edits of a table after which no more records pass a test (`AddsNone`): those after one another (`edits-add-none`), one
-- that makes one record of each (`each-adds-none`), and those that give no ID (`kept-add-none`).
-- What may come beside is one that passes where none did (`EditsMeetNoMore`).
use Rattle.std.proofs.Common.{◌≡◌, ◌≤◌, max, Bool, true, List, [], ◌∷◌, ◌++◌, sym, ◌∙◌, subst, arith}
use Rattle.std.specs.Prelude.{cond, count_by, fold}
use Rattle.std.specs.List.{AllByRecursion}
use Rattle.std.proofs.lemmas.List.Sums.{fold-append}
use Rattle.account_model.specs.Format.{Format}
use Rattle.account_model.specs.Edits.{Edit, each}
use Rattle.account_model.specs.Edits.Edit.{Become, Arrange}
use Rattle.account_model.specs.RecordEdits.{records_edited}
use Rattle.account_model.proofs.KeptIds.{KeepsId, LeavesId}
use Rattle.ids_apart.proofs.Counts.{cond-le, count-becomes, count-more, count-sorted}

-- whatever the records are, no more pass after the edit
abbrev pub AddsNone : {X : Type 0} → Format X → (X → Bool) → Edit X → Type 0
AddsNone {X} format test edit =
    (xs : List X) → count_by test (records_edited format xs edit) ≤ count_by test xs

-- of these records, no more pass after the edits, but one where none did
abbrev pub EditsMeetNoMore : {X : Type 0} → Format X → (X → Bool) → List X → List (Edit X) → Type 0
EditsMeetNoMore format test xs edits =
    count_by test (fold (records_edited format) xs edits) ≤ max 1 (count_by test xs)

module _ {X : Type 0} (format : Format X) (test : X → Bool) where
  -- edits after one another
  pub edits-add-none :
      (edits : List (Edit X))
      → AllByRecursion (AddsNone format test) edits
      → (xs : List X)
      → count_by test (fold (records_edited format) xs edits) ≤ count_by test xs
  edits-add-none [] add xs = omega arith
  edits-add-none (edit ∷ edits) add xs =
      omega (arith, add.0 xs, edits-add-none edits add.1 (records_edited format xs edit))

  -- so no more meet
  pub none-meets :
      (edits : List (Edit X))
      → AllByRecursion (AddsNone format test) edits
      → (xs : List X)
      → EditsMeetNoMore format test xs edits
  none-meets edits add xs = let few = edits-add-none edits add xs in omega (arith, few)

  -- such edits before others
  pub before-meets :
      (before after : List (Edit X)) (xs : List X)
      → AllByRecursion (AddsNone format test) before
      → EditsMeetNoMore format test (fold (records_edited format) xs before) after
      → EditsMeetNoMore format test xs (before ++ after)
  before-meets before after xs add meets =
      let few = edits-add-none before add xs
      in subst (λ (ys : List X). count_by test ys ≤ max 1 (count_by test xs))
      (sym (fold-append (records_edited format) xs before after)) (omega (arith, few, meets))

  -- and behind them
  pub behind-meets :
      (edits : List (Edit X)) (xs ys : List X)
      → AllByRecursion (AddsNone format test) edits
      → count_by test ys ≤ max 1 (count_by test xs)
      → count_by test (fold (records_edited format) ys edits) ≤ max 1 (count_by test xs)
  behind-meets edits xs ys add meets =
      let few = edits-add-none edits add ys in omega (arith, few, meets)

  -- one record of each, which passes only where the other did
  pub each-adds-none :
      (f : X → X)
      → ((x : X) → test (f x) ≡ true → test x ≡ true)
      → AddsNone format test (each f)
  each-adds-none f only xs = count-becomes test (λ x. f x ∷ [])
      (λ x. omega (arith, count-more test (f x) [], cond-le (test (f x)) (test x) (only x))) xs

  module _ {I : Type 0} (id : X → I) (by : (x y : X) → id x ≡ id y → test x ≡ test y) where
    -- what is left of a record passes only where it did
    left-few :
        (x : X) (news : List X) → LeavesId id x news → count_by test news ≤ cond (test x) 1 0
    left-few x [] leaves = omega arith
    left-few x (y ∷ []) leaves =
        omega (
          arith,
          count-more test y [],
          cond-le (test y) (test x) (λ passes. sym (by y x leaves) ∙ passes),
        )
    left-few x (y ∷ z ∷ rest) leaves = absurd leaves

    -- edits that give no ID, where the test is of the ID alone
    pub kept-add-none :
        (edits : List (Edit X))
        → AllByRecursion (KeepsId id) edits
        → AllByRecursion (AddsNone format test) edits
    kept-add-none [] keep = tt
    kept-add-none (Become f ∷ edits) keep =
        (count-becomes test f (λ x. left-few x (f x) (keep.0 x)), kept-add-none edits keep.1)
    kept-add-none (Arrange key ∷ edits) keep =
        ((λ xs. omega (arith, count-sorted test key xs)), kept-add-none edits keep.1)
    kept-add-none (edit ∷ edits) keep = absurd keep.0
