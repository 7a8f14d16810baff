-- A list of which no element passes a test stands before the first that does (`before_first-none`).
use Rattle.std.proofs.Common.{◌≡◌, ℕ, suc, ◌+◌, ◌≤◌, Bool, true, false, List, [], ◌∷◌, length, refl, sym, ◌∙◌, arith, inl, inr}
use Rattle.std.specs.Prelude.{nat_lt}
use Rattle.std.specs.List.{list_any, position_or_len, before_first}
use Rattle.std.proofs.lemmas.Bool.{cases_Bool, ltb-false}
use Rattle.std.proofs.lemmas.Bool.Decides.{nat_tests}
use Rattle.std.proofs.lemmas.List.{take_all}

module _ {X : Type 0} (test : X → Bool) where
  -- one more at the front of both moves no place past the end
  pub before_end-suc : (i n : ℕ) → nat_lt i n ≡ nat_lt (1 + i) (suc n)
  before_end-suc i n = grind (arith, nat_tests)

  -- a place before the end of a list that isn't empty
  pub zero_before_end : (n : ℕ) → true ≡ nat_lt 0 (suc n)
  zero_before_end n = grind (arith, nat_tests)

  -- an element passes exactly where the first that does stands before the end
  pub any-before_end :
      (xs : List X) → list_any test xs ≡ nat_lt (position_or_len test xs) (length xs)
  any-before_end [] = refl
  any-before_end (x ∷ xs) = elim (cases_Bool (test x)) [
    | inl passes ↦ rw passes (zero_before_end (length xs))
    | inr fails ↦
        rw fails (any-before_end xs ∙ before_end-suc (position_or_len test xs) (length xs))
  ]

  -- where no element passes, all stands before
  pub before_first-none :
      (xs : List X)
      → list_any test xs ≡ false
      → before_first test xs ≡ xs
  before_first-none xs none =
      let behind = sym (any-before_end xs) ∙ none in
      let end : length xs ≤ position_or_len test xs =
      ltb-false (position_or_len test xs) (length xs) behind in
      take_all (position_or_len test xs) xs end
