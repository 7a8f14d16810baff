-- Claims: three words, `rehearse` and two numbers within their bounds, ask for a rehearsal of these
-- (`asks-for`); and words ask for none where one of the two is no such number (`no-seed`, `no-count`).
-- Way: a text is the number that `number_within` finds, and no other.
use Rattle.std.proofs.Common.{◌≡◌, ◌∙◌, refl, sym, ap, ℕ, ◌≤◌, List, [], ◌∷◌, length, get_or, Option, Some, None, arith}
use Rattle.std.specs.Prelude.{codes}
use Rattle.std.specs.Option.{ok_or}
use Rattle.std.specs.Result.{result_ok}
use Rattle.acct_text.specs.declared.numbers.NumberFault.{NumberFault}
use Rattle.acct_text.specs.Numbers.{number_within}
use Rattle.acct_text.proofs.NumberLaws.{number-found, number-is}
use Rattle.account_model.specs.Options.{Word}
use Rattle.rehearsal.specs.declared.asked.Rehearsal.{Rehearsal}
use Rattle.rehearsal.specs.Asked.{AsksFor, IsWithinBounds, greatest_seed, most_commands}
use Rattle.rehearsal.specs.Endings.{AsksForNone}

-- what is read of a number is the number
pub ok-within : (found : Option ℕ) (fault : NumberFault) → result_ok (ok_or found fault) ≡ found
ok-within (Some number) fault = refl
ok-within None fault = refl

-- ---- Words

-- three words, by their places
pub are-three : (words : List Word) (name seed count : Word) → length words ≡ 3 →
    name ≡ get_or words 0 name → seed ≡ get_or words 1 seed → count ≡ get_or words 2 count →
    words ≡ name ∷ seed ∷ count ∷ []
are-three (a ∷ b ∷ c ∷ []) name seed count three first second third =
    λ i. sym first i ∷ sym second i ∷ sym third i ∷ []
are-three words name seed count three first second third = absurd (omega arith)

module _ (words : List Word) (name seed_digits count_digits : Word)
    (three : words ≡ name ∷ seed_digits ∷ count_digits ∷ []) where
  -- a rehearsal of these numbers
  pub asks-for : (asked : Rehearsal) → name ≡ codes "rehearse" →
      number_within greatest_seed seed_digits ≡ Some asked.seed →
      number_within most_commands count_digits ≡ Some asked.count → 1 ≤ asked.count →
      AsksFor words asked
  asks-for asked named seed count some = record {
    seed_digits = seed_digits;
    count_digits = count_digits;
    spelled = three ∙ ap (λ (first : Word). first ∷ seed_digits ∷ count_digits ∷ []) named;
    seed = number-is greatest_seed seed_digits asked.seed seed;
    count = number-is most_commands count_digits asked.count count;
    some = some;
  }

  -- who asks for one has read both numbers
  seed-read : (asked : Rehearsal) → AsksFor words asked →
      number_within greatest_seed seed_digits ≡ Some asked.seed
  seed-read asked asks =
      let spelled = sym three ∙ asks.spelled in
      let same : seed_digits ≡ asks.seed_digits = cc in
      ap (number_within greatest_seed) same
      ∙ number-found greatest_seed asks.seed_digits asked.seed asks.seed

  count-read : (asked : Rehearsal) → AsksFor words asked →
      number_within most_commands count_digits ≡ Some asked.count
  count-read asked asks =
      let spelled = sym three ∙ asks.spelled in
      let same : count_digits ≡ asks.count_digits = cc in
      ap (number_within most_commands) same
      ∙ number-found most_commands asks.count_digits asked.count asks.count

  -- none where one of the two is no number
  pub no-seed : number_within greatest_seed seed_digits ≡ None → AsksForNone words
  no-seed is asked asks =
      let wrong : None ≡ Some asked.seed = sym is ∙ seed-read asked asks in cc

  pub no-count : number_within most_commands count_digits ≡ None → AsksForNone words
  no-count is asked asks =
      let wrong : None ≡ Some asked.count = sym is ∙ count-read asked asks in cc

-- ---- Bounds

-- what words ask for keeps its bounds
pub within-bounds : (words : List Word) (asked : Rehearsal) → AsksFor words asked →
    IsWithinBounds asked
within-bounds words asked asks =
    record { seed = asks.seed.bounded; count = asks.count.bounded }
