-- The reader of each kind of field finds exactly what the field says: a list of names, and days.
use Rattle.std.proofs.Common.{◌≡◌, zero, suc, ◌<◌, ℕ, Bool, true, false, List, [], ◌∷◌, refl, sym, ◌∙◌, ap, subst, arith, inl, inr, lt_irrefl}
use Rattle.std.specs.Prelude.{◌==◌, Option, Some, None, bytes_eq, codes, option_map, if◌then◌else◌}
use Rattle.std.specs.Char.{digit_value}
use Rattle.std.proofs.lemmas.Bool.Decides.{eqb_tells}
use Rattle.std.proofs.lemmas.Slice.Eq.{bytes_eq-Decides}
use Rattle.acct_text.specs.Pieces.{cut_at}
use Rattle.acct_text.specs.Numbers.{number_within}
use Rattle.account_model.specs.Text.{comma, nonempty}
use Rattle.account_model.specs.Records.{greatest_days, read_days, read_names}
use Rattle.account_model.specs.Reads.{IsDays, AreNames}
use Rattle.acct_text.proofs.NumberLaws.{some-inj, number-found, number-is}
use Rattle.acct_text.proofs.Cut.{cut_at-is, cut_at-only}

-- ---- Lists of names

-- a field reads as the names that it lists
pub names-found :
    (text : List ℕ) (names : List (List ℕ))
    → AreNames text names
    → read_names text ≡ names
names-found text names are = ap nonempty (cut_at-only comma text are.pieces
    are.cut) ∙ sym are.dropped

-- and it lists what it reads as
pub names-are : (text : List ℕ) → AreNames text (read_names text)
names-are text = record { pieces = cut_at comma text; cut = cut_at-is comma text; dropped = refl }

-- ---- Days

-- a text that begins with a digit isn't `-1`
no-minus : (b : ℕ) (text : List ℕ) → digit_value b < 10 → bytes_eq (b ∷ text) (codes "-1") ≡ false
no-minus b text digit = elim (eqb_tells b 45) [
  | inl at ↦ let wrong : 36 < 10 = rw at.1 at digit in absurd (lt_irrefl 9 (omega (arith, wrong)))
  | inr past ↦ rw past.0 refl
]

-- a field of days reads as these: empty or `-1` is none, and digits are a number
pub days-found : (text : List ℕ) (days : Option ℕ) → IsDays text days → read_days text ≡ Some days
days-found text None (inl empty) = rw empty refl
days-found text None (inr minus) = rw minus refl
days-found [] (Some days) number = absurd (lt_irrefl 0 number.digits.0)
days-found (b ∷ text) (Some days) number =
    rw (no-minus b text number.digits.1.0, number-found greatest_days (b ∷ text) days number) refl

-- the days of a text that has bytes, by the two tests of the reader
days-by :
    (b : ℕ) (text : List ℕ) (days : Option ℕ) (minus : Bool) (number : Option ℕ)
    → bytes_eq (b ∷ text) (codes "-1") ≡ minus
    → number_within greatest_days (b ∷ text) ≡ number
    → (if minus then Some None else option_map Some number) ≡ Some days
    → IsDays (b ∷ text) days
days-by b text days true number is_minus is_number found =
    subst (λ d. IsDays (b ∷ text) d) (some-inj found)
    (inr ((bytes_eq-Decides (b ∷ text) (codes "-1")).0 is_minus))
days-by b text days false None is_minus is_number found = cc
days-by b text days false (Some n) is_minus is_number found =
    subst (λ d. IsDays (b ∷ text) d) (some-inj found)
    (number-is greatest_days (b ∷ text) n is_number)

-- and it says what it reads as
pub days-is : (text : List ℕ) (days : Option ℕ) → read_days text ≡ Some days → IsDays text days
days-is [] days found = subst (λ d. IsDays [] d) (some-inj found) (inl refl)
days-is (b ∷ text) days found =
    days-by b text days (bytes_eq (b ∷ text) (codes "-1"))
    (number_within greatest_days (b ∷ text)) refl refl found

-- ---- Counts

-- a number that isn't 0 is above it
pub some-number : (n : ℕ) → (n == 0) ≡ false → 0 < n
some-number zero e = cc
some-number (suc n) e = omega arith
