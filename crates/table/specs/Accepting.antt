-- A record that a test accepts, where a line is one, and what each such record has (passwd(5),
-- group(5)).
use Rattle.std.specs.Prelude.{◌≡◌, ℕ, Bool, true, false, List, Option, None, Some}
use Rattle.std.specs.Fmt.{decimal}
use Rattle.account_model.specs.Format.{Format}
use Rattle.acct_tables.specs.Marks.{IsWithout}
use Rattle.acct_tables.specs.KeyPlaces.{has_key}

-- whether there is a record, and the test accepts it
abbrev pub is_accepted : {R : Type 0} → (R → Bool) → Option R → Bool
is_accepted test None = false
is_accepted test (Some r) = test r

-- no line without the decimal text of the number is a record that the test accepts
abbrev pub IsNumberOf : {R : Type 0} → Format R → (R → Bool) → ℕ → Type 0
IsNumberOf format test number =
    (line : List ℕ) → IsWithout (decimal number) line → is_accepted test (format.read line) ≡ false

-- each record that the test accepts has the key
abbrev pub IsKeyOf : {R : Type 0} → (R → List ℕ) → (R → Bool) → ℕ → Type 0
IsKeyOf {R = R} keys_of test key = (r : R) → test r ≡ true → has_key key (keys_of r) ≡ true
