-- Claim: a text without a byte that is no digit is all digits (`all_digits`), and all digits have
-- no such byte (`no_other`). Way: the first such byte stands at the end, that is nowhere, exactly
-- where each byte is a digit; byte by byte.
use Rattle.std.proofs.Common.{◌≡◌, ℕ, ◌<◌, ◌≤◌, Bool, false, not, List, [], ◌∷◌, length, None, arith, inl, inr}
use Rattle.std.specs.Char.{is_ascii_digit, digit_value}
use Rattle.std.specs.List.{position_or_len}
use Rattle.std.specs.Str.Parse.{AllDigits}
use Rattle.std.proofs.lemmas.Bool.{cases_Bool}
use Rattle.std.proofs.lemmas.Bool.Decides.{nat_tests}
use Rattle.std.proofs.lemmas.Grind.{common_steps}
use Rattle.acct_text.specs.Numbers.{first_other}

-- the byte is no decimal digit
abbrev is_other : ℕ → Bool
is_other byte = not (is_ascii_digit byte)

-- a byte that passes as a digit has the value of one
digit_value-below : (byte : ℕ) → is_other byte ≡ false → digit_value byte < 10
digit_value-below byte no_other = grind (arith, nat_tests, common_steps)

-- a text whose first other byte stands at its end is all digits
all_digits-to_end :
    (text : List ℕ)
    → length text ≤ position_or_len is_other text
    → AllDigits 10 text
all_digits-to_end [] past = tt
all_digits-to_end (byte ∷ text) past = elim (cases_Bool (is_other byte)) [
  | inl hit ↦ absurd (grind (arith, nat_tests))
  | inr miss ↦ (digit_value-below byte miss, all_digits-to_end text (grind (arith, nat_tests)))
]

-- a text without another byte is all digits
pub all_digits : (text : List ℕ) → first_other text ≡ None → AllDigits 10 text
all_digits text none = all_digits-to_end text (grind (arith, nat_tests, common_steps))

-- a byte with the value of a digit passes as one
is_other-digit : (byte : ℕ) → digit_value byte < 10 → is_other byte ≡ false
is_other-digit byte low = grind (arith, nat_tests, common_steps)

-- in a text of digits the first other byte stands at the end
position-digits : (text : List ℕ) → AllDigits 10 text → length text ≤ position_or_len is_other text
position-digits [] all = omega arith
position-digits (byte ∷ text) all =
    let here = is_other-digit byte all.0 in
    let later = position-digits text all.1 in
    grind (arith, nat_tests)

-- a text of digits has no other byte
pub no_other : (text : List ℕ) → AllDigits 10 text → first_other text ≡ None
no_other text all = let end = position-digits text all in grind (arith, nat_tests, common_steps)
