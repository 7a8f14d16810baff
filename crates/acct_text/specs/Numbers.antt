-- Numbers as a file holds them (passwd(5), shadow(5)): one or more decimal digits within a bound.
-- Leading zeros count for nothing.
use Rattle.std.specs.Prelude.{◌≡◌, ℕ, ◌≤◌, ◌↔◌, Bool, ◌&&◌, not, Option, None, Some, Result, position, nat_le, if◌then◌else◌}
use Rattle.std.specs.List.{list_all}
use Rattle.std.specs.Option.{ok_or, option_map_or}
use Rattle.std.specs.Char.{is_digit, is_ascii_digit}
use Rattle.std.specs.Str.Parse.{IsNumeral, digits_value}
use Rattle.acct_text.specs.declared.numbers.NumberFault.{NumberFault}
use Rattle.acct_text.specs.declared.numbers.NumberFault.TheVariants.{Empty, NotDigit, TooLarge}
use Rattle.acct_text.specs.Bytes.{Bytes, is_empty}

-- the text writes this number, which keeps the bound; `one_number` shows that there is one at most
pub record IsNumber (bound : ℕ) (text : Bytes) (number : ℕ) : Type 0 where
  -- it is one or more decimal digits
  pub digits : IsNumeral 10 text
  -- the number is their value
  pub value : digits_value 10 text ≡ number
  -- the number is at most the bound
  pub bounded : number ≤ bound

-- computed

-- whether a text is one or more decimal digits
abbrev pub is_digits : Bytes → Bool
is_digits text = not (is_empty text) && list_all (λ byte. is_digit byte 10) text

-- the number that the text writes within the bound, as `IsNumber` says
abbrev pub number_within : ℕ → Bytes → Option ℕ
number_within bound text =
    let value = digits_value 10 text in
    if is_digits text && nat_le value bound then Some value else None

-- each text is one number within a bound or none, and `number_within` says which
abbrev pub OneNumber : Type 0
OneNumber =
    (bound : ℕ) (text : Bytes) (number : ℕ)
    → IsNumber bound text number ↔ (number_within bound text ≡ Some number)

-- the place of the first byte that is no digit
abbrev pub first_other : Bytes → Option ℕ
first_other text = position (λ byte. not (is_ascii_digit byte)) text

-- why a text is no number: it is empty, else it has a byte that is no digit, else it is too large
abbrev pub number_fault : Bytes → NumberFault
number_fault text =
    if is_empty text then Empty else option_map_or NotDigit (first_other text) TooLarge

-- the number that the text writes within the bound, or why there is none
abbrev pub number_of : ℕ → Bytes → Result ℕ NumberFault
number_of bound text = ok_or (number_within bound text) (number_fault text)
