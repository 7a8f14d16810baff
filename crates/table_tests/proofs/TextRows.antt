-- Rows of lines, fields and numbers: the places of the lines of a text and of the fields of a line, numbers
-- that a text writes, up to a greatest one, and how a number is printed.
use Rattle.std.specs.Prelude.{◌≡◌, [], ◌∷◌, Ok, Err, codes, refl}
use Rattle.std.specs.Fmt.{decimal, digits}
use Rattle.acct_text.specs.declared.numbers.NumberFault.TheVariants.{Empty, NotDigit, TooLarge}
use Rattle.acct_text.specs.Bytes.{places_from}
use Rattle.acct_text.specs.Lines.{lines_of, texts_of}
use Rattle.acct_text.specs.Numbers.{number_of}
use Rattle.acct_text.specs.Pieces.{fields_of}

-- ---- the lines of a text

no_line : places_from 0 (texts_of (lines_of [])) ≡ []
no_line = refl

empty_line : places_from 0 (texts_of (lines_of (codes "\n"))) ≡ (0, 0) ∷ []
empty_line = refl

one_line : places_from 0 (texts_of (lines_of (codes "root\n"))) ≡ (0, 4) ∷ []
one_line = refl

no_last_newline : places_from 0 (texts_of (lines_of (codes "root\nann"))) ≡ (0, 4) ∷ (5, 8) ∷ []
no_last_newline = refl

empty_lines : places_from 0 (texts_of (lines_of (codes "\n\nann\n")))
    ≡ (0, 0) ∷ (1, 1) ∷ (2, 5) ∷ []
empty_lines = refl

-- ---- the fields of a line

no_byte : places_from 0 (fields_of []) ≡ (0, 0) ∷ []
no_byte = refl

one_field : places_from 0 (fields_of (codes "ann")) ≡ (0, 3) ∷ []
one_field = refl

empty_field : places_from 0 (fields_of (codes "a::10")) ≡ (0, 1) ∷ (2, 2) ∷ (3, 5) ∷ []
empty_field = refl

colon_alone : places_from 0 (fields_of (codes ":")) ≡ (0, 0) ∷ (1, 1) ∷ []
colon_alone = refl

-- ---- numbers

no_digit : number_of 9 (codes "") ≡ Err Empty
no_digit = refl

leading_zeros : number_of 9 (codes "007") ≡ Ok 7
leading_zeros = refl

greatest : number_of 4294967294 (codes "4294967294") ≡ Ok 4294967294
greatest = refl

past_the_greatest : number_of 4294967294 (codes "4294967295") ≡ Err TooLarge
past_the_greatest = refl

greatest_of_64_bits : number_of 18446744073709551615 (codes "18446744073709551615")
    ≡ Ok 18446744073709551615
greatest_of_64_bits = refl

past_64_bits : number_of 18446744073709551615 (codes "18446744073709551616") ≡ Err TooLarge
past_64_bits = refl

sign : number_of 9 (codes "-1") ≡ Err (NotDigit 0)
sign = refl

letter_behind : number_of 9 (codes "99x") ≡ Err (NotDigit 2)
letter_behind = refl

printed : decimal 1500 ≡ codes "1500"
unfolding digits
printed = refl
