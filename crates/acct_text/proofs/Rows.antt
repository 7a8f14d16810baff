-- Small files, lines and numbers, cut and read by their definitions.
use Rattle.std.proofs.Common.{◌≡◌, [], ◌∷◌, true, false, Ok, Err, refl}
use Rattle.std.specs.Prelude.{codes}
use Rattle.std.specs.Fmt.{decimal, digits}
use Rattle.acct_text.specs.declared.numbers.NumberFault.TheVariants.{Empty, NotDigit, TooLarge}
use Rattle.acct_text.specs.Lines.{lines_of}
use Rattle.acct_text.specs.Pieces.{fields_of}
use Rattle.acct_text.specs.Numbers.{number_of}

-- an empty line is a line, and a last line may lack its newline
pub last_line_without_newline :
    lines_of (codes "root\n\nann")
    ≡ record { text = codes "root"; ended = true }
    ∷ record { text = []; ended = true }
    ∷ record { text = codes "ann"; ended = false } ∷ []
last_line_without_newline = refl

-- an empty file has no lines
pub no_lines : lines_of [] ≡ []
no_lines = refl

-- a newline alone is an empty line, and nothing is behind it
pub one_empty_line : lines_of (codes "\n") ≡ record { text = []; ended = true } ∷ []
one_empty_line = refl

-- two colons together have an empty field between them
pub empty_field_between_colons : fields_of (codes "a::10") ≡ codes "a" ∷ [] ∷ codes "10" ∷ []
empty_field_between_colons = refl

-- an empty line has one field
pub one_empty_field : fields_of [] ≡ [] ∷ []
one_empty_field = refl

-- leading zeros are read
pub leading_zeros : number_of 10 (codes "007") ≡ Ok 7
leading_zeros = refl

-- the bound itself is a number
pub at_the_bound : number_of 10 (codes "10") ≡ Ok 10
at_the_bound = refl

-- past the bound is none
pub past_the_bound : number_of 10 (codes "11") ≡ Err TooLarge
past_the_bound = refl

-- a byte that is no digit counts before the bound
pub no_digit : number_of 10 (codes "11x") ≡ Err (NotDigit 2)
no_digit = refl

-- an empty text has no digit
pub empty : number_of 10 [] ≡ Err Empty
empty = refl

-- a number is printed without leading zeros
pub printed : decimal 1500 ≡ codes "1500"
unfolding digits
printed = refl
