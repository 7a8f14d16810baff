-- What an option is and what a rule between options, as the row of a tool lists them (specs/Rows).
use Prim.Native.String.{String}
use Rattle.std.specs.Prelude.{ℕ, Bool, true, false, not, ◌&&◌, ◌||◌, ◌==◌, nat_le, List, [], length, filter, Option, Some, None, codes}
use Rattle.std.specs.List.{list_any, list_all}
use Rattle.std.specs.Str.{byte}
use Rattle.account_model.specs.declared.given.Given.{Given}
use Rattle.acct_text.specs.Bytes.{Bytes}

-- a word of the command line, as bytes
abbrev pub Word : Type 0
Word = Bytes

-- ---- The options

-- an option that a tool takes: its letter, its long name where it has one, whether a value goes with
-- it (getopt_long(3), `struct option`), and the form of that value as a refusal tells it
pub record OptionForm : Type 0 where
  pub letter : ℕ
  pub long_name : Option Word
  pub takes_value : Bool
  pub wanted : List ℕ

-- an option that takes no value
abbrev pub no_value : ℕ → Option Word → OptionForm
no_value letter name =
    record { letter = letter; long_name = name; takes_value = false; wanted = [] }

-- `-x` or `--name`
abbrev pub flag : String → String → OptionForm
flag letter name = no_value (byte letter) (Some (codes name))

-- `-x V` or `--name V`, with a V of the form
abbrev pub with_value : String → String → List ℕ → OptionForm
with_value letter name form = record {
  letter = byte letter;
  long_name = Some (codes name);
  takes_value = true;
  wanted = form;
}

-- `-x`, which has no long name
abbrev pub short_flag : String → OptionForm
short_flag letter = no_value (byte letter) None

-- ---- The options that are given

-- a flag as it was given
abbrev pub as_flag : ℕ → Given
as_flag letter = record { letter = letter; value = None }

-- an option with its value as it was given
abbrev pub as_value : ℕ → Word → Given
as_value letter value = record { letter = letter; value = Some value }

-- whether an option was given
abbrev pub is_given : ℕ → List Given → Bool
is_given letter options = list_any (λ option. option.letter == letter) options

-- ---- The rules between options

-- a test of the options that were given, those of the folder not among them
abbrev pub Test : Type 0
Test = List Given → Bool

-- a rule: what is said where it is broken, and the test that options pass which keep it
pub record Rule : Type 0 where
  pub text : List ℕ
  pub is_kept : Test

-- a rule with its text
abbrev pub rule : String → Test → Rule
rule text test = record { text = codes text; is_kept = test }

-- not both of these letters
abbrev pub not_both : ℕ → ℕ → Test
not_both first second options = not (is_given first options && is_given second options)

-- the first letter only with the second
abbrev pub only_with : ℕ → ℕ → Test
only_with first second options = not (is_given first options) || is_given second options

-- at least one option
abbrev pub some_option : Test
some_option options = not (length options == 0)

-- at least one of these letters
abbrev pub some_of : List ℕ → Test
some_of letters options = list_any (λ letter. is_given letter options) letters

-- at most one of these letters; an option that is given twice counts once
abbrev pub one_of : List ℕ → Test
one_of letters options = nat_le (length (filter (λ letter. is_given letter options) letters)) 1

-- one of these letters, and no second one; an option that is given twice counts once
abbrev pub exactly_one : List ℕ → Test
exactly_one letters options = length (filter (λ letter. is_given letter options) letters) == 1

-- whether no option has another letter
abbrev pub is_alone : ℕ → List Given → Bool
is_alone letter options = list_all (λ option. option.letter == letter) options

-- each of these letters with no other option
abbrev pub alone : List ℕ → Test
alone letters options =
    list_all (λ letter. not (is_given letter options) || is_alone letter options) letters
