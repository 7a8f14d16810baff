-- How words spell options and operands (getopt_long(3)): the relation, and the same computed.
use Rattle.std.specs.Prelude.{◌≡◌, ◌≢◌, ℕ, suc, zero, ◌-◌, Bool, true, false, not, ◌==◌, if◌then◌else◌, List, [], ◌∷◌, ◌++◌, find, Option, Some, None, Result, Ok, Err, codes, bytes_eq}
use Rattle.std.specs.List.{before_first, after_first}
use Rattle.account_model.specs.declared.word_fault.WordFault.{WordFault}
use Rattle.account_model.specs.declared.word_fault.WordFault.TheVariants.{UnknownOption, MissingValue, UnexpectedValue, TooMany}
use Rattle.account_model.specs.Text.{hyphen, equals_sign, has_byte}
use Rattle.account_model.specs.Options.{Word, OptionForm, as_flag, as_value}
use Rattle.account_model.specs.declared.given.Given.{Given}

-- the option with a letter
abbrev pub form_of_letter : List OptionForm → ℕ → Option OptionForm
form_of_letter table letter = find (λ form. form.letter == letter) table

-- whether the option has the long name
abbrev pub has_long_name : Word → OptionForm → Bool
has_long_name name form = elim form.long_name [ None ↦ false | Some long ↦ bytes_eq long name ]

-- the option with a long name, which is written out
abbrev pub form_of_name : List OptionForm → Word → Option OptionForm
form_of_name table name = find (has_long_name name) table

-- the table has an option with the letter, with a value or without
pub record HasLetter (table : List OptionForm) (letter : ℕ) (takes_value : Bool) : Type 0 where
  pub form : OptionForm
  pub found : form_of_letter table letter ≡ Some form
  pub value : form.takes_value ≡ takes_value

-- the table has an option with the long name, which holds no `=`, and this is its letter
pub record HasName (table : List OptionForm) (name : Word) (letter : ℕ) (takes_value : Bool) :
    Type 0 where
  pub form : OptionForm
  pub found : form_of_name table name ≡ Some form
  pub plain : has_byte equals_sign name ≡ false
  pub letter_is : form.letter ≡ letter
  pub value : form.takes_value ≡ takes_value

-- whether a word is an operand where it stands alone: it is `-`, or doesn't begin with `-`
abbrev pub is_operand : Word → Bool
is_operand [] = true
is_operand (c ∷ []) = true
is_operand (c ∷ d ∷ rest) = not (c == hyphen)

-- the words spell these options and these operands, each in order
pub data Spelled (table : List OptionForm) : List Word → List Given → List Word → Type 0 where
  -- no words are left
  nothing : Spelled table [] [] []
  -- `--`, and all that follows is operands
  end_of_options :
      {operands : List Word}
      → Spelled table (codes "--" ∷ operands) [] operands
  -- an operand, in any place
  operand :
      {word : Word} {words operands : List Word} {options : List Given}
      → is_operand word ≡ true
      → Spelled table words options operands
      → Spelled table (word ∷ words) options (word ∷ operands)
  -- `-x`, a flag
  letter_flag :
      {letter : ℕ} {words operands : List Word} {options : List Given}
      → HasLetter table letter false
      → Spelled table words options operands
      → Spelled table ((hyphen ∷ letter ∷ []) ∷ words) (as_flag letter ∷ options) operands
  -- `-xREST`, a bundle: the flag `-x`, and then what `-REST` spells
  letter_bundle :
      {letter next : ℕ} {rest : Word} {words operands : List Word} {options : List Given}
      → HasLetter table letter false
      → next ≢ hyphen
      → Spelled table ((hyphen ∷ next ∷ rest) ∷ words) options operands
      → Spelled table ((hyphen ∷ letter ∷ next ∷ rest) ∷ words) (as_flag letter ∷ options) operands
  -- `-xV`
  letter_with_value :
      {letter first : ℕ} {rest : Word} {words operands : List Word} {options : List Given}
      → HasLetter table letter true
      → Spelled table words options operands
      → Spelled table ((hyphen ∷ letter ∷ first ∷ rest) ∷ words)
      (as_value letter (first ∷ rest) ∷ options) operands
  -- `-x V`; V may begin with `-`
  letter_then_value :
      {letter : ℕ} {value : Word} {words operands : List Word} {options : List Given}
      → HasLetter table letter true
      → Spelled table words options operands
      → Spelled table ((hyphen ∷ letter ∷ []) ∷ value ∷ words) (as_value letter value ∷ options)
      operands
  -- `--name`, a flag
  name_flag :
      {letter : ℕ} {name : Word} {words operands : List Word} {options : List Given}
      → HasName table name letter false
      → Spelled table words options operands
      → Spelled table ((hyphen ∷ hyphen ∷ name) ∷ words) (as_flag letter ∷ options) operands
  -- `--name=V`
  name_with_value :
      {letter : ℕ} {text : Word} (name : Word) {value : Word} {words operands : List Word}
      {options : List Given}
      → text ≡ name ++ equals_sign ∷ value
      → HasName table name letter true
      → Spelled table words options operands
      → Spelled table ((hyphen ∷ hyphen ∷ text) ∷ words) (as_value letter value ∷ options) operands
  -- `--name V`
  name_then_value :
      {letter : ℕ} {name value : Word} {words operands : List Word} {options : List Given}
      → HasName table name letter true
      → Spelled table words options operands
      → Spelled table ((hyphen ∷ hyphen ∷ name) ∷ value ∷ words) (as_value letter value ∷ options)
      operands

-- computed

-- the options that one word gives, and the letter that waits for the next word as its value
pub record WordOptions : Type 0 where
  pub given : List Given
  pub waiting : Option ℕ

-- the options of a word, or a fault at the place of the word
abbrev pub WordReading : Type 0
WordReading = Result WordOptions (ℕ → WordFault)

-- one option, which waits for nothing
abbrev pub complete : Given → WordReading
complete option = Ok (record { given = option ∷ []; waiting = None })

-- an option whose value is the next word
abbrev pub waits_for_value : ℕ → WordReading
waits_for_value letter = Ok (record { given = []; waiting = Some letter })

-- a flag before what the rest of a bundle gives
abbrev pub flag_before : ℕ → WordReading → WordReading
flag_before letter (Ok options) =
    Ok (record { given = as_flag letter ∷ options.given; waiting = options.waiting })
flag_before letter (Err fault) = Err fault

-- an option whose value is the rest of the word, or the next word where no rest is
abbrev pub value_behind : ℕ → Word → WordReading
value_behind letter [] = waits_for_value letter
value_behind letter (first ∷ rest) = complete (as_value letter (first ∷ rest))

-- a letter with its option, the bytes behind it, and what they give where it is a flag
abbrev pub letter_reading : ℕ → Option OptionForm → Word → WordReading → WordReading
letter_reading letter None rest behind = Err UnknownOption
letter_reading letter (Some form) rest behind =
    if form.takes_value then value_behind letter rest else flag_before letter behind

-- the letters behind a `-`
abbrev pub letters_reading : List OptionForm → Word → WordReading
letters_reading table [] = Ok (record { given = []; waiting = None })
letters_reading table (letter ∷ rest) =
    letter_reading letter (form_of_letter table letter) rest (letters_reading table rest)

-- a long name without `=`, by its option
abbrev pub name_reading : Option OptionForm → WordReading
name_reading None = Err UnknownOption
name_reading (Some form) =
    if form.takes_value then waits_for_value form.letter else complete (as_flag form.letter)

-- a value behind `=`, and the option of the long name before it
abbrev pub name_reading_with : Word → Option OptionForm → WordReading
name_reading_with value None = Err UnknownOption
name_reading_with value (Some form) =
    if form.takes_value then complete (as_value form.letter value) else Err UnexpectedValue

-- the name before the first `=` of a text
abbrev pub name_part : Word → Word
name_part text = before_first (λ c. c == equals_sign) text

-- the value behind it
abbrev pub value_part : Word → Word
value_part text = after_first (λ c. c == equals_sign) text

-- what stands behind `--`
abbrev pub long_reading : List OptionForm → Word → WordReading
long_reading table text =
    if has_byte equals_sign text
    then name_reading_with (value_part text) (form_of_name table (name_part text))
    else name_reading (form_of_name table text)

-- what a word is where no option waits for its value
pub data Meaning : Type 0 where
  is_an_operand : Meaning
  ends_options : Meaning
  has_options : WordReading → Meaning

-- a word that begins with `--`
abbrev pub long_meaning : List OptionForm → Word → Meaning
long_meaning table [] = ends_options
long_meaning table (c ∷ rest) = has_options (long_reading table (c ∷ rest))

-- a word by its first two bytes
abbrev pub word_meaning : List OptionForm → Word → Meaning
word_meaning table [] = is_an_operand
word_meaning table (c ∷ []) = is_an_operand
word_meaning table (c ∷ d ∷ rest) =
    if not (c == hyphen) then is_an_operand else
    (if d == hyphen then long_meaning table rest
    else has_options (letters_reading table (d ∷ rest)))

-- options and operands
abbrev pub Arguments : Type 0
Arguments = List Given × List Word

-- options before those that are read
abbrev pub with_options : List Given → Result Arguments WordFault → Result Arguments WordFault
with_options options (Ok (given, operands)) = Ok (options ++ given, operands)
with_options options (Err fault) = Err fault

-- an operand before those that are read
abbrev pub with_operand : Word → Result Arguments WordFault → Result Arguments WordFault
with_operand word (Ok (given, operands)) = Ok (given, word ∷ operands)
with_operand word (Err fault) = Err fault

-- words from a place on that are operands whatever they are, of which the tool takes `room` more
abbrev pub read_operands : ℕ → ℕ → List Word → Result Arguments WordFault
read_operands room place [] = Ok ([], [])
read_operands zero place (word ∷ words) = Err (TooMany place)
read_operands (suc room) place (word ∷ words) =
    with_operand word (read_operands room (suc place) words)

-- a word at a place and the words behind it, which are read on with a letter that waits and with
-- room for more operands
abbrev pub read_word : Meaning → ℕ → ℕ → Word → List Word →
    (Option ℕ → ℕ → Result Arguments WordFault) → Result Arguments WordFault
read_word is_an_operand zero place word words read_on = Err (TooMany place)
read_word is_an_operand (suc room) place word words read_on = with_operand word (read_on None room)
read_word ends_options room place word words read_on = read_operands room (suc place) words
read_word (has_options (Ok options)) room place word words read_on =
    with_options options.given (read_on options.waiting room)
read_word (has_options (Err fault)) room place word words read_on = Err (fault place)

-- the words from a place on; the first is the value of a letter that waits
abbrev pub read_arguments : List OptionForm → Option ℕ → ℕ → ℕ → List Word →
    Result Arguments WordFault
read_arguments table None room place [] = Ok ([], [])
read_arguments table (Some letter) room place [] = Err (MissingValue (place - 1))
read_arguments table (Some letter) room place (word ∷ words) =
    with_options (as_value letter word ∷ []) (read_arguments table None room (suc place) words)
read_arguments table None room place (word ∷ words) =
    read_word (word_meaning table word) room place word words
    (λ waiting more. read_arguments table waiting more (suc place) words)
