-- What is read of words is what they spell.
use Rattle.std.proofs.Common.{◌≡◌, ℕ, zero, suc, ◌≤◌, Bool, true, false, not, cond, ◌==◌, List, [], ◌∷◌, ◌++◌, length, Option, Some, None, Result, Ok, Err, codes, refl, ap, sym, subst, ◌∙◌, arith, suc-add, inl, inr}
use Rattle.std.proofs.lemmas.Bool.{eqb-true, cases_Bool}
use Rattle.std.proofs.Math.Numerals.{one-add}
use Rattle.std.specs.List.{before_first, after_first}
use Rattle.account_model.specs.declared.word_fault.WordFault.{WordFault}
use Rattle.account_model.specs.declared.word_fault.WordFault.TheVariants.{UnexpectedValue}
use Rattle.account_model.specs.Text.{hyphen, equals_sign, has_byte}
use Rattle.account_model.specs.declared.given.Given.{Given}
use Rattle.account_model.specs.Options.{Word, OptionForm, as_flag, as_value}
use Rattle.account_model.specs.Spelling.{form_of_letter, form_of_name, HasLetter, is_operand, Spelled, nothing, end_of_options, operand, letter_flag, letter_bundle, letter_with_value, letter_then_value, name_flag, name_with_value, name_then_value, WordReading, complete, waits_for_value, flag_before, value_behind, letter_reading, letters_reading, name_reading, name_reading_with, Meaning, is_an_operand, ends_options, has_options, long_meaning, word_meaning, Arguments, with_options, with_operand, read_operands, read_word, read_arguments}
use Rattle.account_model.proofs.SpelledIsRead.{IsTable}

-- a word gives options: what spells more words, spells this one before them, with its value where a letter waits
abbrev pub Extends : List OptionForm → Word → List Given → Option ℕ → Type 0
Extends table word given None = (words : List Word) (options : List Given) (operands : List Word) →
    Spelled table words options operands → Spelled table (word ∷ words) (given ++ options) operands
Extends table word given (Some letter) = (value : Word) (words : List Word) (options : List Given)
    (operands : List Word) →
    Spelled table words options operands → Spelled table (word ∷ value ∷ words)
    (given ++ (as_value letter value ∷ options)) operands

-- what a word reads as gives options as it spells them
abbrev pub ReadsOptions : List OptionForm → Word → WordReading → Type 0
ReadsOptions table word (Ok options) = Extends table word options.given options.waiting
ReadsOptions table word (Err fault) = Unit {0}

-- the word has the meaning that it spells
abbrev pub Means : List OptionForm → Word → Meaning → Type 0
Means table word is_an_operand = is_operand word ≡ true
Means table word ends_options = word ≡ codes "--"
Means table word (has_options reading) = ReadsOptions table word reading

-- ---- Letters

-- a flag in front of a bundle that gives options gives one more
pub flag_extends :
    (table : List OptionForm) (letter next : ℕ) (more : Word)
    → HasLetter table letter false
    → (next == hyphen) ≡ false
    → (given : List Given) (waiting : Option ℕ)
    → Extends table (hyphen ∷ next ∷ more) given waiting
    → Extends table (hyphen ∷ letter ∷ next ∷ more) (as_flag letter ∷ given) waiting
flag_extends table letter next more has other given None extends = λ words options operands spelled.
    letter_bundle has (λ same. cc (ap (λ n. n == hyphen) same, other))
    (extends words options operands spelled)
flag_extends table letter next more has other given (Some waiting) extends =
    λ value words options operands spelled.
    letter_bundle has (λ same. cc (ap (λ n. n == hyphen) same, other))
    (extends value words options operands spelled)

-- what a bundle reads as, with a flag before it
pub flag_reads :
    (table : List OptionForm) (letter next : ℕ) (more : Word)
    → HasLetter table letter false
    → (next == hyphen) ≡ false
    → (reading : WordReading)
    → ReadsOptions table (hyphen ∷ next ∷ more) reading
    → ReadsOptions table (hyphen ∷ letter ∷ next ∷ more) (flag_before letter reading)
flag_reads table letter next more has other (Ok options) reads =
    flag_extends table letter next more has other options.given options.waiting reads
flag_reads table letter next more has other (Err fault) reads = tt

-- a letter with a value reads as its rest, or waits for the next word
pub value_reads :
    (table : List OptionForm) (letter : ℕ) (rest : Word)
    → HasLetter table letter true
    → ReadsOptions table (hyphen ∷ letter ∷ rest) (value_behind letter rest)
value_reads table letter [] has = λ value words options operands spelled.
    letter_then_value has spelled
value_reads table letter (first ∷ more) has =
    λ words options operands spelled. letter_with_value has spelled

-- the rest of a bundle is read before
abbrev pub RestReads : List OptionForm → Word → Type 0
RestReads table [] = Unit {0}
RestReads table (next ∷ more) = (next == hyphen) ≡ false
    → ReadsOptions table (hyphen ∷ next ∷ more) (letters_reading table (next ∷ more))

-- no letter is `-`, so a bundle with one in it is a fault
pub no_hyphen_option :
    (table : List OptionForm) (word more : Word) (next letter : ℕ)
    → IsTable table
    → next ≡ hyphen
    → ReadsOptions table word (flag_before letter (letters_reading table (next ∷ more)))
no_hyphen_option table word more next letter is same =
    let missing : form_of_letter table next ≡ None = ap (form_of_letter table) same ∙ is.letters in
    subst (λ form. ReadsOptions table word (flag_before letter
    (letter_reading next form more (letters_reading table more)))) (sym missing) tt

-- a flag and the rest behind it are read as they spell
pub flag_is_read :
    (table : List OptionForm) (letter : ℕ) (rest : Word)
    → IsTable table
    → HasLetter table letter false
    → RestReads table rest
    → ReadsOptions table (hyphen ∷ letter ∷ rest) (flag_before letter (letters_reading table rest))
flag_is_read table letter [] is has rest = λ words options operands spelled. letter_flag has spelled
flag_is_read table letter (next ∷ more) is has rest = elim (cases_Bool (next == hyphen)) [
  | inl same ↦ no_hyphen_option table (hyphen ∷ letter ∷ next ∷ more) more next letter is
      (eqb-true next hyphen same)
  | inr other ↦ flag_reads table letter next more has other
      (letters_reading table (next ∷ more)) (rest other)
]

-- a letter of the table, by whether it takes a value
pub letter_is_read :
    (table : List OptionForm) (letter : ℕ) (rest : Word)
    → IsTable table
    → RestReads table rest
    → (form : OptionForm)
    → form_of_letter table letter ≡ Some form
    → (takes_value : Bool)
    → form.takes_value ≡ takes_value
    → ReadsOptions table (hyphen ∷ letter ∷ rest)
    (cond takes_value (value_behind letter rest)
    (flag_before letter (letters_reading table rest)))
letter_is_read table letter rest is reads form found true value =
    value_reads table letter rest (record { form = form; found = found; value = value })
letter_is_read table letter rest is reads form found false value =
    flag_is_read table letter rest is (record { form = form; found = found; value = value }) reads

-- a letter, by whether the table has it
pub letter_form_is_read :
    (table : List OptionForm) (letter : ℕ) (rest : Word)
    → IsTable table
    → RestReads table rest
    → (form : Option OptionForm)
    → form_of_letter table letter ≡ form
    → ReadsOptions table (hyphen ∷ letter ∷ rest)
    (letter_reading letter form rest (letters_reading table rest))
letter_form_is_read table letter rest is reads None found = tt
letter_form_is_read table letter rest is reads (Some form) found =
    letter_is_read table letter rest is reads form found form.takes_value refl

-- the rest of a bundle is read as it spells
pub rest_reads : (table : List OptionForm) → IsTable table → (rest : Word) → RestReads table rest
rest_reads table is [] = tt
rest_reads table is (next ∷ more) = λ other. letter_form_is_read table next more is
    (rest_reads table is more) (form_of_letter table next) refl

-- ---- Long names

-- a text with `=` is what stands before the first, that, and what stands behind
pub cut_at_equals :
    (text : Word)
    → has_byte equals_sign text ≡ true
    → text ≡ before_first (λ c. c == equals_sign) text ++ equals_sign
    ∷ after_first (λ c. c == equals_sign) text
cut_at_equals [] has = cc
cut_at_equals (c ∷ text) has = elim (cases_Bool (c == equals_sign)) [
  | inl same ↦ let e : c ≡ equals_sign = eqb-true c equals_sign same in rw same
      (ap (λ n. n ∷ text) e)
  | inr other ↦ let h : has_byte equals_sign text
      ≡ true = (rw other at has) in rw other (rw one-add
      (rw suc-add (ap (λ rest. c ∷ rest) (cut_at_equals text h))))
]

-- what stands before the first has none
pub before_equals_plain :
    (text : Word)
    → has_byte equals_sign (before_first (λ c. c == equals_sign) text) ≡ false
before_equals_plain [] = refl
before_equals_plain (c ∷ text) = elim (cases_Bool (c == equals_sign)) [
  | inl same ↦ rw same refl
  | inr other ↦ rw other (rw one-add (rw other (before_equals_plain text)))
]

-- a long name of the table without `=`, by whether it takes a value
pub name_is_read :
    (table : List OptionForm) (name : Word)
    → has_byte equals_sign name ≡ false
    → (form : OptionForm)
    → form_of_name table name ≡ Some form
    → (takes_value : Bool)
    → form.takes_value ≡ takes_value
    → ReadsOptions table (hyphen ∷ hyphen ∷ name)
    (cond takes_value (waits_for_value form.letter) (complete (as_flag form.letter)))
name_is_read table name plain form found true value = λ given words options operands spelled.
    name_then_value (record {
      form = form;
      found = found;
      plain = plain;
      letter_is = refl;
      value = value;
    }) spelled
name_is_read table name plain form found false value = λ words options operands spelled.
    name_flag (record {
      form = form;
      found = found;
      plain = plain;
      letter_is = refl;
      value = value;
    }) spelled

-- a long name without `=`, by whether the table has it
pub name_form_is_read :
    (table : List OptionForm) (name : Word)
    → has_byte equals_sign name ≡ false
    → (form : Option OptionForm)
    → form_of_name table name ≡ form
    → ReadsOptions table (hyphen ∷ hyphen ∷ name) (name_reading form)
name_form_is_read table name plain None found = tt
name_form_is_read table name plain (Some form) found =
    name_is_read table name plain form found form.takes_value refl

-- a long name of the table with `=`, by whether it takes a value
pub value_is_read :
    (table : List OptionForm) (text name given : Word)
    → text ≡ name ++ equals_sign ∷ given
    → has_byte equals_sign name ≡ false
    → (form : OptionForm)
    → form_of_name table name ≡ Some form
    → (takes_value : Bool)
    → form.takes_value ≡ takes_value
    → ReadsOptions table (hyphen ∷ hyphen ∷ text)
    (cond takes_value (complete (as_value form.letter given)) (Err UnexpectedValue))
value_is_read table text name given cut plain form found true value =
    λ words options operands spelled.
    name_with_value name cut (record {
      form = form;
      found = found;
      plain = plain;
      letter_is = refl;
      value = value;
    }) spelled
value_is_read table text name given cut plain form found false value = tt

-- a long name with `=`, by whether the table has it
pub value_form_is_read :
    (table : List OptionForm) (text name given : Word)
    → text ≡ name ++ equals_sign ∷ given
    → has_byte equals_sign name ≡ false
    → (form : Option OptionForm)
    → form_of_name table name ≡ form
    → ReadsOptions table (hyphen ∷ hyphen ∷ text) (name_reading_with given form)
value_form_is_read table text name given cut plain None found = tt
value_form_is_read table text name given cut plain (Some form) found =
    value_is_read table text name given cut plain form found form.takes_value refl

-- a long name is read as it spells, by whether it has `=`
pub long_is_read :
    (table : List OptionForm) (text : Word) (has : Bool)
    → has_byte equals_sign text ≡ has
    → ReadsOptions table (hyphen ∷ hyphen ∷ text)
    (cond has (name_reading_with (after_first (λ d. d == equals_sign) text)
    (form_of_name table (before_first (λ d. d == equals_sign) text)))
    (name_reading (form_of_name table text)))
long_is_read table text true has = value_form_is_read table text
    (before_first (λ d. d == equals_sign) text) (after_first (λ d. d == equals_sign) text)
    (cut_at_equals text has) (before_equals_plain text)
    (form_of_name table (before_first (λ d. d == equals_sign) text)) refl
long_is_read table text false has = name_form_is_read table text has (form_of_name table text) refl

-- what begins with `--` means what it is read as
pub long_means :
    (table : List OptionForm) (text : Word)
    → Means table (hyphen ∷ hyphen ∷ text) (long_meaning table text)
long_means table [] = refl
long_means table (c ∷ rest) = long_is_read table (c ∷ rest) (has_byte equals_sign (c ∷ rest)) refl

-- ---- Words

-- a word of two bytes or more, by its first two
pub two_bytes_mean :
    (table : List OptionForm)
    → IsTable table
    → (c d : ℕ) (rest : Word) (first second : Bool)
    → (c == hyphen) ≡ first
    → (d == hyphen) ≡ second
    → Means table (c ∷ d ∷ rest) (cond (not first) is_an_operand
    (cond second (long_meaning table rest) (has_options (letters_reading table (d ∷ rest)))))
two_bytes_mean table is c d rest false second e f = ap not e
two_bytes_mean table is c d rest true true e f =
    let first : c ≡ hyphen = eqb-true c hyphen e in
    let second : d ≡ hyphen = eqb-true d hyphen f in
    subst (λ n. Means table (n ∷ d ∷ rest) (long_meaning table rest)) (sym first)
    (subst (λ n. Means table (hyphen ∷ n ∷ rest) (long_meaning table rest)) (sym second)
    (long_means table rest))
two_bytes_mean table is c d rest true false e f =
    let first : c ≡ hyphen = eqb-true c hyphen e in
    subst (λ n. ReadsOptions table (n ∷ d ∷ rest) (letters_reading table (d ∷ rest))) (sym first)
    (rest_reads table is (d ∷ rest) f)

-- each word means what it is read as
pub word_means :
    (table : List OptionForm)
    → IsTable table
    → (word : Word)
    → Means table word (word_meaning table word)
word_means table is [] = refl
word_means table is (c ∷ []) = refl
word_means table is (c ∷ d ∷ rest) = two_bytes_mean table is c d rest (c == hyphen)
    (d == hyphen) refl refl

-- what is read is spelled, and there is room for its operands
abbrev pub IsReading : List OptionForm → List Word → ℕ → Result Arguments WordFault → Type 0
IsReading table words room (Ok arguments) =
    Spelled table words arguments.0 arguments.1 × (length arguments.1 ≤ room)
IsReading table words room (Err fault) = Unit {0}

-- an operand before words that are read as they spell
pub operand_is_read :
    (table : List OptionForm) (word : Word) (words : List Word) (room : ℕ)
    → is_operand word ≡ true
    → (read : Result Arguments WordFault)
    → IsReading table words room read
    → IsReading table (word ∷ words) (suc room) (with_operand word read)
operand_is_read table word words room test (Ok arguments) reads =
    let fits : length arguments.1 ≤ room = reads.1 in (operand test reads.0, omega arith)
operand_is_read table word words room test (Err fault) reads = tt

-- and options before them
pub options_are_read :
    (table : List OptionForm) (word : Word) (words : List Word) (room : ℕ) (given : List Given)
    → Extends table word given None
    → (read : Result Arguments WordFault)
    → IsReading table words room read
    → IsReading table (word ∷ words) room (with_options given read)
options_are_read table word words room given extends (Ok arguments) reads =
    (extends words arguments.0 arguments.1 reads.0, reads.1)
options_are_read table word words room given extends (Err fault) reads = tt

-- and options whose last takes the next word as its value
pub value_is_taken :
    (table : List OptionForm) (word value : Word) (words : List Word) (room : ℕ)
    (given : List Given) (letter : ℕ)
    → Extends table word given (Some letter)
    → (read : Result Arguments WordFault)
    → IsReading table words room read
    → IsReading table (word ∷ value ∷ words) room
    (with_options given (with_options (as_value letter value ∷ []) read))
value_is_taken table word value words room given letter extends (Ok arguments) reads =
    (extends value words arguments.0 arguments.1 reads.0, reads.1)
value_is_taken table word value words room given letter extends (Err fault) reads = tt

-- what was read are these words as operands, and there is room for them
abbrev pub IsOperands : List Word → ℕ → Result Arguments WordFault → Type 0
IsOperands words room (Ok arguments) = (arguments ≡ ([], words)) × (length words ≤ room)
IsOperands words room (Err fault) = Unit {0}

-- one word more before words that are all operands
pub one_more_operand :
    (word : Word) (words : List Word) (room : ℕ) (read : Result Arguments WordFault)
    → IsOperands words room read
    → IsOperands (word ∷ words) (suc room) (with_operand word read)
one_more_operand word words room (Ok arguments) reads =
    let same : arguments ≡ ([], words) = reads.0 in
    let fits : length words ≤ room = reads.1 in
    (ap (λ (a : Arguments). (a.0, word ∷ a.1)) same, omega arith)
one_more_operand word words room (Err fault) reads = tt

-- behind `--` all words are operands
pub operands_are_read :
    (room place : ℕ) (words : List Word)
    → IsOperands words room (read_operands room place words)
operands_are_read room place [] = (refl, omega arith)
operands_are_read zero place (word ∷ words) = tt
operands_are_read (suc room) place (word ∷ words) = one_more_operand word words room
    (read_operands room (suc place) words) (operands_are_read room (suc place) words)

-- so `--` and what stands behind it are read as they spell
pub end_is_read :
    (table : List OptionForm) (word : Word) (words : List Word) (room : ℕ)
    → word ≡ codes "--"
    → (read : Result Arguments WordFault)
    → IsOperands words room read
    → IsReading table (word ∷ words) room read
end_is_read table word words room same (Ok arguments) reads =
    subst (λ (a : Arguments). IsReading table (word ∷ words) room (Ok a)) (sym reads.0)
    (subst (λ w. Spelled table (w ∷ words) [] words) (sym same) end_of_options, reads.1)
end_is_read table word words room same (Err fault) reads = tt

-- the last word, and a word before others
pub last_options_are_read :
    (table : List OptionForm) (word : Word) (given : List Given)
    (waiting : Option ℕ) (room place : ℕ)
    → Extends table word given waiting
    → IsReading table (word ∷ []) room (with_options given
    (read_arguments table waiting room place []))
last_options_are_read table word given None room place extends =
    options_are_read table word [] room given extends (Ok ([], [])) (nothing, omega arith)
last_options_are_read table word given (Some letter) room place extends = tt

-- the last word, by what it means
pub last_word_is_read :
    (table : List OptionForm) (word : Word) (meaning : Meaning) (room place : ℕ)
    → Means table word meaning
    → IsReading table (word ∷ []) room (read_word meaning room place word []
    (λ waiting more. read_arguments table waiting more (suc place) []))
last_word_is_read table word is_an_operand zero place means = tt
last_word_is_read table word is_an_operand (suc room) place means =
    operand_is_read table word [] room means (Ok ([], [])) (nothing, omega arith)
last_word_is_read table word ends_options room place means = end_is_read table word [] room means
    (read_operands room (suc place) []) (operands_are_read room (suc place) [])
last_word_is_read table word (has_options (Ok options)) room place means =
    last_options_are_read table word options.given options.waiting room (suc place) means
last_word_is_read table word (has_options (Err fault)) room place means = tt

-- options before two words or more
pub more_options_are_read :
    (table : List OptionForm) (word value : Word) (words : List Word) (given : List Given)
    (waiting : Option ℕ) (room place : ℕ)
    → Extends table word given waiting
    → ((room place : ℕ) → IsReading table (value ∷ words) room
    (read_arguments table None room place (value ∷ words)))
    → ((room place : ℕ) → IsReading table words room (read_arguments table None room place words))
    → IsReading table (word ∷ value ∷ words) room
    (with_options given (read_arguments table waiting room place (value ∷ words)))
more_options_are_read table word value words given None room place extends behind behind_value =
    options_are_read table word (value ∷ words) room given extends
    (read_arguments table None room place (value ∷ words)) (behind room place)
more_options_are_read table word value words given (Some letter) room place extends
    behind behind_value =
    value_is_taken table word value words room given letter extends
    (read_arguments table None room (suc place) words) (behind_value room (suc place))

-- a word before others, by what it means
pub next_word_is_read :
    (table : List OptionForm) (word value : Word) (words : List Word)
    (meaning : Meaning) (room place : ℕ)
    → Means table word meaning
    → ((room place : ℕ) → IsReading table (value ∷ words) room
    (read_arguments table None room place (value ∷ words)))
    → ((room place : ℕ) → IsReading table words room (read_arguments table None room place words))
    → IsReading table (word ∷ value ∷ words) room
    (read_word meaning room place word (value ∷ words)
    (λ waiting more. read_arguments table waiting more (suc place) (value ∷ words)))
next_word_is_read table word value words is_an_operand zero place means behind behind_value = tt
next_word_is_read table word value words is_an_operand (suc room) place means behind behind_value =
    operand_is_read table word (value ∷ words) room means
    (read_arguments table None room (suc place) (value ∷ words)) (behind room (suc place))
next_word_is_read table word value words ends_options room place means behind behind_value =
    end_is_read table word (value ∷ words) room means
    (read_operands room (suc place) (value ∷ words))
    (operands_are_read room (suc place) (value ∷ words))
next_word_is_read table word value words (has_options (Ok options)) room place means
    behind behind_value =
    more_options_are_read table word value words options.given options.waiting room (suc place)
    means behind behind_value
next_word_is_read table word value words (has_options (Err fault)) room place means
    behind behind_value = tt

-- What is read is spelled.
pub read_is_spelled :
    (table : List OptionForm)
    → IsTable table
    → (words : List Word) (room place : ℕ)
    → IsReading table words room (read_arguments table None room place words)
read_is_spelled table is [] room place = (nothing, omega arith)
read_is_spelled table is (word ∷ []) room place =
    last_word_is_read table word (word_meaning table word) room place (word_means table is word)
read_is_spelled table is (word ∷ value ∷ words) room place =
    next_word_is_read table word value words (word_meaning table word) room place
    (word_means table is word)
    (λ room place. read_is_spelled table is (value ∷ words) room place)
    (λ room place. read_is_spelled table is words room place)
