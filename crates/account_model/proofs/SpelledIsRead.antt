-- What words spell is what is read, and what is read is spelled.
use Rattle.std.proofs.Common.{◌≡◌, ℕ, zero, suc, ◌≤◌, Bool, true, false, cond, ◌||◌, ◌==◌, List, [], ◌∷◌, ◌++◌, length, Option, Some, None, Result, Ok, Err, refl, ap, sym, subst, ◌∙◌, arith, suc-add}
use Rattle.std.proofs.lemmas.Bool.{false_from_ne_true, eqb-true}
use Rattle.std.proofs.Math.Bool.{or-true}
use Rattle.std.proofs.Math.Numerals.{one-add}
use Rattle.std.specs.List.{before_first, after_first}
use Rattle.account_model.specs.declared.word_fault.WordFault.{WordFault}
use Rattle.account_model.specs.declared.word_fault.WordFault.TheVariants.{UnexpectedValue}
use Rattle.account_model.specs.Text.{hyphen, equals_sign, has_byte}
use Rattle.account_model.specs.declared.given.Given.{Given}
use Rattle.account_model.specs.Options.{Word, OptionForm, as_flag, as_value}
use Rattle.account_model.specs.Spelling.{form_of_letter, form_of_name, HasLetter, HasName, is_operand, Spelled, nothing, end_of_options, operand, letter_flag, letter_bundle, letter_with_value, letter_then_value, name_flag, name_with_value, name_then_value, WordReading, complete, waits_for_value, flag_before, value_behind, letter_reading, letters_reading, name_reading, name_reading_with, long_reading, Meaning, is_an_operand, has_options, word_meaning, Arguments, with_options, with_operand, read_operands, read_word, read_arguments}

-- no option has the letter `-` or an empty name
pub record IsTable (table : List OptionForm) : Type 0 where
  pub letters : form_of_letter table hyphen ≡ None
  pub names : form_of_name table [] ≡ None

-- a letter of the table isn't `-`
pub hyphen_free :
    {table : List OptionForm} {letter : ℕ} {takes_value : Bool}
    → IsTable table
    → HasLetter table letter takes_value
    → (letter == hyphen) ≡ false
hyphen_free {table = table} {letter = letter} is has =
    false_from_ne_true (letter == hyphen) (λ same.
    let e : letter ≡ hyphen = eqb-true letter hyphen same in
    let found : form_of_letter table hyphen ≡ Some has.form =
    subst (λ n. form_of_letter table n ≡ Some has.form) e has.found in
    let missing : form_of_letter table hyphen ≡ None = is.letters in cc (found, missing))

-- what stands behind `-x` where x isn't `-`
pub meaning_of_letters :
    (table : List OptionForm) (letter : ℕ) (rest : Word)
    → (letter == hyphen) ≡ false
    → word_meaning table (hyphen ∷ letter ∷ rest)
    ≡ has_options (letters_reading table (letter ∷ rest))
meaning_of_letters table letter rest other = rw other refl

-- an operand means one
pub meaning_of_operand :
    (table : List OptionForm) (word : Word)
    → is_operand word ≡ true
    → word_meaning table word ≡ is_an_operand
meaning_of_operand table [] e = refl
meaning_of_operand table (c ∷ []) e = refl
meaning_of_operand table (c ∷ d ∷ rest) e = rw e refl

-- the first letter is a flag, or has a value
pub reading_of_flag :
    {table : List OptionForm} {letter : ℕ} (rest : Word)
    → HasLetter table letter false
    → letters_reading table (letter ∷ rest) ≡ flag_before letter (letters_reading table rest)
reading_of_flag {table = table} {letter = letter} rest has =
    ap (λ form. letter_reading letter form rest (letters_reading table rest)) has.found
    ∙ ap (λ b. cond b (value_behind letter rest)
    (flag_before letter (letters_reading table rest))) has.value

-- the first letter takes a value
pub reading_of_value :
    {table : List OptionForm} {letter : ℕ} (rest : Word)
    → HasLetter table letter true
    → letters_reading table (letter ∷ rest) ≡ value_behind letter rest
reading_of_value {table = table} {letter = letter} rest has =
    ap (λ form. letter_reading letter form rest (letters_reading table rest)) has.found
    ∙ ap (λ b. cond b (value_behind letter rest)
    (flag_before letter (letters_reading table rest))) has.value

-- a long name stands alone
pub meaning_of_name : {table : List OptionForm} {letter : ℕ} {takes_value : Bool} (name : Word)
    → IsTable table → HasName table name letter takes_value →
    word_meaning table (hyphen ∷ hyphen ∷ name)
    ≡ has_options (cond takes_value (waits_for_value letter) (complete (as_flag letter)))
meaning_of_name {table = table} [] is has = let found : form_of_name table [] ≡ Some has.form =
    has.found in let missing : form_of_name table [] ≡ None = is.names in cc (found, missing)
meaning_of_name {table = table} {letter = letter} {takes_value = takes_value} (c ∷ rest) is has =
    ap (λ b. has_options (cond b (name_reading_with (after_first (λ d. d == equals_sign) (c ∷ rest))
    (form_of_name table (before_first (λ d. d == equals_sign) (c ∷ rest))))
    (name_reading (form_of_name table (c ∷ rest))))) has.plain
    ∙ ap (λ form. has_options (name_reading form)) has.found
    ∙ ap (λ b. has_options (cond b (waits_for_value has.form.letter)
    (complete (as_flag has.form.letter)))) has.value
    ∙ ap (λ n. has_options (cond takes_value (waits_for_value n)
    (complete (as_flag n)))) has.letter_is

-- neither of two holds, where not one of them does
pub both_false : (a b : Bool) → a || b ≡ false → (a ≡ false) × (b ≡ false)
both_false true b e = cc
both_false false b e = (refl, e)

-- a name, `=` and a value have `=`
pub has_equals : (name value : Word) → has_byte equals_sign (name ++ equals_sign ∷ value) ≡ true
has_equals [] value = refl
has_equals (c ∷ name) value = ap (λ b. (c == equals_sign) || b) (has_equals name value)
    ∙ or-true (c == equals_sign)

-- the name stands before it
pub before_equals :
    (name value : Word)
    → has_byte equals_sign name ≡ false
    → before_first (λ c. c == equals_sign) (name ++ equals_sign ∷ value) ≡ name
before_equals [] value plain = refl
before_equals (c ∷ name) value plain =
    let parts = both_false (c == equals_sign) (has_byte equals_sign name) plain in
    let first = parts.0 in
    rw first (rw one-add (ap (λ rest. c ∷ rest) (before_equals name value parts.1)))

-- and the value behind
pub after_equals :
    (name value : Word)
    → has_byte equals_sign name ≡ false
    → after_first (λ c. c == equals_sign) (name ++ equals_sign ∷ value) ≡ value
after_equals [] value plain = refl
after_equals (c ∷ name) value plain =
    let parts = both_false (c == equals_sign) (has_byte equals_sign name) plain in
    let first = parts.0 in
    rw first (rw one-add (rw suc-add (after_equals name value parts.1)))

-- a long name with a value
pub reading_of_name_with_value :
    {table : List OptionForm} {letter : ℕ} (name value : Word)
    → HasName table name letter true
    → long_reading table (name ++ equals_sign ∷ value) ≡ complete (as_value letter value)
reading_of_name_with_value {table = table} {letter = letter} name value has =
    ap (λ b. cond b (name_reading_with (after_first (λ d. d == equals_sign)
    (name ++ equals_sign ∷ value)) (form_of_name table
    (before_first (λ d. d == equals_sign) (name ++ equals_sign ∷ value))))
    (name_reading (form_of_name table (name ++ equals_sign ∷ value))))
    (has_equals name value)
    ∙ ap (λ v. name_reading_with v (form_of_name table
    (before_first (λ d. d == equals_sign) (name ++ equals_sign ∷ value))))
    (after_equals name value has.plain)
    ∙ ap (λ n. name_reading_with value (form_of_name table n)) (before_equals name value has.plain)
    ∙ ap (name_reading_with value) has.found
    ∙ ap (λ b. cond b (complete (as_value has.form.letter value)) (Err UnexpectedValue)) has.value
    ∙ ap (λ n. complete (as_value n value)) has.letter_is

-- what begins with `--` and has `=` means a long name
pub meaning_of_text :
    (table : List OptionForm) (name value : Word)
    → word_meaning table (hyphen ∷ hyphen ∷ (name ++ equals_sign ∷ value))
    ≡ has_options (long_reading table (name ++ equals_sign ∷ value))
meaning_of_text table [] value = refl
meaning_of_text table (c ∷ name) value = refl

-- a long name with a value means it
pub meaning_of_name_with_value :
    {table : List OptionForm} {letter : ℕ} (name text value : Word)
    → text ≡ name ++ equals_sign ∷ value
    → HasName table name letter true
    → word_meaning table (hyphen ∷ hyphen ∷ text) ≡ has_options (complete (as_value letter value))
meaning_of_name_with_value {table = table} name text value cut has =
    ap (λ t. word_meaning table (hyphen ∷ hyphen ∷ t)) cut ∙ meaning_of_text table name value
    ∙ ap has_options (reading_of_name_with_value name value has)

-- operands that there is room for are read
pub read_operands_all :
    (room place : ℕ) (words : List Word)
    → length words ≤ room
    → read_operands room place words ≡ Ok ([], words)
read_operands_all room place [] h = refl
read_operands_all zero place (word ∷ words) h = absurd (omega arith)
read_operands_all (suc room) place (word ∷ words) h = let rest : length words ≤ room =
    omega arith in ap (with_operand word) (read_operands_all room (suc place) words rest)

-- the first word is read as what it means
pub read_as :
    (table : List OptionForm) (word : Word) (room place : ℕ) (words : List Word) (meaning : Meaning)
    {result : Result Arguments WordFault}
    → word_meaning table word ≡ meaning
    → read_word meaning room place word words
    (λ waiting more. read_arguments table waiting more (suc place) words) ≡ result
    → read_arguments table None room place (word ∷ words) ≡ result
read_as table word room place words meaning means reads =
    ap (λ m. read_word m room place word words
    (λ waiting more. read_arguments table waiting more (suc place) words)) means ∙ reads

-- an option before others
pub with_more :
    (option : Given) (options : List Given) (read : Result Arguments WordFault) (given : List Given)
    (operands : List Word)
    → with_options options read ≡ Ok (given, operands)
    → with_options (option ∷ options) read ≡ Ok (option ∷ given, operands)
with_more option options (Ok arguments) given operands e = ap (with_options (option ∷ [])) e
with_more option options (Err fault) given operands e = cc

-- a flag before the letters of a bundle
pub read_flag_before :
    (letter : ℕ) (reading : WordReading) (room place : ℕ) (word other : Word) (words : List Word)
    (read_on : Option ℕ → ℕ → Result Arguments WordFault) (given : List Given)
    (operands : List Word)
    → read_word (has_options reading) room place other words read_on ≡ Ok (given, operands)
    → read_word (has_options (flag_before letter reading)) room place word words read_on
    ≡ Ok (as_flag letter ∷ given, operands)
read_flag_before letter (Ok options) room place word other words read_on given operands e =
    with_more (as_flag letter) options.given (read_on options.waiting room) given operands e
read_flag_before letter (Err fault) room place word other words read_on given operands e = cc

-- What is spelled is read, where there is room for the operands.
pub spelled_is_read :
    {table : List OptionForm} {words : List Word} {options : List Given} {operands : List Word}
    → Spelled table words options operands
    → IsTable table
    → (room place : ℕ)
    → length operands ≤ room
    → read_arguments table None room place words ≡ Ok (options, operands)
spelled_is_read nothing is room place h = refl
spelled_is_read (end_of_options {operands = rest}) is room place h =
    read_operands_all room (suc place) rest h
spelled_is_read (operand {word = word} {words = words} test rest) is zero place h =
    absurd (omega arith)
spelled_is_read {table = table} (operand {word = word} {words = words} test rest) is
    (suc room) place h =
    read_as table word (suc room) place words is_an_operand (meaning_of_operand table word test)
    (ap (with_operand word) (spelled_is_read rest is room (suc place) (omega arith)))
spelled_is_read {table = table} (letter_flag {letter = letter} {words = words} has
    rest) is room place h =
    read_as table (hyphen ∷ letter ∷ []) room place words (has_options (complete (as_flag letter)))
    (meaning_of_letters table letter [] (hyphen_free is has)
    ∙ ap has_options (reading_of_flag [] has))
    (ap (with_options (as_flag letter ∷ [])) (spelled_is_read rest is room (suc place) h))
spelled_is_read {table = table} (letter_bundle {letter = letter} {next = next} {rest = more}
    {words = words} {operands = found} {options = options} has other rest) is room place h =
    let plain : (next == hyphen) ≡ false = false_from_ne_true (next == hyphen)
    (λ same. other (eqb-true next hyphen same)) in
    let bundle : read_arguments table None room place ((hyphen ∷ next ∷ more) ∷ words)
    ≡ Ok (options, found) = spelled_is_read rest is room place h in
    let means : word_meaning table (hyphen ∷ next ∷ more)
    ≡ has_options (letters_reading table (next ∷ more)) =
    meaning_of_letters table next more plain in
    let reads : read_word (has_options (letters_reading table (next ∷ more))) room place
    (hyphen ∷ next ∷ more) words (λ waiting room. read_arguments table waiting room (suc place)
    words) ≡ Ok (options, found) =
    sym (ap (λ m. read_word m room place (hyphen ∷ next ∷ more) words
    (λ waiting room. read_arguments table waiting room (suc place) words)) means) ∙ bundle in
    read_as table (hyphen ∷ letter ∷ next ∷ more) room place words
    (has_options (flag_before letter (letters_reading table (next ∷ more))))
    (meaning_of_letters table letter (next ∷ more) (hyphen_free is has)
    ∙ ap has_options (reading_of_flag (next ∷ more) has))
    (read_flag_before letter (letters_reading table (next ∷ more)) room place
    (hyphen ∷ letter ∷ next ∷ more) (hyphen ∷ next ∷ more) words
    (λ waiting room. read_arguments table waiting room (suc place) words)
    options found reads)
spelled_is_read {table = table} (letter_with_value {letter = letter} {first = first} {rest = more}
    {words = words} has rest) is room place h =
    read_as table (hyphen ∷ letter ∷ first ∷ more) room place words
    (has_options (complete (as_value letter (first ∷ more))))
    (meaning_of_letters table letter (first ∷ more) (hyphen_free is has)
    ∙ ap has_options (reading_of_value (first ∷ more) has))
    (ap (with_options (as_value letter (first ∷ more) ∷ []))
    (spelled_is_read rest is room (suc place) h))
spelled_is_read {table = table} (letter_then_value {letter = letter} {value = value} {words = words}
    has rest) is room place h =
    read_as table (hyphen ∷ letter ∷ []) room place (value ∷ words)
    (has_options (waits_for_value letter))
    (meaning_of_letters table letter [] (hyphen_free is has)
    ∙ ap has_options (reading_of_value [] has))
    (ap (λ r. with_options [] (with_options (as_value letter value ∷ []) r))
    (spelled_is_read rest is room (suc (suc place)) h))
spelled_is_read {table = table} (name_flag {letter = letter} {name = name} {words = words} has
    rest) is room place h =
    read_as table (hyphen ∷ hyphen ∷ name) room place words
    (has_options (complete (as_flag letter))) (meaning_of_name name is has)
    (ap (with_options (as_flag letter ∷ [])) (spelled_is_read rest is room (suc place) h))
spelled_is_read {table = table} (name_with_value {letter = letter} {text = text} name
    {value = value} {words = words} cut has rest) is room place h =
    read_as table (hyphen ∷ hyphen ∷ text) room place words
    (has_options (complete (as_value letter value)))
    (meaning_of_name_with_value name text value cut has)
    (ap (with_options (as_value letter value ∷ [])) (spelled_is_read rest is room (suc place) h))
spelled_is_read {table = table} (name_then_value {letter = letter} {name = name} {value = value}
    {words = words} has rest) is room place h =
    read_as table (hyphen ∷ hyphen ∷ name) room place (value ∷ words)
    (has_options (waits_for_value letter)) (meaning_of_name name is has)
    (ap (λ r. with_options [] (with_options (as_value letter value ∷ []) r))
    (spelled_is_read rest is room (suc (suc place)) h))
