-- Claim: each step of a reading keeps its outcome. An option that is read before others is kept
-- (`request_by-option`), and so is an operand (`request_by-operand`).
use Rattle.std.proofs.Common.{◌≡◌, ◌≢◌, ◌⊎◌, ℕ, suc, ◌+◌, ◌-◌, ◌==◌, Bool, false, List, [], ◌∷◌, ◌++◌, length, Option, Some, None, Result, Ok, Err, refl, ap, sym, ◌∙◌, arith, inl, inr}
use Rattle.std.specs.Option.{option_or}
use Rattle.std.specs.Prelude.{if◌then◌else◌, filter_map, filter, OnOk, IfOk, IfErr, IsErrAnd}
use Rattle.std.specs.declared.alloc.Global.{Global}
use Rattle.std.specs.List.{cons_option}
use Rattle.std.proofs.Math.Nat.{sub-zero}
use Rattle.std.proofs.lemmas.Bool.{cases_Bool}
use Rattle.std.proofs.lemmas.List.{append_assoc, append-nil, length-append}
use Rattle.account_model.specs.declared.given.Given.{Given}
use Rattle.account_model.specs.declared.word_fault.WordFault.{WordFault}
use Rattle.account_model.specs.declared.word_fault.WordFault.TheVariants.{UnknownOption, MissingValue, TooMany, Memory}
use Rattle.account_model.specs.declared.tool.Tool.{Tool}
use Rattle.account_model.specs.declared.words_of.WordsOf.{WordsOf}
use Rattle.account_model.specs.Text.{last_of, has_byte, equals_sign}
use Rattle.account_model.specs.Options.{Word, OptionForm, as_flag, as_value}
use Rattle.account_model.specs.ToolOptions.{is_prefix, options_for, most_operands}
use Rattle.account_model.specs.Request.{Request}
use Rattle.account_model.specs.Spelling.{form_of_letter, form_of_name, WordReading, complete, flag_before, value_behind, letter_reading, letters_reading, name_reading, name_reading_with, name_part, value_part, long_reading, Meaning, is_an_operand, has_options, word_meaning, Arguments, with_options, with_operand, read_word, read_arguments}
use Rattle.account_model.specs.Words.{AsksAs, without_prefix, prefix_value, prefix_for, request_with, request_of_arguments, request_of_tool, request_as}
use Rattle.option_words.specs.declared.reading.Reading.{Reading}
use Rattle.option_words.specs.declared.reading.Expects.{Expects}
use Rattle.option_words.specs.declared.reading.Expects.TheVariants.{AnyWord, ValueOf, OperandsAlone}
use Rattle.option_words.specs.Reading.{forms_of, room_of, has_room, after_option, request_by, rest_by, outcome_of, options_of_word, KeepsOutcome, ReadsOn, Answers, AnswersReading}
use Rattle.option_words.specs.Parsed.{request_in}
use Rattle.option_words.specs.declared.parsed.Parsed.{Parsed}
use Rattle.account_model.proofs.AsksLaws.{read_is_asked}
use Rattle.option_words.proofs.CutLemmas.{before_first-none}

-- ---- Options and operands

-- the last of more values is the last of those behind, or else the first
pub last_of-cons :
    (value : List ℕ) (values : List (List ℕ)) (before : Option (List ℕ))
    → option_or (last_of (value ∷ values)) before ≡ option_or (last_of values) (Some value)
last_of-cons value [] before = refl
last_of-cons value (next ∷ []) before = refl
last_of-cons value (next ∷ other ∷ values) before =
    last_of-cons next (other ∷ values) before
    ∙ sym (last_of-cons next (other ∷ values) (Some value))

-- the same where the first may be none
pub last_of-cons_option :
    (value : Option (List ℕ)) (values : List (List ℕ)) (before : Option (List ℕ))
    → option_or (last_of (cons_option value values)) before
    ≡ option_or (last_of values) (option_or value before)
last_of-cons_option None values before = refl
last_of-cons_option (Some value) values before = last_of-cons value values before

-- an option before those that are read is one that was read
pub request_by-option :
    (reading : Reading) (option : Given) (read : Result Arguments WordFault)
    → request_by reading (with_options (option ∷ []) read)
    ≡ request_by (after_option reading option) read
request_by-option reading option (Err fault) = refl
request_by-option reading option (Ok read) =
    let tool = reading.tool in
    let operands = reading.operands ++ read.1 in
    let later = prefix_value tool read.0 in
    elim (cases_Bool (is_prefix tool option.letter)) [
      | inl prefix ↦ rw prefix
          (ap (λ prefix. request_with tool (reading.options ++ without_prefix tool read.0) operands
          (prefix_for reading.whose prefix))
          (last_of-cons_option option.value
          (filter_map (λ given. given.value) (filter (λ given. is_prefix tool given.letter) read.0))
          reading.prefix))
      | inr other ↦ rw other
          (ap (λ options. request_with tool options operands
          (prefix_for reading.whose (option_or later reading.prefix)))
          (sym (append_assoc reading.options (option ∷ []) (without_prefix tool read.0))))
    ]

-- an operand before those that are read is one that was read
pub request_by-operand :
    (reading : Reading) (word : Word) (read : Result Arguments WordFault)
    → request_by reading (with_operand word read)
    ≡ request_by (record reading { operands = reading.operands ++ word ∷ [] }) read
request_by-operand reading word (Err fault) = refl
request_by-operand reading word (Ok read) =
    ap (λ operands. request_with reading.tool
    (reading.options ++ without_prefix reading.tool read.0)
    operands (prefix_for reading.whose
    (option_or (prefix_value reading.tool read.0) reading.prefix)))
    (sym (append_assoc reading.operands (word ∷ []) read.1))

-- ---- The options of a word

-- several options before those that are read
pub with_options-cons :
    (option : Given) (options : List Given) (read : Result Arguments WordFault)
    → with_options (option ∷ options) read ≡ with_options (option ∷ []) (with_options options read)
with_options-cons option options (Ok read) = refl
with_options-cons option options (Err fault) = refl

-- no options before those that are read
pub with_options-nil :
    (read : Result Arguments WordFault) → with_options [] read ≡ read
with_options-nil (Ok read) = refl
with_options-nil (Err fault) = refl

module _ (reading : Reading) (place : ℕ) (words : List Word) where
  -- a flag at the front of a bundle is an option that was read
  pub options_of_word-flag :
      (letter : ℕ) (behind : WordReading)
      → options_of_word reading place (flag_before letter behind) words
      ≡ options_of_word (after_option reading (as_flag letter)) place behind words
  options_of_word-flag letter (Err fault) = refl
  options_of_word-flag letter (Ok options) =
      let rest =
      read_arguments (forms_of reading) options.waiting (room_of reading) (suc place) words in
      ap (request_by reading) (with_options-cons (as_flag letter) options.given rest)
      ∙ request_by-option reading (as_flag letter) (with_options options.given rest)

-- no letters are left
pub options_of_word-nothing :
    (reading : Reading) (place : ℕ) (words : List Word)
    → reading.expects ≡ AnyWord
    → options_of_word reading place (letters_reading (forms_of reading) []) words
    ≡ outcome_of reading (suc place) words
options_of_word-nothing reading place words any =
    ap (request_by reading) (with_options-nil
    (read_arguments (forms_of reading) None (room_of reading) (suc place) words))
    ∙ ap (λ expects. request_by reading (rest_by expects reading (suc place) words)) (sym any)

-- one option leads on
pub complete-leads :
    (reading : Reading) (place : ℕ) (option : Given)
    → reading.expects ≡ AnyWord
    → KeepsOutcome (options_of_word reading place (complete option)) (after_option reading option)
    (suc place)
complete-leads reading place option any words =
    let rest = read_arguments (forms_of reading) None (room_of reading) (suc place) words in
    request_by-option reading option rest ∙ rw any refl

-- a value behind a letter, where there is one
pub value_behind-some :
    (letter : ℕ) (behind : Word)
    → (length behind == 0) ≡ false
    → value_behind letter behind ≡ complete (as_value letter behind)
value_behind-some letter [] some = cc
value_behind-some letter (first ∷ rest) some = refl

-- the letters of a bundle by the first of them
pub letters_reading-cons :
    (table : List OptionForm) (letters : Word) (letter : ℕ) (behind : Word)
    (form : Option OptionForm)
    → letters ≡ letter ∷ behind
    → form ≡ form_of_letter table letter
    → letters_reading table letters
    ≡ letter_reading letter form behind (letters_reading table behind)
letters_reading-cons table letters letter behind form same found =
    ap (letters_reading table) same
    ∙ ap (λ form. letter_reading letter form behind (letters_reading table behind)) (sym found)

-- and by whether that takes a value
pub letters_reading-form :
    (table : List OptionForm) (letters : Word) (letter : ℕ) (behind : Word)
    (form : OptionForm) (takes : Bool)
    → letters ≡ letter ∷ behind
    → Some form ≡ form_of_letter table letter
    → form.takes_value ≡ takes
    → letters_reading table letters
    ≡ (if takes then value_behind letter behind
    else flag_before letter (letters_reading table behind))
letters_reading-form table letters letter behind form takes same found is =
    let rest = letters_reading table behind in
    letters_reading-cons table letters letter behind (Some form) same found
    ∙ ap (λ takes. if takes then value_behind letter behind else flag_before letter rest) is

-- ---- Long names

-- a long name's option and the value behind `=`, where there is one
abbrev pub named_reading : Option OptionForm → Option Word → WordReading
named_reading form None = name_reading form
named_reading form (Some value) = name_reading_with value form

-- a name that the table doesn't have
pub named_reading-none :
    (value : Option Word) → named_reading None value ≡ Err UnknownOption
named_reading-none None = refl
named_reading-none (Some value) = refl

-- the value behind the first `=`, where there is one
abbrev pub value_of_long : Word → Option Word
value_of_long text = if has_byte equals_sign text then Some (value_part text) else None

-- what stands behind `--`, by its name and its value
pub long_reading-cut :
    (table : List OptionForm) (text : Word)
    → long_reading table text
    ≡ named_reading (form_of_name table (name_part text)) (value_of_long text)
long_reading-cut table text = elim (cases_Bool (has_byte equals_sign text)) [
  | inl has ↦ rw has refl
  | inr plain ↦ rw plain (ap (λ name. name_reading (form_of_name table name))
      (sym (before_first-none (λ c. c == equals_sign) text plain)))
]

-- the same, with the name, its option and the value found
pub long_reading-found :
    (table : List OptionForm) (text name : Word) (value : Option Word) (form : Option OptionForm)
    → name ≡ name_part text
    → value ≡ value_of_long text
    → form ≡ form_of_name table name
    → long_reading table text ≡ named_reading form value
long_reading-found table text name value form is_name is_value found =
    long_reading-cut table text
    ∙ ap (λ name. named_reading (form_of_name table name) (value_of_long text)) (sym is_name)
    ∙ ap (λ value. named_reading (form_of_name table name) value) (sym is_value)
    ∙ ap (λ form. named_reading form value) (sym found)

-- ---- Words

-- the room after one operand more
pub room_of-operand :
    (reading : Reading) (word : Word)
    → has_room reading
    → room_of reading ≡ suc (room_of (record reading { operands = reading.operands ++ word ∷ [] }))
room_of-operand reading word room =
    let more : length (reading.operands ++ word ∷ []) ≡ length reading.operands + 1 =
    length-append reading.operands (word ∷ []) in omega arith

-- no room is left where the tool takes no operand more
pub room_of-full : (reading : Reading) → ¬ (has_room reading) → room_of reading ≡ 0
room_of-full reading full = omega arith

-- the word behind a reading that expects any word, by what it is
pub outcome_of-word :
    (reading : Reading) (place : ℕ) (word : Word) (words : List Word) (meaning : Meaning)
    → reading.expects ≡ AnyWord
    → word_meaning (forms_of reading) word ≡ meaning
    → outcome_of reading place (word ∷ words)
    ≡ request_by reading (read_word meaning (room_of reading) place word words
    (λ waiting room. read_arguments (forms_of reading) waiting room (suc place) words))
outcome_of-word reading place word words meaning any means =
    ap (λ expects. request_by reading (rest_by expects reading place (word ∷ words))) any
    ∙ ap (λ meaning. request_by reading (read_word meaning (room_of reading) place word words
    (λ waiting room. read_arguments (forms_of reading) waiting room (suc place) words))) means

-- a word that gives options
pub outcome_of-options :
    (reading : Reading) (place : ℕ) (word : Word) (options : WordReading)
    → reading.expects ≡ AnyWord
    → word_meaning (forms_of reading) word ≡ has_options options
    → (words : List Word)
    → outcome_of reading place (word ∷ words) ≡ options_of_word reading place options words
outcome_of-options reading place word (Ok options) any means words =
    outcome_of-word reading place word words (has_options (Ok options)) any means
outcome_of-options reading place word (Err fault) any means words =
    outcome_of-word reading place word words (has_options (Err fault)) any means

-- a word that is an operand, where the tool takes one more
pub outcome_of-operand :
    (reading : Reading) (place : ℕ) (word : Word)
    → reading.expects ≡ AnyWord
    → word_meaning (forms_of reading) word ≡ is_an_operand
    → has_room reading
    → KeepsOutcome (λ words. outcome_of reading place (word ∷ words))
    (record reading { operands = reading.operands ++ word ∷ [] }) (suc place)
outcome_of-operand reading place word any means room words =
    let more : Reading = record reading { operands = reading.operands ++ word ∷ [] } in
    let read_on = λ (waiting : Option ℕ) (room : ℕ).
    read_arguments (forms_of reading) waiting room (suc place) words in
    outcome_of-word reading place word words is_an_operand any means
    ∙ ap (λ room. request_by reading (read_word is_an_operand room place word words read_on))
    (room_of-operand reading word room)
    ∙ request_by-operand reading word (read_on None (room_of more))
    ∙ ap (λ expects. request_by more (rest_by expects more (suc place) words)) (sym any)

-- a word that is an operand more than the tool takes
pub outcome_of-too_many :
    (reading : Reading) (place : ℕ) (word : Word)
    → reading.expects ≡ AnyWord
    → word_meaning (forms_of reading) word ≡ is_an_operand
    → ¬ (has_room reading)
    → (words : List Word)
    → outcome_of reading place (word ∷ words) ≡ Err (TooMany place)
outcome_of-too_many reading place word any means full words =
    outcome_of-word reading place word words is_an_operand any means
    ∙ ap (λ room. request_by reading (read_word is_an_operand room place word words
    (λ waiting room. read_arguments (forms_of reading) waiting room (suc place) words)))
    (room_of-full reading full)

-- a word that is the value of a letter
pub outcome_of-value :
    (reading : Reading) (place : ℕ) (letter : ℕ) (word : Word)
    → reading.expects ≡ ValueOf letter
    → KeepsOutcome (λ words. outcome_of reading place (word ∷ words))
    (after_option (record reading { expects = AnyWord }) (as_value letter word)) (suc place)
outcome_of-value reading place letter word waits words =
    ap (λ expects. request_by reading (rest_by expects reading place (word ∷ words))) waits
    ∙ request_by-option (record reading { expects = AnyWord }) (as_value letter word)
    (read_arguments (forms_of reading) None (room_of reading) (suc place) words)

-- ---- Steps

-- what leads on from an equal beginning
pub ReadsOn-before :
    {T : Type 0} (before later : List Word → Result Request WordFault) (reading : Reading)
    (place : ℕ) (result : Result T WordFault)
    → ((words : List Word) → before words ≡ later words)
    → ReadsOn later reading place result
    → ReadsOn before reading place result
ReadsOn-before before later reading place (Ok done) same reads = λ words. same words ∙ reads words
ReadsOn-before before later reading place (Err fault) same reads = elim reads [
  | inl memory ↦ inl memory
  | inr is ↦ inr (λ words. same words ∙ is words)
]

-- a fact that holds where a call is done, from another
pub OnOk-from :
    {T E P Q : Type 0} (result : Result T E) → (P → Q) → OnOk result P → OnOk result Q
OnOk-from (Ok done) from fact = from fact
OnOk-from (Err fault) from fact = tt

-- an operand that was taken, or the fault
pub operand-reads :
    {T : Type 0} (reading new : Reading) (place : ℕ) (word : Word) (result : Result T WordFault)
    → reading.expects ≡ AnyWord
    → word_meaning (forms_of reading) word ≡ is_an_operand
    → OnOk result (has_room reading
    × (new ≡ record reading { operands = reading.operands ++ word ∷ [] }))
    → IfErr result (λ fault. (fault ≡ Memory) ⊎ (¬ (has_room reading) × (fault ≡ TooMany place)))
    → ReadsOn (λ words. outcome_of reading place (word ∷ words)) new (suc place) result
operand-reads reading new place word (Ok done) any means taken fault = λ words.
    outcome_of-operand reading place word any means taken.0 words
    ∙ ap (λ reading. outcome_of reading (suc place) words) (sym taken.1)
operand-reads reading new place word (Err found) any means taken fault = elim fault [
  | inl memory ↦ inl memory
  | inr many ↦ inr (λ words. outcome_of-too_many reading place word any means many.0 words
      ∙ ap (λ fault. Err fault) (sym many.1))
]

-- ---- The beginning and the end

-- a reading of no words
abbrev pub no_words : Global → WordsOf → Tool → Reading
no_words alloc whose tool = record {
  alloc = alloc;
  whose = whose;
  tool = tool;
  prefix = None;
  options = [];
  operands = [];
  expects = AnyWord;
}

-- nothing was read before
pub option_or-none : {X : Type 0} (option : Option X) → option_or option None ≡ option
option_or-none None = refl
option_or-none (Some x) = refl

-- what is read behind a reading of no words is all
pub request_by-no_words :
    (alloc : Global) (whose : WordsOf) (tool : Tool) (read : Result Arguments WordFault)
    → request_by (no_words alloc whose tool) read ≡ request_of_arguments whose tool read
request_by-no_words alloc whose tool (Err fault) = refl
request_by-no_words alloc whose tool (Ok read) =
    ap (λ value. request_with tool (without_prefix tool read.0) read.1 (prefix_for whose value))
    (option_or-none (prefix_value tool read.0))

-- a reading of no words comes to the request of the words behind the tool's name
pub outcome_of-no_words :
    (alloc : Global) (whose : WordsOf) (tool : Tool) (words : List Word)
    → outcome_of (no_words alloc whose tool) 1 words ≡ request_of_tool whose (Some tool) words
outcome_of-no_words alloc whose tool words =
    let table = options_for whose tool in
    ap (λ room. request_by (no_words alloc whose tool) (read_arguments table None room 1 words))
    (sub-zero (most_operands tool))
    ∙ request_by-no_words alloc whose tool
    (read_arguments table None (most_operands tool) 1 words)

-- with no words left, what was read is all
pub request_by-nothing :
    (reading : Reading)
    → request_by reading (Ok ([], []))
    ≡ request_with reading.tool reading.options reading.operands
    (prefix_for reading.whose reading.prefix)
request_by-nothing reading =
    let prefix = prefix_for reading.whose reading.prefix in
    ap (λ options. request_with reading.tool options (reading.operands ++ []) prefix)
    (append-nil reading.options)
    ∙ ap (λ operands. request_with reading.tool reading.options operands prefix)
    (append-nil reading.operands)

-- no words add nothing where no letter waits
pub rest_by-end :
    (expects : Expects) (reading : Reading) (place : ℕ)
    → ((letter : ℕ) → expects ≢ ValueOf letter)
    → rest_by expects reading place [] ≡ Ok ([], [])
rest_by-end AnyWord reading place complete = refl
rest_by-end (ValueOf letter) reading place complete = absurd (complete letter refl)
rest_by-end OperandsAlone reading place complete = refl

-- at the end what was read is all
pub outcome_of-end :
    (reading : Reading) (place : ℕ)
    → ((letter : ℕ) → reading.expects ≢ ValueOf letter)
    → outcome_of reading place []
    ≡ request_with reading.tool reading.options reading.operands
    (prefix_for reading.whose reading.prefix)
outcome_of-end reading place complete =
    ap (request_by reading) (rest_by-end reading.expects reading place complete)
    ∙ request_by-nothing reading

-- at the end a letter that waits has no value
pub outcome_of-missing :
    (reading : Reading) (place : ℕ) (letter : ℕ)
    → reading.expects ≡ ValueOf letter
    → outcome_of reading (suc place) [] ≡ Err (MissingValue place)
outcome_of-missing reading place letter waits =
    let last : suc place - 1 ≡ place = omega arith in
    ap (λ expects. request_by reading (rest_by expects reading (suc place) [])) waits
    ∙ ap (λ place. Err (MissingValue place)) last

-- a fault that is handed on is the answer
pub answers-fault :
    (asked : Result Request WordFault) (result : Result Reading WordFault) (fault : WordFault)
    → IsErrAnd result (λ found. found ≡ fault)
    → (fault ≡ Memory) ⊎ (asked ≡ Err fault)
    → AnswersReading asked result
answers-fault asked (Ok reading) fault handed is = absurd handed
answers-fault asked (Err found) fault handed is = elim is [
  | inl memory ↦ inl (handed ∙ memory)
  | inr same ↦ inr (same ∙ ap (λ fault. Err fault) (sym handed))
]

-- a request that is answered is asked for
pub request-answered :
    (whose : WordsOf) (words : List Word) {asked : Result Request WordFault}
    (result : Result Parsed WordFault)
    → request_as whose words ≡ asked
    → Answers asked result
    → IfOk result (λ parsed. AsksAs whose words (request_in parsed))
request-answered whose words (Ok parsed) read answers =
    read_is_asked whose words (request_in parsed) (read ∙ answers)
request-answered whose words (Err fault) read answers = tt
