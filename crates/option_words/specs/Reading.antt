-- What a reading of words comes to: what was read, and what the words behind it add.
use Rattle.std.specs.Prelude.{◌≡◌, ◌⊎◌, ℕ, suc, ◌-◌, ◌<◌, if◌then◌else◌, List, [], ◌∷◌, ◌++◌, length, Some, None, Result, Ok, Err}
use Rattle.std.specs.Option.{option_or}
use Rattle.account_model.specs.declared.given.Given.{Given}
use Rattle.account_model.specs.declared.word_fault.WordFault.{WordFault}
use Rattle.account_model.specs.declared.word_fault.WordFault.TheVariants.{Memory}
use Rattle.account_model.specs.Options.{Word, OptionForm}
use Rattle.account_model.specs.ToolOptions.{is_prefix, options_for, most_operands}
use Rattle.account_model.specs.Request.{Request}
use Rattle.account_model.specs.Spelling.{WordReading, Arguments, has_options, read_operands, read_word, read_arguments}
use Rattle.account_model.specs.Words.{without_prefix, prefix_value, prefix_for, request_with}
use Rattle.option_words.specs.declared.parsed.Parsed.{Parsed}
use Rattle.option_words.specs.declared.reading.Reading.{Reading}
use Rattle.option_words.specs.declared.reading.Expects.{Expects}
use Rattle.option_words.specs.declared.reading.Expects.TheVariants.{AnyWord, ValueOf, OperandsAlone}
use Rattle.option_words.specs.Parsed.{request_in}

-- the options that such words may give the tool
abbrev pub forms_of : Reading → List OptionForm
forms_of reading = options_for reading.whose reading.tool

-- how many operands the tool still takes
abbrev pub room_of : Reading → ℕ
room_of reading = most_operands reading.tool - length reading.operands

-- the tool takes one operand more
abbrev pub has_room : Reading → Type 0
has_room reading = length reading.operands < most_operands reading.tool

-- the reading after one more option
abbrev pub after_option : Reading → Given → Reading
after_option reading option =
    let is_folder = is_prefix reading.tool option.letter in
    record reading {
      prefix = (if is_folder then option_or option.value reading.prefix else reading.prefix);
      options = (if is_folder then reading.options else reading.options ++ option ∷ []);
    }

-- the request of what was read and of what the words behind it give
abbrev pub request_by : Reading → Result Arguments WordFault → Result Request WordFault
request_by reading (Err fault) = Err fault
request_by reading (Ok (given, operands)) =
    request_with reading.tool (reading.options ++ without_prefix reading.tool given)
    (reading.operands ++ operands)
    (prefix_for reading.whose (option_or (prefix_value reading.tool given) reading.prefix))

-- what the words from a place on give
abbrev pub rest_by : Expects → Reading → ℕ → List Word → Result Arguments WordFault
rest_by AnyWord reading place words =
    read_arguments (forms_of reading) None (room_of reading) place words
rest_by (ValueOf letter) reading place words =
    read_arguments (forms_of reading) (Some letter) (room_of reading) place words
rest_by OperandsAlone reading place words = read_operands (room_of reading) place words

-- the request of what was read and of the words from a place on
abbrev pub outcome_of : Reading → ℕ → List Word → Result Request WordFault
outcome_of reading place words = request_by reading (rest_by reading.expects reading place words)

-- the request of what was read, of a word at a place that gives options, and of the words behind it
abbrev pub options_of_word : Reading → ℕ → WordReading → List Word → Result Request WordFault
options_of_word reading place options words =
    request_by reading
    (read_word (has_options options) (room_of reading) place [] words
    (λ waiting room. read_arguments (forms_of reading) waiting room (suc place) words))

-- whatever words come behind, the reading at the next place has the same outcome
abbrev pub KeepsOutcome : (List Word → Result Request WordFault) → Reading → ℕ → Type 0
KeepsOutcome before reading place =
    (words : List Word) → before words ≡ outcome_of reading place words

-- a step leads to a reading of the same outcome, or to the fault that is the outcome
abbrev pub ReadsOn : {T : Type 0} → (List Word → Result Request WordFault) → Reading → ℕ →
    Result T WordFault → Type 0
ReadsOn before reading place (Ok _) = KeepsOutcome before reading place
ReadsOn before reading place (Err fault) =
    (fault ≡ Memory) ⊎ ((words : List Word) → before words ≡ Err fault)

-- the answer is this request or this fault, or there was no memory
abbrev pub Answers : Result Request WordFault → Result Parsed WordFault → Type 0
Answers asked (Ok parsed) = asked ≡ Ok (request_in parsed)
Answers asked (Err fault) = (fault ≡ Memory) ⊎ (asked ≡ Err fault)

-- what is read to the end comes to this request or this fault, or there was no memory
abbrev pub AnswersReading : Result Request WordFault → Result Reading WordFault → Type 0
AnswersReading asked (Ok reading) =
    asked
    ≡ request_with reading.tool reading.options reading.operands
    (prefix_for reading.whose reading.prefix)
AnswersReading asked (Err fault) = (fault ≡ Memory) ⊎ (asked ≡ Err fault)
