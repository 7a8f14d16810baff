-- The statuses and the texts of faults of words. The texts are this profile's own.
use Rattle.std.specs.Prelude.{ℕ, suc, Bool, false, not, ◌&&◌, ◌||◌, ◌==◌, if◌then◌else◌, bytes_eq, find, List, [], ◌∷◌, ◌++◌, codes, decimal, Option, Some, None, unwrap_or, slice_get}
use Rattle.std.specs.List.{list_any}
use Rattle.account_model.specs.declared.tool.Tool.{Tool}
use Rattle.account_model.specs.declared.tool.Tool.TheVariants.{Batch}
use Rattle.account_model.specs.declared.word_fault.WordFault.{WordFault}
use Rattle.account_model.specs.declared.word_fault.WordFault.TheVariants.{LineEnd, Unclosed, WordLimit, NoTool, UnknownTool, UnknownOption, MissingValue, UnexpectedValue, TooMany, NoPrefix, EmptyPrefix, TooFew, Clash, Memory}
use Rattle.acct_text.specs.Bytes.{is_empty}
use Rattle.account_model.specs.Options.{Rule, Word}
use Rattle.account_model.specs.Rows.{row_of}
use Rattle.account_model.specs.ToolOptions.{own_options}
use Rattle.account_model.specs.Spelling.{name_part}
use Rattle.account_model.specs.Text.{hyphen, has_byte, is_listed}
use Rattle.account_model.specs.Words.{tool_name, tool_named, tools}
use Rattle.account_model.specs.BatchLines.{FaultyLine}
use Rattle.account_model.specs.Messages.{line_by, line_text, message}
use Rattle.account_model.specs.Statuses.{memory_status}

-- the word at a place, from 0
abbrev pub word_at : List Word → ℕ → Word
word_at words place = unwrap_or (slice_get words place) []

-- whether one of two words becomes the other where one byte is put in, left out or another
abbrev pub is_near : Word → Word → Bool
is_near [] name = elim name [ [] ↦ false | c ∷ rest ↦ is_empty rest ]
is_near (c ∷ word) [] = is_empty word
is_near (c ∷ word) (d ∷ name) =
    if c == d then is_near word name else
    bytes_eq word name || bytes_eq (c ∷ word) name || bytes_eq word (d ∷ name)

-- the first tool whose name is near the word
abbrev pub near_tool : Word → Option Tool
near_tool word = find (λ tool. is_near word (tool_name tool)) tools

-- what is said of a word that names no tool
abbrev pub unknown_text : Word → List ℕ
unknown_text word = codes "unknown command " ++ word
    ++ elim (near_tool word) [
      | None ↦ []
      | Some tool ↦ codes " (" ++ tool_name tool ++ codes "?)"
    ]

-- whether the tool has a flag of the letter, behind which a word may go on with another letter
abbrev pub is_flag : Tool → ℕ → Bool
is_flag tool letter =
    list_any (λ form. not form.takes_value && form.letter == letter) (own_options tool)

-- the unknown option among the letters behind a `-`: one that takes a value is the last of a word
abbrev pub unknown_letter : Tool → Word → Option ℕ
unknown_letter tool letters = find (λ letter. not (is_flag tool letter)) letters

-- whether the wrapper takes the unknown option of a word, which begins with `-`
abbrev pub is_for_wrapper : Tool → Word → Bool
is_for_wrapper tool (c ∷ d ∷ rest) =
    if d == hyphen then is_listed (name_part rest) (row_of tool).wrapper_names else
    elim (unknown_letter tool (d ∷ rest)) [
      | None ↦ false
      | Some letter ↦ has_byte letter (row_of tool).wrapper_letters
    ]
is_for_wrapper tool word = false

-- what is said of a word with an unknown option, behind it
abbrev pub wrapper_hint : Option Tool → Word → List ℕ
wrapper_hint None word = []
wrapper_hint (Some tool) word =
    if is_for_wrapper tool word then codes " (the wrapper by the old names has it)" else []

-- what is said of the rule at a place, from 0
abbrev pub text_at : List Rule → ℕ → List ℕ
text_at rules place = elim (slice_get rules place) [ None ↦ [] | Some rule ↦ rule.text ]

-- what is said of the rule of this number, counted from 1
abbrev pub rule_text : Option Tool → ℕ → List ℕ
rule_text (Some tool) (suc place) = text_at (row_of tool).rules place
rule_text tool number = []

-- what is printed of a fault of these words; want of memory is no fault of theirs, and says nothing here
abbrev pub word_fault_text : List Word → WordFault → List ℕ
word_fault_text words LineEnd = codes "ends in a carriage return"
word_fault_text words (Unclosed column) =
    codes "quote in column " ++ decimal column ++ codes " isn't closed"
word_fault_text words (WordLimit place) = codes "word " ++ decimal place ++ codes " passes a limit"
word_fault_text words NoTool = codes "no command given: accounts --help lists them"
word_fault_text words UnknownTool = unknown_text (word_at words 0)
word_fault_text words (UnknownOption place) =
    codes "unknown option in word " ++ decimal place ++ codes ": " ++ word_at words place
    ++ wrapper_hint (tool_named (word_at words 0)) (word_at words place)
word_fault_text words (MissingValue place) =
    codes "option in word " ++ decimal place ++ codes " needs a value"
word_fault_text words (UnexpectedValue place) =
    codes "option in word " ++ decimal place ++ codes " takes no value"
word_fault_text words (TooMany place) =
    codes "unexpected word " ++ decimal place ++ codes ": " ++ word_at words place
word_fault_text words NoPrefix =
    codes "option -P is required: -P DIR is the image in DIR, -P / this system"
word_fault_text words EmptyPrefix = codes "value of -P is empty: -P / is this system"
word_fault_text words TooFew = codes "missing operand"
word_fault_text words (Clash rule) = rule_text (tool_named (word_at words 0)) rule
word_fault_text words Memory = []

-- the status of a usage error (useradd(8), pwck(8), "EXIT VALUES")
abbrev pub syntax_status : Tool → ℕ
syntax_status tool = (row_of tool).statuses.syntax

-- the tool that a fault speaks for; the faults that come before a tool is known have none
abbrev pub faulty_tool : List Word → WordFault → Option Tool
faulty_tool words LineEnd = None
faulty_tool words (Unclosed column) = None
faulty_tool words (WordLimit place) = None
faulty_tool words NoTool = None
faulty_tool words UnknownTool = None
faulty_tool words fault = tool_named (word_at words 0)

-- the status of a fault of these words
abbrev pub word_fault_status : List Word → WordFault → ℕ
word_fault_status words Memory = memory_status
word_fault_status words fault =
    elim (faulty_tool words fault) [ None ↦ 2 | Some tool ↦ syntax_status tool ]

-- the line on the error stream, of the suite where there is no tool
abbrev pub word_fault_message : List Word → WordFault → List ℕ
word_fault_message words fault = line_by (faulty_tool words fault) (word_fault_text words fault)

-- the line on the error stream of a batch with this first line that asks for nothing
abbrev pub line_fault_message : FaultyLine → List ℕ
line_fault_message faulty =
    message Batch (line_text faulty.number (word_fault_text faulty.words faulty.fault))
