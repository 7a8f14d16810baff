-- What the help texts tell: that of a tool its use, and exactly the options and rules that its words
-- are read by; that of the suite each tool. No line of theirs is too long.
use Rattle.std.specs.Prelude.{ℕ, Bool, true, false, not, ◌&&◌, nat_le, List, [], ◌∷◌, ◌++◌, length, take, drop, filter, map, Option, Some, None, codes, bytes_eq, if◌then◌else◌}
use Rattle.std.specs.List.{list_all, list_any, before_first, after_first}
use lib.Pointwise.{pointwise}
use Rattle.acct_text.specs.Bytes.{newline, blank, is_empty}
use Rattle.acct_text.specs.Pieces.{cut_at}
use Rattle.account_model.specs.Text.{begins_with}
use Rattle.account_model.specs.declared.tool.Tool.{Tool}
use Rattle.account_model.specs.Words.{tool_name, tools}
use Rattle.account_model.specs.Options.{OptionForm, Word}
use Rattle.account_model.specs.ToolOptions.{option_forms, rule_texts}

-- the text begins so
abbrev pub begins_so : List ℕ → List ℕ → Bool
begins_so start text = bytes_eq (take (length start) text) start

-- ---- Options

-- the long name of an option behind its letter
abbrev pub long_part : Option Word → List ℕ
long_part None = []
long_part (Some name) = codes ", --" ++ name

-- how the line of an option begins: `  -x, --name`
abbrev pub option_head : OptionForm → List ℕ
option_head form = codes "  -" ++ form.letter ∷ long_part form.long_name

-- behind its names stand a blank and the name of its value, or two blanks
abbrev pub shows_value : Bool → List ℕ → Bool
shows_value takes_value rest = begins_with blank rest
    && (if takes_value then not (begins_with blank (drop 1 rest)) else begins_with blank (drop 1 rest))

-- the line lists the option
abbrev pub lists_option : OptionForm → List ℕ → Bool
lists_option form line = begins_so (option_head form) line
    && shows_value form.takes_value (drop (length (option_head form)) line)

-- the lines list the options, one by one
abbrev pub list_options : List OptionForm → List (List ℕ) → Bool
list_options [] [] = true
list_options (form ∷ forms) (line ∷ lines) = lists_option form line && list_options forms lines
list_options forms lines = false

-- the lines of a text that list an option
abbrev pub option_lines : List ℕ → List (List ℕ)
option_lines text = filter (λ line. begins_so (codes "  -") line) (cut_at newline text)

-- a text lists these options and no others, in their order
abbrev pub tells_options : List OptionForm → List ℕ → Bool
tells_options forms text = list_options forms (option_lines text)

-- ---- Rules

-- the lines behind `Rules:` up to an empty one
abbrev pub rule_lines : List ℕ → List (List ℕ)
rule_lines text =
    before_first is_empty
    (after_first (λ line. bytes_eq line (codes "Rules:")) (cut_at newline text))

-- a text lists these rules and no others, in their order; each stands four columns in
abbrev pub tells_rules : List (List ℕ) → List ℕ → Bool
tells_rules rules text = pointwise bytes_eq (map (λ rule. codes "    " ++ rule) rules) (rule_lines text)

-- ---- Lines

-- how many columns a line has at most
abbrev pub most_columns : ℕ
most_columns = 80

-- no line of the text has more
abbrev pub fits_columns : List ℕ → Bool
fits_columns text = list_all (λ line. nat_le (length line) most_columns) (cut_at newline text)

-- ---- The texts

-- how the text of a tool begins: with its use, `Usage: accounts TOOL -P DIR..`
abbrev pub use_of : Tool → List ℕ
use_of tool = codes "Usage: accounts " ++ tool_name tool ++ codes " -P DIR"

-- the text begins with the tool's use, lists its options and its rules and no others, and fits its
-- columns
abbrev pub helps_with : Tool → List ℕ → Bool
helps_with tool text =
    begins_so (use_of tool) text && tells_options (option_forms tool) text
    && tells_rules (rule_texts tool) text && fits_columns text

-- the text has a line for the tool, `  TOOL  ..`
abbrev pub names_tool : List ℕ → Tool → Bool
names_tool text tool =
    list_any (begins_so (codes "  " ++ tool_name tool ++ codes " ")) (cut_at newline text)

-- the text names each tool, and fits its columns
abbrev pub names_tools : List ℕ → Bool
names_tools text = list_all (names_tool text) tools && fits_columns text
