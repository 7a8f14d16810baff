-- What the row of a tool says of its words: its options with those of the folder, its operands and its
-- rules.
use Rattle.std.specs.Prelude.{ℕ, Bool, ◌||◌, ◌==◌, List, [], ◌∷◌, map}
use Rattle.std.specs.Str.{byte}
use Rattle.account_model.specs.declared.words_of.WordsOf.{WordsOf}
use Rattle.account_model.specs.declared.words_of.WordsOf.TheVariants.{Command, Line}
use Rattle.account_model.specs.declared.tool.Tool.{Tool}
use Rattle.account_model.specs.Options.{OptionForm, with_value}
use Rattle.account_model.specs.Rows.{row_of}

-- the options of a tool but those of the folder
abbrev pub own_options : Tool → List OptionForm
own_options tool = (row_of tool).options

-- the letter of `-P`, the folder whose `etc` is worked on (useradd(8), `--prefix`)
abbrev pub prefix_letter : ℕ
prefix_letter = byte "P"

-- the letter of `--root`, which is `--prefix` here: no tool changes its root (useradd(8), gpasswd(1))
abbrev pub root_letter : Tool → ℕ
root_letter tool = (row_of tool).root

-- `-R DIR` or `--root DIR`
abbrev pub root_form : Tool → OptionForm
root_form tool = record (with_value "R" "root" []) { letter = root_letter tool }

-- whether the option of a letter gives the folder
abbrev pub is_prefix : Tool → ℕ → Bool
is_prefix tool letter = letter == prefix_letter || letter == root_letter tool

-- all options of a tool: each takes the folder
abbrev pub option_forms : Tool → List OptionForm
option_forms tool = with_value "P" "prefix" [] ∷ root_form tool ∷ own_options tool

-- the options that such words may give: those of the folder are unknown in a line of a batch
abbrev pub options_for : WordsOf → Tool → List OptionForm
options_for Command tool = option_forms tool
options_for Line tool = own_options tool

-- how many operands a tool needs: the user or the group, or none
abbrev pub operands_of : Tool → ℕ
operands_of tool = (row_of tool).least

-- how many it takes at most: for batch the file with the lines, which is the input where none is named
abbrev pub most_operands : Tool → ℕ
most_operands tool = (row_of tool).most

-- what is said of each rule of a tool
abbrev pub rule_texts : Tool → List (List ℕ)
rule_texts tool = map (λ rule. rule.text) (row_of tool).rules
