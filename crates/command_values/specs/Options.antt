-- What one option gives, and what the options and operands of a request are (the manual page of
-- each tool, "OPTIONS" and "SYNOPSIS").
use Rattle.std.specs.Prelude.{◌≡◌, ℕ, ◌≤◌, ◌==◌, List, length, Option, None, is_some, if◌then◌else◌}
use Rattle.std.specs.List.{AllByRecursion}
use Rattle.account_model.specs.declared.given.Given.{Given}
use Rattle.account_model.specs.Options.{OptionForm}
use Rattle.account_model.specs.ToolOptions.{own_options, operands_of, most_operands}
use Rattle.account_model.specs.Spelling.{HasLetter}
use Rattle.account_model.specs.Words.{broken_rule}
use Rattle.account_model.specs.Request.{Request}

-- the value of an option, where it has the letter and one was given
abbrev pub value_at : ℕ → Given → Option (List ℕ)
value_at letter option = if option.letter == letter then option.value else None

-- the table has the option, with a value exactly where the option takes one
abbrev pub IsOfTable : List OptionForm → Given → Type 0
IsOfTable table option = HasLetter table option.letter (is_some option.value)

-- the request is one of its tool: each option is one that the tool takes, there are as many
-- operands as it needs and no more than it takes, and no rule is broken
pub record KeepsRow (request : Request) : Type 0 where
  pub options : AllByRecursion (IsOfTable (own_options request.tool)) request.options
  pub enough : operands_of request.tool ≤ length request.operands
  pub few : length request.operands ≤ most_operands request.tool
  pub rules : broken_rule request.tool request.options ≡ None
