-- What is seen of the rows in src/rows.
use Rattle.std.specs.Prelude.{[], ◌∷◌, Some, None, true, map}
use Rattle.account_model.specs.declared.option_form.OptionForm.{OptionForm as FormRow}
use Rattle.account_model.specs.declared.option_form.OptionForm.TheVariants.{Flag, Value, ShortFlag}
use Rattle.account_model.specs.declared.option_form.Rule.{Rule as RuleRow}
use Rattle.account_model.specs.declared.option_form.Test.{Test as TestRow}
use Rattle.account_model.specs.declared.option_form.Test.TheVariants.{NotBoth, OnlyWith, SomeOption, SomeOf, OneOf, ExactlyOne, Alone}
use Rattle.account_model.specs.declared.row.Reporting.{Reporting as ReportingRow}
use Rattle.account_model.specs.declared.row.Reporting.TheVariants.{Never, WhereGiven, Always}
use Rattle.account_model.specs.declared.row.ToolRow.{ToolRow as Row}
use Rattle.account_model.specs.Options.{OptionForm, Rule, Test, alone, exactly_one, no_value, not_both, one_of, only_with, some_of, some_option}
use Rattle.account_model.specs.Rows.{Reporting, ToolRow, always, never, where_given}

-- an option (getopt_long(3), `struct option`)
abbrev pub form_of : FormRow → OptionForm
form_of (Flag letter name) = no_value letter (Some name.now)
form_of (Value letter name form) = record {
  letter = letter;
  long_name = Some name.now;
  takes_value = true;
  wanted = form.now;
}
form_of (ShortFlag letter) = no_value letter None

-- the test of a rule
abbrev pub row_test : TestRow → Test
row_test (NotBoth first second) = not_both first second
row_test (OnlyWith first second) = only_with first second
row_test SomeOption = some_option
row_test (SomeOf letters) = some_of letters.now
row_test (OneOf letters) = one_of letters.now
row_test (ExactlyOne letters) = exactly_one letters.now
row_test (Alone letters) = alone letters.now

-- a rule
abbrev pub rule_of : RuleRow → Rule
rule_of rule = record { text = rule.text.now; is_kept = row_test rule.test }

-- when a tool reports
abbrev pub reporting_of : ReportingRow → Reporting
reporting_of Never = never
reporting_of (WhereGiven letter tables) = where_given (letter ∷ []) tables.now
reporting_of (Always letter tables others) = always (letter ∷ []) tables.now others.now

-- a whole row
abbrev pub seen_row : Row → ToolRow
seen_row row = record {
  name = row.name.now;
  root = row.root;
  options = map form_of row.options.now;
  least = row.least;
  most = row.most;
  rules = map rule_of row.rules.now;
  input = row.input;
  is_for_lines = row.is_for_lines;
  done = row.done;
  reporting = reporting_of row.reporting;
  statuses = row.statuses;
  wrapper_letters = row.wrapper_letters.now;
  wrapper_names = map (λ name. name.now) row.wrapper_names.now;
}
