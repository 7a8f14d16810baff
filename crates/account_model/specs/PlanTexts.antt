-- What a plan prints: what its command would print, and what that would change.
use Rattle.std.specs.Prelude.{ℕ, ◌++◌, length, flat_map, codes, decimal}
use Rattle.acct_text.specs.declared.files.Files.{Files}
use Rattle.acct_text.specs.Bytes.{Bytes}
use Rattle.acct_text.specs.Tables.{table_name}
use Rattle.account_model.specs.declared.plan_form.PlanForm.{PlanForm}
use Rattle.account_model.specs.declared.plan_form.PlanForm.TheVariants.{Sizes, Diff, Json}
use Rattle.account_model.specs.PlanChanges.{TableChange, changes}
use Rattle.account_model.specs.PlanDiff.{diff_text}
use Rattle.account_model.specs.PlanJson.{json_told}

-- the line of a table that changes, with its sizes in bytes before and after
abbrev pub size_line : TableChange → Bytes
size_line change = codes "would change " ++ table_name change.table
    ++ codes " " ++ decimal (length change.old)
    ++ codes " " ++ decimal (length change.new) ++ codes "\n"

-- what a plan prints of a change from old files to new ones, whose command ends with this status,
-- output and message: sizes and diff stand behind the output, and an object holds all
abbrev pub plan_text : PlanForm → Files → Files → ℕ → Bytes → Bytes → Bytes
plan_text Sizes old new status output error = output ++ flat_map size_line (changes old new)
plan_text Diff old new status output error = output ++ flat_map diff_text (changes old new)
plan_text Json old new status output error = json_told old new status output error
