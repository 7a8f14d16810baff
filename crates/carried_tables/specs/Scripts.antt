-- The edits of a command as account_model has them, and how tables are edited by them ("EXIT VALUES" of
-- each page).
use Rattle.std.specs.Prelude.{◌≡◌, ⊤, Some, None, Result, Ok, Err}
use Rattle.acct_text.specs.declared.files.Files.{Files}
use Rattle.account_model.specs.Action.{multiple_entries}
use Rattle.account_model.specs.Records.{group_format, gshadow_format, passwd_format, shadow_format}
use Rattle.account_model.specs.Tables as model
use Rattle.carried_tables.specs.Changes.{UneditedStay}
use Rattle.carried_tables.specs.declared.carried_tables.EditPlaces.{EditPlaces}
use Rattle.carried_tables.specs.declared.script.Script.{Script}
use Rattle.carried_tables.specs.declared.touched_tables.TouchedTables.{TouchedTables}
use Rattle.line_edits.specs.SeenEdits.{seen_edits}
use Rattle.line_edits.specs.GroupChanges.{group_becomes}
use Rattle.line_edits.specs.GshadowChanges.{gshadow_becomes}
use Rattle.line_edits.specs.PasswdChanges.{passwd_becomes}
use Rattle.line_edits.specs.ShadowChanges.{shadow_becomes}
use Rattle.line_edits.specs.SubidChanges.{subid_becomes}
use Rattle.table.specs.TableEdits.{AreEditedIn}
use Rattle.tool_answers.specs.declared.tool_fault.ToolFault.{ToolFault}
use Rattle.tool_answers.specs.declared.tool_fault.ToolFault.TheVariants.{Refused, Memory}

-- the script that stands for one as data, table by table
abbrev pub seen_script : Script → model.Script
seen_script script = record {
  passwd = seen_edits passwd_becomes script.passwd.items;
  shadow = seen_edits shadow_becomes script.shadow.items;
  group = seen_edits group_becomes script.group.items;
  gshadow = seen_edits gshadow_becomes script.gshadow.items;
  subuid = seen_edits subid_becomes script.subuid.items;
  subgid = seen_edits subid_becomes script.subgid.items;
}

-- the new script has the edits of the old one, and these behind them
abbrev pub HasAlso : model.Script → Script → Script → Type 0
HasAlso edits old new = seen_script new ≡ model.followed_by (seen_script old) edits

-- the script touches no record whose name has several, and these are the places of edits, as far as told
pub record AreUnmet (script : model.Script) (files : Files) (places : EditPlaces) : Type 0 where
  pub single : None ≡ multiple_entries script files
  pub passwd : AreEditedIn passwd_format script.passwd files.passwd places.passwd.items
  pub shadow : AreEditedIn shadow_format script.shadow files.shadow places.shadow.items
  pub group : AreEditedIn group_format script.group files.group places.group.items
  pub gshadow : AreEditedIn gshadow_format script.gshadow files.gshadow places.gshadow.items

-- what is known of a script before its edits are made: where, or why they aren't
abbrev pub IsChecked : model.Script → Files → Result EditPlaces ToolFault → Type 0
IsChecked script files (Ok places) = AreUnmet script files places
IsChecked script files (Err (Refused refusal)) = Some refusal ≡ multiple_entries script files
IsChecked script files (Err Memory) = ⊤

-- the script touches no record whose name has several, its edits are made, and they leave each table
-- but these
pub record AreMade (script : model.Script) (touched : TouchedTables)
    (old new : Files) : Type 0 where
  pub single : multiple_entries script old ≡ None
  pub made : new ≡ model.files_after script old
  pub left : UneditedStay touched old new

-- a script is carried out, or refused for a record of several of its name with the files left; want of
-- memory may come anywhere
abbrev pub CarriesOut : model.Script → Files → Files → Result TouchedTables ToolFault → Type 0
CarriesOut script old new (Ok touched) = AreMade script touched old new
CarriesOut script old new (Err (Refused refusal)) =
    (multiple_entries script old ≡ Some refusal) × (new ≡ old)
CarriesOut script old new (Err Memory) = ⊤
