-- What a tool does: the refusals that it tests, in their order, and then its edits and what it writes. No manual page has
-- this as a whole: the order of refusals is this profile's own.
use Rattle.std.specs.Prelude.{if◌then◌else◌, ℕ, List, [], ◌∷◌, Option, Some, None, option_map, Result}
use Rattle.std.specs.declared.result.Result.TheVariants.{Ok, Err}
use Rattle.acct_text.specs.declared.Tab.{Tab}
use Rattle.acct_text.specs.declared.Tab.TheVariants.{Passwd, Shadow, Group, Gshadow}
use Rattle.acct_text.specs.declared.files.Files.{Files}
use Rattle.account_model.specs.declared.refusal.Refusal.{Refusal}
use Rattle.account_model.specs.declared.refusal.Refusal.TheVariants.{Multiple}
use Rattle.account_model.specs.Text.{first_some}
use Rattle.account_model.specs.Format.{Format}
use Rattle.account_model.specs.Edits.{Edit, first_multiple}
use Rattle.account_model.specs.Records.{passwd_format, shadow_format, group_format, gshadow_format}
use Rattle.account_model.specs.Request.{Request, has_option, value_of}
use Rattle.account_model.specs.Tables.{Script, no_edits, files_after, passwd_records, shadow_records, group_records, gshadow_records}

-- what a tool does on given files
pub record Action : Type 0 where
  -- in the order in which they are tested; the first that there is refuses
  pub refusals : List (Option Refusal)
  -- what it does to the tables
  pub script : Script
  -- the status, 0 but for a report of problems
  pub status : ℕ
  -- what a report writes
  pub output : List ℕ
  -- notices for the error stream, without the tool's name
  pub notices : List (List ℕ)

-- the edits that an option's value asks for, where it is given
abbrev pub with_option : List ℕ → Request → (List ℕ → Script) → Script
with_option letter request edits =
    elim (value_of letter request) [ None ↦ no_edits | Some value ↦ edits value ]

-- the edits that a flag asks for, where it is given
abbrev pub with_flag : List ℕ → Request → Script → Script
with_flag letter request edits = if has_option letter request then edits else no_edits

-- a change without a report and without notices
abbrev pub changes : List (Option Refusal) → Script → Action
changes refusals script = record {
  refusals = refusals;
  script = script;
  status = 0;
  output = [];
  notices = [];
}

-- a report, which changes nothing
abbrev pub reports : List (Option Refusal) → ℕ → List ℕ → Action
reports refusals status output = record {
  refusals = refusals;
  script = no_edits;
  status = status;
  output = output;
  notices = [];
}

-- the first touched line of a table whose name has two or more records there
abbrev pub multiple_in : {R : Type 0} → Tab → Format R → List (Edit R) → List R → Option Refusal
multiple_in tab format edits records =
    option_map (λ name. Multiple tab name) (first_multiple format edits records)

-- the first touched line, in the order passwd, shadow, group, gshadow, whose name has two or more records in its table
abbrev pub multiple_entries : Script → Files → Option Refusal
multiple_entries script files = first_some (
    multiple_in Passwd passwd_format script.passwd (passwd_records files)
    ∷ multiple_in Shadow shadow_format script.shadow (shadow_records files)
    ∷ multiple_in Group group_format script.group (group_records files)
    ∷ multiple_in Gshadow gshadow_format script.gshadow (gshadow_records files)
    ∷ [])

-- what a change that isn't refused makes
pub record Made : Type 0 where
  pub files : Files
  pub status : ℕ
  pub output : List ℕ
  pub notices : List (List ℕ)

-- the new files, with what is written
abbrev pub made_by : Action → Files → Made
made_by action files = record {
  files = files_after action.script files;
  status = action.status;
  output = action.output;
  notices = action.notices;
}

-- the first refusal of the tool; else that of multiple entries; else what the edits make
abbrev pub outcome_of : Action → Files → Result Made Refusal
outcome_of action files = elim (first_some action.refusals) [
  | Some refusal ↦ Err refusal
  | None ↦ elim (multiple_entries action.script files) [
    | Some refusal ↦ Err refusal
    | None ↦ Ok (made_by action files)
  ]
]
