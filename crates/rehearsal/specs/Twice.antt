-- Two commands that ask for one GID in a row: their words, where they begin, and how the second ends
-- (groupadd(8), `-g` and "EXIT VALUES").
use Rattle.std.specs.Prelude.{[], ◌∷◌, List, codes, Some, None}
use Rattle.acct_text.specs.Bytes.{Bytes}
use Rattle.acct_text.specs.declared.files.Files.{Files}
use Rattle.acct_text.specs.declared.Tab.TheVariants.{Passwd, Group}
use Rattle.acct_outside.specs.declared.Name.{Name}
use Rattle.acct_outside.specs.declared.Name.TheVariants.{Table}
use Rattle.acct_outside.specs.Moment.{Past}
use Rattle.account_model.specs.declared.refusal.Refusal.TheVariants.{GidInUse}
use Rattle.account_model.specs.Options.{Word}
use Rattle.suite_answers.specs.declared.cause.Cause.TheVariants.{Refused}
use Rattle.suite_answers.specs.declared.cause.Outcome.{Outcome}
use Rattle.rehearsal.specs.Alone.{HasFiles}

-- the words `groupadd -P R -g 1500 NAME`
abbrev pub group_words : Bytes → List Word
group_words name = codes "groupadd" ∷ codes "-P" ∷ codes "R" ∷ codes "-g" ∷ codes "1500" ∷ name ∷ []

-- the files of a folder in which passwd and group are empty
abbrev pub empty_tables : List (Name × Bytes)
empty_tables = (Table Passwd, []) ∷ (Table Group, []) ∷ []

-- passwd is empty and group has these bytes; no other table stands
abbrev pub files_with_groups : Bytes → Files
files_with_groups groups = record {
  passwd = Some [];
  shadow = None;
  group = Some groups;
  gshadow = None;
  subuid = None;
  subgid = None;
}

-- no accounts are settled
abbrev pub HasNoAccounts : Past → Type 0
HasNoAccounts past = HasFiles (files_with_groups []) past

-- a group has the GID already, which the tool refuses with status 4
abbrev pub gid_in_use : Outcome
gid_in_use = record { status = 4; cause = Refused (GidInUse 1500) }
