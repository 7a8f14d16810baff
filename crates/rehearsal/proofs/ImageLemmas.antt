-- Claim: a folder of six tables, and nothing else, has these files (`has-files`).
-- Way: what is laid into the folder and what is settled there computes, table by table.
use Rattle.std.proofs.Common.{◌≡◌, ◌∙◌, refl, ap, List, [], Option, Some, None, true}
use Rattle.std.specs.Prelude.{is_some, unwrap_or}
use Rattle.acct_text.specs.Bytes.{Bytes}
use Rattle.acct_text.specs.declared.Tab.TheVariants.{Passwd, Shadow, Group, Gshadow, Subuid, Subgid}
use Rattle.acct_text.specs.declared.files.Files.{Files}
use Rattle.acct_outside.specs.declared.Name.{Name}
use Rattle.acct_outside.specs.declared.Name.TheVariants.{Intent}
use Rattle.acct_outside.specs.Folder.{IsFolder}
use Rattle.memory_folder.specs.Logged.{folder_after}
use Rattle.acct_outside.specs.Moment.{Past}
use Rattle.memory_folder.specs.Store.{folder_with}
use Rattle.suite_rules.specs.Deeds.{SuiteDeeds}
use Rattle.suite_session.specs.Deeds.{AreOfTools}
use Rattle.rehearsal.specs.Alone.{HasFiles, defs_at, files_at}
use Rattle.rehearsal.proofs.TwiceLemmas.{starts-lawfully}
use Rattle.rehearsal.specs.Images.{AllStand, contents_of}

-- ---- Into a folder

-- a folder of which nothing was told yet, with these files
abbrev new_past : List (Name × Bytes) → Past
new_past contents = record { first = folder_with contents; history = [] }

-- a table that stands is its text
some-text : (content : Option Bytes) → is_some content ≡ true →
    Some (unwrap_or content []) ≡ content
some-text (Some bytes) stands = refl
some-text None stands = absurd (cc)

-- the files of the folder are those that were laid into it
laid-files : (files : Files) → AllStand files → files_at (new_past (contents_of files)) ≡ files
laid-files files stand = λ i. record {
  passwd = some-text files.passwd (stand Passwd) i;
  shadow = some-text files.shadow (stand Shadow) i;
  group = some-text files.group (stand Group) i;
  gshadow = some-text files.gshadow (stand Gshadow) i;
  subuid = some-text files.subuid (stand Subuid) i;
  subgid = some-text files.subgid (stand Subgid) i;
}

-- the claim
pub has-files : (deeds : SuiteDeeds) → AreOfTools deeds → (files : Files) (past : Past)
    (contents : List (Name × Bytes)) → AllStand files → contents ≡ contents_of files →
    past ≡ new_past contents → IsFolder past.first → HasFiles files past
has-files deeds ours files past contents stand laid is folder =
    let begins = is ∙ ap new_past laid in
    record {
      lawful = starts-lawfully deeds ours past (ap (λ (one : Past). one.history) is) folder;
      files = ap files_at begins ∙ laid-files files stand;
      settings = ap defs_at begins;
      intent = ap (λ (one : Past). (folder_after one).file Intent) begins;
    }
