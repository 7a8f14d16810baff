-- What the script of a tool that doesn't refuse is (`IsLawful`): it prints only records that read back, those of shadow on
-- a day that shadow(5) holds; it touches no record that the command doesn't name; it sorts only where that is asked for;
-- and it gives no ID where the tool gives none.
use Rattle.std.proofs.Common.{◌≡◌, ℕ, ◌≤◌, Bool, false}
use Rattle.std.specs.List.{AllByRecursion}
use Rattle.account_model.specs.Records.{passwd_format, shadow_format, group_format, gshadow_format, subid_format, greatest_days}
use Rattle.account_model.specs.RecordEdits.{IsWrittenEdit}
use Rattle.account_model.specs.Tables.{Script}
use Rattle.account_model.specs.WrittenScript.{IsWrittenScript}
use Rattle.account_model.specs.NamedLines.{Named}
use Rattle.account_model.proofs.ComposedScripts.{IsComposed}
use Rattle.account_model.proofs.KeptIds.{KeepIds, keep-composed}
use Rattle.account_model.proofs.ListLaws.{all-append}
use Rattle.account_model.proofs.NamedLaws.{SparesUnnamed, spares-composed}

-- each edit prints only records that read back, those of shadow on a day that shadow holds
pub record IsWrittenOn (day : ℕ) (script : Script) : Type 0 where
  pub passwd : AllByRecursion (IsWrittenEdit passwd_format) script.passwd
  pub shadow : day ≤ greatest_days → AllByRecursion (IsWrittenEdit shadow_format) script.shadow
  pub group : AllByRecursion (IsWrittenEdit group_format) script.group
  pub gshadow : AllByRecursion (IsWrittenEdit gshadow_format) script.gshadow
  pub subuid : AllByRecursion (IsWrittenEdit subid_format) script.subuid
  pub subgid : AllByRecursion (IsWrittenEdit subid_format) script.subgid

-- so on such a day each edit does
pub written-small :
    {day : ℕ} {script : Script} → IsWrittenOn day script → day ≤ greatest_days
    → IsWrittenScript script
written-small written small = record {
  passwd = written.passwd;
  shadow = written.shadow small;
  group = written.group;
  gshadow = written.gshadow;
  subuid = written.subuid;
  subgid = written.subgid;
}

-- what such a script prints, what it touches, and what IDs it gives
pub record IsLawful (day : ℕ) (gives sorts : Bool) (named : Named) (script : Script) : Type 0 where
  pub written : IsWrittenOn day script
  pub spares : SparesUnnamed sorts named script
  pub keep : gives ≡ false → KeepIds script

-- a script that prints only records which read back, whatever the day
pub lawful :
    {day : ℕ} {gives sorts : Bool} {named : Named} {script : Script}
    → IsWrittenScript script
    → SparesUnnamed sorts named script
    → (gives ≡ false → KeepIds script)
    → IsLawful day gives sorts named script
lawful written spares keep = record {
  written = record {
    passwd = written.passwd;
    shadow = λ small. written.shadow;
    group = written.group;
    gshadow = written.gshadow;
    subuid = written.subuid;
    subgid = written.subgid;
  };
  spares = spares;
  keep = keep;
}

-- no edits are lawful, and so are two lawful scripts
pub lawful-composed :
    {day : ℕ} {gives sorts : Bool} (named : Named) → IsComposed (IsLawful day gives sorts named)
lawful-composed named = record {
  none = lawful
      (record { passwd = tt; shadow = tt; group = tt; gshadow = tt; subuid = tt; subgid = tt })
      (spares-composed named).none (λ none. keep-composed.none);
  both = λ first second one other. record {
    written = record {
      passwd = all-append _ first.passwd second.passwd one.written.passwd other.written.passwd;
      shadow = λ small. all-append _ first.shadow second.shadow (one.written.shadow small)
          (other.written.shadow small);
      group = all-append _ first.group second.group one.written.group other.written.group;
      gshadow = all-append _ first.gshadow second.gshadow one.written.gshadow
          other.written.gshadow;
      subuid = all-append _ first.subuid second.subuid one.written.subuid other.written.subuid;
      subgid = all-append _ first.subgid second.subgid one.written.subgid other.written.subgid;
    };
    spares = (spares-composed named).both first second one.spares other.spares;
    keep = λ none. keep-composed.both first second (one.keep none) (other.keep none);
  };
}
