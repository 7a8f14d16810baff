-- Claim: a deed leaves the lines that its command doesn't name (`deeds-leave-unnamed`). Way: such a line isn't touched
-- (`unnamed-within`), and untouched lines stay.
use Rattle.std.proofs.Common.{◌≡◌, Bool, true, false, not, List, ap, refl, arith}
use Rattle.std.specs.Prelude.{Option, Some, None}
use Rattle.std.proofs.lemmas.Bool.{not-true}
use Rattle.acct_text.specs.declared.files.Files.{Files}
use Rattle.acct_text.specs.Lines.{Line}
use Rattle.account_model.specs.Format.{Format}
use Rattle.account_model.specs.Edits.{Edit, touches}
use Rattle.account_model.specs.Records.{passwd_format, shadow_format, group_format, gshadow_format, subid_format}
use Rattle.account_model.specs.Tables.{Script, table_lines}
use Rattle.account_model.specs.TouchedLines.{AreAmong, is_untouched, untouched_texts}
use Rattle.account_model.specs.DeedLines.{LeaveUntouched, LeavesUntouched, edits_of_deed}
use Rattle.account_model.specs.NamedLines.{DeedsLeaveUnnamed, LeaveUnnamed, LeavesUnnamed, Named, TouchNamed, is_unnamed, named_by_deed, names_group, names_gshadow, names_passwd, names_shadow, names_subid, unnamed_texts}
use Rattle.account_model.proofs.NamedDeeds.{deeds-touch-named}
use Rattle.account_model.proofs.TextTimes.{within-times}
use Rattle.account_model.proofs.UntouchedDeeds.{deeds-leave-untouched}
use Rattle.account_model.proofs.UntouchedLaws.{weaker-within, within-within}

module _ {R : Type 0} (format : Format R) (names : R → Bool) (edits : List (Edit R))
    (touch : (r : R) → names r ≡ false → touches format edits r ≡ false) where
  -- a line that isn't named isn't touched, by what it reads
  line-by :
      (o : Option R)
      → elim o as (λ r. Bool) [ None ↦ true | Some r ↦ not (names r) ] ≡ true
      → elim o as (λ r. Bool) [ None ↦ true | Some r ↦ not (touches format edits r) ] ≡ true
  line-by None is = refl
  line-by (Some r) is = ap not (touch r (not-true (names r) is))

  -- so the texts of such lines are within those of untouched lines
  unnamed-within :
      (lines : List Line)
      → AreAmong (unnamed_texts format names lines) (untouched_texts format edits lines)
  unnamed-within lines = weaker-within (is_unnamed format names) (is_untouched format edits) lines
      (λ line is. line-by (format.read line.text) is)

  -- and stay as these do
  table-stays :
      (old new : List Line)
      → LeavesUntouched format edits old new
      → LeavesUnnamed format names edits old new
  table-stays old new leaves = record {
    stay = λ text. omega (arith, within-times text (unnamed-within old), leaves.stay text);
    in_order = λ keep. within-within (unnamed-within old) (leaves.in_order keep);
  }

-- in each table
pub files-leave :
    (named : Named) (edits : Script) (old new : Files)
    → TouchNamed named edits
    → LeaveUntouched edits old new
    → LeaveUnnamed named edits old new
files-leave named edits old new touch leave = record {
  passwd = table-stays passwd_format (names_passwd named) edits.passwd touch.passwd
      (table_lines old.passwd) (table_lines new.passwd) leave.passwd;
  shadow = table-stays shadow_format (names_shadow named) edits.shadow touch.shadow
      (table_lines old.shadow) (table_lines new.shadow) leave.shadow;
  group = table-stays group_format (names_group named) edits.group touch.group
      (table_lines old.group) (table_lines new.group) leave.group;
  gshadow = table-stays gshadow_format (names_gshadow named) edits.gshadow touch.gshadow
      (table_lines old.gshadow) (table_lines new.gshadow) leave.gshadow;
  subuid = table-stays subid_format (names_subid named) edits.subuid touch.subuid
      (table_lines old.subuid) (table_lines new.subuid) leave.subuid;
  subgid = table-stays subid_format (names_subid named) edits.subgid touch.subgid
      (table_lines old.subgid) (table_lines new.subgid) leave.subgid;
}

-- the claim
pub deeds-leave-unnamed : DeedsLeaveUnnamed
deeds-leave-unnamed request input day old defs new in_time e =
    files-leave (named_by_deed request input day old defs)
    (edits_of_deed request input day old defs) old new
    (deeds-touch-named request input day old defs)
    (deeds-leave-untouched request input day old defs new in_time e).leave
