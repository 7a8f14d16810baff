-- Claim: each of the five formats is a line format (`passwd-is_format` and its likes).
-- Way: what is read can be held by a line, and what a line can hold is printed so that it is
-- read again (`HeldLaws`); that equality is told is `SameLaws`, that faults are, `FaultLaws`.
use Rattle.std.proofs.Common.{◌≡◌, ℕ, List}
use Rattle.std.specs.Prelude.{Option, is_some, is_none}
use Rattle.account_model.specs.declared.fault.LineFault.{LineFault}
use Rattle.account_model.specs.Format.{Format}
use Rattle.account_model.specs.Records.{passwd_format, shadow_format, group_format, gshadow_format, subid_format}
use Rattle.account_model.specs.Faults.{passwd_fault, shadow_fault, group_fault, gshadow_fault, subid_fault}
use Rattle.account_model.specs.RecordEdits.{TellsSame}
use Rattle.account_model.specs.Written.{Holds, IsPasswd, IsShadow, IsGroup, IsGshadow, IsSubid}
use Rattle.account_model.specs.LineFormat.{IsLineFormat}
use Rattle.account_model.proofs.FaultLaws.{passwd-fault, shadow-fault, group-fault, gshadow-fault, subid-fault}
use Rattle.account_model.proofs.HeldLaws.{passwd-holds, shadow-holds, group-holds, gshadow-holds, subid-holds}
use Rattle.account_model.proofs.SameLaws.{passwd-tells, shadow-tells, group-tells, gshadow-tells, subid-tells}

-- the parts of a line format, where what is read can be held and what is held can be written
is_format :
    {R : Type 0} (format : Format R) (fault : List ℕ → Option LineFault) (IsRecord : R → Type 0)
    → TellsSame format
    → Holds format IsRecord
    → ((text : List ℕ) → is_some (format.read text) ≡ is_none (fault text))
    → IsLineFormat format fault
is_format format fault IsRecord same holds faulted = record {
  same = same;
  written = λ text r one_line reads. holds.written r (holds.read text r one_line reads);
  faulted = faulted;
}

-- passwd(5)
pub passwd-is_format : IsLineFormat passwd_format passwd_fault
passwd-is_format = is_format passwd_format passwd_fault IsPasswd passwd-tells
    passwd-holds passwd-fault

-- shadow(5)
pub shadow-is_format : IsLineFormat shadow_format shadow_fault
shadow-is_format = is_format shadow_format shadow_fault IsShadow shadow-tells
    shadow-holds shadow-fault

-- group(5)
pub group-is_format : IsLineFormat group_format group_fault
group-is_format = is_format group_format group_fault IsGroup group-tells group-holds group-fault

-- gshadow(5)
pub gshadow-is_format : IsLineFormat gshadow_format gshadow_fault
gshadow-is_format =
    is_format gshadow_format gshadow_fault IsGshadow gshadow-tells gshadow-holds gshadow-fault

-- subuid(5) and subgid(5)
pub subid-is_format : IsLineFormat subid_format subid_fault
subid-is_format = is_format subid_format subid_fault IsSubid subid-tells subid-holds subid-fault
