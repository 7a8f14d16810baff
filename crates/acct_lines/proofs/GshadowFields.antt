-- Claim: what was read of four fields is the record of gshadow(5) that the line is
-- (`gshadow-read`).
use Rattle.std.proofs.Common.{◌≡◌, ℕ, List, [], ◌∷◌, length, refl, sym, ◌∙◌, ap, arith, Option, Some, None}
use Rattle.std.specs.Prelude.{if◌then◌else◌}
use Rattle.std.specs.Option.{option_or}
use Rattle.account_model.specs.declared.fault.LineFault.{LineFault}
use Rattle.account_model.specs.declared.records.GshadowRecord.{GshadowRecord}
use Rattle.acct_text.specs.Bytes.{is_empty}
use Rattle.account_model.specs.Records.{read_names, gshadow_of_fields, gshadow_format}
use Rattle.account_model.specs.Faults.{field_at, name_fault}
use Rattle.acct_lines.proofs.FirstFault.{named-clear}
use Rattle.acct_lines.proofs.Taken.{AreTakenOf}

-- the record of four fields, by their places
fields-at :
    (fields : List (List ℕ))
    → length fields ≡ 4
    → gshadow_of_fields fields
    ≡ (if is_empty (field_at 1 fields) then None else Some (record {
      name = field_at 1 fields;
      password = field_at 2 fields;
      administrators = read_names (field_at 3 fields);
      members = read_names (field_at 4 fields);
    }))
fields-at (name ∷ password ∷ administrators ∷ members ∷ []) counted = refl
fields-at fields counted = absurd (omega (arith, counted))

-- the record that was read of a line with four fields
pub gshadow-read :
    (line : List ℕ) (fields : List (List ℕ)) (r : GshadowRecord) {counted : Option LineFault}
    → AreTakenOf 4 line fields counted
    → None ≡ option_or counted (name_fault (r.name ∷ []))
    → r.name ≡ field_at 1 fields
    → r.password ≡ field_at 2 fields
    → r.administrators ≡ read_names (field_at 3 fields)
    → r.members ≡ read_names (field_at 4 fields)
    → gshadow_format.read line ≡ Some r
gshadow-read line fields r taken clear name password administrators members =
    let named = named-clear _ clear in
    let are = taken.all named.0 in
    ap gshadow_of_fields (sym are.cut) ∙ fields-at fields are.counted
    ∙ rw (← name, ← password, ← administrators, ← members, named.1) refl
