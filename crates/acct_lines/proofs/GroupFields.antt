-- Claim: what was read of four fields is the record of group(5) that the line is (`group-read`).
use Rattle.std.proofs.Common.{◌≡◌, ℕ, List, [], ◌∷◌, length, refl, sym, ◌∙◌, ap, arith, Option, Some, None}
use Rattle.std.specs.Prelude.{option_map, if◌then◌else◌}
use Rattle.std.specs.Option.{option_or}
use Rattle.account_model.specs.declared.fault.LineFault.{LineFault}
use Rattle.account_model.specs.declared.fault.LineFault.TheVariants.{BadNumber}
use Rattle.account_model.specs.declared.records.GroupRecord.{GroupRecord}
use Rattle.acct_text.specs.Bytes.{is_empty}
use Rattle.account_model.specs.Records.{read_id, read_names, group_of_fields, group_format}
use Rattle.account_model.specs.Faults.{field_at, name_fault}
use Rattle.acct_lines.specs.Fields.{IsFieldRead}
use Rattle.acct_lines.proofs.FirstFault.{named-clear, read-clear}
use Rattle.acct_lines.proofs.Taken.{AreTakenOf}

-- the record of four fields, by their places
fields-at :
    (fields : List (List ℕ))
    → length fields ≡ 4
    → group_of_fields fields
    ≡ (if is_empty (field_at 1 fields) then None else option_map (λ gid. record {
      name = field_at 1 fields;
      password = field_at 2 fields;
      gid = gid;
      members = read_names (field_at 4 fields);
    }) (read_id (field_at 3 fields)))
fields-at (name ∷ password ∷ gid ∷ members ∷ []) counted = refl
fields-at fields counted = absurd (omega (arith, counted))

-- the record that was read of a line with four fields
pub group-read :
    (line : List ℕ) (fields : List (List ℕ)) (r : GroupRecord) {counted last : Option LineFault}
    → AreTakenOf 4 line fields counted
    → IsFieldRead (read_id (field_at 3 fields)) (BadNumber 3) counted last r.gid
    → None ≡ option_or last (name_fault (r.name ∷ []))
    → r.name ≡ field_at 1 fields
    → r.password ≡ field_at 2 fields
    → r.members ≡ read_names (field_at 4 fields)
    → group_format.read line ≡ Some r
group-read line fields r taken gid clear name password members =
    let named = named-clear _ clear in
    let gid = read-clear gid named.0 in
    let are = taken.all gid.0 in
    ap group_of_fields (sym are.cut) ∙ fields-at fields are.counted
    ∙ rw (← name, ← password, ← members, gid.1, named.1) refl
