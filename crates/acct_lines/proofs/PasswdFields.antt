-- Claim: what was read of seven fields is the record of passwd(5) that the line is (`passwd-read`).
use Rattle.std.proofs.Common.{◌≡◌, ℕ, List, [], ◌∷◌, length, refl, sym, ◌∙◌, ap, arith, Option, Some, None}
use Rattle.std.specs.Option.{option_or}
use Rattle.account_model.specs.declared.fault.LineFault.{LineFault}
use Rattle.account_model.specs.declared.fault.LineFault.TheVariants.{BadNumber}
use Rattle.account_model.specs.declared.records.PasswdRecord.{PasswdRecord}
use Rattle.account_model.specs.Records.{read_id, passwd_of_fields, passwd_with, passwd_format}
use Rattle.account_model.specs.Faults.{field_at, name_fault}
use Rattle.acct_lines.specs.Fields.{IsFieldRead}
use Rattle.acct_lines.proofs.FirstFault.{named-clear, read-clear}
use Rattle.acct_lines.proofs.Taken.{AreTakenOf}

-- the record of seven fields, by their places
fields-at :
    (fields : List (List ℕ))
    → length fields ≡ 7
    → passwd_of_fields fields
    ≡ passwd_with (field_at 1 fields) (field_at 2 fields) (read_id (field_at 3 fields))
    (read_id (field_at 4 fields)) (field_at 5 fields) (field_at 6 fields) (field_at 7 fields)
fields-at (name ∷ password ∷ uid ∷ gid ∷ comment ∷ home ∷ shell ∷ []) counted = refl
fields-at fields counted = absurd (omega (arith, counted))

-- the record that was read of a line with seven fields
pub passwd-read :
    (line : List ℕ) (fields : List (List ℕ)) (r : PasswdRecord)
    {counted third last : Option LineFault}
    → AreTakenOf 7 line fields counted
    → IsFieldRead (read_id (field_at 3 fields)) (BadNumber 3) counted third r.uid
    → IsFieldRead (read_id (field_at 4 fields)) (BadNumber 4) third last r.gid
    → None ≡ option_or last (name_fault (r.name ∷ []))
    → r.name ≡ field_at 1 fields
    → r.password ≡ field_at 2 fields
    → r.comment ≡ field_at 5 fields
    → r.home ≡ field_at 6 fields
    → r.shell ≡ field_at 7 fields
    → passwd_format.read line ≡ Some r
passwd-read line fields r taken uid gid clear name password comment home shell =
    let named = named-clear _ clear in
    let gid = read-clear gid named.0 in
    let uid = read-clear uid gid.0 in
    let are = taken.all uid.0 in
    ap passwd_of_fields (sym are.cut) ∙ fields-at fields are.counted
    ∙ rw (← name, ← password, ← comment, ← home, ← shell, uid.1, gid.1, named.1) refl
