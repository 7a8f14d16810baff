-- Claim: what was read of nine fields is the record of shadow(5) that the line is (`shadow-read`).
use Rattle.std.proofs.Common.{◌≡◌, ℕ, List, [], ◌∷◌, length, refl, sym, ◌∙◌, ap, arith, Option, Some, None}
use Rattle.std.specs.Option.{option_or}
use Rattle.account_model.specs.declared.fault.LineFault.{LineFault}
use Rattle.account_model.specs.declared.fault.LineFault.TheVariants.{BadNumber}
use Rattle.account_model.specs.declared.records.ShadowRecord.{ShadowRecord}
use Rattle.account_model.specs.Records.{read_days, shadow_of_fields, shadow_with, shadow_format}
use Rattle.account_model.specs.Faults.{field_at, name_fault}
use Rattle.acct_lines.specs.Fields.{IsFieldRead}
use Rattle.acct_lines.proofs.FirstFault.{named-clear, read-clear}
use Rattle.acct_lines.proofs.Taken.{AreTakenOf}

-- the record of nine fields, by their places
fields-at :
    (fields : List (List ℕ))
    → length fields ≡ 9
    → shadow_of_fields fields
    ≡ shadow_with (field_at 1 fields) (field_at 2 fields)
    (read_days (field_at 3 fields)) (read_days (field_at 4 fields)) (read_days (field_at 5 fields))
    (read_days (field_at 6 fields)) (read_days (field_at 7 fields)) (read_days (field_at 8 fields))
    (field_at 9 fields)
fields-at
    (name ∷ hash ∷ last_change ∷ minimum ∷ maximum ∷ warning ∷ inactive ∷ expiration ∷ rest ∷ [])
    counted = refl
fields-at fields counted = absurd (omega (arith, counted))

-- the record that was read of a line with nine fields
pub shadow-read :
    (line : List ℕ) (fields : List (List ℕ)) (r : ShadowRecord)
    {counted third fourth fifth sixth seventh last : Option LineFault}
    → AreTakenOf 9 line fields counted
    → IsFieldRead (read_days (field_at 3 fields)) (BadNumber 3) counted third r.last_change
    → IsFieldRead (read_days (field_at 4 fields)) (BadNumber 4) third fourth r.minimum
    → IsFieldRead (read_days (field_at 5 fields)) (BadNumber 5) fourth fifth r.maximum
    → IsFieldRead (read_days (field_at 6 fields)) (BadNumber 6) fifth sixth r.warning
    → IsFieldRead (read_days (field_at 7 fields)) (BadNumber 7) sixth seventh r.inactive
    → IsFieldRead (read_days (field_at 8 fields)) (BadNumber 8) seventh last r.expiration
    → None ≡ option_or last (name_fault (r.name ∷ []))
    → r.name ≡ field_at 1 fields
    → r.hash ≡ field_at 2 fields
    → r.rest ≡ field_at 9 fields
    → shadow_format.read line ≡ Some r
shadow-read line fields r taken last_change minimum maximum warning inactive expiration
    clear name hash rest =
    let named = named-clear _ clear in
    let eighth = read-clear expiration named.0 in
    let seventh = read-clear inactive eighth.0 in
    let sixth = read-clear warning seventh.0 in
    let fifth = read-clear maximum sixth.0 in
    let fourth = read-clear minimum fifth.0 in
    let third = read-clear last_change fourth.0 in
    let are = taken.all third.0 in
    ap shadow_of_fields (sym are.cut) ∙ fields-at fields are.counted
    ∙ rw (
      ← name,
      ← hash,
      ← rest,
      third.1,
      fourth.1,
      fifth.1,
      sixth.1,
      seventh.1,
      eighth.1,
      named.1,
    ) refl
