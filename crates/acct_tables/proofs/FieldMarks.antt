-- Claim: the line of a user has the decimal text of its UID and of its primary GID (`holds-uid`,
-- `holds-primary`), and that of a group the text of its GID (`holds-gid`). Way: a line has what each
-- of its fields has (`joined-first`, `joined-rest`), and a number with zeros in front of it has its
-- decimal text (`holds-number`).
use Rattle.std.proofs.Common.{◌≡◌, ℕ, ◌^◌, ◌<◌, inl, inr, List, [], ◌∷◌, length, sym, ap, subst, arith, lt_irrefl, append-nil, get_or, nat_eq}
use Rattle.std.specs.Prelude.{Some}
use Rattle.std.specs.Fmt.{decimal}
use Rattle.std.specs.List.{join_with_byte}
use Rattle.std.specs.Str.Parse.{AllDigits, digits_value}
use Rattle.std.proofs.lemmas.Bool.{both_ways, cases_Bool, eq-eqb, eqb-true}
use Rattle.std.proofs.lemmas.Fmt.{decimal-digits_value}
use Rattle.std.proofs.lemmas.Str.Parse.{IsNumeralModel, numerals_by_value, tells_digits}
use Rattle.acct_text.specs.Bytes.{colon}
use Rattle.acct_text.specs.Numbers.{IsNumber}
use Rattle.account_model.specs.Records.{greatest_id, group_format, passwd_format}
use Rattle.account_model.specs.declared.records.GroupRecord.{GroupRecord}
use Rattle.account_model.specs.declared.records.PasswdRecord.{PasswdRecord}
use Rattle.account_model.proofs.ReadsLaws.{group-is, passwd-is}
use Rattle.acct_tables.specs.Marks.{HoldsMark}
use Rattle.acct_tables.proofs.MarkLemmas.{holds-back, holds-front}

module _ (mark : List ℕ) (separator : ℕ) (piece : List ℕ) where
  -- pieces that are joined have what the first has
  pub joined-first :
      (rest : List (List ℕ)) → HoldsMark mark piece →
      HoldsMark mark (join_with_byte separator (piece ∷ rest))
  joined-first [] holds = holds
  joined-first (next ∷ rest) holds =
      holds-front mark piece (separator ∷ join_with_byte separator (next ∷ rest)) holds

  -- and what the others have
  pub joined-rest :
      (rest : List (List ℕ))
      → HoldsMark mark (join_with_byte separator rest)
      → HoldsMark mark (join_with_byte separator (piece ∷ rest))
  joined-rest [] holds = subst (HoldsMark mark) (append-nil piece) (holds-back mark piece [] holds)
  joined-rest (next ∷ rest) holds =
      let later = join_with_byte separator (next ∷ rest) in
      holds-back mark piece (separator ∷ later) (holds-back mark (separator ∷ []) later holds)

-- a text has itself
pub holds-self : (text : List ℕ) → HoldsMark text text
holds-self text = record { before = []; behind = []; is = sym (append-nil text) }

-- ---- Numbers

-- the digits of std are these
own : IsNumeralModel (AllDigits 10) (digits_value 10)
own = numerals_by_value (AllDigits 10) tells_digits

-- digits without a zero in front
holds-written :
    (digits : List ℕ)
    → AllDigits 10 digits
    → 0 < length digits
    → (get_or digits 0 0 ≡ 48 → length digits ≡ 1)
    → digits_value 10 digits < 2 ^ 64
    → HoldsMark (decimal (digits_value 10 digits)) digits
holds-written digits all some alone small =
    subst (λ written. HoldsMark written digits)
    (sym (decimal-digits_value own digits all some alone small))
    (holds-self digits)

-- digits have the decimal text of their value
holds-value :
    (digits : List ℕ)
    → AllDigits 10 digits
    → 0 < length digits
    → digits_value 10 digits < 2 ^ 64
    → HoldsMark (decimal (digits_value 10 digits)) digits
holds-value [] all some small = absurd (lt_irrefl 0 some)
holds-value (digit ∷ []) all some small =
    holds-written (digit ∷ []) all some (λ _. omega arith) small
holds-value (digit ∷ next ∷ rest) all some small = elim (cases_Bool (nat_eq digit 48)) [
  | inl zero_is ↦
      let is : digit ≡ 48 = eqb-true digit 48 zero_is in
      let same : digits_value 10 (digit ∷ next ∷ rest) ≡ digits_value 10 (next ∷ rest) =
      ap (λ d. digits_value 10 (d ∷ next ∷ rest)) is in
      subst (λ value. HoldsMark (decimal value) (digit ∷ next ∷ rest)) (sym same)
      (holds-back (decimal (digits_value 10 (next ∷ rest))) (digit ∷ []) (next ∷ rest)
      (holds-value (next ∷ rest) all.1 (omega arith) (omega (arith, same, small))))
  | inr other ↦ holds-written (digit ∷ next ∷ rest) all some
      (λ starts. absurd (both_ways (nat_eq digit 48) other (eq-eqb digit 48 starts))) small
]

-- a number has its decimal text, behind zeros
holds-number :
    (bound : ℕ) (text : List ℕ) (number : ℕ)
    → bound < 2 ^ 64
    → IsNumber bound text number
    → HoldsMark (decimal number) text
holds-number bound text number small is =
    subst (λ value. HoldsMark (decimal value) text) is.value
    (holds-value text is.digits.1 is.digits.0 (omega (arith, is.value, is.bounded, small)))

-- ---- Lines

module _ (line : List ℕ) (user : PasswdRecord) (read : passwd_format.read line ≡ Some user) where
  -- the line of a user has its UID
  pub holds-uid : HoldsMark (decimal user.uid) line
  holds-uid =
      let reads = passwd-is line user read in
      let mark = decimal user.uid in
      let behind = reads.gid ∷ user.comment ∷ user.home ∷ user.shell ∷ [] in
      subst (HoldsMark mark) reads.cut.joined
      (joined-rest mark colon user.name (user.password ∷ reads.uid ∷ behind)
      (joined-rest mark colon user.password (reads.uid ∷ behind)
      (joined-first mark colon reads.uid behind
      (holds-number greatest_id reads.uid user.uid (omega arith) reads.uid_reads))))

  -- and its primary GID
  pub holds-primary : HoldsMark (decimal user.gid) line
  holds-primary =
      let reads = passwd-is line user read in
      let mark = decimal user.gid in
      let behind = user.comment ∷ user.home ∷ user.shell ∷ [] in
      subst (HoldsMark mark) reads.cut.joined
      (joined-rest mark colon user.name (user.password ∷ reads.uid ∷ reads.gid ∷ behind)
      (joined-rest mark colon user.password (reads.uid ∷ reads.gid ∷ behind)
      (joined-rest mark colon reads.uid (reads.gid ∷ behind)
      (joined-first mark colon reads.gid behind
      (holds-number greatest_id reads.gid user.gid (omega arith) reads.gid_reads)))))

-- the line of a group has its GID
pub holds-gid :
    (line : List ℕ) (group : GroupRecord)
    → group_format.read line ≡ Some group
    → HoldsMark (decimal group.gid) line
holds-gid line group read =
    let reads = group-is line group read in
    let mark = decimal group.gid in
    subst (HoldsMark mark) reads.cut.joined
    (joined-rest mark colon group.name (group.password ∷ reads.gid ∷ reads.members ∷ [])
    (joined-rest mark colon group.password (reads.gid ∷ reads.members ∷ [])
    (joined-first mark colon reads.gid (reads.members ∷ [])
    (holds-number greatest_id reads.gid group.gid (omega arith) reads.gid_reads))))
