-- Claim: what a test accepts is found from its number on as in all (`marked-passing`), and the ID that
-- is asked for is the number of such a test (`uid-of-user` and its likes). Way: a line without
-- the number isn't accepted, as the line of a record has the numbers of the record.
use Rattle.std.proofs.Common.{◌≡◌, ◌∙◌, ℕ, ◌≤◌, Bool, true, false, inl, inr, List, [], ◌∷◌, ◌++◌, length, refl, sym, ap, subst, arith}
use Rattle.std.specs.Prelude.{◌==◌, Option, Some, None, find}
use Rattle.std.specs.Fmt.{decimal}
use Rattle.std.specs.List.{AllByRecursion}
use Rattle.std.proofs.lemmas.Bool.{cases_Bool, eqb-true}
use Rattle.std.proofs.lemmas.List.{length-append}
use Rattle.acct_text.specs.Lines.{Line, lines_of}
use Rattle.account_model.specs.Format.{Format, records_of}
use Rattle.account_model.specs.Records.{group_format, passwd_format}
use Rattle.acct_tables.specs.Marks.{HoldsMark, IsFromMark, IsWithout}
use Rattle.acct_tables.proofs.FieldMarks.{holds-gid, holds-primary, holds-uid}
use Rattle.table.specs.Accepting.{IsNumberOf, is_accepted}
use Rattle.table.proofs.RecordLemmas.{find-refused}

module _ {R : Type 0} (format : Format R) (test : R → Bool) (number : ℕ) where
  module _ (is : IsNumberOf format test number) where
    -- lines without the number have no record that is accepted
    front-passing :
        (front later : List Line)
        → AllByRecursion (λ line. IsWithout (decimal number) line.text) front
        → find test (records_of format (front ++ later)) ≡ find test (records_of format later)
    front-passing [] later without = refl
    front-passing (line ∷ front) later without =
        find-refused test (format.read line.text) (records_of format (front ++ later))
        (is line.text without.0)
        ∙ front-passing front later without.1

    -- what is found from the number on is what is found in all
    pub marked-passing :
        (text rest : List ℕ)
        → IsFromMark (decimal number) text rest
        → find test (records_of format (lines_of rest))
        ≡ find test (records_of format (lines_of text))
    marked-passing text rest from =
        sym (ap (λ lines. find test (records_of format lines)) from.joined
        ∙ front-passing from.front (lines_of rest) from.without)

  -- a number is that of a test by what a line reads as
  by-read :
      (field : R → ℕ) (line : List ℕ) (found : Option R)
      → format.read line ≡ found
      → ((r : R) → format.read line ≡ Some r → HoldsMark (decimal (field r)) line)
      → ((r : R) → test r ≡ true → field r ≡ number)
      → IsWithout (decimal number) line
      → is_accepted test found ≡ false
  by-read field line None read holds tests without = refl
  by-read field line (Some r) read holds tests without = elim (cases_Bool (test r)) [
    | inl passes ↦ absurd (without
        (subst (λ n. HoldsMark (decimal n) line) (tests r passes) (holds r read)))
    | inr fails ↦ fails
  ]

  -- a number in the line of each record that the test accepts is its number
  pub number-of :
      (field : R → ℕ)
      → ((line : List ℕ) (r : R) → format.read line ≡ Some r → HoldsMark (decimal (field r)) line)
      → ((r : R) → test r ≡ true → field r ≡ number)
      → IsNumberOf format test number
  number-of field holds tests = λ line without.
      by-read field line (format.read line) refl (holds line) tests without

-- fewer lines are left from a mark on
pub marked-fewer :
    (mark text rest : List ℕ)
    → IsFromMark mark text rest
    → length (lines_of rest) ≤ length (lines_of text)
marked-fewer mark text rest from =
    let size = ap length from.joined ∙ length-append from.front (lines_of rest) in
    omega (arith, size)

-- the UID of users
pub uid-of-user : (uid : ℕ) → IsNumberOf passwd_format (λ user. user.uid == uid) uid
uid-of-user uid = number-of passwd_format (λ user. user.uid == uid) uid (λ user. user.uid)
    holds-uid (λ user same. eqb-true user.uid uid same)

-- the primary GID of users
pub gid-of-user : (gid : ℕ) → IsNumberOf passwd_format (λ user. user.gid == gid) gid
gid-of-user gid = number-of passwd_format (λ user. user.gid == gid) gid (λ user. user.gid)
    holds-primary (λ user same. eqb-true user.gid gid same)

-- the GID of groups
pub gid-of-group : (gid : ℕ) → IsNumberOf group_format (λ group. group.gid == gid) gid
gid-of-group gid = number-of group_format (λ group. group.gid == gid) gid (λ group. group.gid)
    holds-gid (λ group same. eqb-true group.gid gid same)
