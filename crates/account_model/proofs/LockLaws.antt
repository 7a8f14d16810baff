-- Claim: in the table that has the hash of a user, the lock of an open hash and then its unlock give back the bytes
-- (`unlocked-again`), touch no multiple name (`unlock-single`), and the locked record is found in between
-- (`locked-found`). Way: the lock touches the first record of the user, so that is the only one (`only-one`); its line is
-- printed locked and printed again as it was (`line-again`).
use Rattle.std.proofs.Common.{◌≡◌, ℕ, ◌+◌, ◌<◌, Bool, true, false, List, [], ◌∷◌, ◌++◌, map, refl, sym, ◌∙◌, ap, subst, inl, inr, arith, true≢false, append-nil}
use Rattle.std.specs.Prelude.{Option, Some, None, ◌&&◌, bytes_eq, count_by, find, nat_le, option_map, ⊤, if◌then◌else◌}
use Rattle.std.specs.List.{AllByRecursion, cons_option}
use Rattle.std.proofs.lemmas.Bool.{cases_Bool, leb-false}
use Rattle.std.proofs.lemmas.Grind.{flat_map-append}
use Rattle.std.proofs.lemmas.List.Concat.{flat_map_single}
use Rattle.std.proofs.lemmas.List.Sums.{sum_by-cons}
use Rattle.std.proofs.lemmas.Slice.Eq.{bytes_eq-Decides}
use Rattle.acct_text.specs.Bytes.{newline}
use Rattle.acct_text.specs.Pieces.{Lacks}
use Rattle.acct_text.specs.Lines.{Line, lines_of, file_bytes}
use Rattle.account_model.specs.Text.{begins_with, exclamation}
use Rattle.account_model.specs.Format.{Format, is_named, find_named, count_named, records_of}
use Rattle.account_model.specs.Edits.{Edit, each_where, becomes, line_becomes, edited, touches, is_multiple, first_multiple}
use Rattle.account_model.specs.RecordEdits.{IsWrittenEdit, TellsSame}
use Rattle.account_model.specs.Tables.{table_records, table_after}
use Rattle.account_model.specs.UsermodHash.{locked_hash, unlocked_hash}
use Rattle.account_model.specs.Written.{IsWritten}
use Rattle.account_model.specs.PasswdLaws.{AreCanonical}
use Rattle.acct_text.proofs.LinesLaws.{lines_of-are}
use Rattle.acct_text.proofs.NumberLaws.{some-inj}
use Rattle.account_model.proofs.ConversionLaws.{any-records}
use Rattle.account_model.proofs.EditLines.{table-edited}
use Rattle.account_model.proofs.RefusalFacts.{find-held}
use Rattle.account_model.proofs.UntouchedDeeds.{table-then}

-- ---- The first that passes, and how many pass

-- the first that passes a test fails one that all fail
fails-both :
    {R : Type 0} (p q : R → Bool) (records : List R) (r : R)
    → find p records ≡ Some r
    → find q records ≡ None
    → q r ≡ false
fails-both p q [] r found none = cc
fails-both p q (first ∷ records) r found none =
    by (p first) (q first) refl found none (fails-both p q records r)
  where
    by :
        (b c : Bool)
        → q first ≡ c
        → (if b then Some first else find p records) ≡ Some r
        → (if c then Some first else find q records) ≡ None
        → (find p records ≡ Some r → find q records ≡ None → q r ≡ false)
        → q r ≡ false
    by b true is found none later = cc
    by true false is found none later = subst (λ s. q s ≡ false) (some-inj found) is
    by false false is found none later = later found none

-- so many pass of one more
count-more :
    {R : Type 0} (test : R → Bool) (r : R) (records : List R) {most : ℕ}
    → count_by test (r ∷ records) < most
    → (if test r then 1 else 0) + count_by test records < most
count-more test r records few =
    rw (sum_by-cons (λ s. if test s then 1 else 0) r records) at few

-- where no more pass, none behind does
none-pass :
    {R : Type 0} (test : R → Bool) (P : R → Type 0) (records : List R)
    → count_by test records < 1
    → AllByRecursion (λ r. test r ≡ true → P r) records
none-pass test P [] few = tt
none-pass test P (r ∷ records) few =
    by (test r) refl (count-more test r records few) (none-pass test P records)
  where
    by :
        (b : Bool)
        → test r ≡ b
        → (if b then 1 else 0) + count_by test records < 1
        → (count_by test records < 1 → AllByRecursion (λ r. test r ≡ true → P r) records)
        → AllByRecursion (λ r. test r ≡ true → P r) (r ∷ records)
    by true is few later = absurd (omega (arith, few))
    by false is few later = ((λ passes. cc), later (omega (arith, few)))

-- the first that passes is the only one, where no two do
only-one :
    {R : Type 0} (test : R → Bool) (records : List R) (one : R)
    → find test records ≡ Some one
    → count_by test records < 2
    → AllByRecursion (λ r. test r ≡ true → r ≡ one) records
only-one test [] one found few = tt
only-one test (r ∷ records) one found few =
    by (test r) refl found (count-more test r records few) (only-one test records one)
  where
    by :
        (b : Bool)
        → test r ≡ b
        → (if b then Some r else find test records) ≡ Some one
        → (if b then 1 else 0) + count_by test records < 2
        → (find test records ≡ Some one → count_by test records < 2
        → AllByRecursion (λ r. test r ≡ true → r ≡ one) records)
        → AllByRecursion (λ r. test r ≡ true → r ≡ one) (r ∷ records)
    by true is found few later =
        ((λ passes. some-inj found), none-pass test (λ r. r ≡ one) records (omega (arith, few)))
    by false is found few later = ((λ passes. cc), later found (omega (arith, few)))

-- nothing under a function
pub unmapped : {X Y : Type 0} (f : X → Y) (o : Option X) → option_map f o ≡ None → o ≡ None
unmapped f None none = refl
unmapped f (Some x) none = cc

-- a count that isn't 2 or more
below-two : (count : ℕ) → nat_le 2 count ≡ false → count < 2
below-two count is = leb-false 2 count is

-- nothing and another test
and-false : (b : Bool) → (b && false) ≡ false
and-false true = refl
and-false false = refl

-- ---- A lock in one table

module _ {R : Type 0} (format : Format R) (tells : TellsSame format)
    (blank : format.read [] ≡ None) (hash : R → List ℕ) (with_hash : List ℕ → R → R)
    (name_of : (text : List ℕ) (r : R) → format.name (with_hash text r) ≡ format.name r)
    (hash_of : (text : List ℕ) (r : R) → hash (with_hash text r) ≡ text)
    (again : (text old : List ℕ) (r : R) → with_hash text (with_hash old r) ≡ with_hash text r)
    (own : (r : R) → with_hash (hash r) r ≡ r) (user : List ℕ) where
  -- a record with a changed hash
  abbrev changed : (List ℕ → List ℕ) → R → R
  changed f r = with_hash (f (hash r)) r

  -- what becomes of a record
  abbrev changes : (List ℕ → List ℕ) → R → List R
  changes f r = (if is_named format user r then changed f r else r) ∷ []

  -- the edit of the user's hash
  abbrev edit_of : (List ℕ → List ℕ) → Edit R
  edit_of f = each_where (is_named format user) (changed f)

  -- equal records
  same-self : (r : R) → format.same r r ≡ true
  same-self r = (tells r r).1 refl

  -- what is unlocked again
  unlocked-hash : (text : List ℕ) → begins_with exclamation text ≡ false
      → unlocked_hash (locked_hash text) ≡ text
  unlocked-hash text unlocked = rw (locked_hash, unlocked) refl

  -- the record is as it was
  changed-back : (r : R) → begins_with exclamation (hash r) ≡ false
      → changed unlocked_hash (changed locked_hash r) ≡ r
  changed-back r unlocked =
      rw (
        hash_of (locked_hash (hash r)) r,
        unlocked-hash (hash r) unlocked,
        again (hash r) (locked_hash (hash r)) r,
      ) (own r)

  -- and it is another one in between
  lock-differs : (r : R) → begins_with exclamation (hash r) ≡ false
      → format.same r (changed locked_hash r) ≡ false
  lock-differs r unlocked = elim (cases_Bool (format.same r (changed locked_hash r))) [
    | inl same ↦
        let begins : begins_with exclamation (hash (changed locked_hash r)) ≡ true =
        rw (hash_of (locked_hash (hash r)) r, locked_hash, unlocked) refl
        in absurd (true≢false (sym begins
        ∙ ap (λ s. begins_with exclamation (hash s))
        (sym ((tells r (changed locked_hash r)).0 same))
        ∙ unlocked))
    | inr differ ↦ differ
  ]

  -- both ways
  unlock-differs : (r : R) → begins_with exclamation (hash r) ≡ false
      → format.same (changed locked_hash r) r ≡ false
  unlock-differs r unlocked = elim (cases_Bool (format.same (changed locked_hash r) r)) [
    | inl same ↦
        absurd (true≢false (sym ((tells r (changed locked_hash r)).1
        (sym ((tells (changed locked_hash r) r).0 same))) ∙ lock-differs r unlocked))
    | inr differ ↦ differ
  ]

  -- what is so of a line: a record of the user is unlocked, canonical, and can be printed locked
  abbrev CanLock : Line → Type 0
  CanLock line = (r : R) → format.read line.text ≡ Some r → is_named format user r ≡ true
      → (begins_with exclamation (hash r) ≡ false) × (line.text ≡ format.print r)
      × IsWritten format (changed locked_hash r)

  -- what becomes of one line, by what it reads
  one-line :
      (f : List ℕ → List ℕ) (line : Line) (o : Option R)
      → format.read line.text ≡ o
      → edited format (line ∷ []) (edit_of f)
      ≡ elim o [ None ↦ line ∷ [] | Some r ↦ line_becomes format line r (changes f r) ]
  one-line f line o read =
      append-nil (becomes format (changes f) line)
      ∙ ap (λ (o : Option R). elim o as (λ o. List Line) [
        | None ↦ line ∷ []
        | Some r ↦ line_becomes format line r (changes f r)
      ]) read

  -- the line of the user
  own-line :
      (line : Line) (r : R)
      → format.read line.text ≡ Some r
      → is_named format user r ≡ true
      → begins_with exclamation (hash r) ≡ false
      → line.text ≡ format.print r
      → IsWritten format (changed locked_hash r)
      → edited format (edited format (line ∷ []) (edit_of locked_hash)) (edit_of unlocked_hash)
      ≡ line ∷ []
  own-line line r read named unlocked text written =
      let locks = lock-differs r unlocked
      in let unlocks = unlock-differs r unlocked
      in let locked_line : Line = record line { text = format.print (changed locked_hash r) }
      in let locked_named : is_named format user (changed locked_hash r) ≡ true =
      rw (name_of (locked_hash (hash r)) r) named
      in let there : edited format (line ∷ []) (edit_of locked_hash) ≡ locked_line ∷ [] =
      one-line locked_hash line (Some r) read ∙ rw (named, locks) refl
      in let back : edited format (locked_line ∷ []) (edit_of unlocked_hash) ≡ line ∷ [] =
      one-line unlocked_hash locked_line (Some (changed locked_hash r)) written.reads
      ∙ rw (locked_named, changed-back r unlocked, unlocks)
      (λ i. record { text = sym text i; ended = line.ended } ∷ [])
      in ap (λ lines. edited format lines (edit_of unlocked_hash)) there ∙ back

  -- another line
  other-line :
      (line : Line) (r : R) (f : List ℕ → List ℕ)
      → format.read line.text ≡ Some r
      → is_named format user r ≡ false
      → edited format (line ∷ []) (edit_of f) ≡ line ∷ []
  other-line line r f read named =
      let same = same-self r in one-line f line (Some r) read ∙ rw (named, same) refl

  -- a line of other text
  text-line :
      (line : Line) (f : List ℕ → List ℕ)
      → format.read line.text ≡ None
      → edited format (line ∷ []) (edit_of f) ≡ line ∷ []
  text-line line f read = one-line f line None read

  -- a line by what it reads
  line-again :
      (line : Line) (o : Option R)
      → format.read line.text ≡ o
      → CanLock line
      → edited format (edited format (line ∷ []) (edit_of locked_hash)) (edit_of unlocked_hash)
      ≡ line ∷ []
  line-again line None read can =
      ap (λ lines. edited format lines (edit_of unlocked_hash)) (text-line line locked_hash read)
      ∙ text-line line unlocked_hash read
  line-again line (Some r) read can = elim (cases_Bool (is_named format user r)) [
    | inl named ↦
        let is = can r read named
        in own-line line r read named is.0 is.1 is.2
    | inr other ↦
        ap (λ lines. edited format lines (edit_of unlocked_hash))
        (other-line line r locked_hash read other)
        ∙ other-line line r unlocked_hash read other
  ]

  -- all lines
  lines-again :
      (lines : List Line)
      → AllByRecursion CanLock lines
      → edited format (edited format lines (edit_of locked_hash)) (edit_of unlocked_hash) ≡ lines
  lines-again [] can = refl
  lines-again (line ∷ lines) can =
      ap (λ rest. edited format rest (edit_of unlocked_hash))
      (flat_map-append (becomes format (changes locked_hash)) (line ∷ []) lines)
      ∙ flat_map-append (becomes format (changes unlocked_hash))
      (edited format (line ∷ []) (edit_of locked_hash))
      (edited format lines (edit_of locked_hash))
      ∙ ap (λ front. front
      ++ edited format (edited format lines (edit_of locked_hash)) (edit_of unlocked_hash))
      (line-again line (format.read line.text) refl can.0)
      ∙ ap (λ rest. line ∷ rest) (lines-again lines can.1)

  -- ---- The table

  module _ (bytes : List ℕ) (one : R)
      (found : find_named format user (records_of format (lines_of bytes)) ≡ Some one)
      (is_unlocked : begins_with exclamation (hash one) ≡ false)
      (single :
      first_multiple format (edit_of locked_hash ∷ []) (records_of format (lines_of bytes))
      ≡ None)
      (canonical : AreCanonical format user (Some bytes))
      (written : IsWrittenEdit format (edit_of locked_hash)) where
    -- the old records
    abbrev old : List R
    old = records_of format (lines_of bytes)

    -- the name of the record that is found
    one-named : is_named format user one ≡ true
    one-named = (find-held (λ r. ⊤) (is_named format user) old one (any-records format old) found).1

    -- it isn't multiple, as the lock touches it
    one-single : nat_le 2 (count_named format (format.name one) old) ≡ false
    one-single =
        let touched : touches format (edit_of locked_hash ∷ []) one ≡ true =
        rw (one-named, lock-differs one is_unlocked) refl
        in rw touched at (fails-both (is_named format user)
        (λ r. touches format (edit_of locked_hash ∷ []) r && is_multiple format old r) old one found
        (unmapped format.name _ single))

    -- each record of the user is the one that is found
    all-one : AllByRecursion (λ r. is_named format user r ≡ true → r ≡ one) old
    all-one = only-one (is_named format user) old one found (below-two (count_named format user old)
        (subst (λ name. nat_le 2 (count_named format name old) ≡ false)
        ((bytes_eq-Decides (format.name one) user).0 one-named) one-single))

    -- lines whose records are that one can be locked
    can-lines :
        (lines : List Line)
        → AllByRecursion (λ line. (r : R) → format.read line.text ≡ Some r
        → is_named format user r ≡ true → line.text ≡ format.print r) lines
        → AllByRecursion (λ r. is_named format user r ≡ true → r ≡ one) (records_of format lines)
        → AllByRecursion (λ line. Lacks newline line.text) lines
        → AllByRecursion CanLock lines
    can-lines [] prints ones apart = tt
    can-lines (line ∷ lines) prints ones apart =
        by (format.read line.text) refl ones (can-lines lines prints.1)
      where
        by :
            (o : Option R)
            → format.read line.text ≡ o
            → AllByRecursion (λ r. is_named format user r ≡ true → r ≡ one)
            (cons_option o (records_of format lines))
            → (AllByRecursion (λ r. is_named format user r ≡ true → r ≡ one)
            (records_of format lines)
            → AllByRecursion (λ line. Lacks newline line.text) lines
            → AllByRecursion CanLock lines)
            → AllByRecursion CanLock (line ∷ lines)
        by None none ones later = ((λ r read named. cc), later ones apart.1)
        by (Some s) is ones later = (
          λ r read named.
              let same : s ≡ r = some-inj (sym is ∙ read)
              in let one_is : one ≡ r = sym (ones.0 (subst (λ s. is_named format user s ≡ true)
              (sym same) named)) ∙ same
              in (
                subst (λ s. begins_with exclamation (hash s) ≡ false) one_is is_unlocked,
                prints.0 r read named,
                rw named at (written line.text r apart.0 read).0,
              ),
          later ones.1 apart.1,
        )

    -- the bytes come back
    pub unlocked-again :
        table_after format (edit_of unlocked_hash ∷ [])
        (table_after format (edit_of locked_hash ∷ []) (Some bytes))
        ≡ Some bytes
    unlocked-again =
        sym (table-then format tells blank (edit_of locked_hash ∷ []) (written, tt)
        (edit_of unlocked_hash ∷ []) (Some bytes))
        ∙ ap (λ (lines : List Line). Some (file_bytes lines))
        (lines-again (lines_of bytes)
        (can-lines (lines_of bytes) canonical all-one (lines_of-are bytes).apart))
        ∙ ap Some (lines_of-are bytes).joined

    -- what the lock makes of a record
    abbrev lock_one : R → R
    lock_one r = if is_named format user r then changed locked_hash r else r

    -- its name stays
    lock-name : (r : R) → format.name (lock_one r) ≡ format.name r
    lock-name r = by (is_named format user r)
      where
        by : (b : Bool) → format.name (if b then changed locked_hash r else r) ≡ format.name r
        by true = name_of (locked_hash (hash r)) r
        by false = refl

    -- the records in between
    new-records :
        table_records format (table_after format (edit_of locked_hash ∷ []) (Some bytes))
        ≡ map lock_one old
    new-records =
        table-edited format tells blank (edit_of locked_hash ∷ []) bytes (written, tt)
        ∙ flat_map_single lock_one old

    -- what is found of records by their names
    found-lock :
        (records : List R)
        → find_named format user (map lock_one records)
        ≡ option_map lock_one (find_named format user records)
    found-lock [] = refl
    found-lock (r ∷ records) =
        rw (lock-name r) (by (bytes_eq (format.name r) user) (found-lock records))
      where
        by :
            (b : Bool)
            → find_named format user (map lock_one records)
            ≡ option_map lock_one (find_named format user records)
            → (if b then Some (lock_one r) else find_named format user (map lock_one records))
            ≡ option_map lock_one (if b then Some r else find_named format user records)
        by true later = refl
        by false later = later

    -- the locked record is found
    pub locked-found :
        find_named format user
        (table_records format (table_after format (edit_of locked_hash ∷ []) (Some bytes)))
        ≡ Some (changed locked_hash one)
    locked-found =
        ap (find_named format user) new-records ∙ found-lock old
        ∙ ap (option_map lock_one) found ∙ rw one-named refl

    -- as many records have a name as before
    count-lock :
        (name : List ℕ) (records : List R)
        → count_named format name (map lock_one records) ≡ count_named format name records
    count-lock name [] = refl
    count-lock name (r ∷ records) =
        let one_more = λ (s : R) (others : List R).
        sum_by-cons (λ t. if is_named format name t then 1 else 0) s others
        in one_more (lock_one r) (map lock_one records)
        ∙ ap (λ found. (if bytes_eq found name then 1 else 0)
        + count_named format name (map lock_one records)) (lock-name r)
        ∙ ap (λ count. (if is_named format name r then 1 else 0) + count) (count-lock name records)
        ∙ sym (one_more r records)

    -- a record that isn't touched, or isn't multiple
    unlock-passes :
        (r : R)
        → (is_named format user r ≡ true → r ≡ one)
        → (touches format (edit_of unlocked_hash ∷ []) (lock_one r)
        && is_multiple format (map lock_one old) (lock_one r)) ≡ false
    unlock-passes r is_one = elim (cases_Bool (is_named format user r)) [
      | inl named ↦
          let single : is_multiple format (map lock_one old) (lock_one r) ≡ false =
          ap (λ count. nat_le 2 count) (count-lock (format.name (lock_one r)) old
          ∙ ap (λ name. count_named format name old)
          (lock-name r ∙ ap format.name (is_one named)))
          ∙ one-single
          in rw single (and-false (touches format (edit_of unlocked_hash ∷ []) (lock_one r)))
      | inr other ↦ let same = same-self r in rw (other, other, same) refl
    ]

    -- none of them
    unlock-none :
        (records : List R)
        → AllByRecursion (λ r. is_named format user r ≡ true → r ≡ one) records
        → find (λ r. touches format (edit_of unlocked_hash ∷ []) r
        && is_multiple format (map lock_one old) r) (map lock_one records)
        ≡ None
    unlock-none [] ones = refl
    unlock-none (r ∷ records) ones =
        rw (unlock-passes r ones.0) (unlock-none records ones.1)

    -- the unlock touches no multiple name
    pub unlock-single :
        first_multiple format (edit_of unlocked_hash ∷ [])
        (table_records format (table_after format (edit_of locked_hash ∷ []) (Some bytes)))
        ≡ None
    unlock-single =
        ap (first_multiple format (edit_of unlocked_hash ∷ [])) new-records
        ∙ ap (option_map format.name) (unlock-none old all-one)
