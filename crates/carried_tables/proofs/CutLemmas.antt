-- Claims: where IDs go out of the only range of an owner, the table is the one in which what is left of
-- it is put in its place (`cut-put`), or, where nothing is left, the one without the owner's ranges
-- (`cut-gone`); and the numbers are those of the others with those that are left (`cut-made`). Way: the
-- cut leaves the ranges of others, and what is left of the only one has its owner.
use Rattle.std.proofs.Common.{◌≡◌, ◌∙◌, ℕ, Bool, true, false, List, [], ◌∷◌, ◌++◌, append-nil, cond, get_or, length, refl, sym, ap, ap₂, subst, inl, inr, if◌then◌else◌}
use Rattle.std.specs.Prelude.{Option, Some, None, IfSome, bytes_eq, filter, flat_map, nat_lt, not}
use Rattle.std.specs.List.{AllByRecursion, cons_option}
use Rattle.std.proofs.lemmas.Bool.{cases_Bool, false≢true}
use Rattle.std.proofs.lemmas.Slice.Eq.{bytes_eq-Decides}
use Rattle.acct_text.specs.Lines.{Line, lines_of}
use Rattle.account_model.specs.declared.records.SubidRecord.{SubidRecord}
use Rattle.account_model.specs.Edits.Edit.{Become, Put}
use Rattle.account_model.specs.Format.{records_of}
use Rattle.account_model.specs.RecordEdits.{IsWrittenEdit}
use Rattle.account_model.specs.Faults.{subid_fault}
use Rattle.account_model.specs.Records.{last_id, subid_format}
use Rattle.account_model.specs.Tables.{table_after, table_records}
use Rattle.account_model.specs.Written.{IsWritten}
use Rattle.account_model.proofs.FormatLaws.{subid-is_format}
use Rattle.account_model.proofs.ListLaws.{all-filter}
use Rattle.account_model.specs.SubidOwner.{is_owned, left_without}
use Rattle.line_edits.specs.SeenEdits.{seen_edit, seen_edits}
use Rattle.line_edits.specs.SubidChanges.{subid_becomes}
use Rattle.line_edits.specs.declared.edit.Edit.{Edit}
use Rattle.line_edits.specs.declared.subid_changes.SubidChange.{SubidChange}
use Rattle.line_edits.specs.declared.subid_changes.RangeCut.{RangeCut}
use Rattle.line_edits.specs.declared.subid_changes.SubidChange.TheVariants.{Cut, Remove}
use Rattle.line_edits.specs.WrittenLines.{IsWrittenRead, AreWrittenLines}
use Rattle.line_edits.proofs.WrittenLines.{lines-written}
use Rattle.subid_ranges.specs.RangeNumbers.{AreNumbersOf}
use Rattle.subid_ranges.specs.declared.range_numbers.RangeNumbers.{RangeNumbers}
use Rattle.carried_tables.specs.RangeNumbers.{AreNumbersIn, FollowsGain, IsCutBy, IsOnlyOf}
use Rattle.table.specs.TableEdits.{AreWritten, table_by}
use Rattle.carried_tables.proofs.EditedTables.{only-one}
use Rattle.carried_tables.proofs.NumberLemmas.{after-change, left_by, numbers-made, others-left}
use Rattle.carried_tables.proofs.OwnerLemmas.{removal-written}
use Rattle.carried_tables.proofs.OnlyRange.{all-only, put-table, same-table}

-- what is known, said otherwise
some-weaker :
    (P Q : RangeNumbers → Type 0) (known : Option RangeNumbers)
    → ((numbers : RangeNumbers) → P numbers → Q numbers)
    → IfSome known P
    → IfSome known Q
some-weaker P Q None weaker is = is
some-weaker P Q (Some numbers) weaker is = weaker numbers is

-- ranges of lines that can be written can be
read-written :
    (found : Option SubidRecord) (rest : List SubidRecord)
    → IsWrittenRead subid_format found
    → AllByRecursion (IsWritten subid_format) rest
    → AllByRecursion (IsWritten subid_format) (cons_option found rest)
read-written None rest written all = all
read-written (Some r) rest written all = (written, all)

records-written :
    (lines : List Line)
    → AreWrittenLines subid_format lines
    → AllByRecursion (IsWritten subid_format) (records_of subid_format lines)
records-written [] written = tt
records-written (line ∷ lines) written =
    read-written (subid_format.read line.text) (records_of subid_format lines) written.0
    (records-written lines written.1)

-- so can those of a file
table-written :
    (file : Option (List ℕ))
    → AllByRecursion (IsWritten subid_format) (table_records subid_format file)
table-written None = tt
table-written (Some text) =
    records-written (lines_of text) (lines-written subid_format subid_fault subid-is_format text)

-- a cut leaves the ranges of others
cut-leaves :
    (cut : RangeCut) (r : SubidRecord)
    → is_owned cut.owner cut.uid r ≡ false
    → subid_becomes (Cut cut) r ≡ r ∷ []
cut-leaves cut r other = rw other refl

-- the name is the owner's, whatever the UID is
name-owned :
    (name : List ℕ) (uid : Option ℕ) (r : SubidRecord)
    → bytes_eq r.owner name ≡ true
    → is_owned name uid r ≡ true
name-owned name None r is = is
name-owned name (Some uid) r is = rw is refl

-- the first of what is left of a range, if something is, has its owner: by whether there is something
-- below the first number that goes, and above the last
piece-owner :
    (below above : Bool) (r low high : SubidRecord)
    → low.owner ≡ r.owner
    → high.owner ≡ r.owner
    → (get_or ((if below then low ∷ [] else []) ++ (if above then high ∷ [] else [])) 0 r).owner
    ≡ r.owner
piece-owner true above r low high below_owned above_owned = below_owned
piece-owner false true r low high below_owned above_owned = above_owned
piece-owner false false r low high below_owned above_owned = refl

-- so has what becomes of a range, by whether it's the owner's
left-owner :
    (owned : Bool) (first last : ℕ) (r s : SubidRecord)
    → (if owned then left_without first last r else r ∷ []) ≡ s ∷ []
    → s.owner ≡ r.owner
left-owner true first last r s is =
    sym (ap (λ made. (get_or made 0 r).owner) is)
    ∙ piece-owner (nat_lt r.first first) (nat_lt last (last_id r)) r _ _ refl refl
left-owner false first last r s is = sym (ap (λ made. (get_or made 0 r).owner) is)

-- who isn't the owner hasn't the name
other-name :
    (name : List ℕ) (uid : Option ℕ) (r : SubidRecord)
    → is_owned name uid r ≡ false
    → is_owned name None r ≡ false
other-name name uid r other = elim (cases_Bool (bytes_eq r.owner name)) [
  | inl is ↦ absurd (false≢true (sym other ∙ name-owned name uid r is))
  | inr not ↦ not
]

-- tests that agree on ranges leave the same
left-alike :
    (test other : SubidRecord → Bool) (ranges : List SubidRecord)
    → AllByRecursion (λ r. test r ≡ other r) ranges
    → left_by test ranges ≡ left_by other ranges
left-alike test other [] agree = refl
left-alike test other (r ∷ ranges) agree =
    ap₂ (λ (is : Bool) (rest : List SubidRecord). cond (not is) (r ∷ rest) rest) agree.0
    (left-alike test other ranges agree.1)

module _ (cut : RangeCut) (only : SubidRecord) (file : Option (List ℕ))
    (is : IsOnlyOf cut.owner cut.uid (table_records subid_format file) only) where
  -- the table where what is left is put
  pub cut-put :
      (left : SubidRecord)
      → subid_becomes (Cut cut) only ≡ left ∷ []
      → left.owner ≡ only.owner
      → table_after subid_format (Put left ∷ []) file
      ≡ table_after subid_format (Become (subid_becomes (Cut cut)) ∷ []) file
  cut-put left made owner =
      put-table (is_owned cut.owner cut.uid) (subid_becomes (Cut cut)) (cut-leaves cut) only left
      made (sym owner)
      (λ r has. name-owned cut.owner cut.uid r
      (subst (λ name. bytes_eq r.owner name ≡ true) (owner ∙ is.named) has))
      file is.alone

  -- the one without the owner's ranges, where nothing is left
  pub cut-gone :
      subid_becomes (Cut cut) only ≡ []
      → table_after subid_format (Become (subid_becomes (Remove cut.owner None)) ∷ []) file
      ≡ table_after subid_format (Become (subid_becomes (Cut cut)) ∷ []) file
  cut-gone gone =
      let goes : is_owned cut.owner None only ≡ true =
      (bytes_eq-Decides only.owner cut.owner).1 is.named in
      same-table (subid_becomes (Remove cut.owner None)) (subid_becomes (Cut cut)) file
      (all-only (is_owned cut.owner cut.uid)
      (λ r. subid_becomes (Remove cut.owner None) r ≡ subid_becomes (Cut cut) r)
      (λ r other.
      ap (λ goes. if goes then [] else r ∷ []) (other-name cut.owner cut.uid r other)
      ∙ sym (cut-leaves cut r other))
      only (table_records subid_format file) is.alone
      (ap (λ goes. if goes then [] else only ∷ []) goes ∙ sym gone))

  -- ---- The numbers

  -- the ranges of others are those of the file without the owner's
  cut-others :
      table_records subid_format
      (table_after subid_format (Become (subid_becomes (Remove cut.owner None)) ∷ []) file)
      ≡ left_by (is_owned cut.owner cut.uid) (table_records subid_format file)
  cut-others =
      let ranges = table_records subid_format file in
      let named : is_owned cut.owner None only ≡ true =
      (bytes_eq-Decides only.owner cut.owner).1 is.named in
      after-change (subid_becomes (Remove cut.owner None)) file (removal-written cut.owner None)
      ∙ others-left cut.owner ranges
      ∙ left-alike (is_owned cut.owner None) (is_owned cut.owner cut.uid) ranges
      (all-only (is_owned cut.owner cut.uid)
      (λ r. is_owned cut.owner None r ≡ is_owned cut.owner cut.uid r)
      (λ r other. other-name cut.owner cut.uid r other ∙ sym other) only ranges is.alone
      (named ∙ sym (name-owned cut.owner cut.uid only named)))

  -- the numbers of others with those that are left are the ones behind the cut
  made-in :
      (pieces : List SubidRecord) (numbers : Option RangeNumbers)
      → IsWrittenEdit subid_format (Become (subid_becomes (Cut cut)))
      → subid_becomes (Cut cut) only ≡ pieces
      → IfSome numbers (AreNumbersOf
      (left_by (is_owned cut.owner cut.uid) (table_records subid_format file) ++ pieces))
      → IfSome numbers
      (AreNumbersIn (table_after subid_format (Become (subid_becomes (Cut cut)) ∷ []) file))
  made-in pieces numbers written made are =
      let test = is_owned cut.owner cut.uid in
      let f = subid_becomes (Cut cut) in
      let ranges = table_records subid_format file in
      let left : pieces ≡ flat_map f (filter test ranges) =
      sym (ap (flat_map f) is.alone ∙ append-nil (f only) ∙ made) in
      some-weaker (AreNumbersOf (left_by test ranges ++ pieces))
      (AreNumbersIn (table_after subid_format (Become f ∷ []) file)) numbers
      (λ known apart.
      subst (λ ranges. AreNumbersOf ranges known) (sym (after-change f file written))
      (numbers-made test f ranges known (cut-leaves cut)
      (subst (λ pieces. AreNumbersOf (left_by test ranges ++ pieces) known) left apart)))
      are

  -- where something is left
  pub cut-made :
      (left : SubidRecord) (others after : Option RangeNumbers)
      → IsWrittenEdit subid_format (Become (subid_becomes (Cut cut)))
      → subid_becomes (Cut cut) only ≡ left ∷ []
      → left.owner ≡ only.owner
      → IfSome others (AreNumbersIn
      (table_after subid_format (Become (subid_becomes (Remove cut.owner None)) ∷ []) file))
      → FollowsGain left others after
      → IfSome after (AreNumbersIn (table_after subid_format (Put left ∷ []) file))
  cut-made left others after written made owner are follows =
      subst (λ table. IfSome after (AreNumbersIn table)) (sym (cut-put left made owner))
      (made-in (left ∷ []) after written made
      (subst (λ ranges. IfSome after (AreNumbersOf (ranges ++ left ∷ []))) cut-others
      (follows _ are)))

  -- ---- What can be written

  -- the only range can
  pub only-written : IsWritten subid_format only
  only-written =
      (subst (AllByRecursion (IsWritten subid_format)) is.alone
      (all-filter (IsWritten subid_format) (is_owned cut.owner cut.uid)
      (table_records subid_format file) (table-written file))).0

  -- and so can what is left of it
  pub left-written :
      (left : SubidRecord)
      → IsWrittenEdit subid_format (Become (subid_becomes (Cut cut)))
      → subid_becomes (Cut cut) only ≡ left ∷ []
      → IsWritten subid_format left
  left-written left written made =
      let range = only-written in
      (subst (AllByRecursion (IsWritten subid_format)) made
      (written (subid_format.print only) only range.one_line range.reads)).0

  -- which has its owner
  pub left-owned :
      (left : SubidRecord) → subid_becomes (Cut cut) only ≡ left ∷ [] → left.owner ≡ only.owner
  left-owned left made =
      left-owner (is_owned cut.owner cut.uid only) cut.first cut.last only left made

-- ---- The edit

-- the only range that is found is that of the file
pub found-only :
    (cut : RangeCut) (only : SubidRecord) (file : Option (List ℕ)) (found : Option SubidRecord)
    (seen : Option (List ℕ))
    → file ≡ seen
    → found ≡ Some only
    → IfSome found (IsOnlyOf cut.owner cut.uid (table_records subid_format seen))
    → IsOnlyOf cut.owner cut.uid (table_records subid_format file) only
found-only cut only file found seen same is told =
    subst (λ file. IsOnlyOf cut.owner cut.uid (table_records subid_format file) only) (sym same)
    (subst (λ found. IfSome found (IsOnlyOf cut.owner cut.uid (table_records subid_format seen)))
    is told)

-- what a cut makes of a file the only edit makes of it
pub edit-cut :
    (cut : RangeCut) (change : SubidChange) (one : List (Edit SubidRecord SubidChange))
    → IsCutBy change cut one
    → (file seen : Option (List ℕ))
    → file ≡ seen
    → table_after subid_format (Become (subid_becomes (Cut cut)) ∷ []) file
    ≡ table_by subid_format subid_becomes one seen
edit-cut cut change one by file seen same =
    ap (λ change. table_after subid_format (Become (subid_becomes change) ∷ []) file) (sym by.cuts)
    ∙ ap (λ edits. table_after subid_format edits file) (sym by.alone)
    ∙ ap (table_by subid_format subid_becomes one) same

-- the only edit of a list, as it is seen
pub alone-seen :
    (one : List (Edit SubidRecord SubidChange)) (edit : Edit SubidRecord SubidChange)
    → length one ≡ 1
    → edit ≡ get_or one 0 edit
    → seen_edits subid_becomes one ≡ seen_edit subid_becomes edit ∷ []
alone-seen one edit single is = ap (seen_edits subid_becomes) (only-one one edit single is)

-- a cut that is the only edit prints what can be read
pub written-cut :
    (cut : RangeCut) (change : SubidChange) (one : List (Edit SubidRecord SubidChange))
    → IsCutBy change cut one
    → AreWritten subid_format subid_becomes one
    → IsWrittenEdit subid_format (Become (subid_becomes (Cut cut)))
written-cut cut change one by written =
    subst (λ change. IsWrittenEdit subid_format (Become (subid_becomes change))) by.cuts
    (subst (AllByRecursion (IsWrittenEdit subid_format)) by.alone written).0
