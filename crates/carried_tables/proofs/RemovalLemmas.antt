-- Claim: removals that are carried out line by line, each line by all of them, make of the lines what
-- they make of them one after another (`each-line`); a line that is apart from all IDs stays
-- (`apart-stays`), and one alone is found in its bytes (`alone-found`). Way: an edit of records goes
-- over lines one by one (`both-parts`); a range without one of the IDs is left whole (`keeps-removed`),
-- also by the edits before where more IDs are gathered (`keeps-more`).
use Rattle.std.proofs.Common.{◌≡◌, ◌∙◌, ℕ, ◌<◌, ◌≤◌, max, Bool, true, false, List, [], ◌∷◌, ◌++◌, length, refl, sym, ap, subst, arith, inl, inr, append-nil}
use Rattle.std.specs.Prelude.{Option, Some, IsSome, ◌⊎◌, flat_map, nat_le, if◌then◌else◌}
use Rattle.std.specs.List.{AllByRecursion}
use Rattle.std.proofs.lemmas.Bool.{and_from, cases_lt, le-leb, or_left, or_parts}
use Rattle.std.proofs.lemmas.Grind.{flat_map-append}
use Rattle.acct_text.specs.Bytes.{newline}
use Rattle.acct_text.specs.Lines.{Line, file_bytes, lines_of}
use Rattle.acct_text.specs.Pieces.{Lacks}
use Rattle.acct_text.proofs.LinesLaws.{lines_of-only}
use Rattle.account_model.specs.declared.records.SubidRecord.{SubidRecord}
use Rattle.account_model.specs.Edits.{Edit, becomes, edited, edited_by}
use Rattle.account_model.specs.Edits.Edit.{Become, Add, AddMissing, Put, Arrange}
use Rattle.account_model.specs.Ids.{in_range, is_used}
use Rattle.account_model.specs.Records.{last_id, subid_format}
use Rattle.account_model.specs.SubidOwner.{is_owned, left_without}
use Rattle.account_model.proofs.HeldLaws.{subid-holds}
use Rattle.account_model.proofs.SameLaws.{subid-tells}
use Rattle.account_model.proofs.SubidLaws.{left_whole}
use Rattle.id_choice.specs.Runs.{AddsAll}
use Rattle.carried_tables.specs.RangeRemovals.{HasNone, IsApart, KeepsApart, Removes}
use Rattle.line_edits.proofs.ChangedLines.{left-line}

-- ---- Ranges without the IDs

-- the numbers up to the last that is shared by two ranges, or they are apart
apart-ranges :
    (ids : List ℕ) (first last : ℕ) (r : SubidRecord)
    → ((number : ℕ) → first ≤ number → number ≤ last → is_used ids number ≡ true)
    → HasNone ids r.first (last_id r)
    → first ≤ last
    → r.first ≤ last_id r
    → (last_id r < first) ⊎ (last < r.first)
apart-ranges ids first last r filled none order some =
    elim (cases_lt (last_id r) first) [
      | inl before ↦ inl before
      | inr reaches ↦ elim (cases_lt last r.first) [
        | inl behind ↦ inr behind
        | inr begins ↦
            let met = max r.first first in
            let here : is_used ids met ≡ true = filled met (omega arith) (omega arith) in
            let gone : is_used ids met ≡ false = none met (omega arith) (omega arith) in
            absurd cc
      ]
    ]

module _ (name : List ℕ) (uid : Option ℕ) where
  -- what is left of a range that is apart, by whether it is the owner's
  left-apart :
      (ids : List ℕ) (first last : ℕ) (r : SubidRecord) (owned : Bool)
      → ((number : ℕ) → first ≤ number → number ≤ last → is_used ids number ≡ true)
      → first ≤ last
      → 0 < r.count
      → (owned ≡ true → HasNone ids r.first (last_id r))
      → (if owned then left_without first last r else r ∷ []) ≡ r ∷ []
  left-apart ids first last r false filled order some apart = refl
  left-apart ids first last r true filled order some apart =
      left_whole first last r (omega arith) order
      (apart-ranges ids first last r filled (apart refl) order (omega arith))

  -- an edit keeps what is apart from the IDs that it removes
  pub keeps-removed :
      (old new : List ℕ) (first last : ℕ) (edit : Edit SubidRecord)
      → Removes name uid first last edit
      → AddsAll old first last new
      → KeepsApart name uid new edit
  keeps-removed old new first last edit removes adds =
      subst (KeepsApart name uid new) (sym removes.is)
      (λ r some apart.
      left-apart new first last r (is_owned name uid r)
      (λ number begins ends.
      adds number
      ∙ or_left (in_range first last number) (is_used old number)
      (and_from (nat_le first number) (nat_le number last) (le-leb first number begins)
      (le-leb number last ends)))
      removes.ordered some apart)

  -- a range that has none of the new IDs has none of the old
  none-before :
      (old new : List ℕ) (first last : ℕ) (r : SubidRecord)
      → AddsAll old first last new
      → IsApart name uid new r
      → IsApart name uid old r
  none-before old new first last r adds apart owned number begins ends =
      (or_parts (in_range first last number) (is_used old number)
      (sym (adds number) ∙ apart owned number begins ends)).1

  -- and an edit that keeps what is apart from these keeps what is apart from those
  keeps-more :
      (old new : List ℕ) (first last : ℕ) (edit : Edit SubidRecord)
      → AddsAll old first last new
      → KeepsApart name uid old edit
      → KeepsApart name uid new edit
  keeps-more old new first last (Become f) adds keeps =
      λ r some apart. keeps r some (none-before old new first last r adds apart)
  keeps-more old new first last (Add r) adds keeps = keeps
  keeps-more old new first last (AddMissing r) adds keeps = keeps
  keeps-more old new first last (Put r) adds keeps = keeps
  keeps-more old new first last (Arrange key) adds keeps = keeps

  -- all edits so far, and one more
  pub keep-all :
      (old new : List ℕ) (first last : ℕ) (edits : List (Edit SubidRecord))
      (edit : Edit SubidRecord)
      → Removes name uid first last edit
      → AddsAll old first last new
      → AllByRecursion (KeepsApart name uid old) edits
      → AllByRecursion (KeepsApart name uid new) (edits ++ edit ∷ [])
  keep-all old new first last [] edit removes adds all =
      (keeps-removed old new first last edit removes adds, tt)
  keep-all old new first last (before ∷ edits) edit removes adds all = (
    keeps-more old new first last before adds all.0,
    keep-all old new first last edits edit removes adds all.1,
  )

  module _ (ids : List ℕ) where
    -- an edit of records goes over two parts of the lines alike
    part-wise :
        (edit : Edit SubidRecord) (front back : List Line)
        → KeepsApart name uid ids edit
        → edited subid_format (front ++ back) edit
        ≡ edited subid_format front edit ++ edited subid_format back edit
    part-wise (Become f) front back keeps = flat_map-append (becomes subid_format f) front back
    part-wise (Add r) front back keeps = absurd keeps
    part-wise (AddMissing r) front back keeps = absurd keeps
    part-wise (Put r) front back keeps = absurd keeps
    part-wise (Arrange key) front back keeps = absurd keeps

    -- and so do all
    both-parts :
        (edits : List (Edit SubidRecord)) (front back : List Line)
        → AllByRecursion (KeepsApart name uid ids) edits
        → edited_by subid_format edits (front ++ back)
        ≡ edited_by subid_format edits front ++ edited_by subid_format edits back
    both-parts [] front back keep = refl
    both-parts (edit ∷ edits) front back keep =
        ap (edited_by subid_format edits) (part-wise edit front back keep.0)
        ∙ both-parts edits (edited subid_format front edit) (edited subid_format back edit) keep.1

    -- no lines stay none
    none-stay :
        (edit : Edit SubidRecord)
        → KeepsApart name uid ids edit
        → edited subid_format [] edit ≡ []
    none-stay (Become f) keeps = refl
    none-stay (Add r) keeps = absurd keeps
    none-stay (AddMissing r) keeps = absurd keeps
    none-stay (Put r) keeps = absurd keeps
    none-stay (Arrange key) keeps = absurd keeps

    -- so edits that keep them make none of no lines
    no-lines-stay :
        (edits : List (Edit SubidRecord))
        → AllByRecursion (KeepsApart name uid ids) edits
        → edited_by subid_format edits [] ≡ []
    no-lines-stay [] keep = refl
    no-lines-stay (edit ∷ edits) keep =
        ap (edited_by subid_format edits) (none-stay edit keep.0) ∙ no-lines-stay edits keep.1

    -- so the edits may be carried out line by line
    pub each-line :
        (edits : List (Edit SubidRecord)) (lines : List Line)
        → AllByRecursion (KeepsApart name uid ids) edits
        → flat_map (λ line. edited_by subid_format edits (line ∷ [])) lines
        ≡ edited_by subid_format edits lines
    each-line edits [] keep = sym (no-lines-stay edits keep)
    each-line edits (line ∷ lines) keep =
        ap (λ back. edited_by subid_format edits (line ∷ []) ++ back) (each-line edits lines keep)
        ∙ sym (both-parts edits (line ∷ []) lines keep)

    -- ---- One line

    -- a line that is apart from the IDs stays
    line-stays :
        (edit : Edit SubidRecord) (line : Line)
        → Lacks newline line.text
        → ((r : SubidRecord) → subid_format.read line.text ≡ Some r → IsApart name uid ids r)
        → KeepsApart name uid ids edit
        → edited subid_format (line ∷ []) edit ≡ line ∷ []
    line-stays (Become f) line lacks apart keeps =
        append-nil (becomes subid_format f line)
        ∙ left-line subid_format f line subid-tells
        (λ r read. keeps r (subid-holds.read line.text r lacks read).some (apart r read))
    line-stays (Add r) line lacks apart keeps = absurd keeps
    line-stays (AddMissing r) line lacks apart keeps = absurd keeps
    line-stays (Put r) line lacks apart keeps = absurd keeps
    line-stays (Arrange key) line lacks apart keeps = absurd keeps

    -- and so it stays after all edits
    pub apart-stays :
        (edits : List (Edit SubidRecord)) (line : Line)
        → Lacks newline line.text
        → ((r : SubidRecord) → subid_format.read line.text ≡ Some r → IsApart name uid ids r)
        → AllByRecursion (KeepsApart name uid ids) edits
        → edited_by subid_format edits (line ∷ []) ≡ line ∷ []
    apart-stays [] line lacks apart keep = refl
    apart-stays (edit ∷ edits) line lacks apart keep =
        ap (edited_by subid_format edits) (line-stays edit line lacks apart keep.0)
        ∙ apart-stays edits line lacks apart keep.1

-- a text that is read as a range has bytes
some-bytes : (text : List ℕ) → IsSome (subid_format.read text) → 0 < length text
some-bytes [] some = absurd cc
some-bytes (byte ∷ text) some = omega arith

-- the line of a range alone is found in its bytes
pub alone-found :
    (line : Line)
    → Lacks newline line.text
    → IsSome (subid_format.read line.text)
    → lines_of (file_bytes (line ∷ [])) ≡ line ∷ []
alone-found line lacks some =
    lines_of-only (file_bytes (line ∷ [])) (line ∷ []) (record {
      joined = refl;
      apart = (lacks, tt);
      ended = λ unended. some-bytes line.text some;
    })
