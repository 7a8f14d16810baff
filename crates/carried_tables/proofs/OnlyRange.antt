-- Claim: where a change leaves one range of the only one that a test accepts, and each other range as it
-- is, the table is the one in which what is left is put in its place (`put-table`). Way: what holds of
-- the only range and of all others holds of all (`all-only`); lines become the same where their ranges
-- do, so a table does (`same-table`); and the first line of the name is that of the only range.
use Rattle.std.proofs.Common.{◌≡◌, ◌∙◌, ℕ, Bool, true, false, List, [], ◌∷◌, ◌++◌, refl, sym, ap, subst, inl, inr, if◌then◌else◌}
use Rattle.std.specs.Prelude.{Option, Some, None, filter, flat_map}
use Rattle.std.specs.List.{AllByRecursion, cons_option}
use Rattle.std.proofs.lemmas.Bool.{cases_Bool, false≢true}
use Rattle.std.proofs.lemmas.Slice.Eq.{bytes_eq-Decides}
use Rattle.acct_text.specs.Lines.{Line, file_bytes, lines_of}
use Rattle.account_model.specs.declared.records.SubidRecord.{SubidRecord}
use Rattle.account_model.specs.Edits.{becomes, line_becomes, put_first, with_line}
use Rattle.account_model.specs.Edits.Edit.{Become, Put}
use Rattle.account_model.specs.Format.{has_named, is_named, records_of}
use Rattle.account_model.specs.Records.{subid_format}
use Rattle.account_model.specs.Tables.{table_after, table_records}
use Rattle.account_model.proofs.SameLaws.{subid-tells}
use Rattle.line_edits.proofs.ChangedLines.{left-line, stays}

-- ---- Ranges of which a test accepts one alone, or none

module _ (test : SubidRecord → Bool) (Holds : SubidRecord → Type 0)
    (others : (r : SubidRecord) → test r ≡ false → Holds r) where
  -- what holds of all that it doesn't accept holds of all, where it accepts none
  all-none :
      (ranges : List SubidRecord)
      → filter test ranges ≡ []
      → AllByRecursion Holds ranges
  all-none [] none = tt
  all-none (r ∷ ranges) none = elim (cases_Bool (test r)) [
    | inl is ↦ absurd (let never = rw is at none in cc)
    | inr is ↦ (others r is, all-none ranges (rw is at none))
  ]

  -- and of the one that it accepts
  pub all-only :
      (only : SubidRecord) (ranges : List SubidRecord)
      → filter test ranges ≡ only ∷ []
      → Holds only
      → AllByRecursion Holds ranges
  all-only only [] is holds = absurd cc
  all-only only (r ∷ ranges) is holds = elim (cases_Bool (test r)) [
    | inl accepted ↦
        let parts : r ∷ filter test ranges ≡ only ∷ [] = rw accepted at is in
        let first : only ≡ r = cc in
        let none : filter test ranges ≡ [] = cc in
        (subst Holds first holds, all-none ranges none)
    | inr refused ↦
        (others r refused, all-only only ranges (rw refused at is) holds)
  ]

-- ---- Line by line

-- of a first range, if there is one, and of the rest holds what holds of all
first-holds :
    (Holds : SubidRecord → Type 0) (found : Option SubidRecord) (rest : List SubidRecord)
    (r : SubidRecord)
    → AllByRecursion Holds (cons_option found rest)
    → found ≡ Some r
    → Holds r
first-holds Holds None rest r all is = absurd cc
first-holds Holds (Some first) rest r all is =
    let same : first ≡ r = cc in subst Holds same all.0

rest-holds :
    (Holds : SubidRecord → Type 0) (found : Option SubidRecord) (rest : List SubidRecord)
    → AllByRecursion Holds (cons_option found rest)
    → AllByRecursion Holds rest
rest-holds Holds None rest all = all
rest-holds Holds (Some first) rest all = all.1

-- what a line becomes, by the range that it is, if it is one
abbrev line_by : (SubidRecord → List SubidRecord) → Line → Option SubidRecord → List Line
line_by f line found = elim found [
  | None ↦ line ∷ []
  | Some r ↦ line_becomes subid_format line r (f r)
]

-- a line becomes the same where its range does
same-line :
    (f g : SubidRecord → List SubidRecord) (line : Line) (found : Option SubidRecord)
    → ((r : SubidRecord) → found ≡ Some r → f r ≡ g r)
    → line_by f line found ≡ line_by g line found
same-line f g line None same = refl
same-line f g line (Some r) same = ap (line_becomes subid_format line r) (same r refl)

-- so do lines
same-lines :
    (f g : SubidRecord → List SubidRecord) (lines : List Line)
    → AllByRecursion (λ r. f r ≡ g r) (records_of subid_format lines)
    → flat_map (becomes subid_format f) lines ≡ flat_map (becomes subid_format g) lines
same-lines f g [] same = refl
same-lines f g (line ∷ lines) same =
    let found = subid_format.read line.text in
    let rest = records_of subid_format lines in
    ap (λ front. front ++ flat_map (becomes subid_format f) lines)
    (same-line f g line found (λ r. first-holds (λ r. f r ≡ g r) found rest r same))
    ∙ ap (λ behind. becomes subid_format g line ++ behind)
    (same-lines f g lines (rest-holds (λ r. f r ≡ g r) found rest same))

-- lines of which each range stays do
left-lines :
    (f : SubidRecord → List SubidRecord) (lines : List Line)
    → AllByRecursion (λ r. f r ≡ r ∷ []) (records_of subid_format lines)
    → flat_map (becomes subid_format f) lines ≡ lines
left-lines f [] left = refl
left-lines f (line ∷ lines) left =
    let found = subid_format.read line.text in
    let rest = records_of subid_format lines in
    ap (λ front. front ++ flat_map (becomes subid_format f) lines)
    (left-line subid_format f line subid-tells
    (λ r. first-holds (λ r. f r ≡ r ∷ []) found rest r left))
    ∙ ap (λ behind. line ∷ behind)
    (left-lines f lines (rest-holds (λ r. f r ≡ r ∷ []) found rest left))

-- a table becomes the same where each of its ranges does
pub same-table :
    (f g : SubidRecord → List SubidRecord) (file : Option (List ℕ))
    → AllByRecursion (λ r. f r ≡ g r) (table_records subid_format file)
    → table_after subid_format (Become f ∷ []) file ≡ table_after subid_format (Become g ∷ []) file
same-table f g None same = refl
same-table f g (Some text) same =
    ap (λ lines. Some (file_bytes lines)) (same-lines f g (lines_of text) same)

-- ---- What is left of the only range

-- the first of two where a name is the same
put-named :
    (named : Bool) (all put kept : List Line)
    → named ≡ true
    → all ≡ put
    → all ≡ (if named then put else kept)
put-named true all put kept is same = same
put-named false all put kept is same = absurd cc

-- and the second where it is another
put-other :
    (named : Bool) (all put kept : List Line)
    → named ≡ false
    → all ≡ kept
    → all ≡ (if named then put else kept)
put-other true all put kept is same = absurd cc
put-other false all put kept is same = same

module _ (test : SubidRecord → Bool) (f : SubidRecord → List SubidRecord)
    (leaves : (r : SubidRecord) → test r ≡ false → f r ≡ r ∷ []) (only left : SubidRecord)
    (made : f only ≡ left ∷ []) (same : only.owner ≡ left.owner)
    (named : (r : SubidRecord) → is_named subid_format left.owner r ≡ true → test r ≡ true) where
  -- it has the name
  has-name : is_named subid_format left.owner only ≡ true
  has-name = (bytes_eq-Decides only.owner left.owner).1 same

  -- the line of the only range becomes that of what is left, and a line of another one stays
  put-line :
      (line : Line) (lines : List Line) (r : SubidRecord)
      → filter test (r ∷ records_of subid_format lines) ≡ only ∷ []
      → (filter test (records_of subid_format lines) ≡ only ∷ []
      → flat_map (becomes subid_format f) lines ≡ put_first subid_format left lines)
      → line_becomes subid_format line r (f r) ++ flat_map (becomes subid_format f) lines
      ≡ (if is_named subid_format left.owner r
      then line_becomes subid_format line r (left ∷ []) ++ lines
      else line ∷ put_first subid_format left lines)
  put-line line lines r is later = elim (cases_Bool (test r)) [
    | inl accepted ↦
        let rest = records_of subid_format lines in
        let parts : r ∷ filter test rest ≡ only ∷ [] = rw accepted at is in
        let first : only ≡ r = cc in
        let none : filter test rest ≡ [] = cc in
        let has : is_named subid_format left.owner r ≡ true =
        subst (λ r. is_named subid_format left.owner r ≡ true) first has-name in
        put-named (is_named subid_format left.owner r)
        (line_becomes subid_format line r (f r) ++ flat_map (becomes subid_format f) lines)
        (line_becomes subid_format line r (left ∷ []) ++ lines)
        (line ∷ put_first subid_format left lines) has
        (ap (λ behind. line_becomes subid_format line r (f r) ++ behind)
        (left-lines f lines (all-none test (λ r. f r ≡ r ∷ []) leaves rest none))
        ∙ ap (λ pieces. line_becomes subid_format line r pieces ++ lines)
        (ap f (sym first) ∙ made))
    | inr refused ↦
        let rest : filter test (records_of subid_format lines) ≡ only ∷ [] = rw refused at is in
        let other : is_named subid_format left.owner r ≡ false =
        elim (cases_Bool (is_named subid_format left.owner r)) [
          | inl has ↦ absurd (false≢true (sym refused ∙ named r has))
          | inr other ↦ other
        ] in
        put-other (is_named subid_format left.owner r)
        (line_becomes subid_format line r (f r) ++ flat_map (becomes subid_format f) lines)
        (line_becomes subid_format line r (left ∷ []) ++ lines)
        (line ∷ put_first subid_format left lines) other
        (ap (λ pieces.
        line_becomes subid_format line r pieces ++ flat_map (becomes subid_format f) lines)
        (leaves r refused)
        ∙ ap (λ front. front ++ flat_map (becomes subid_format f) lines)
        (stays subid_format line r (subid_format.same r r) ((subid-tells r r).1 refl))
        ∙ ap (λ behind. line ∷ behind) (later rest))
  ]

  -- by whether the line is a range
  put-read :
      (line : Line) (lines : List Line) (found : Option SubidRecord)
      → filter test (cons_option found (records_of subid_format lines)) ≡ only ∷ []
      → (filter test (records_of subid_format lines) ≡ only ∷ []
      → flat_map (becomes subid_format f) lines ≡ put_first subid_format left lines)
      → (elim found [ None ↦ line ∷ [] | Some r ↦ line_becomes subid_format line r (f r) ])
      ++ flat_map (becomes subid_format f) lines
      ≡ (elim found [
        | None ↦ line ∷ put_first subid_format left lines
        | Some r ↦ if is_named subid_format left.owner r
            then line_becomes subid_format line r (left ∷ []) ++ lines
            else line ∷ put_first subid_format left lines
      ])
  put-read line lines None is later = ap (λ behind. line ∷ behind) (later is)
  put-read line lines (Some r) is later = put-line line lines r is later

  -- so lines do
  put-lines :
      (lines : List Line)
      → filter test (records_of subid_format lines) ≡ only ∷ []
      → flat_map (becomes subid_format f) lines ≡ put_first subid_format left lines
  put-lines [] is = absurd cc
  put-lines (line ∷ lines) is =
      put-read line lines (subid_format.read line.text) is (put-lines lines)

  -- a range has the name
  has-named :
      (ranges : List SubidRecord)
      → filter test ranges ≡ only ∷ []
      → has_named subid_format left.owner ranges ≡ true
  has-named [] is = absurd cc
  has-named (r ∷ ranges) is = elim (cases_Bool (is_named subid_format left.owner r)) [
    | inl has ↦ rw has refl
    | inr other ↦ elim (cases_Bool (test r)) [
      | inl accepted ↦
          let parts : r ∷ filter test ranges ≡ only ∷ [] = rw accepted at is in
          let first : only ≡ r = cc in
          absurd (false≢true (sym other
          ∙ subst (λ r. is_named subid_format left.owner r ≡ true) first has-name))
      | inr refused ↦ rw other (has-named ranges (rw refused at is))
    ]
  ]

  -- by whether a range has the name
  put-edited :
      (lines : List Line) (has : Bool)
      → has ≡ true
      → (if has then put_first subid_format left lines
      else with_line (subid_format.print left) lines) ≡ put_first subid_format left lines
  put-edited lines true is = refl
  put-edited lines false is = absurd cc

  -- so the table is the one with what is left in the place of the only range
  pub put-table :
      (file : Option (List ℕ))
      → filter test (table_records subid_format file) ≡ only ∷ []
      → table_after subid_format (Put left ∷ []) file
      ≡ table_after subid_format (Become f ∷ []) file
  put-table None is = refl
  put-table (Some text) is =
      let lines = lines_of text in
      ap (λ lines. Some (file_bytes lines))
      (put-edited lines (has_named subid_format left.owner (records_of subid_format lines))
      (has-named (records_of subid_format lines) is)
      ∙ sym (put-lines lines is))
