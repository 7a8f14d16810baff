-- Claim: the first separator ends the first piece (`cut-at_first`), and a text without one is one
-- piece (`cut-at_none`). So a text that is cut once is what stands in front of the first separator,
-- the separator, and what stands behind (`cut-whole`, `cut-before`, `cut-behind`), and one that
-- can't be cut lacks it (`uncut-lacks`, `uncut-before`). Way: the bytes before the first place that
-- passes the test don't pass it, and no piece has a separator.
use Rattle.std.proofs.Common.{◌≡◌, ℕ, suc, ◌+◌, ◌<◌, Bool, true, false, List, [], ◌∷◌, ◌++◌, length, take, drop, slice_index, get_or, All, Some, None, refl, sym, ◌∙◌, ap, subst, arith, append_assoc, lt_irrefl, inl, inr}
use Rattle.std.specs.Prelude.{◌==◌}
use Rattle.std.specs.List.{AllByRecursion, after_first, before_first, join_with_byte, list_any, position_or_len}
use Rattle.std.proofs.lemmas.Grind.{common_steps}
use Rattle.std.proofs.lemmas.Bool.{cases_Bool, eq-eqb, ne_eqb}
use Rattle.std.proofs.lemmas.List.{take-append-drop, take_at, take_all, drop_at, drop_more, length-append}
use Rattle.std.proofs.lemmas.List.Elements.{All-from_get_or}
use Rattle.std.proofs.lemmas.List.Splits.{slice_split_at, slice_split_none}
use Rattle.memchr.specs.Find.{is_byte, Passes, Nowhere, IsFirstByte}
use Rattle.acct_text.specs.Pieces.{Lacks, cut_at}
use Rattle.acct_text.proofs.Cut.{cut_at-is}

-- a test that isn't passed is failed
failed : (passed : Bool) → ¬ (passed ≡ true) → passed ≡ false
failed passed not_passed = elim (cases_Bool passed) [
  | inl yes_is ↦ absurd (not_passed yes_is)
  | inr no_is ↦ no_is
]

-- bytes of which none passes the test
all-failed :
    (test : ℕ → Bool) (text : List ℕ) (end : ℕ)
    → end < length text + 1
    → Nowhere (Passes test text) 0 end
    → All (λ byte. test byte ≡ false) (take end text)
all-failed test text end within nowhere =
    All-from_get_or (λ byte. test byte ≡ false) (take end text) 0
    (λ place low.
    let same : get_or (take end text) place 0 ≡ get_or text place 0 = grind (arith, common_steps) in
    let not_passed : ¬ (test (get_or text place 0) ≡ true) =
    nowhere place (omega arith) (grind (arith, common_steps)) in
    subst (λ byte. test byte ≡ false) (sym same) (failed (test (get_or text place 0)) not_passed))

-- a text without the separator is one piece
pub cut-at_none :
    (separator : ℕ) (text : List ℕ)
    → IsFirstByte (is_byte separator) text None
    → cut_at separator text ≡ text ∷ []
cut-at_none separator text first =
    slice_split_none (is_byte separator) text
    (All-from_get_or (λ byte. is_byte separator byte ≡ false) text 0
    (λ place low. failed (is_byte separator (get_or text place 0)) (first place (omega arith) low)))

-- the first piece ends at the first separator
pub cut-at_first :
    (separator : ℕ) (text : List ℕ) (end : ℕ)
    → IsFirstByte (is_byte separator) text (Some end)
    → cut_at separator text ≡ take end text ∷ cut_at separator (drop (end + 1) text)
cut-at_first separator text end first =
    let inside : end < length text = first.0.high in
    let whole : text ≡ take end text ++ (slice_index text end ∷ drop (end + 1) text) =
    sym (take-append-drop end text)
    ∙ ap (λ rest. take end text ++ rest) (drop_more text end 0 inside)
    in ap (cut_at separator) whole
    ∙ slice_split_at
    (is_byte separator) (take end text) (slice_index text end) (drop (end + 1) text)
    (all-failed (is_byte separator) text end (omega arith) first.0.before) first.1

module _ (separator : ℕ) where
  -- whether a byte is the separator
  abbrev separates : ℕ → Bool
  separates byte = byte == separator

  -- the first of more pieces ends at a separator
  first-joined :
      (first : List ℕ) (pieces : List (List ℕ))
      → 0 < length pieces
      → join_with_byte separator (first ∷ pieces)
      ≡ first ++ separator ∷ join_with_byte separator pieces
  first-joined first [] some = absurd (lt_irrefl 0 some)
  first-joined first (next ∷ rest) some = refl

  -- the first separator stands behind a text that lacks it
  first-place :
      (before behind : List ℕ)
      → Lacks separator before
      → position_or_len separates (before ++ separator ∷ behind) ≡ length before
  first-place [] behind lacks = rw (eq-eqb separator separator refl) refl
  first-place (byte ∷ before) behind lacks =
      let later = first-place before behind lacks.1 in
      let more : 1 + position_or_len separates (before ++ separator ∷ behind)
      ≡ suc (length before) =
      omega (arith, later) in
      rw (ne_eqb byte separator lacks.0) more

  -- no place of a text that lacks it has one
  no-place : (text : List ℕ) → Lacks separator text → position_or_len separates text ≡ length text
  no-place [] lacks = refl
  no-place (byte ∷ text) lacks =
      let later = no-place text lacks.1 in
      let more : 1 + position_or_len separates text ≡ suc (length text) = omega (arith, later) in
      rw (ne_eqb byte separator lacks.0) more

  -- a text has a separator that stands in it
  any-at :
      (before behind : List ℕ) → list_any separates (before ++ separator ∷ behind) ≡ true
  any-at [] behind = rw (eq-eqb separator separator refl) refl
  any-at (byte ∷ before) behind = elim (cases_Bool (separates byte)) [
    | inl at ↦ rw at refl
    | inr other ↦ rw other (any-at before behind)
  ]

  -- a text that lacks it has none
  any-none : (text : List ℕ) → Lacks separator text → list_any separates text ≡ false
  any-none [] lacks = refl
  any-none (byte ∷ text) lacks = rw (ne_eqb byte separator lacks.0) (any-none text lacks.1)

  -- A text that is cut once.
  module _
      (text before behind : List ℕ)
      (cut : cut_at separator text ≡ before ∷ cut_at separator behind) where
    -- the separator is the first
    pub cut-lacks : Lacks separator before
    cut-lacks = (subst (AllByRecursion (Lacks separator)) cut (cut_at-is separator text).apart).0

    -- its parts and the separator are the text
    pub cut-whole : text ≡ before ++ separator ∷ behind
    cut-whole =
        let rest = cut_at-is separator behind in
        sym (cut_at-is separator text).joined ∙ ap (join_with_byte separator) cut
        ∙ first-joined before (cut_at separator behind) rest.some
        ∙ ap (λ joined. before ++ separator ∷ joined) rest.joined

    -- it has a separator
    pub cut-has : list_any separates text ≡ true
    cut-has = ap (list_any separates) cut-whole ∙ any-at before behind

    -- the first separator is behind what stands before it
    cut-place : position_or_len separates text ≡ length before
    cut-place =
        ap (position_or_len separates) cut-whole ∙ first-place before behind cut-lacks

    -- what stands before the first separator
    pub cut-before : before_first separates text ≡ before
    cut-before =
        ap (λ place. take place text) cut-place ∙ ap (take (length before)) cut-whole
        ∙ take_at before (separator ∷ behind) (length before) refl

    -- what stands behind it
    pub cut-behind : after_first separates text ≡ behind
    cut-behind =
        let front = before ++ separator ∷ [] in
        let size : length front ≡ length before + 1 =
        omega (arith, length-append before (separator ∷ [])) in
        ap (λ place. drop (place + 1) text) cut-place
        ∙ ap (drop (length before + 1))
        (cut-whole ∙ sym (append_assoc before (separator ∷ []) behind))
        ∙ drop_at front behind (length before + 1) size

  -- A text that can't be cut.
  module _ (text : List ℕ) (uncut : cut_at separator text ≡ text ∷ []) where
    -- no byte is the separator
    pub uncut-lacks : Lacks separator text
    uncut-lacks =
        (subst (AllByRecursion (Lacks separator)) uncut (cut_at-is separator text).apart).0

    -- it has none
    pub uncut-has : list_any separates text ≡ false
    uncut-has = any-none text uncut-lacks

    -- so it is no text with one in it
    pub uncut-none : (before behind : List ℕ) → text ≡ before ++ separator ∷ behind → ⊥
    uncut-none before behind is =
        let wrong : true ≡ false =
        sym (any-at before behind) ∙ ap (list_any separates) (sym is) ∙ uncut-has in
        cc

    -- all of it stands before
    pub uncut-before : before_first separates text ≡ text
    uncut-before =
        take_all (position_or_len separates text) text (omega (arith, no-place text uncut-lacks))
