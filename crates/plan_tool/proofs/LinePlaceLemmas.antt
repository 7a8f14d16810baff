-- What is known of the last places of texts: one more line is known with its place (`known-more`), and a
-- line that has no place from another one on isn't found there (`none-behind`).
use Rattle.std.proofs.Common.{◌≡◌, ℕ, ◌+◌, ◌≤◌, Bool, true, false, List, [], ◌∷◌, ◌++◌, length, drop, get_or, refl, sym, ◌∙◌, ap, subst, arith, inl, inr, true≢false}
use Rattle.std.specs.Prelude.{Option, Some, None, IsSomeAnd, bytes_eq, position, slice_get, ◌&&◌, if◌then◌else◌}
use Rattle.std.proofs.lemmas.Bool.{cases_Bool, cases_lt, le-leb}
use Rattle.std.proofs.Math.ListN.{get_or-append}
use Rattle.std.proofs.Math.Seq.{get_or-append_seam}
use Rattle.std.proofs.lemmas.List.{get_or-drop, length-append, length-drop}
use Rattle.std.proofs.lemmas.List.Quantifiers.{position-Some}
use Rattle.std.proofs.lemmas.Option.{get_or_from_slice_get, slice_get_within, slice_get-get_or}
use Rattle.std.proofs.lemmas.Slice.Eq.{bytes_eq-Decides}
use Rattle.acct_text.specs.Bytes.{Bytes}
use Rattle.acct_text.specs.Lines.{Line}
use Rattle.account_model.specs.PlanDiff.{same_line}
use Rattle.plan_tool.specs.SeenDiff.{Knows, reaches}

-- ---- One more line

module _ (lines : List Line) (line : Line) (old new : Bytes → Option ℕ) where
  pub known-more :
      Knows lines old
      → ((text : Bytes)
      → new text ≡ (if bytes_eq line.text text then Some (length lines) else old text))
      → Knows (lines ++ line ∷ []) new
  known-more known noted = λ place one is.
      let within = slice_get_within (lines ++ line ∷ []) place one is in
      let size = length-append lines (line ∷ []) in
      let here = get_or_from_slice_get (lines ++ line ∷ []) place one one is in
      elim (cases_Bool (bytes_eq line.text one.text)) [
        | inl same ↦ rw (noted one.text, same) (omega (arith, within, size))
        | inr other ↦ rw (noted one.text, other) (elim (cases_lt place (length lines)) [
          | inl below ↦ known place one
              (slice_get-get_or lines place one below
              ∙ ap Some (sym (get_or-append lines (line ∷ []) one place below) ∙ here))
          | inr past ↦
              let last : place ≡ length lines = omega (arith, within, size, past) in
              let is_one : line ≡ one =
              sym (get_or-append_seam lines line [] one)
              ∙ ap (λ at. get_or (lines ++ line ∷ []) at one) (sym last) ∙ here in
              absurd (true≢false
              (sym ((bytes_eq-Decides line.text one.text).1 (ap (λ l. l.text) is_one)) ∙ other))
        ])
      ]

-- ---- No line

-- both tests pass, so the first does
first-true : (a b : Bool) → (a && b) ≡ true → a ≡ true
first-true true b is = refl
first-true false b is = is

-- the same lines have the same text
same-texts : (line other : Line) → same_line line other ≡ true → line.text ≡ other.text
same-texts line other is =
    (bytes_eq-Decides line.text other.text).0 (first-true _ _ is)

-- a place behind another one reaches that
reached :
    (passed more : ℕ) (told : Option ℕ)
    → IsSomeAnd told (λ last. passed + more ≤ last)
    → reaches passed told ≡ true
reached passed more None is = absurd is
reached passed more (Some last) is = le-leb passed last (omega (arith, is))

-- a line that is found is known at its place
found-known :
    (news : List Line) (told : Bytes → Option ℕ) (passed : ℕ) (line : Line) (place : ℕ)
    → Knows news told
    → position (same_line line) (drop passed news) ≡ Some place
    → reaches passed (told line.text) ≡ true
found-known news told passed line place known found =
    let passes = position-Some (same_line line) (drop passed news) place line found in
    let size = length-drop passed news in
    let other = get_or news (passed + place) line in
    let at : get_or (drop passed news) place line ≡ other = get_or-drop passed news place line in
    let same : line.text ≡ other.text = same-texts line other
    (subst (λ l. same_line line l ≡ true) at passes.1) in
    let there : slice_get news (passed + place) ≡ Some other =
    slice_get-get_or news (passed + place) line (omega (arith, passes.0, size)) in
    reached passed place (told line.text)
    (subst (λ text. IsSomeAnd (told text) (λ last. passed + place ≤ last)) (sym same)
    (known (passed + place) other there))

-- one that isn't known there isn't found
pub none-behind :
    (news : List Line) (told : Bytes → Option ℕ) (passed : ℕ) (line : Line)
    → Knows news told
    → reaches passed (told line.text) ≡ false
    → None ≡ position (same_line line) (drop passed news)
none-behind news told passed line known far =
    by_place (position (same_line line) (drop passed news)) refl
  where
    by_place :
        (found : Option ℕ) → position (same_line line) (drop passed news) ≡ found → None ≡ found
    by_place None is = refl
    by_place (Some place) is =
        absurd (true≢false (sym (found-known news told passed line place known is) ∙ far))
