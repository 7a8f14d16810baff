-- The walk over the lines of a diff: a line that is shown goes to the hunk that has begun (`shown-on`),
-- one that isn't ends it (`hunk-ends`), and so does the end (`last-hunk`).
use Rattle.std.proofs.Common.{◌≡◌, ℕ, suc, ◌+◌, ◌-◌, ◌<◌, ◌≤◌, Bool, true, false, List, [], ◌∷◌, ◌++◌, length, refl, sym, ◌∙◌, ap, append_assoc, append-nil, arith}
use Rattle.std.specs.Prelude.{flat_map, not}
use Rattle.std.specs.List.{onto_first, range_with_len, slice_split}
use Rattle.std.proofs.lemmas.List.{map-id}
use Rattle.std.proofs.lemmas.List.Concat.{flat_map-cons}
use Rattle.std.proofs.lemmas.List.FromFn.{map-range_with_len_more}
use Rattle.std.proofs.lemmas.List.Splits.{length-slice_split, slice_split-cons_no, slice_split-cons_yes}
use Rattle.acct_text.specs.Bytes.{Bytes}
use Rattle.account_model.specs.PlanDiff.{DiffLine, hunk_text, is_shown}
use Rattle.plan_tool.specs.SeenDiff.{hunk_between}

-- ---- Pieces

-- the pieces with these places in front of the first
abbrev continued : List ℕ → List (List ℕ) → List (List ℕ)
continued front [] = front ∷ []
continued front (piece ∷ pieces) = (front ++ piece) ∷ pieces

-- one place more in front of the first piece
continued-onto :
    (front : List ℕ) (place : ℕ) (pieces : List (List ℕ))
    → continued front (onto_first place pieces) ≡ continued (front ++ place ∷ []) pieces
continued-onto front place [] = refl
continued-onto front place (piece ∷ pieces) =
    ap (λ first. first ∷ pieces) (sym (append_assoc front (place ∷ []) piece))

-- no place more in front of it
continued-none :
    (pieces : List (List ℕ))
    → 0 < length pieces
    → continued [] pieces ≡ pieces
continued-none [] some = absurd (omega arith)
continued-none (piece ∷ pieces) some = refl

-- places that follow each other, one more
range-more :
    (start count : ℕ)
    → range_with_len start (count + 1) ≡ range_with_len start count ++ (start + count) ∷ []
range-more start count =
    sym (map-id (range_with_len start (count + 1)))
    ∙ map-range_with_len_more (λ n. n) start count (start + count) refl
    ∙ ap (λ front. front ++ (start + count) ∷ []) (map-id (range_with_len start count))

-- ---- Hunks

module _ (lines : List DiffLine) where
  -- whether the line at a place parts two hunks
  abbrev parts_hunks : ℕ → Bool
  parts_hunks place = not (is_shown lines place)

  -- the hunks of so many places from one on
  abbrev pieces_from : ℕ → ℕ → List (List ℕ)
  pieces_from here count = slice_split parts_hunks (range_with_len here count)

  -- their texts, where the first has begun at an earlier place
  abbrev pub hunks_from : ℕ → ℕ → Bytes
  hunks_from start here = flat_map (hunk_text lines)
      (continued (range_with_len start (here - start)) (pieces_from here (length lines - here)))

  -- where none has begun
  fresh :
      (here count : ℕ)
      → continued [] (pieces_from here count) ≡ pieces_from here count
  fresh here count =
      let size = length-slice_split parts_hunks (range_with_len here count) in
      continued-none (pieces_from here count) (omega (arith, size))

  -- a line that is shown goes to the hunk
  pub shown-on :
      (start here : ℕ)
      → start ≤ here
      → here < length lines
      → is_shown lines here ≡ true
      → hunks_from start (here + 1) ≡ hunks_from start here
  shown-on start here begun inside shown =
      let left = length lines - (here + 1) in
      let rest = range_with_len (here + 1) left in
      let more : length lines - here ≡ suc left = omega (arith, inside) in
      let long : here + 1 - start ≡ here - start + 1 = omega (arith, begun) in
      let at : start + (here - start) ≡ here = omega (arith, begun) in
      let split : pieces_from here (suc left) ≡ onto_first here (pieces_from (here + 1) left) =
      slice_split-cons_no parts_hunks here rest (ap not shown) in
      ap (λ count. flat_map (hunk_text lines)
      (continued (range_with_len start count) (pieces_from (here + 1) left))) long
      ∙ ap (λ front. flat_map (hunk_text lines) (continued front (pieces_from (here + 1) left)))
      (range-more start (here - start)
      ∙ ap (λ last. range_with_len start (here - start) ++ last ∷ []) at)
      ∙ ap (flat_map (hunk_text lines))
      (sym (continued-onto (range_with_len start (here - start)) here
      (pieces_from (here + 1) left)))
      ∙ ap (λ pieces. flat_map (hunk_text lines)
      (continued (range_with_len start (here - start)) pieces)) (sym split)
      ∙ ap (λ count. flat_map (hunk_text lines)
      (continued (range_with_len start (here - start)) (pieces_from here count))) (sym more)

  -- one that isn't shown ends it
  pub hunk-ends :
      (start here : ℕ)
      → here < length lines
      → is_shown lines here ≡ false
      → hunk_between lines start here ++ hunks_from (here + 1) (here + 1) ≡ hunks_from start here
  hunk-ends start here inside hidden =
      let left = length lines - (here + 1) in
      let front = range_with_len start (here - start) in
      let more : length lines - here ≡ suc left = omega (arith, inside) in
      let none : here + 1 - (here + 1) ≡ 0 = omega arith in
      let split : pieces_from here (suc left) ≡ [] ∷ pieces_from (here + 1) left =
      slice_split-cons_yes parts_hunks here (range_with_len (here + 1) left) (ap not hidden) in
      ap (λ count. hunk_text lines front ++ flat_map (hunk_text lines)
      (continued (range_with_len (here + 1) count) (pieces_from (here + 1) left))) none
      ∙ ap (λ pieces. hunk_text lines front ++ flat_map (hunk_text lines) pieces)
      (fresh (here + 1) left)
      ∙ ap (λ first. hunk_text lines first
      ++ flat_map (hunk_text lines) (pieces_from (here + 1) left))
      (sym (append-nil front))
      ∙ sym (flat_map-cons (hunk_text lines) (front ++ []) (pieces_from (here + 1) left))
      ∙ ap (λ pieces. flat_map (hunk_text lines) (continued front pieces)) (sym split)
      ∙ ap (λ count. flat_map (hunk_text lines) (continued front (pieces_from here count)))
      (sym more)

  -- and so does the end
  pub last-hunk :
      (start here : ℕ)
      → here ≡ length lines
      → hunk_between lines start here ≡ hunks_from start here
  last-hunk start here end =
      let front = range_with_len start (here - start) in
      let none : length lines - here ≡ 0 = omega (arith, end) in
      ap (hunk_text lines) (sym (append-nil front))
      ∙ sym (append-nil (hunk_text lines (front ++ [])))
      ∙ sym (flat_map-cons (hunk_text lines) (front ++ []) [])
      ∙ ap (λ count. flat_map (hunk_text lines) (continued front (pieces_from here count)))
      (sym none)
