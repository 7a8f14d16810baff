-- Claim: an index that tells of lines tells of one line more once its record is noted
-- (`told-record`), and at other text as before (`told-other`), so once the line is noted
-- (`told-line`); it tells of no more records than there are lines (`told-within`). Way: behind the others a line is the first of its name only where
-- none was, and counts one more (`lines-end`).
use Rattle.std.proofs.Common.{◌≡◌, ℕ, zero, suc, ◌+◌, ◌<◌, ◌≤◌, Bool, true, false, List, [], ◌∷◌, ◌++◌, append-nil, length, take, drop, refl, sym, ◌∙◌, ap, ap₂, subst, arith, inl, inr, cond, add-one, zero-add, if◌then◌else◌}
use Rattle.std.specs.Prelude.{Option, Some, None, IfSome, bytes_eq, count_by}
use Rattle.std.specs.List.{position_from}
use Rattle.std.proofs.lemmas.Bool.{cases_Bool}
use Rattle.std.proofs.lemmas.List.{length-map, length-take-le, map-append, take-append-drop}
use Rattle.std.proofs.lemmas.List.Sums.{count_by-le-length, sum_by-append, sum_by-cons}
use Rattle.std.proofs.lemmas.Slice.Eq.{bytes_eq-Decides}
use Rattle.acct_text.specs.Lines.{Line}
use Rattle.account_model.specs.Format.{Format}
use Rattle.acct_tables.specs.declared.name_index.NamedLines.{NamedLines}
use Rattle.acct_tables.specs.NameIndex.{IsLineNoted, IsNoted, TellsOf, TellsAtMost, Told, has_name, line_name, line_names, lines_named, records_at, with_last}

-- ---- One line more

-- the first place, else the last
abbrev pub or_last : Option ℕ → Option ℕ → Option ℕ
or_last None last = last
or_last (Some place) last = Some place

-- by whether the first element passes
first-by :
    (passes : Bool) (start : ℕ) (behind last after : Option ℕ)
    → after ≡ or_last behind last
    → (if passes then Some start else after) ≡ or_last (if passes then Some start else behind) last
first-by true start behind last after is = refl
first-by false start behind last after is = is

-- the first that passes is the last element only where none in front of it does
pub first-end :
    {X : Type 0} (test : X → Bool) (start : ℕ) (xs : List X) (x : X)
    → position_from test start (xs ++ x ∷ [])
    ≡ or_last (position_from test start xs) (if test x then Some (start + length xs) else None)
first-end test start [] x =
    let same : start ≡ start + 0 = omega arith in
    ap (λ place. if test x then Some place else None) same
first-end test start (y ∷ ys) x =
    let behind = position_from test (start + 1) ys in
    let same : (start + 1) + length ys ≡ start + length (y ∷ ys) = omega arith in
    first-by (test y) start behind (if test x then Some (start + length (y ∷ ys)) else None)
    (position_from test (start + 1) (ys ++ x ∷ []))
    (first-end test (start + 1) ys x
    ∙ ap (λ place. or_last behind (if test x then Some place else None)) same)

-- the last element counts where it passes
count-end :
    {X : Type 0} (test : X → Bool) (xs : List X) (x : X)
    → count_by test (xs ++ x ∷ []) ≡ (if test x then suc (count_by test xs) else count_by test xs)
count-end test xs x =
    let both : count_by test (xs ++ x ∷ []) ≡ count_by test xs + count_by test (x ∷ []) =
    sum_by-append (λ x. cond (test x) 1 0) xs (x ∷ []) in
    elim (cases_Bool (test x)) [
      | inl passes ↦
          let one : count_by test (x ∷ []) ≡ 1 = rw passes refl in
          rw passes (omega (arith, both, one))
      | inr fails ↦
          let none : count_by test (x ∷ []) ≡ 0 = rw fails refl in
          rw fails (omega (arith, both, none))
    ]

-- by whether the first element passes
none-by :
    (passes : Bool) (start : ℕ) (behind : Option ℕ) (count : ℕ)
    → (if passes then Some start else behind) ≡ None
    → (behind ≡ None → count ≡ 0)
    → cond passes 1 0 + count ≡ 0
none-by true start behind count none later = absurd cc
none-by false start behind count none later = zero-add count ∙ later none

-- where no element passes, none counts
pub none-counts :
    {X : Type 0} (test : X → Bool) (start : ℕ) (xs : List X)
    → position_from test start xs ≡ None
    → count_by test xs ≡ 0
none-counts test start [] none = refl
none-counts test start (x ∷ xs) none =
    sum_by-cons (λ x. cond (test x) 1 0) x xs
    ∙ none-by (test x) start (position_from test (start + 1) xs) (count_by test xs) none
    (none-counts test (start + 1) xs)

-- by whether the last line has the name, and whether one in front of it has
last-by :
    (named : Bool) (place : ℕ) (first : Option ℕ) (count : ℕ)
    → (first ≡ None → count ≡ 0)
    → records_at (or_last first (if named then Some place else None))
    (if named then suc count else count)
    ≡ (if named then Some (with_last place (records_at first count)) else records_at first count)
last-by true place None count none = ap (λ n. records_at (Some place) (suc n)) (none refl)
last-by true place (Some first) count none = ap (records_at (Some first)) (sym (add-one count))
last-by false place None count none = refl
last-by false place (Some first) count none = refl

-- the records of a name where there is one line more, of this name or of none
pub lines-end :
    (name : List ℕ) (names : List (Option (List ℕ))) (last : Option (List ℕ))
    → lines_named name (names ++ last ∷ [])
    ≡ (if has_name name last
    then Some (with_last (length names) (lines_named name names))
    else lines_named name names)
lines-end name names last =
    let test = has_name name in
    let first = position_from test 0 names in
    ap₂ records_at
    (first-end test 0 names last
    ∙ ap (λ n. or_last first (if test last then Some n else None)) (zero-add (length names)))
    (count-end test names last)
    ∙ last-by (test last) (length names) first (count_by test names) (none-counts test 0 names)

-- ---- What is told

-- by whether it is the name that was noted
noted-by :
    (named : Bool) (place : ℕ) (here there behind : Option NamedLines)
    → (named ≡ true → here ≡ behind)
    → there ≡ behind
    → (if named then Some (with_last place here) else there)
    ≡ (if named then Some (with_last place behind) else behind)
noted-by true place here there behind same is =
    ap (λ found. Some (with_last place found)) (same refl)
noted-by false place here there behind same is = is

module _ (names : List (Option (List ℕ))) (old : Told) (tells : TellsOf names old) where
  -- a record of the name behind all lines is noted
  pub told-record :
      (name : List ℕ) (new : Told)
      → IsNoted name (length names) old new
      → TellsOf (names ++ Some name ∷ []) new
  told-record name new noted = λ other.
      noted other
      ∙ noted-by (bytes_eq name other) (length names) (old name) (old other)
      (lines_named other names)
      (λ named. ap old ((bytes_eq-Decides name other).0 named) ∙ tells other) (tells other)
      ∙ sym (lines-end other names (Some name))

  -- other text stands behind all lines
  pub told-other : TellsOf (names ++ None ∷ []) old
  told-other = λ name. tells name ∙ sym (lines-end name names None)

  -- a line is noted behind all, a record or other text
  pub told-line :
      (name : Option (List ℕ)) (new : Told)
      → IsLineNoted name (length names) old new
      → TellsOf (names ++ name ∷ []) new
  told-line None new same = subst (λ told. TellsOf (names ++ None ∷ []) told) (sym same) told-other
  told-line (Some name) new noted = told-record name new noted

  -- by whether some line has the name
  within-by :
      (first : Option ℕ) (count most : ℕ)
      → count ≤ most
      → IfSome (records_at first count) (λ found. found.count ≤ most)
  within-by None count most few = tt
  within-by (Some first) count most few = few

  -- no name has more records than there are lines
  pub told-within : TellsAtMost (length names) old
  told-within = λ name.
      subst (λ found. IfSome found (λ found. found.count ≤ length names)) (sym (tells name))
      (within-by (position_from (has_name name) 0 names) (count_by (has_name name) names)
      (length names) (count_by-le-length (has_name name) names))

-- ---- Lines left

module _ {X : Type 0} (x : X) (rest : List X) where
  -- the place of the first that is left is one of all
  left-inside : (all : List X) (place : ℕ) → drop place all ≡ x ∷ rest → place < length all
  left-inside [] zero is = absurd cc
  left-inside [] (suc place) is = absurd cc
  left-inside (y ∷ ys) zero is = omega arith
  left-inside (y ∷ ys) (suc place) is = omega (arith, left-inside ys place is)

  -- behind it the others are left
  left-behind : (all : List X) (place : ℕ) → drop place all ≡ x ∷ rest → drop (suc place) all ≡ rest
  left-behind [] zero is = absurd cc
  left-behind [] (suc place) is = absurd cc
  left-behind (y ∷ ys) zero is = cc
  left-behind (y ∷ ys) (suc place) is = left-behind ys place is

  -- up to it are those so far, and it
  left-taken :
      (all : List X) (place : ℕ)
      → drop place all ≡ x ∷ rest
      → take (suc place) all ≡ take place all ++ x ∷ []
  left-taken [] zero is = absurd cc
  left-taken [] (suc place) is = absurd cc
  left-taken (y ∷ ys) zero is = let same : y ≡ x = cc in ap (λ first. first ∷ []) same
  left-taken (y ∷ ys) (suc place) is = ap (λ front. y ∷ front) (left-taken ys place is)

module _ {R : Type 0} (format : Format R) (all left rest : List Line) (place : ℕ) (line : Line)
    (so_far : left ≡ drop place all) (is : left ≡ line ∷ rest) where
  -- the place of the first line that is left is one of all
  pub next-inside : place < length all
  next-inside = left-inside line rest all place (sym so_far ∙ is)

  -- those behind it are left then
  pub next-behind : rest ≡ drop (place + 1) all
  next-behind =
      sym (left-behind line rest all place (sym so_far ∙ is))
      ∙ ap (λ n. drop n all) (sym (add-one place))

  -- so many names are told before it
  pub names-many : length (line_names format (take place all)) ≡ place
  names-many =
      let inside = next-inside in
      length-map (take place all) (line_name format)
      ∙ length-take-le place all (omega (arith, inside))

  -- the names up to it
  pub names-more :
      (name : Option (List ℕ))
      → name ≡ line_name format line
      → line_names format (take (place + 1) all) ≡ line_names format (take place all) ++ name ∷ []
  names-more name named =
      ap (λ n. line_names format (take n all)) (add-one place)
      ∙ ap (line_names format) (left-taken line rest all place (sym so_far ∙ is))
      ∙ map-append (line_name format) (take place all) (line ∷ [])
      ∙ ap (λ name. line_names format (take place all) ++ name ∷ []) (sym named)

-- where none is left, those so far are all
pub none-left : {X : Type 0} (all : List X) (place : ℕ) → drop place all ≡ [] → take place all ≡ all
none-left all place none =
    sym (append-nil (take place all))
    ∙ ap (λ back. take place all ++ back) (sym none)
    ∙ take-append-drop place all
