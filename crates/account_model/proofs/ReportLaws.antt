-- Claim: what pwck and grpck print of a table is the report of its lines (`table-report`). Way: of lines behind earlier
-- ones, the numbers ascend (`behind-ascends`) and pass none of the lines (`behind-within`); the problems of a line come
-- after those of lower numbers and before those of higher ones, which `is_at` leaves out (`behind-of-line`).
use Rattle.std.proofs.Common.{◌≡◌, ℕ, ◌+◌, ◌<◌, ◌≤◌, Bool, true, false, List, [], ◌∷◌, ◌++◌, length, refl, sym, ◌∙◌, ap, subst, arith, append-nil, append_assoc}
use Rattle.std.specs.Prelude.{cond, filter, Option, Some}
use Rattle.std.specs.List.{AllByRecursion}
use Rattle.std.proofs.lemmas.Bool.{eq-eqb, ne_eqb}
use Rattle.acct_text.specs.Lines.{Line, lines_of}
use Rattle.account_model.specs.Format.{Format, records_of}
use Rattle.account_model.specs.Problems.{Problem, RecordProblems, Located, problems_of_line, at_line, is_at, AreAscending, IsReport, problems_behind, table_problems}
use Rattle.account_model.proofs.ListLaws.{all-append}

-- ---- The numbers

-- what ascends from a number ascends from a lower one
lower-ascends :
    (low high : ℕ) (report : List Located)
    → low ≤ high
    → AreAscending high report
    → AreAscending low report
lower-ascends low high [] below ascends = tt
lower-ascends low high (located ∷ rest) below ascends = (omega (arith, below, ascends.0), ascends.1)

-- problems of one line come before all that ascend from its number
at-ascends :
    (number : ℕ) (problems : List Problem) (rest : List Located)
    → AreAscending number rest
    → AreAscending number (at_line number problems ++ rest)
at-ascends number [] rest ascends = ascends
at-ascends number (problem ∷ problems) rest ascends =
    (omega arith, at-ascends number problems rest ascends)

-- the length of lines with one more
length-more : (before : List Line) (line : Line) → length (before ++ line ∷ []) ≡ length before + 1
length-more [] line = refl
length-more (first ∷ before) line = let e = length-more before line in omega (arith, e)

-- the numbers of lines behind earlier ones ascend
behind-ascends :
    {R : Type 0} (format : Format R) (problems : RecordProblems R) (before lines : List Line)
    → AreAscending (length before + 1) (problems_behind format problems before lines)
behind-ascends format problems before [] = tt
behind-ascends format problems before (line ∷ after) =
    at-ascends (length before + 1) (problems_of_line format problems
    (records_of format before) line.text)
    (problems_behind format problems (before ++ line ∷ []) after)
    (lower-ascends (length before + 1) (length (before ++ line ∷ []) + 1) _
    (omega (arith, length-more before line))
    (behind-ascends format problems (before ++ line ∷ []) after))

-- problems of one line have its number
at-within :
    (number bound : ℕ) (problems : List Problem)
    → number ≤ bound
    → AllByRecursion (λ located. located.line ≤ bound) (at_line number problems)
at-within number bound [] small = tt
at-within number bound (problem ∷ problems) small = (small, at-within number bound problems small)

-- the numbers of lines behind earlier ones pass none of the lines
behind-within :
    {R : Type 0} (format : Format R) (problems : RecordProblems R)
    (before lines : List Line) (bound : ℕ)
    → length before + length lines ≤ bound
    → AllByRecursion (λ located. located.line ≤ bound)
    (problems_behind format problems before lines)
behind-within format problems before [] bound small = tt
behind-within format problems before (line ∷ after) bound small =
    all-append (λ located. located.line ≤ bound)
    (at_line (length before + 1) (problems_of_line format problems
    (records_of format before) line.text))
    (problems_behind format problems (before ++ line ∷ []) after)
    (at-within (length before + 1) bound (problems_of_line format problems
    (records_of format before) line.text) (omega (arith, small)))
    (behind-within format problems (before ++ line ∷ []) after bound
    (omega (arith, small, length-more before line)))

-- ---- The problems of one line

-- a filter goes through an append
filter-append :
    (test : Located → Bool) (a b : List Located)
    → filter test (a ++ b) ≡ filter test a ++ filter test b
filter-append test [] b = refl
filter-append test (located ∷ a) b = front (test located) (filter-append test a b)
  where
    front : (passes : Bool) → filter test (a ++ b) ≡ filter test a ++ filter test b
        → cond passes (located ∷ filter test (a ++ b)) (filter test (a ++ b))
        ≡ cond passes (located ∷ filter test a) (filter test a) ++ filter test b
    front true e = ap (λ rest. located ∷ rest) e
    front false e = e

-- all problems of a line are at it
at-itself :
    (number : ℕ) (problems : List Problem)
    → filter (is_at number) (at_line number problems) ≡ at_line number problems
at-itself number [] = refl
at-itself number (problem ∷ problems) = rw (eq-eqb number number refl)
    (ap (λ rest. (let located : Located = record { line = number; problem = problem } in located)
    ∷ rest) (at-itself number problems))

-- and none of them at another
at-other :
    (number other : ℕ) (problems : List Problem)
    → other < number
    → filter (is_at number) (at_line other problems) ≡ []
at-other number other [] less = refl
at-other number other (problem ∷ problems) less =
    rw (ne_eqb other number (λ e. omega (arith, less, e))) (at-other number other problems less)

-- none of what ascends from a higher number is at this one
ascending-none :
    (number least : ℕ) (report : List Located)
    → number < least
    → AreAscending least report
    → filter (is_at number) report ≡ []
ascending-none number least [] above ascends = refl
ascending-none number least (located ∷ rest) above ascends =
    rw (ne_eqb located.line number (λ e. omega (arith, above, ascends.0, e)))
    (ascending-none number located.line rest (omega (arith, above, ascends.0)) ascends.1)

-- lines behind others are more
length-longer :
    (before : List Line) (first : Line) (middle : List Line)
    → length before < length (before ++ first ∷ middle)
length-longer [] first middle = omega arith
length-longer (line ∷ before) first middle =
    let less = length-longer before first middle in omega (arith, less)

-- of lines behind earlier ones, the problems at a line are the line's
behind-of-line :
    {R : Type 0} (format : Format R) (problems : RecordProblems R) (before middle : List Line)
    (line : Line) (after : List Line)
    → filter (is_at (length (before ++ middle) + 1))
    (problems_behind format problems before (middle ++ line ∷ after))
    ≡ at_line (length (before ++ middle) + 1)
    (problems_of_line format problems (records_of format (before ++ middle)) line.text)
behind-of-line format problems before [] line after =
    let same : before ++ [] ≡ before = append-nil before
    in let own = problems_of_line format problems (records_of format before) line.text
    in let rest = problems_behind format problems (before ++ line ∷ []) after
    in subst
    (λ lines. filter (is_at (length lines + 1))
    (problems_behind format problems before (line ∷ after))
    ≡ at_line (length lines + 1) (problems_of_line format problems
    (records_of format lines) line.text))
    (sym same) (
    filter-append (is_at (length before + 1)) (at_line (length before + 1) own) rest
    ∙ ap (λ front. front ++ filter (is_at (length before + 1)) rest)
    (at-itself (length before + 1) own)
    ∙ ap (λ back. at_line (length before + 1) own ++ back)
    (ascending-none (length before + 1) (length (before ++ line ∷ []) + 1) rest
    (omega (arith, length-more before line))
    (behind-ascends format problems (before ++ line ∷ []) after))
    ∙ append-nil (at_line (length before + 1) own)
    )
behind-of-line format problems before (first ∷ middle) line after =
    let moved : (before ++ first ∷ []) ++ middle ≡ before ++ first ∷ middle =
    append_assoc before (first ∷ []) middle
    in let later = subst
    (λ lines. filter (is_at (length lines + 1))
    (problems_behind format problems (before ++ first ∷ []) (middle ++ line ∷ after))
    ≡ at_line (length lines + 1) (problems_of_line format problems
    (records_of format lines) line.text))
    moved (behind-of-line format problems (before ++ first ∷ []) middle line after)
    in filter-append (is_at (length (before ++ first ∷ middle) + 1))
    (at_line (length before + 1) (problems_of_line format problems
    (records_of format before) first.text))
    (problems_behind format problems (before ++ first ∷ []) (middle ++ line ∷ after))
    ∙ ap (λ front. front ++ filter (is_at (length (before ++ first ∷ middle) + 1))
    (problems_behind format problems (before ++ first ∷ []) (middle ++ line ∷ after)))
    (at-other (length (before ++ first ∷ middle) + 1) (length before + 1)
    (problems_of_line format problems (records_of format before) first.text)
    (omega (arith, length-longer before first middle)))
    ∙ later

-- ---- The whole

-- the lines of a table have this report
lines-report :
    {R : Type 0} (format : Format R) (problems : RecordProblems R) (lines : List Line)
    → IsReport format problems lines (problems_behind format problems [] lines)
lines-report format problems lines = record {
  ascending = behind-ascends format problems [] lines;
  within = behind-within format problems [] lines (length lines) (omega arith);
  of_line = λ before line after parts.
      ap (λ all. filter (is_at (length before + 1)) (problems_behind format problems [] all)) parts
      ∙ behind-of-line format problems [] before line after;
}

-- what is printed of a table is the report of its lines
pub table-report :
    {R : Type 0} (format : Format R) (problems : RecordProblems R)
    (content : Option (List ℕ)) (bytes : List ℕ)
    → content ≡ Some bytes
    → IsReport format problems (lines_of bytes) (table_problems format problems content)
table-report format problems content bytes stands =
    subst (λ c. IsReport format problems (lines_of bytes)
    (table_problems format problems c)) (sym stands)
    (lines-report format problems (lines_of bytes))
