-- Claim: the numbers taken with those of one more range are those of the ranges with it
-- (`taken-more`), and of the text with it (`range-takes`); those of ranges that were gathered as runs
-- are theirs as well (`runs-more`, `runs-take`). Way: the ranges of the new text are the old ones and
-- the new one (`ranges-added`).
use Rattle.std.proofs.Common.{◌≡◌, ℕ, ◌+◌, ◌-◌, ◌<◌, ◌≤◌, Bool, true, false, List, [], ◌∷◌, ◌++◌, refl, sym, ◌∙◌, ap, subst, arith, rules}
use Rattle.std.specs.Prelude.{◌||◌, All, None}
use Rattle.std.proofs.Math.Bool.{or-false}
use Rattle.std.proofs.lemmas.List.Elements.{All-append, All-cons}
use Rattle.std.proofs.lemmas.List.Folds.{list_any-append}
use Rattle.acct_text.specs.Lines.{file_bytes, lines_of}
use Rattle.acct_text.proofs.LinesLaws.{lines_of-are}
use Rattle.account_model.specs.declared.records.SubidRecord.{SubidRecord}
use Rattle.account_model.specs.Edits.{Add, with_line}
use Rattle.account_model.specs.FreeRange.{meets}
use Rattle.account_model.specs.Ids.{in_range, is_used}
use Rattle.account_model.specs.Records.{last_id, subid_format}
use Rattle.account_model.specs.Written.{IsSubid, IsWritten}
use Rattle.account_model.proofs.EditLaws.{edit-is}
use Rattle.account_model.proofs.SameLaws.{subid-tells}
use Rattle.acct_tables.proofs.EditedFiles.{edit-found}
use Rattle.id_choice.specs.Runs.{AreThoseOfRuns, is_run}
use Rattle.id_choice.specs.declared.runs.Run.{Run}
use Rattle.subid_ranges.specs.declared.taken.Taken.{Taken}
use Rattle.subid_ranges.specs.Numbers.{is_in_run, is_ranged}
use Rattle.subid_ranges.specs.RangeLines.{new_range, ranges_of, with_range}
use Rattle.subid_ranges.specs.Taken.{AreRunsOf, TakesThoseOf, is_taken}
use Rattle.subid_ranges.proofs.FileLines.{range-written}

-- the ranges of a text with one more
pub ranges-added :
    (r : SubidRecord) (text new : List ℕ)
    → IsWritten subid_format r
    → new ≡ file_bytes (with_line (subid_format.print r) (lines_of text))
    → ranges_of (lines_of new) ≡ ranges_of (lines_of text) ++ r ∷ []
ranges-added r text new written is =
    ap ranges_of (edit-found subid_format refl (Add r) written text new is)
    ∙ edit-is subid_format subid-tells (Add r) (lines_of text) (lines_of-are text).apart written

-- a test of the last of two, without what is behind it
or-last : (a b : Bool) → (a || (b || false)) ≡ (b || a)
or-last true true = refl
or-last true false = refl
or-last false true = refl
or-last false false = refl

-- a number is one of ranges with one more exactly where it is one of that or of the others
ranged-added :
    (ranges : List SubidRecord) (r : SubidRecord) (number : ℕ)
    → is_ranged (ranges ++ r ∷ []) number ≡ (meets number number r || is_ranged ranges number)
ranged-added ranges r number =
    list_any-append (meets number number) ranges (r ∷ [])
    ∙ or-last (is_ranged ranges number) (meets number number r)

-- the numbers of ranges with one more
pub taken-more :
    (ranges : List SubidRecord) (r : SubidRecord) (last : ℕ) (before settled after : Taken)
    → TakesThoseOf ranges before
    → last ≡ last_id r
    → ((number : ℕ) → is_taken settled number ≡ is_taken before number)
    → ((number : ℕ) → is_taken after number
    ≡ (in_range r.first last number || is_taken settled number))
    → TakesThoseOf (ranges ++ r ∷ []) after
taken-more ranges r last before settled after takes is stays put = record {
  same = λ number.
      put number
      ∙ ap (λ end. in_range r.first end number || is_taken settled number) is
      ∙ ap (λ (others : Bool). meets number number r || others) (stays number ∙ takes.same number)
      ∙ sym (ranged-added ranges r number);
}

-- ---- The ranges as runs

-- no range is no run
pub no-runs : (runs : List Run) → runs ≡ [] → AreRunsOf [] runs
no-runs runs none =
    subst (AreRunsOf []) (sym none) (record { same = λ number. refl; ordered = search rules })

-- one more range is one more run
pub runs-more :
    (ranges : List SubidRecord) (r : SubidRecord) (last : ℕ) (old new : List Run)
    → AreRunsOf ranges old
    → 0 < r.count
    → last ≡ last_id r
    → new ≡ old ++ record { first = r.first; last = last } ∷ []
    → AreRunsOf (ranges ++ r ∷ []) new
runs-more ranges r last old new are some is pushed =
    let run : Run = record { first = r.first; last = last } in
    record {
      same = λ number.
          ap (λ runs. is_run runs number) pushed
          ∙ list_any-append (λ (run : Run). in_range run.first run.last number) old (run ∷ [])
          ∙ ap (λ end. is_run old number || (in_range r.first end number || false)) is
          ∙ ap (λ (before : Bool). before || (meets number number r || false)) (are.same number)
          ∙ sym (list_any-append (meets number number) ranges (r ∷ []));
      ordered =
          subst (All (λ run. run.first ≤ run.last)) (sym pushed)
          (All-append (λ run. run.first ≤ run.last) old (run ∷ []) are.ordered
          (All-cons (λ run. run.first ≤ run.last) run [] (omega (arith, is, some)) (search rules)));
    }

-- the numbers of the runs are those of the ranges
pub runs-take :
    (ranges : List SubidRecord) (runs : List Run) (taken : Taken)
    → AreRunsOf ranges runs
    → AreThoseOfRuns runs taken.runs
    → taken.newest ≡ None
    → TakesThoseOf ranges taken
runs-take ranges runs taken are those none = record {
  same = λ number.
      ap (λ newest. is_used taken.runs number || is_in_run newest number) none
      ∙ or-false (is_used taken.runs number)
      ∙ those number
      ∙ are.same number;
}

-- ---- The text

-- and those of the text with it
pub range-takes :
    (owner : List ℕ) (first count last : ℕ) (text new : List ℕ) (before settled after : Taken)
    → TakesThoseOf (ranges_of (lines_of text)) before
    → IsSubid (new_range owner first count)
    → last ≡ first + count - 1
    → ((number : ℕ) → is_taken settled number ≡ is_taken before number)
    → new ≡ file_bytes (with_range owner first count (lines_of text))
    → ((number : ℕ) → is_taken after number
    ≡ (in_range first last number || is_taken settled number))
    → TakesThoseOf (ranges_of (lines_of new)) after
range-takes owner first count last text new before settled after takes held is stays added put =
    subst (λ ranges. TakesThoseOf ranges after)
    (sym (ranges-added (new_range owner first count) text new
    (range-written (new_range owner first count) held) added))
    (taken-more (ranges_of (lines_of text)) (new_range owner first count) last before settled after
    takes is stays put)
