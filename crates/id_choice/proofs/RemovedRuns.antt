-- Claims: what is left are the old numbers but those that are taken out (`all-lost`, `one-lost`), in
-- runs that lie apart (`cut-apart`). Way: each run that is left is a part of an old one, before the
-- numbers or behind them, and each old number beside them is in such a part.
use Rattle.std.proofs.Common.{◌≡◌, ℕ, ◌+◌, ◌-◌, ◌<◌, ◌≤◌, Bool, true, List, refl, sym, ◌∙◌, ap, arith, inl, inr, lt_irrefl}
use Rattle.std.specs.Prelude.{Option, Some, None, min, nat_le, not, option_map, ◌&&◌, ◌==◌, ◌⊎◌}
use Rattle.std.specs.BTreeMap.{BTreeMap, get}
use Rattle.std.specs.Ordering.{nat_cmp}
use Rattle.std.proofs.lemmas.Bool.{and_from, and_parts, and_right, cases_eq, cases_lt, cases_order, eq-eqb, eqb-true, false≢true, leb-true, lt-leb, not-true}
use Rattle.std.proofs.lemmas.Option.{none-some, same_Some}
use Rattle.account_model.specs.Ids.{in_range, is_used}
use Rattle.id_choice.specs.declared.runs.Run.{Run}
use Rattle.id_choice.specs.RunMaps.{IsRunMap, AreApartUpTo, EndsBefore, HoldsRun, HasUpTo, IsWithoutRuns, KeepsBehind, LiesIn, numbers_of}
use Rattle.id_choice.specs.Runs.{LosesAll, LosesOne}
use Rattle.id_choice.proofs.AddedRuns.{in-bounds, tests-agree}
use Rattle.id_choice.proofs.RunLemmas.{EndBefore, lies-used, used-lies}

-- ---- Numbers beside others

-- a number before the first or behind the last isn't one of them
beside-passes :
    (first last number : ℕ)
    → (number < first) ⊎ (last < number)
    → not (in_range first last number) ≡ true
beside-passes first last number (inl less) =
    ap (λ (begins : Bool). not (begins && nat_le number last)) (lt-leb first number less)
beside-passes first last number (inr more) =
    ap not (and_right (nat_le first number) (nat_le number last) (lt-leb number last more))

-- and one that isn't lies there
passes-beside :
    (first last number : ℕ)
    → not (in_range first last number) ≡ true
    → (number < first) ⊎ (last < number)
passes-beside first last number passes = elim (cases_lt number first) [
  | inl less ↦ inl less
  | inr above ↦ elim (cases_lt last number) [
    | inl more ↦ inr more
    | inr below ↦
        absurd (false≢true (sym (not-true (in_range first last number) passes)
        ∙ in-bounds first last number above below))
  ]
]

-- one number from the first to the last
one-range : (lost number : ℕ) → in_range lost lost number ≡ (number == lost)
one-range lost number =
    tests-agree (in_range lost lost number) (number == lost)
    (λ is.
    let bounds = and_parts (nat_le lost number) (nat_le number lost) is in
    let above = leb-true lost number bounds.0 in
    let below = leb-true number lost bounds.1 in
    eq-eqb number lost (omega (arith, above, below)))
    (λ is.
    let same = eqb-true number lost is in
    in-bounds lost lost number (omega (arith, same)) (omega (arith, same)))

-- what loses the numbers from one to itself loses that one
pub one-lost :
    (old new : List ℕ) (lost : ℕ)
    → LosesAll old lost lost new
    → LosesOne old lost new
one-lost old new lost loses = λ number.
    loses number ∙ ap (λ (is : Bool). is_used old number && not is) (one-range lost number)

-- ---- What is left of runs

-- what a value is made of
mapped-some :
    (f : ℕ → ℕ) (found : Option ℕ) (value : ℕ)
    → option_map f found ≡ Some value
    → (from : ℕ) × ((found ≡ Some from) × (f from ≡ value))
mapped-some f None value is = absurd (none-some value is)
mapped-some f (Some from) value is = (from, (refl, same_Some (f from) value is))

-- nothing is found where no value can be
none-by : (found : Option ℕ) → ((value : ℕ) → found ≡ Some value → ⊥) → found ≡ None
none-by None never = refl
none-by (Some value) never = absurd (never value refl)

-- a run is a part of an old one, before the numbers or behind them
record IsPart (old : BTreeMap ℕ ℕ) (first last begin end : ℕ) : Type 0 where
  old_begin : ℕ
  old_end : ℕ
  run : HoldsRun old old_begin old_end
  not_before : old_begin ≤ begin
  begins : (begin ≡ old_begin) ⊎ (begin ≡ last + 1)
  ordered : begin ≤ end
  not_past : end ≤ old_end
  beside : (end < first) ⊎ (last < begin)

-- ends up to a bound stay
cut-same :
    (found : Option ℕ) (bound : ℕ)
    → ((last : ℕ) → found ≡ Some last → last ≤ bound)
    → found ≡ option_map (λ last. min last bound) found
cut-same None bound below = refl
cut-same (Some last) bound below =
    let held = below last refl in
    let same : last ≡ min last bound = omega (arith, held) in
    ap Some same

-- where the last run up to a number ends before it, so do all
pub ended-before :
    (runs : BTreeMap ℕ ℕ) (number : ℕ) (run : Run)
    → AreApartUpTo runs number
    → HasUpTo runs number run
    → run.last < number
    → EndsBefore runs runs number
ended-before runs number run apart up past =
    let ends : EndBefore runs number = λ first last other before.
    elim (cases_eq first run.first) [
      | inl same ↦
          let is = same_Some last run.last (sym other ∙ ap (get nat_cmp runs) same ∙ up.has) in
          omega (arith, is, past)
      | inr differs ↦
          let less : first < run.first =
          omega (arith, up.last_one first last other before, differs) in
          let gap = apart.apart first last run.first run.last other up.has less up.begins in
          omega (arith, gap, up.begins)
    ] in
    record {
      before = λ first less. cut-same (get nat_cmp runs first) (number - 1) (λ last is.
          let held = ends first last is (omega (arith, less)) in omega (arith, held));
      none = none-by (get nat_cmp runs number) (λ last is.
          let held = ends number last is (omega arith) in
          let ordered = apart.ordered number last is (omega arith) in
          lt_irrefl number (omega (arith, held, ordered)));
      behind = λ first more. refl;
      ordered = apart.keys;
    }

-- where runs that go on behind a number are kept, those up to it lie apart
pub kept-apart :
    (old kept : BTreeMap ℕ ℕ) (first last : ℕ)
    → first ≤ last
    → IsRunMap old
    → KeepsBehind old kept last
    → AreApartUpTo kept first
kept-apart old kept first last ordered apart keeps =
    let was = λ (begin end : ℕ) (run : HoldsRun kept begin end) (before : begin ≤ first).
    sym (keeps.beside begin (λ same. lt_irrefl last (omega (arith, same, before, ordered))))
    ∙ run in
    record {
      keys = keeps.ordered;
      ordered = λ begin end run before. apart.ordered begin end (was begin end run before);
      apart = λ begin end next other run behind less before.
          let gap = apart.apart begin end next other
          (was begin end run (omega (arith, less, before))) (was next other behind before) less in
          omega (arith, gap);
    }

module _
    (old kept ended new : BTreeMap ℕ ℕ) (first last : ℕ)
    (ordered : first ≤ last)
    (apart : IsRunMap old)
    (keeps : KeepsBehind old kept last)
    (ends : EndsBefore kept ended first)
    (without : IsWithoutRuns ended new first last) where
  -- a run that begins before the numbers ends before them
  before-is :
      (begin : ℕ)
      → begin < first
      → get nat_cmp new begin
      ≡ option_map (λ last. min last (first - 1)) (get nat_cmp old begin)
  before-is begin less =
      without.before begin (omega (arith, less))
      ∙ ends.before begin less
      ∙ ap (option_map (λ (last : ℕ). min last (first - 1)))
      (keeps.beside begin (λ same. lt_irrefl last (omega (arith, same, less, ordered))))

  -- no run begins at one of them
  none-there : (begin : ℕ) → first ≤ begin → begin ≤ last → get nat_cmp new begin ≡ None
  none-there begin above below = elim (cases_lt first begin) [
    | inl less ↦ without.removed begin less below
    | inr more ↦
        let same : begin ≡ first = omega (arith, above, more) in
        ap (get nat_cmp new) same ∙ without.before first (omega arith) ∙ ends.none
  ]

  -- those that begin behind them are kept
  behind-is : (begin : ℕ) → last < begin → get nat_cmp new begin ≡ get nat_cmp kept begin
  behind-is begin more =
      without.past begin more ∙ ends.behind begin (omega (arith, more, ordered))

  -- and are the old ones where they don't touch them
  past-is : (begin : ℕ) → last + 1 < begin → get nat_cmp new begin ≡ get nat_cmp old begin
  past-is begin more =
      behind-is begin (omega (arith, more))
      ∙ keeps.beside begin (λ same. lt_irrefl begin (omega (arith, same, more)))

  -- a run that is left before the numbers
  part-before :
      (begin end : ℕ)
      → HoldsRun new begin end
      → begin < first
      → IsPart old first last begin end
  part-before begin end is less =
      let from = mapped-some (λ (last : ℕ). min last (first - 1)) (get nat_cmp old begin) end
      (sym (before-is begin less) ∙ is) in
      let held = apart.ordered begin from.0 from.1.0 in
      let cut : min from.0 (first - 1) ≡ end = from.1.1 in
      record {
        old_begin = begin;
        old_end = from.0;
        run = from.1.0;
        not_before = omega arith;
        begins = inl refl;
        ordered = omega (arith, held, cut, less);
        not_past = omega (arith, cut);
        beside = inl (omega (arith, cut, less));
      }

  -- one that is left behind them
  part-behind :
      (begin end : ℕ)
      → HoldsRun new begin end
      → last < begin
      → IsPart old first last begin end
  part-behind begin end is more = elim (cases_eq begin (last + 1)) [
    | inl same ↦
        let past = (keeps.kept end).0
        (ap (get nat_cmp kept) (sym same) ∙ sym (behind-is begin more) ∙ is) in
        record {
          old_begin = past.first;
          old_end = end;
          run = past.run;
          not_before = omega (arith, past.begins, same);
          begins = inr same;
          ordered = omega (arith, past.ends, same);
          not_past = omega arith;
          beside = inr more;
        }
    | inr beside ↦
        let run = sym (keeps.beside begin beside) ∙ sym (behind-is begin more) ∙ is in
        record {
          old_begin = begin;
          old_end = end;
          run = run;
          not_before = omega arith;
          begins = inl refl;
          ordered = apart.ordered begin end run;
          not_past = omega arith;
          beside = inr more;
        }
  ]

  -- each run that is left is a part of an old one
  part-of : (begin end : ℕ) → HoldsRun new begin end → IsPart old first last begin end
  part-of begin end is = elim (cases_lt begin first) [
    | inl less ↦ part-before begin end is less
    | inr above ↦ elim (cases_lt last begin) [
      | inl more ↦ part-behind begin end is more
      | inr below ↦ absurd (none-some end (sym (none-there begin above below) ∙ is))
    ]
  ]

  -- two parts of one old run lie on both sides of the numbers
  parts-of-one :
      (begin end next other : ℕ)
      → (part : IsPart old first last begin end)
      → (behind : IsPart old first last next other)
      → part.old_begin ≡ behind.old_begin
      → begin < next
      → end + 1 < next
  parts-of-one begin end next other part behind same less = elim behind.begins [
    | inl begins ↦ absurd (lt_irrefl begin (omega (arith, begins, part.not_before, same, less)))
    | inr begins ↦ elim part.beside [
      | inl before ↦ omega (arith, before, ordered, begins)
      | inr past ↦ absurd (lt_irrefl begin (omega (arith, past, less, begins)))
    ]
  ]

  -- so any two parts lie apart
  parts-apart :
      (begin end next other : ℕ)
      → IsPart old first last begin end
      → IsPart old first last next other
      → begin < next
      → end + 1 < next
  parts-apart begin end next other part behind less =
      elim (cases_order part.old_begin behind.old_begin) [
        | inl same ↦ parts-of-one begin end next other part behind same less
        | inr (inl before) ↦
            let gap = apart.apart part.old_begin part.old_end behind.old_begin behind.old_end
            part.run behind.run before in
            omega (arith, gap, part.not_past, behind.not_before)
        | inr (inr past) ↦
            let gap = apart.apart behind.old_begin behind.old_end part.old_begin part.old_end
            behind.run part.run past in
            absurd (lt_irrefl begin
            (omega (arith, gap, part.not_before, less, behind.ordered, behind.not_past)))
      ]

  -- the runs that are left lie apart
  pub cut-apart : IsRunMap new
  cut-apart = record {
    keys = without.ordered;
    ordered = λ begin end is. (part-of begin end is).ordered;
    small = λ begin end is.
        let part = part-of begin end is in
        let small = apart.small part.old_begin part.old_end part.run in
        omega (arith, small, part.not_past);
    apart = λ begin end next other is there less.
        parts-apart begin end next other (part-of begin end is) (part-of next other there) less;
  }

  -- an old number before the numbers or behind them is left
  old-left : (number : ℕ) → LiesIn old number → (number < first) ⊎ (last < number)
      → LiesIn new number
  old-left number lies (inl less) = record {
    first = lies.first;
    last = min lies.last (first - 1);
    run =
        before-is lies.first (omega (arith, lies.begins, less))
        ∙ ap (option_map (λ (last : ℕ). min last (first - 1))) lies.run;
    begins = lies.begins;
    ends = omega (arith, lies.ends, less);
  }
  old-left number lies (inr more) = elim (cases_lt (last + 1) lies.first) [
    | inl past ↦ record {
      first = lies.first;
      last = lies.last;
      run = past-is lies.first past ∙ lies.run;
      begins = lies.begins;
      ends = lies.ends;
    }
    | inr before ↦ record {
      first = last + 1;
      last = lies.last;
      run =
          behind-is (last + 1) (omega arith)
          ∙ (keeps.kept lies.last).1 (record {
            first = lies.first;
            run = lies.run;
            begins = before;
            ends = omega (arith, lies.ends, more);
          });
      begins = omega (arith, more);
      ends = lies.ends;
    }
  ]

  -- a number that is left is an old one beside them
  new-from : (number : ℕ) → LiesIn new number
      → LiesIn old number × ((number < first) ⊎ (last < number))
  new-from number lies =
      let part = part-of lies.first lies.last lies.run in (
        record {
          first = part.old_begin;
          last = part.old_end;
          run = part.run;
          begins = omega (arith, part.not_before, lies.begins);
          ends = omega (arith, part.not_past, lies.ends);
        },
        elim part.beside [
          | inl before ↦ inl (omega (arith, before, lies.ends))
          | inr behind ↦ inr (omega (arith, behind, lies.begins))
        ],
      )

  -- what is left is what was there but the numbers
  pub all-lost : LosesAll (numbers_of old.entries) first last (numbers_of new.entries)
  all-lost = λ number.
      let there = is_used (numbers_of old.entries) number in
      let passes = not (in_range first last number) in
      tests-agree (is_used (numbers_of new.entries) number) (there && passes)
      (λ is.
      let from = new-from number (used-lies new without.ordered number is) in
      and_from there passes (lies-used old apart.keys number from.0)
      (beside-passes first last number from.1))
      (λ is.
      let parts = and_parts there passes is in
      lies-used new without.ordered number
      (old-left number (used-lies old apart.keys number parts.0)
      (passes-beside first last number parts.1)))
