use Rattle.std.proofs.Common.{◌≡◌, ◌∙◌, ◌<◌, ◌≤◌, Bool, true, false, get_or, length, take, refl, ap, sym, subst, arith}
use Rattle.std.specs.Prelude.{◌||◌, All}
use Rattle.std.proofs.lemmas.List.{take_all}
use Rattle.std.proofs.lemmas.List.Elements.{All-get_or}
use Rattle.std.proofs.lemmas.List.Folds.{list_any_more}
use Rattle.std.proofs.lemmas.List.Sorted.{All-permutation, list_any-IsPermutation}
use Rattle.account_model.specs.Ids.{in_range}
use Rattle.id_choice.specs.Runs.{is_run}
use Rattle.id_choice.specs.declared.runs.Run.{Run}
use Rattle.id_choice.proofs.runs.Runs.of.Goals as goal

-- either of two tests first
swapped : (first second : Bool) → (first || second) ≡ (second || first)
swapped true true = refl
swapped true false = refl
swapped false true = refl
swapped false false = refl

pub add-requires : goal.add-requires
add-requires c =
    let runs = c.deref-run-items.result.now in
    let ordered : All (λ (run : Run). run.first ≤ run.last) runs =
    subst (All (λ (run : Run). run.first ≤ run.last)) (sym c.deref-run-items.ensures.value)
    (All-permutation (λ (run : Run). run.first ≤ run.last) c.args.runs.items
    c.sort_unstable_by_key.new.self.items c.sort_unstable_by_key.ensures.permutation c.requires) in
    All-get_or (λ (run : Run). run.first ≤ run.last) runs c.runs.run-index
    (record { first = 0; last = 0 }) c.runs-test.true ordered

pub runs-preserved : goal.runs-preserved
runs-preserved c = λ number.
    let runs = c.deref-run-items.result.now in
    let place = c.runs.run-index in
    let none : Run = record { first = 0; last = 0 } in
    let run = get_or runs place none in
    let inside : place < length runs = omega arith in
    c.in_ok-add.ensures.added number
    ∙ ap (λ (before : Bool). in_range run.first run.last number || before) (c.runs.invariant number)
    ∙ swapped (in_range run.first run.last number) (is_run (take place runs) number)
    ∙ sym (list_any_more (λ (run : Run). in_range run.first run.last number) runs place none inside)

pub returns : goal.returns
returns c = λ number.
    let runs = c.deref-run-items.result.now in
    c.runs.invariant number
    ∙ ap (λ runs. is_run runs number)
    (take_all c.runs.run-index runs (omega arith) ∙ c.deref-run-items.ensures.value)
    ∙ sym (list_any-IsPermutation (λ (run : Run). in_range run.first run.last number)
    c.args.runs.items c.sort_unstable_by_key.new.self.items
    c.sort_unstable_by_key.ensures.permutation)
