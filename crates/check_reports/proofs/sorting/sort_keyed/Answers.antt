use Rattle.std.proofs.Common.{◌≡◌, rules}
use Rattle.std.proofs.lemmas.List.Sorted.{IsNonDecreasingBy-from_sort_by_key, answers_always}
use Rattle.std.proofs.lemmas.Result.{on_ok_weaker}
use Rattle.check_reports.specs.declared.sorting.Keyed.{Keyed}
use Rattle.check_reports.proofs.SortedOnce.{sorted-once}
use Rattle.check_reports.proofs.sorting.sort_keyed.Goals as goal

pub returns : goal.returns
returns c =
    let old = c.args.keyed.now.items in
    let new = c.sort_by_key.new.self.items in
    on_ok_weaker c.sort_by_key.result
    (λ sorted. sorted-once old new
    (IsNonDecreasingBy-from_sort_by_key (λ (p : Keyed). p.key) new sorted
    (λ a r q k. search rules))
    (c.sort_by_key.ensures.stable (λ p. p.key)
    (answers_always _ (λ a r. r ≡ a.0.now.key) _ (λ f a r q k. search rules))))
    c.sort_by_key.ensures.sorted
