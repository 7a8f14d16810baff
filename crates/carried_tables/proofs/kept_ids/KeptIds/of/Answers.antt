use Rattle.std.proofs.Common.{◌∙◌, ◌+◌, ◌<◌, cond, length, take, ap, arith}
use Rattle.std.specs.Prelude.{◌==◌}
use Rattle.std.proofs.lemmas.List.{take_all}
use Rattle.std.proofs.lemmas.List.Sorted.{sum_by-IsPermutation}
use Rattle.carried_tables.specs.KeptIds.{counts_of}
use Rattle.carried_tables.proofs.KeptIdLemmas.{listed-counts, none-kept, same-counts}
use Rattle.carried_tables.proofs.kept_ids.KeptIds.of.Goals as goal

-- none has an ID yet
pub ids-init : goal.ids-init
ids-init c = none-kept _ c.new.ensures c.new-2.ensures

-- one more has its ID
pub ids-preserved : goal.ids-preserved
ids-preserved c =
    let ids = c.deref-id-items.result.now in
    let place = c.ids.id-index in
    let inside : place < length ids = omega arith in
    c.in_ok-add.ensures (counts_of (take place ids)) (counts_of (take (place + 1) ids))
    c.ids.invariant (λ id. listed-counts ids place id inside)

-- all of the list, in any order
pub returns : goal.returns
returns c =
    let ids = c.deref-id-items.result.now in
    same-counts c.ids.kept (counts_of (take c.ids.id-index ids)) (counts_of c.args.ids.items)
    (λ id.
    ap (λ ids. counts_of ids id)
    (take_all c.ids.id-index ids (omega arith) ∙ c.deref-id-items.ensures.value)
    ∙ sum_by-IsPermutation (λ other. cond (other == id) 1 0) c.args.ids.items
    c.sort_unstable.new.self.items c.sort_unstable.ensures.permutation)
    c.ids.invariant
