use Rattle.std.proofs.Common.{◌<◌, ◌∙◌, get_or, length, take, ap, sym, subst, arith}
use Rattle.std.specs.Prelude.{◌==◌}
use Rattle.std.proofs.lemmas.List.{take_all, take_more}
use Rattle.std.proofs.lemmas.List.Sorted.{list_any-IsPermutation}
use Rattle.account_model.specs.Ids.{is_used}
use Rattle.id_choice.specs.Used.{AreThoseOf}
use Rattle.id_choice.proofs.UsedLemmas.{added-behind}
use Rattle.id_choice.proofs.used.UsedIds.of.Goals as goal

pub ids-preserved : goal.ids-preserved
ids-preserved c =
    let ids = c.deref-id-items.result.now in
    let place = c.ids.id-index in
    let inside : place < length ids = omega arith in
    subst (AreThoseOf c.add.new.self) (sym (take_more ids place 0 inside))
    (added-behind c.ids.used c.add.new.self (take place ids) (get_or ids place 0) c.ids.invariant
    c.in_ok-add.ensures.added)

pub returns : goal.returns
returns c = λ id.
    let ids = c.deref-id-items.result.now in
    c.ids.invariant id
    ∙ ap (λ ids. is_used ids id)
    (take_all c.ids.id-index ids (omega arith) ∙ c.deref-id-items.ensures.value)
    ∙ sym (list_any-IsPermutation (λ other. other == id) c.args.ids.items
    c.sort_unstable.new.self.items c.sort_unstable.ensures.permutation)
