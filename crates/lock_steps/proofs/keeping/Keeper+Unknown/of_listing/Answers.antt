use Rattle.std.proofs.Common.{◌∙◌, ℕ, nat_lt, List, rules, ap}
use Rattle.std.proofs.lemmas.Fn.{filter_same}
use Rattle.lock_steps.specs.States.{Kept}
use Rattle.lock_steps.proofs.NumberLemmas.{below-bound}
use Rattle.lock_steps.proofs.keeping.Keeper+Unknown.of_listing.Goals as goal

pub invariant_of-result : goal.invariant_of-result
invariant_of-result c =
    let kept = c.from.ensures.0 ∙ filter_same _ (λ other. nat_lt other c.args.number) _
    (λ other passes after says. search rules)
    c.args.numbers.items c.retain.new.self.items c.retain.ensures.filtered in
    (c.requires.number, rw kept (below-bound c.args.number c.args.numbers.items c.requires.numbers))

pub returns : goal.returns
returns c =
    let kept = c.from.ensures.0 ∙ filter_same _ (λ other. nat_lt other c.args.number) _
    (λ other passes after says. search rules)
    c.args.numbers.items c.retain.new.self.items c.retain.ensures.filtered in
    ap (λ (lower : List ℕ). let keeper : Kept = record {
      token = c.args.holder.token;
      number = c.args.number;
      lower = lower;
    } in keeper) kept
