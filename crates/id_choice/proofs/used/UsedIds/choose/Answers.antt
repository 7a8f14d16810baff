use Rattle.std.proofs.Common.{ℕ, List, sym, subst, ◌∙◌}
use Rattle.account_model.specs.Ids.{IsChosenId}
use Rattle.id_choice.proofs.UsedLemmas.{preferred-used, none-preferred}
use Rattle.id_choice.proofs.used.UsedIds.choose.Goals.{in_default-via-in-Some+else-not-holds, in_default-via-in_default}
use Rattle.id_choice.proofs.used.UsedIds.choose.Goals as goal

pub returns-in_default : goal.returns-in_default
returns-in_default c = λ ids same.
    let used = c.args.self.now
    in let kind = c.args.kind
    in let range = c.args.range
    in let preferred = c.args.preferred
    in let choice = c.chosen_id.result
    in let is = subst (λ (ids : List ℕ). IsChosenId kind range ids choice) c.self.view_is
    c.chosen_id.ensures
    in elim c.in_default.branch [
      | in_default-via-in-Some+else-not-holds w ↦
          let taken = sym w.holds.ensures ∙ w.if-not-holds.false
          in preferred-used kind range used ids same choice is preferred w.in-Some.id w.in-Some.is
          taken
      | in_default-via-in_default w ↦
          none-preferred kind range used ids same choice is preferred w.in_default.is
    ]
