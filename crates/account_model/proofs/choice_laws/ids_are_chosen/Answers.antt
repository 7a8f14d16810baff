use Rattle.std.proofs.Common.{subst}
use Rattle.account_model.specs.Ids.{IsChosenId, chosen_id}
use Rattle.account_model.proofs.IdsLaws.{chosen_id-is, chosen-one}
use Rattle.account_model.proofs.choice_laws.ids_are_chosen.Goals as goal

pub returns : goal.returns
returns c = λ kind range used choice. (
  chosen-one kind range used (chosen_id kind range used) choice (chosen_id-is kind range used),
  λ e. subst (λ found. IsChosenId kind range used found) e (chosen_id-is kind range used),
)
