use Rattle.std.proofs.Common.{not, eqb, rules}
use Rattle.std.proofs.lemmas.Fn.{filter_same}
use Rattle.memory_folder.proofs.store.drop_number.Goals as goal

pub returns-clause-numbers : goal.returns-clause-numbers
returns-clause-numbers c =
    filter_same _ (λ other. not (eqb other c.args.number)) _ (λ x b q r. search rules) _ _
    c.retain.ensures.filtered
