use Rattle.std.proofs.Common.{◌∙◌, refl, sym}
use Rattle.carried_tables.proofs.KeptIdLemmas.{lose-follows}
use Rattle.carried_tables.proofs.kept_ids.KeptIds.lose.Goals as goal

-- no other record has the ID
pub returns : goal.returns
returns c = λ known.
    let old = c.args.self.now in
    lose-follows old (record old { used = c.remove.new.self }) c.args.id
    (sym c.holds.ensures ∙ c.if-holds.false) c.in_ok-remove.ensures.removed refl
