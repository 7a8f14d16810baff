use Rattle.std.proofs.Common.{◌∙◌, refl, sym}
use Rattle.std.proofs.lemmas.Result.{on_ok_weaker}
use Rattle.carried_tables.proofs.KeptIdLemmas.{gain-shared, gain-unused}
use Rattle.carried_tables.proofs.kept_ids.KeptIds.add.Goals as goal

-- a record has the ID already
pub returns-then-holds : goal.returns-then-holds
returns-then-holds c =
    let old = c.args.self.now in
    on_ok_weaker c.add.result (λ shared.
    gain-shared old (record old { shared = c.add.new.self }) c.args.id
    (sym c.holds.ensures ∙ c.if-holds.true) refl shared)
    c.add.ensures.added

-- it is the first
pub returns : goal.returns
returns c =
    let old = c.args.self.now in
    on_ok_weaker c.add-2.result (λ added.
    gain-unused old (record old { used = c.add-2.new.self }) c.args.id
    (sym c.holds.ensures ∙ c.if-holds.false) added refl)
    c.add-2.ensures.added
