use Rattle.std.proofs.Common.{◌∙◌, sym, ap, List}
use Rattle.intent_file.specs.Intent.{NewTable}
use Rattle.lock_steps.specs.Gathered.{with_listed}
use Rattle.lock_steps.proofs.GatheredLemmas.{listed-last}
use Rattle.lock_steps.proofs.gathered.files_of.Goals as goal

pub tables-preserved : goal.tables-preserved
tables-preserved c =
    let left = c.pop.new.self.items in
    ap (with_listed left) c.put.ensures
    ∙ (sym (listed-last left c.in-Some.new c.tables.files)
    ∙ (ap (λ (tables : List NewTable). with_listed tables c.tables.files)
    (sym c.in-Some.ensures.items)
    ∙ c.tables.invariant))
