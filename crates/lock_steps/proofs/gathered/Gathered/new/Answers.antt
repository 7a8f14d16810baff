use Rattle.std.proofs.Common.{◌∙◌, ap}
use Rattle.acct_text.specs.SeenTables.{seen_through}
use Rattle.lock_steps.proofs.GatheredLemmas.{small-seen}
use Rattle.lock_steps.proofs.gathered.Gathered.new.Goals as goal

pub invariant_of-result : goal.invariant_of-result
invariant_of-result c =
    rw (c.see_only.ensures ∙ ap (seen_through c.args.wanted.now) c.files_of-files.ensures)
    (small-seen c.args.wanted.now c.args.tables.items c.requires)
