use Rattle.std.proofs.Common.{ap, subst}
use Rattle.std.specs.Prelude.{option_copied}
use Rattle.suite_session.specs.Runner.{Runner}
use Rattle.suite_session.specs.Loading.{DecidesOn}
use Rattle.suite_session.specs.declared.tools.Decided.{Decided}
use Rattle.suite_session.specs.declared.tools.Decided.TheVariants.{Change as Changes}
use Rattle.suite_session.proofs.LoadingTurns.{decides-on}
use Rattle.suite_session.proofs.loading.decided.Goals as goal

-- the tool decided on what was asked and on what was loaded
pub backing_up-requires : goal.backing_up-requires
backing_up-requires g c =
    decides-on _ _ _ _ _ _ (Changes c.in-Ok-Change.new c.in-Ok-Change.answer)
    (ap (λ (one : Runner). one.asked) c.runner.view_is) c.files.ensures.value c.defs.ensures.value
    (subst (λ (one : Decided). DecidesOn c.runner.inside.asked c.files.result.now
    (option_copied c.defs.result) one) c.in-Ok-Change.field-0-is c.in-Ok-Change.ensures)
