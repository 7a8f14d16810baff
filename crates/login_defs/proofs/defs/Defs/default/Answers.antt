use Rattle.std.proofs.Common.{◌∙◌, ap, Some}
use Rattle.std.specs.Prelude.{unwrap_or}
use Rattle.account_model.specs.declared.settings.Key.TheVariants.{UidMin, GidMin}
use Rattle.account_model.specs.Settings.{one_less}
use Rattle.login_defs.proofs.defs.Defs.default.Goals as goal

pub returns-in-SysUidMax : goal.returns-in-SysUidMax
returns-in-SysUidMax c = λ settings has. rw c.in-SysUidMax.is (c.one_less.ensures
    ∙ ap one_less (c.given_or.ensures
    ∙ ap (λ given. unwrap_or given (Some 1000)) (has.values UidMin)))

pub returns-in-SysGidMax : goal.returns-in-SysGidMax
returns-in-SysGidMax c = λ settings has. rw c.in-SysGidMax.is (c.one_less-in-SysGidMax.ensures
    ∙ ap one_less (c.given_or-in-SysGidMax.ensures
    ∙ ap (λ given. unwrap_or given (Some 1000)) (has.values GidMin)))
