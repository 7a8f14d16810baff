use Rattle.std.proofs.Common.{◌++◌, [], sym, ◌∙◌, ap, subst, arith}
use Rattle.std.specs.Prelude.{option_map}
use Rattle.std.specs.List.{cons_option}
use Rattle.account_model.specs.Settings.{settings_of}
use Rattle.login_defs.specs.declared.defs.DefsFault.TheVariants.{BadNumber}
use Rattle.login_defs.specs.Held.{HasSettings}
use Rattle.login_defs.specs.LineSetting.{text_setting}
use Rattle.login_defs.proofs.LineLaws.{settings-first, settings-last, settings-moved, goes-on, stops-at, ends-good, ends-bad, error-is}
use Rattle.login_defs.proofs.defs.Defs.read.Goals as goal

pub returns-in_err-take_line-clause-fault : goal.returns-in_err-take_line-clause-fault
returns-in_err-take_line-clause-fault c =
    error-is c.from_residual.result c.in_err-take_line.field-0.0 c.from_residual.ensures.1
    ∙ sym (sym (ap (option_map BadNumber) c.lines.invariant.bad)
    ∙ stops-at c.lines.rest.now c.in-Some.cut.before.now c.in-Some.cut.behind.now
    c.in-Some.ensures.cut c.lines.number c.in_err-take_line.field-0.0
    (sym c.in_err-take_line.ensures.fault))

pub lines-preserved : goal.lines-preserved
lines-preserved c =
    let first = c.in-Some.cut.before.now in
    let rest = c.in-Some.cut.behind.now in
    let cut = c.in-Some.ensures.cut in
    let held = c.lines.invariant.held in
    let setting = text_setting first in
    record {
      held = (
        held.0 ++ cons_option setting [],
        c.in_ok-take_line.ensures.taken held.0 held.1,
        settings-moved held.0 setting (settings_of rest)
            ∙ ap (λ settings. held.0 ++ settings)
            (sym (settings-first c.lines.rest.now first rest cut))
            ∙ held.2,
      );
      bad = sym (goes-on c.lines.rest.now first rest cut c.lines.number
          (sym c.in_ok-take_line.ensures.fault))
          ∙ c.lines.invariant.bad;
      counted = let shorter = c.in-Some.ensures.shorter in omega arith;
    }

pub returns-in_err-take_line-2-clause-fault : goal.returns-in_err-take_line-2-clause-fault
returns-in_err-take_line-2-clause-fault c =
    error-is c.from_residual-in_err-take_line-2.result c.in_err-take_line-2.field-0.0
    c.from_residual-in_err-take_line-2.ensures.1
    ∙ sym (sym (ap (option_map BadNumber) c.lines.invariant.bad)
    ∙ ends-bad c.lines.number c.lines.rest.now c.in_err-take_line-2.field-0.0
    c.in_default.ensures.cut (sym c.in_err-take_line-2.ensures.fault))

pub returns-clause-settings : goal.returns-clause-settings
returns-clause-settings c =
    let rest = c.lines.rest.now in
    let held = c.lines.invariant.held in
    let all =
    ap (λ settings. held.0 ++ settings) (sym (settings-last rest c.in_default.ensures.cut))
    ∙ held.2 in
    subst (λ settings. HasSettings c.take_line-2.new.self settings) all
    (c.in_ok-take_line-2.ensures.taken held.0 held.1)

pub returns-clause-fault : goal.returns-clause-fault
returns-clause-fault c =
    sym (sym (ap (option_map BadNumber) c.lines.invariant.bad)
    ∙ ap (option_map BadNumber) (ends-good c.lines.number c.lines.rest.now c.in_default.ensures.cut
    (sym c.in_ok-take_line-2.ensures.fault)))
