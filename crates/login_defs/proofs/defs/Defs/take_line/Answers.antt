use Rattle.std.proofs.Common.{sym, ap, ◌∙◌, Some}
use Rattle.login_defs.proofs.SettingFaults.{may_stand, line-good, line-bad, unknown-line}
use Rattle.login_defs.proofs.defs.Defs.take_line.Goals as goal

pub returns-in-Ok-clause-fault : goal.returns-in-Ok-clause-fault
returns-in-Ok-clause-fault c =
    sym (line-good c.args.number c.args.line.now _ c.in-Some.ensures
    (ap may_stand (sym c.in-Ok.ensures.fault)))

pub returns-in-Err-UnknownKey-clause-taken : goal.returns-in-Err-UnknownKey-clause-taken
returns-in-Err-UnknownKey-clause-taken c =
    unknown-line c.args.self.now c.with.new.self c.args.line.now _ c.in-Some.ensures
    (sym c.in-Err-UnknownKey.ensures.fault ∙ ap Some c.in-Err-UnknownKey.field-0-is)
    c.in-Err-UnknownKey.ensures.unchanged

pub returns-in-Err-UnknownKey-clause-fault : goal.returns-in-Err-UnknownKey-clause-fault
returns-in-Err-UnknownKey-clause-fault c =
    sym (line-good c.args.number c.args.line.now _ c.in-Some.ensures
    (ap may_stand (sym c.in-Err-UnknownKey.ensures.fault ∙ ap Some c.in-Err-UnknownKey.field-0-is)))

pub returns-in-Err-BadNumber-clause-fault : goal.returns-in-Err-BadNumber-clause-fault
returns-in-Err-BadNumber-clause-fault c =
    sym (line-bad c.args.number c.args.line.now _ c.in-Some.ensures
    (ap may_stand (sym c.in-Err-BadNumber.ensures.fault ∙ ap Some c.in-Err-BadNumber.field-0-is)))
