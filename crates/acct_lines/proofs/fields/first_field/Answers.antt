use Rattle.std.proofs.Common.{ap, sym}
use Rattle.account_model.specs.Faults.{field_at}
use Rattle.acct_lines.proofs.fields.first_field.Goals as goal

pub returns-in-Some : goal.returns-in-Some
returns-in-Some c = sym (ap (field_at 1) c.in-Some.ensures.cut)

pub returns-in-None : goal.returns-in-None
returns-in-None c = sym (ap (field_at 1) c.in-None.ensures.cut)
