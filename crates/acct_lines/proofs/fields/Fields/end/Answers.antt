use Rattle.std.proofs.Common.{ap}
use Rattle.account_model.specs.declared.fault.LineFault.TheVariants.{FieldCount}
use Rattle.acct_lines.proofs.Taken.{none-left-taken}
use Rattle.acct_lines.proofs.fields.Fields.end.Goals as goal

pub returns-in_default : goal.returns-in_default
returns-in_default c = record {
  other = λ none. c.in_default.not-Taken (none-left-taken c.args.self none);
  told = ap FieldCount c.field_count.ensures;
}
