use Rattle.std.proofs.Common.{◌∙◌}
use Rattle.std.proofs.lemmas.Result.{IfOk-weaker}
use Rattle.acct_tables.proofs.lines.find_record.Goals as goal

pub returns-in-Some-clause-found : goal.returns-in-Some-clause-found
returns-in-Some-clause-found g c = IfOk-weaker c.read_record.result _ _
    (λ found is. is ∙ c.in-Some.ensures.found) c.read_record.ensures.found

pub returns-in-Some-clause-written : goal.returns-in-Some-clause-written
returns-in-Some-clause-written g c = c.read_record.ensures.written c.in-Some.ensures.one_line
