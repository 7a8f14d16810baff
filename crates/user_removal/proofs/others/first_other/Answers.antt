use Rattle.std.proofs.Common.{Bool, ◌∙◌, not, sym}
use Rattle.std.proofs.lemmas.Result.{IfOk-weaker}
use Rattle.account_model.specs.declared.records.PasswdRecord.{PasswdRecord}
use Rattle.account_model.specs.Format.{is_named}
use Rattle.account_model.specs.Records.{passwd_format}
use Rattle.account_model.specs.Tables.{passwd_records}
use Rattle.user_removal.specs.Others.{has_id}
use Rattle.user_removal.proofs.UserdelLemmas.{others-found}
use Rattle.user_removal.proofs.others.first_other.Goals as goal

-- none of the others has it
pub returns-then-lacks : goal.returns-then-lacks
returns-then-lacks c = sym (c.in_ok-lacks.ensures {u = tt} c.if-lacks.true)

pub returns : goal.returns
returns c =
    let test = has_id c.args.id in
    let is_other : PasswdRecord → Bool = λ user. not (is_named passwd_format c.args.name.now user) in
    IfOk-weaker c.first_user.result _ _ (λ found is.
    is ∙ others-found is_other test (passwd_records c.args.tables.now))
    c.first_user.ensures
