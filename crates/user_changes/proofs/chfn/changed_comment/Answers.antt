use Rattle.std.proofs.Common.{◌∙◌, ap, [], ◌∷◌}
use Rattle.std.proofs.lemmas.Result.{IfOk-weaker}
use Rattle.account_model.specs.Chfn.{comment_with, given_parts, parts_of}
use Rattle.account_model.specs.Edits.{each_where}
use Rattle.account_model.specs.Format.{is_named}
use Rattle.account_model.specs.Records.{passwd_format}
use Rattle.account_model.specs.Request.{operand}
use Rattle.account_model.specs.Tables.{no_edits}
use Rattle.account_model.specs.Users.{comment_of}
use Rattle.user_changes.proofs.chfn.changed_comment.Goals as goal

pub returns : goal.returns
returns c =
    let asked = c.args.asked.now in
    let files = c.args.tables.now in
    let old = c.in_ok-old.ensures {u = tt}
    ∙ ap (λ user. comment_of user files) c.operand.ensures in
    let comment = c.in_ok-comment.ensures {u = tt}
    ∙ ap (λ text. comment_with (given_parts asked (parts_of text))) (c.as_slice.ensures ∙ old) in
    IfOk-weaker c.change_fields.result _ _
    (λ script is. is ∙ ap (λ text. record no_edits {
      passwd = each_where (is_named passwd_format (operand asked))
          (λ user. record user { comment = text }) ∷ [];
    }) comment)
    c.change_fields.ensures
