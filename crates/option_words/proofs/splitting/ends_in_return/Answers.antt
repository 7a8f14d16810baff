use Rattle.std.proofs.Common.{[], ◌∙◌, ap, sym}
use Rattle.account_model.specs.LineWords.{ends_in_return}
use Rattle.account_model.proofs.ReadIsSplit.{ends-behind}
use Rattle.option_words.proofs.splitting.ends_in_return.Goals as goal

pub returns-in-Some : goal.returns-in-Some
returns-in-Some c =
    sym (ap ends_in_return c.in-Some.ensures.cases.0
    ∙ ends-behind c.in-Some.field-0-1.now c.in-Some.last.now [])
