use Rattle.std.proofs.Common.{◌∙◌, None, Some, List, sym, ap}
use Rattle.std.specs.Prelude.{find}
use Rattle.std.specs.Option.{option_copied}
use Rattle.acct_text.specs.Tables.{same_table}
use Rattle.intent_file.specs.Intent.{NewTable}
use Rattle.intent_file.proofs.IntentLemmas.{listed_in-find}
use Rattle.intent_file.proofs.intent.Intent.table.Goals as goal

pub returns-in_err-listed : goal.returns-in_err-listed
returns-in_err-listed c =
    let items = c.deref.ensures.value ∙ ap (λ i. i.tables) c.self.view_is in
    let found = c.in_err-listed.ensures
    ∙ ap (λ (tables : List NewTable). find (λ listed. same_table listed.table c.args.of) tables)
    items in
    ap option_copied c.from_residual.ensures
    ∙ sym (listed_in-find c.args.self.now.tables c.args.of None (sym found))

pub returns : goal.returns
returns c =
    let items = c.deref.ensures.value ∙ ap (λ i. i.tables) c.self.view_is in
    let found = c.in_ok-listed.ensures
    ∙ ap (λ (tables : List NewTable). find (λ listed. same_table listed.table c.args.of) tables)
    items in
    sym (listed_in-find c.args.self.now.tables c.args.of (Some c.in_ok-listed.listed.now)
    (sym found))
