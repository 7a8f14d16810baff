use Rattle.std.proofs.Common.{◌∙◌, ap, sym}
use Rattle.acct_text.specs.Pieces.{cut_at}
use Rattle.account_model.specs.Text.{comma, is_listed, nonempty}
use Rattle.acct_lines.proofs.NamesCut.{listed-here, listed-behind}
use Rattle.acct_lines.proofs.fields.lists.Goals as goal

pub returns-then-is_name : goal.returns-then-is_name
returns-then-is_name c =
    let cut = c.in-Some.cut in
    let name = c.args.name.now in
    sym (sym c.names.invariant
    ∙ ap (λ pieces. is_listed name (nonempty pieces)) c.in-Some.ensures.cut
    ∙ listed-here name cut.before.now (cut_at comma cut.behind.now)
    (sym c.is_name.ensures ∙ c.if-is_name.true))

pub names-preserved : goal.names-preserved
names-preserved c =
    let cut = c.in-Some.cut in
    let name = c.args.name.now in
    listed-behind name cut.before.now (cut_at comma cut.behind.now)
    (sym c.is_name.ensures ∙ c.if-is_name.false)
    ∙ ap (λ pieces. is_listed name (nonempty pieces)) (sym c.in-Some.ensures.cut)
    ∙ c.names.invariant

pub returns : goal.returns
returns c =
    c.is_name-2.ensures
    ∙ ap (λ pieces. is_listed c.args.name.now (nonempty pieces)) (sym c.in_default.ensures.cut)
    ∙ c.names.invariant
