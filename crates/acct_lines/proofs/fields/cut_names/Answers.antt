use Rattle.std.proofs.Common.{◌++◌, ap, sym, ◌∙◌}
use Rattle.acct_text.specs.Pieces.{cut_at}
use Rattle.account_model.specs.Text.{comma, nonempty}
use Rattle.acct_lines.proofs.NamesCut.{pushed-piece}
use Rattle.acct_lines.proofs.fields.cut_names.Goals as goal

pub names-preserved : goal.names-preserved
names-preserved c =
    let cut = c.in-Some.cut in
    pushed-piece c.names.names c.push_name.new.names cut.before.now (cut_at comma cut.behind.now)
    c.in_ok-push_name.ensures
    ∙ ap (λ pieces. c.names.names ++ nonempty pieces) (sym c.in-Some.ensures.cut)
    ∙ c.names.invariant

pub returns : goal.returns
returns c =
    c.in_ok-push_name-2.ensures
    ∙ ap (λ pieces. c.names.names ++ nonempty pieces) (sym c.in_default.ensures.cut)
    ∙ c.names.invariant
