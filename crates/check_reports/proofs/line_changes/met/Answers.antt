use Rattle.std.proofs.Common.{◌∙◌, Some, refl, sym, ap}
use Rattle.acct_tables.specs.NameIndex.{are_several, told}
use Rattle.check_reports.proofs.ChangeLemmas.{if-false, met-by}
use Rattle.check_reports.proofs.line_changes.met.Goals as goal

pub returns-then-has_several : goal.returns-then-has_several
returns-then-has_several g c = λ records is.
    let format = g.R.TableRecord.format in
    let order = c.args.order.now in
    let touched = sym c.touches.ensures ∙ c.if-not-touches.false in
    let several = ap (λ name. are_several (told order.names name)) (sym c.name-name.ensures)
    ∙ sym c.has_several.ensures ∙ c.if-has_several.true in
    ap Some c.name-name.ensures
    ∙ sym (met-by format (g.C.LineChange.change c.args.change.now) records order
    c.args.line.now (g.L.AccountLine.shown c.in_ok-account.account) (sym c.in_ok-account.ensures) is
    ∙ (rw (touched, several) refl))

pub returns : goal.returns
returns g c = λ records is.
    let format = g.R.TableRecord.format in
    let order = c.args.order.now in
    let several = ap (λ name. are_several (told order.names name)) (sym c.name-name.ensures)
    ∙ sym c.has_several.ensures ∙ c.if-has_several.false in
    sym (met-by format (g.C.LineChange.change c.args.change.now) records order
    c.args.line.now (g.L.AccountLine.shown c.in_ok-account.account) (sym c.in_ok-account.ensures) is
    ∙ (rw several (if-false _ _)))
