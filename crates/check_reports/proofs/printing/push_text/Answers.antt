use Rattle.std.proofs.Common.{◌∙◌, sym}
use Rattle.std.proofs.lemmas.Result.{on_ok_weaker}
use Rattle.acct_tables.specs.SeenLines.{seen_line}
use Rattle.check_reports.proofs.ChangeLemmas.{other-pushed}
use Rattle.check_reports.proofs.printing.push_text.Goals as goal

pub returns : goal.returns
returns g c =
    let r = g.P.AccountLine.shown c.args.account.now in
    on_ok_weaker c.push_end.result
    (other-pushed g.M.TableRecord.format (seen_line c.args.line.now) r
    (g.P.AccountLine.with_secret c.args.text.now r) c.args.made.now c.push_with.new.made
    c.push_end.new.made (sym c.differs.ensures ∙ c.if-not-differs.false) c.in_ok-push_with.ensures)
    c.push_end.ensures
