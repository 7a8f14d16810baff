use Rattle.std.proofs.Common.{◌∙◌, ◌+◌, ap, sym}
use Rattle.std.proofs.lemmas.Result.{on_ok_weaker}
use Rattle.account_model.specs.Problems.{at_line}
use Rattle.check_reports.specs.Reported.{with_problems}
use Rattle.check_reports.proofs.ReportWalk.{line-told}
use Rattle.check_reports.proofs.report.Report.push_checked.Goals as goal

pub returns : goal.returns
returns g c =
    let tab = c.args.tab in
    let place = c.args.place in
    let checked = c.args.checked.now in
    on_ok_weaker c.push_line.result
    (λ pushed before tells.
    pushed
    ∙ ap (λ report. with_problems tab (at_line (place + 1) checked.problems) report)
    c.in_ok-push_repeated.ensures
    ∙ line-told g.R.TableRecord.format (g.K.Checks.problems c.args.known.now)
    (g.met.K.Checks.tells_repeated c.args.known.now) tab c.args.names.now place before
    c.args.text.now checked c.args.self.now
    (sym c.is_nis.ensures ∙ c.if-is_nis.false) c.requires.checked tells)
    c.push_line.ensures
