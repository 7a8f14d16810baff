use Rattle.std.proofs.Common.{◌∙◌, Some, length, sym, ap, arith}
use Rattle.std.specs.Prelude.{find, option_map}
use Rattle.acct_text.specs.Lines.{lines_of}
use Rattle.account_model.specs.Format.{records_of}
use Rattle.acct_tables.specs.SeenLines.{seen_line}
use Rattle.check_reports.specs.LineChanges.{is_met_by}
use Rattle.check_reports.proofs.ChangeLemmas.{differ-none, found-behind, found-here}
use Rattle.check_reports.proofs.line_changes.first_met.Goals as goal

pub lines-preserved : goal.lines-preserved
lines-preserved g c =
    let format = g.R.TableRecord.format in
    let change = g.C.LineChange.change c.args.change.now in
    let all = records_of format (lines_of c.args.text.now) in
    sym (found-behind format change all (seen_line c.in-Some.line) c.take.new.self
    (sym (c.in_default-met.ensures all c.requires)))
    ∙ ap (λ lines. find (is_met_by format change all) (records_of format lines))
    (sym c.in-Some.ensures.taken)
    ∙ c.lines.invariant

pub lines-smaller : goal.lines-smaller
lines-smaller g c = omega (arith, ap length c.in-Some.ensures.taken)

pub returns-then-differ : goal.returns-then-differ
returns-then-differ g c =
    let format = g.R.TableRecord.format in
    let all = records_of format (lines_of c.args.text.now) in
    sym (ap (option_map format.name)
    (differ-none format (g.C.LineChange.change c.args.change.now) all all c.args.order.now
    c.requires (c.requires.differ (sym c.differ.ensures ∙ c.if-differ.true))))

pub returns-in-Some-met : goal.returns-in-Some-met
returns-in-Some-met g c =
    let format = g.R.TableRecord.format in
    let change = g.C.LineChange.change c.args.change.now in
    let all = records_of format (lines_of c.args.text.now) in
    ap Some c.in_ok-of.ensures
    ∙ found-here format change all (seen_line c.in-Some.line) c.take.new.self
    c.in-Some-met.name.now (c.in-Some-met.ensures all c.requires)
    ∙ ap (λ lines. option_map format.name (find (is_met_by format change all)
    (records_of format lines))) (sym c.in-Some.ensures.taken)
    ∙ ap (option_map format.name) c.lines.invariant

pub returns : goal.returns
returns g c =
    let format = g.R.TableRecord.format in
    let change = g.C.LineChange.change c.args.change.now in
    let all = records_of format (lines_of c.args.text.now) in
    ap (λ lines. option_map format.name (find (is_met_by format change all)
    (records_of format lines))) (sym c.in_default.ensures.taken)
    ∙ ap (option_map format.name) c.lines.invariant
