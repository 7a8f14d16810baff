-- What the line leaves in the tables, and what is printed of it, is written behind the others; and tables that
-- none of them touched stay.
use Rattle.std.proofs.Common.{◌∙◌, None, ap, subst, sym}
use Rattle.account_model.specs.Batch.{line_outcome}
use Rattle.account_model.specs.Request.{Request}
use Rattle.account_model.specs.BatchLines.{LineRequest}
use Rattle.carried_tables.specs.Changes.{UneditedStay}
use Rattle.suite_tools.specs.Writing.{IsWrittenBehind, seen_written}
use Rattle.suite_tools.specs.declared.written.Written.{Written}
use Rattle.suite_tools.proofs.CarryLemmas.{both-stay}
use Rattle.suite_tools.proofs.LinesLemmas.{carried-behind}
use Rattle.suite_tools.proofs.written.Written.carry_out.Goals as goal

pub returns-in_ok-print-in-Ok-clause-written : goal.returns-in_ok-print-in-Ok-clause-written
returns-in_ok-print-in-Ok-clause-written c = λ settings holds.
    let old = c.args.self.now in
    let new = c.print.new.self in
    let behind = λ (request : Request).
    IsWrittenBehind request.tool (seen_written old) (seen_written new) None
    (line_outcome c.args.ensuring request c.args.day settings old.tables) in
    subst behind (c.of.ensures ∙ ap (λ (line : LineRequest). line.request) c.line.view_is)
    (carried-behind c.args.ensuring c.of.result c.args.day settings c.carry_out.new.tables
    c.in-Ok.carried (seen_written old) (seen_written new) (c.in-Ok.ensures settings holds)
    (ap seen_written (c.in_ok-print-in-Ok.ensures {u = tt})))

pub returns-in_ok-print-in-Ok-clause-left : goal.returns-in_ok-print-in-Ok-clause-left
returns-in_ok-print-in-Ok-clause-left c =
    let old = c.args.self.now in
    let files = c.args.files.now in
    let held = c.requires.held in
    subst (λ (written : Written). UneditedStay written.touched files written.tables)
    (sym (c.in_ok-print-in-Ok.ensures {u = tt}))
    (both-stay old.touched c.in-Ok.carried.touched c.joined-self.result files old.tables
    c.carry_out.new.tables c.joined-self.ensures c.requires.left
    (c.in-Ok.ensures held.settings held.held).1)
