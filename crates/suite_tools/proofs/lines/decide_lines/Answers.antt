-- A line is written before the others, or refuses them; behind the last the batch is what is written.
use Rattle.std.proofs.Common.{◌∙◌, Err, None, ap, sym}
use Rattle.std.proofs.lemmas.Result.{IfOk-weaker}
use Rattle.account_model.specs.BatchLines.{LineRequest, line_requests}
use Rattle.account_model.proofs.DeedLaws.{batch-stands}
use Rattle.option_words.specs.Batch.{requests_of}
use Rattle.tool_answers.specs.Decisions.{decision_of_lines}
use Rattle.suite_tools.specs.Writing.{seen_written}
use Rattle.suite_tools.proofs.LinesLemmas.{all-written, line-done}
use Rattle.suite_tools.proofs.lines.decide_lines.Goals as goal

pub lines-preserved : goal.lines-preserved
lines-preserved c = record {
  left = c.in_ok-refusal.ensures.left;
  written = λ settings holds.
      sym (line-done c.args.ensuring c.args.day settings c.in-Some.line _ _
      (rw c.in-Some.is at c.in_ok-line.ensures.next) (seen_written c.lines.written)
      (seen_written c.carry_out.new.self) None
      (rw c.in_default-2.is at c.in_ok-refusal.ensures.written settings holds))
      ∙ c.lines.invariant.written settings holds;
}

pub returns-in-Some-2 : goal.returns-in-Some-2
returns-in-Some-2 c = IfOk-weaker c.refuse_line.result _ _ (λ decision is settings holds.
    is
    ∙ (ap (λ (one : LineRequest). decision_of_lines c.args.files.now (Err (record {
      number = one.number;
      tool = one.request.tool;
      refusal = c.in-Some-2.refusal;
    }))) c.line.view_is
    ∙ ap (decision_of_lines c.args.files.now)
    (sym (line-done c.args.ensuring c.args.day settings c.in-Some.line _ _
    (rw c.in-Some.is at c.in_ok-line.ensures.next) (seen_written c.lines.written)
    (seen_written c.carry_out.new.self) _
    (rw c.in-Some-2.is at c.in_ok-refusal.ensures.written settings holds))
    ∙ c.lines.invariant.written settings holds))) c.refuse_line.ensures

pub decision-requires-clause-stand : goal.decision-requires-clause-stand
decision-requires-clause-stand c =
    let settings = c.requires.held.settings in
    batch-stands c.args.ensuring (line_requests c.args.input.now) c.args.day settings
    c.args.files.now _
    (sym (c.lines.invariant.written settings c.requires.held.held)
    ∙ all-written c.args.ensuring c.args.day settings (requests_of c.lines.lines)
    (seen_written c.lines.written)
    (rw c.in_default.is at c.in_ok-line.ensures.next))
