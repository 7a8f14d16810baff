use Rattle.std.proofs.Common.{◌∙◌, ◌+◌, length, sym, ap, arith}
use Rattle.acct_text.specs.Lines.{lines_of}
use Rattle.acct_tables.specs.SeenLines.{seen_line}
use Rattle.acct_tables.proofs.LinesCounted.{lines-counted}
use Rattle.subid_ranges.proofs.PlacedRanges.{meeting-here, meeting-behind}
use Rattle.subid_ranges.proofs.ranges.Ranges.meeting_line.Goals as goal

pub lines-smaller : goal.lines-smaller
lines-smaller c = omega (arith, ap length c.in-Some.ensures.taken)

pub returns-then-meets_in : goal.returns-then-meets_in
returns-then-meets_in c =
    sym (meeting-here (seen_line c.in-Some.line) c.lines.left c.take.new.self c.in-Some.ensures.taken
    c.args.first c.args.last (c.lines.number + 1) (sym c.meets_in.ensures ∙ c.if-meets_in.true))
    ∙ c.lines.invariant.first

pub lines-preserved : goal.lines-preserved
lines-preserved c = record {
  first = sym (meeting-behind (seen_line c.in-Some.line) c.lines.left c.take.new.self
      c.in-Some.ensures.taken c.args.first c.args.last (c.lines.number + 1)
      (sym c.meets_in.ensures ∙ c.if-meets_in.false))
      ∙ c.lines.invariant.first;
  counted = omega (arith, ap length c.in-Some.ensures.taken, c.lines.invariant.counted);
}

pub overflow_add-number : goal.overflow_add-number
overflow_add-number c =
    let text = c.as_slice.result.now in
    omega (
      arith,
      ap length c.in-Some.ensures.taken,
      c.lines.invariant.counted,
      ap length c.self.view_is,
      ap (λ text. length (lines_of text)) c.as_slice.ensures,
      lines-counted text,
    )
