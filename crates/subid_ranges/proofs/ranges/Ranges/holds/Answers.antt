use Rattle.std.proofs.Common.{◌∙◌, true, false, length, sym, ap, arith}
use Rattle.acct_tables.specs.SeenLines.{seen_line}
use Rattle.subid_ranges.proofs.PlacedRanges.{held-left}
use Rattle.subid_ranges.proofs.ranges.Ranges.holds.Goals as goal

pub lines-smaller : goal.lines-smaller
lines-smaller c = omega (arith, ap length c.in-Some.ensures.taken)

pub returns-then-holds_in : goal.returns-then-holds_in
returns-then-holds_in c =
    sym (held-left (seen_line c.in-Some.line) c.lines.left c.take.new.self c.in-Some.ensures.taken
    c.args.owner.now c.args.uid c.args.first c.args.last true
    (sym c.holds_in.ensures ∙ c.if-holds_in.true))
    ∙ c.lines.invariant

pub lines-preserved : goal.lines-preserved
lines-preserved c =
    sym (held-left (seen_line c.in-Some.line) c.lines.left c.take.new.self c.in-Some.ensures.taken
    c.args.owner.now c.args.uid c.args.first c.args.last false
    (sym c.holds_in.ensures ∙ c.if-holds_in.false))
    ∙ c.lines.invariant
