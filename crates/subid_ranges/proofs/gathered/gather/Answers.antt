use Rattle.std.proofs.Common.{[], length, ap, arith}
use Rattle.acct_text.specs.Lines.{lines_of}
use Rattle.acct_tables.specs.SeenLines.{seen_line}
use Rattle.subid_ranges.specs.RangeLines.{ranges_of}
use Rattle.subid_ranges.proofs.GatheredLemmas.{front-all, front-more}
use Rattle.subid_ranges.proofs.gathered.gather.Goals as goal

pub lines-init : goal.lines-init
lines-init g c = record {
  front = [];
  is = c.requires;
  whole = ap ranges_of c.of-left.ensures;
}

pub lines-preserved : goal.lines-preserved
lines-preserved g c =
    front-more g.G.Gathered.is_of (ranges_of (lines_of c.args.text.now)) (seen_line c.in-Some.line)
    c.lines.left c.take.new.self c.lines.known c.note_line.new.known c.in-Some.ensures.taken
    c.in_ok-note_line.ensures c.lines.invariant

pub lines-smaller : goal.lines-smaller
lines-smaller g c = omega (arith, ap length c.in-Some.ensures.taken)

pub returns : goal.returns
returns g c =
    front-all g.G.Gathered.is_of (ranges_of (lines_of c.args.text.now)) c.lines.left c.lines.known
    c.in_default.ensures.taken c.lines.invariant
