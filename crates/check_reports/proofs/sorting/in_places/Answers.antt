use Rattle.std.proofs.Common.{◌∙◌, ◌++◌, drop, length, map, sym, ap, arith}
use Rattle.acct_text.specs.Lines.{file_bytes}
use Rattle.account_model.specs.Edits.{in_places}
use Rattle.check_reports.specs.Sorted.{seen_keyed}
use Rattle.check_reports.proofs.KeyedLines.{placed-end}
use Rattle.check_reports.proofs.sorting.in_places.Goals as goal

pub lines-preserved : goal.lines-preserved
lines-preserved g c = record {
  inside = c.in_ok-next.ensures.inside;
  placed = c.in_ok-next.ensures.placed c.take.new.self
      ∙ ap (λ lines. c.lines.made
      ++ file_bytes (in_places g.R.TableRecord.format
      (map seen_keyed (drop c.lines.next c.args.keyed.now)) lines))
      (sym c.in-Some.ensures.taken)
      ∙ c.lines.invariant.placed;
}

pub lines-smaller : goal.lines-smaller
lines-smaller g c = omega (arith, ap length c.in-Some.ensures.taken)

pub returns : goal.returns
returns g c =
    placed-end g.R.TableRecord.format (map seen_keyed (drop c.lines.next c.args.keyed.now))
    c.lines.left c.lines.made _ c.in_default.ensures.taken c.lines.invariant.placed
