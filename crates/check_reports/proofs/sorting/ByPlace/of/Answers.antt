use Rattle.std.proofs.Common.{◌∙◌, ◌++◌, [], append-nil, length, refl, sym, ap, subst, arith}
use Rattle.account_model.specs.Format.{records_of}
use Rattle.acct_tables.specs.SeenLines.{seen_line}
use Rattle.account_model.specs.Tables.{table_lines}
use Rattle.acct_tables.proofs.FileLemmas.{records-in}
use Rattle.check_reports.specs.Sorted.{IsOrderOf}
use Rattle.check_reports.proofs.PlaceLemmas.{order-other, order-record, order-within, place-fits}
use Rattle.check_reports.proofs.RecordWalk.{records-more, with_next}
use Rattle.check_reports.proofs.sorting.ByPlace.of.Goals as goal

pub lines-init : goal.lines-init
lines-init g c = record {
  taken = record { done = []; joined = c.of-left.ensures ∙ c.text_of.ensures };
  so_far = c.new-order.ensures;
}

pub add-requires-clause-behind : goal.add-requires-clause-behind
add-requires-clause-behind g c =
    let format = g.M.TableRecord.format in
    order-within format (records_of format c.lines.invariant.taken.done) c.lines.order
    c.lines.invariant.so_far

pub add-requires-clause-room : goal.add-requires-clause-room
add-requires-clause-room g c =
    place-fits g.M.TableRecord.format _ _ _ _ c.lines.invariant.taken _ c.text_of.result.now
    c.lines.invariant.so_far.counted c.in-Some.ensures.taken c.text_of.ensures (omega arith)

pub lines-preserved-in-Continue-1 : goal.lines-preserved-in-Continue-1
lines-preserved-in-Continue-1 g c =
    let format = g.M.TableRecord.format in
    let taken = c.lines.invariant.taken in
    let line = seen_line c.in-Some.line in
    record {
      taken = with_next _ _ line c.take.new.self taken c.in-Some.ensures.taken;
      so_far = subst (λ records. IsOrderOf format records c.add.new.self)
          (sym (records-more format taken.done line))
          (order-record format (records_of format taken.done) (format.read line.text)
          c.in-Some-name_of.name.now c.lines.order c.add.new.self
          c.in-Some-name_of.ensures c.lines.invariant.so_far c.in_ok-add.ensures);
    }

pub lines-preserved : goal.lines-preserved
lines-preserved g c =
    let format = g.M.TableRecord.format in
    let taken = c.lines.invariant.taken in
    let line = seen_line c.in-Some.line in
    record {
      taken = with_next _ _ line c.take.new.self taken c.in-Some.ensures.taken;
      so_far = subst (λ records. IsOrderOf format records c.lines.order)
          (sym (records-more format taken.done line))
          (order-other format (records_of format taken.done) (format.read line.text) c.lines.order
          c.in_default-name_of.ensures c.lines.invariant.so_far);
    }

pub lines-smaller-in-Continue-1 : goal.lines-smaller-in-Continue-1
lines-smaller-in-Continue-1 g c = omega (arith, ap length c.in-Some.ensures.taken)

pub lines-smaller : goal.lines-smaller
lines-smaller g c = omega (arith, ap length c.in-Some.ensures.taken)

pub returns : goal.returns
returns g c =
    let format = g.M.TableRecord.format in
    let taken = c.lines.invariant.taken in
    subst (λ records. IsOrderOf format records c.lines.order)
    (ap (records_of format) (sym (append-nil taken.done)
    ∙ ap (λ left. taken.done ++ left) (sym c.in_default.ensures.taken)
    ∙ taken.joined)
    ∙ records-in format (table_lines c.args.main.now) c.args.main.now refl)
    c.lines.invariant.so_far
