use Rattle.std.proofs.Common.{◌∙◌, [], length, refl, sym, ap, subst, arith}
use Rattle.std.specs.List.{AllByRecursion}
use Rattle.acct_text.specs.Lines.{file_bytes, lines_of}
use Rattle.acct_text.proofs.LinesLaws.{lines_of-are}
use Rattle.account_model.specs.Edits.{edited_by}
use Rattle.account_model.specs.Format.{records_of}
use Rattle.account_model.specs.RecordEdits.{IsWrittenEdit}
use Rattle.account_model.specs.Tables.{table_records}
use Rattle.acct_tables.specs.SeenLines.{seen_line}
use Rattle.acct_tables.proofs.FileLemmas.{records-in}
use Rattle.check_reports.specs.Gathered.{IsGrown, made_edits}
use Rattle.check_reports.specs.Sorted.{IsOrderOf}
use Rattle.check_reports.proofs.GrownLemmas.{grown-fresh, grown-walk, written-walk}
use Rattle.check_reports.proofs.PlaceLemmas.{place-fits}
use Rattle.check_reports.proofs.RecordWalk.{records-around, records-more, with_next}
use Rattle.check_reports.proofs.making.with_missing.Goals as goal

pub lines-init : goal.lines-init
lines-init g c =
    let main = g.M.TableRecord.format in
    let format = g.H.TableRecord.format in
    let make = g.T.Making.make c.args.making.now in
    let are = c.of-left.ensures ∙ c.text_of.ensures in
    let records = records-in main _ c.args.main.now are in
    record {
      taken = record { done = []; joined = are };
      grown = grown-fresh main format _ c.args.text.now c.in_ok-of.ensures c.in_ok-of-2.ensures refl;
      written = subst (λ mains. AllByRecursion (IsWrittenEdit format) (made_edits make mains))
          (sym records) c.requires.written;
      so_far = ap (λ mains. edited_by format (made_edits make mains)
          (lines_of c.in_ok-of.field-0)) records
          ∙ ap (λ text. edited_by format
          (made_edits make (table_records main c.args.main.now)) (lines_of text))
          c.in_ok-of.ensures;
    }

pub grow-requires : goal.grow-requires
grow-requires g c = λ k.
    let main = g.M.TableRecord.format in
    let format = g.H.TableRecord.format in
    let make = g.T.Making.make c.args.making.now in (
      (refl, tt),
      (
        place-fits main _ _ _ _ c.lines.invariant.taken c.lines.grown.place c.text_of.result.now
            c.lines.invariant.grown.counted c.in-Some.ensures.taken c.text_of.ensures (omega arith),
        (written-walk main format make (main.read c.in-Some.line.text.now) _
            (subst (λ lines. AllByRecursion (IsWrittenEdit format)
            (made_edits make (records_of main lines)))
            c.in-Some.ensures.taken c.lines.invariant.written)).0,
      ),
    )

pub lines-preserved : goal.lines-preserved
lines-preserved g c =
    let main = g.M.TableRecord.format in
    let format = g.H.TableRecord.format in
    let make = g.T.Making.make c.args.making.now in
    let taken = c.lines.invariant.taken in
    let line = seen_line c.in-Some.line in
    let next = c.in-Some.ensures.taken in
    let is = subst (λ records. IsOrderOf main records c.args.order.now)
    (sym (records-in main _ c.args.main.now refl)
    ∙ records-around main _ _ c.take.new.self line taken next) c.requires.order in
    let grows = c.in_ok-grow.ensures {u = tt} _ _ is c.lines.invariant.grown in
    record {
      taken = with_next _ _ line c.take.new.self taken next;
      grown = subst (λ records. IsGrown main format records c.grow.new.grown)
          (sym (records-more main taken.done line))
          grows.grown;
      written = (written-walk main format make (main.read c.in-Some.line.text.now) _
          (subst (λ lines. AllByRecursion (IsWrittenEdit format)
          (made_edits make (records_of main lines))) next c.lines.invariant.written)).1;
      so_far = grown-walk main format make (main.read c.in-Some.line.text.now) _ _ _
          grows.lines
          ∙ ap (λ lines. edited_by format (made_edits make (records_of main lines))
          (lines_of c.lines.grown.text)) (sym next)
          ∙ c.lines.invariant.so_far;
    }

pub lines-smaller : goal.lines-smaller
lines-smaller g c = omega (arith, ap length c.in-Some.ensures.taken)

pub returns : goal.returns
returns g c =
    let main = g.M.TableRecord.format in
    let format = g.H.TableRecord.format in
    let make = g.T.Making.make c.args.making.now in
    sym (lines_of-are c.lines.grown.text).joined
    ∙ ap file_bytes (ap (λ lines. edited_by format (made_edits make (records_of main lines))
    (lines_of c.lines.grown.text)) (sym c.in_default.ensures.taken)
    ∙ c.lines.invariant.so_far)
