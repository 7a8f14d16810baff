use Rattle.std.proofs.Common.{◌∙◌, ap, sym}
use Rattle.std.specs.Prelude.{find}
use Rattle.std.proofs.lemmas.Result.{IfOk-weaker}
use Rattle.table.specs.TableCells.{records_read}
use Rattle.table.proofs.RecordLemmas.{find-accepted, find-refused}
use Rattle.table.proofs.named_texts.first_accepted.Goals as goal

-- the text that is taken passes, so it is the first of all that do
pub returns-then-passes : goal.returns-then-passes
returns-then-passes g c =
    let format = g.R.TableRecord.format in
    let test = g.T.RecordTest.accepts c.args.test.now in
    let kept = format.read c.in-Some.text.now in
    let rest = records_read format c.take.new.self in
    IfOk-weaker c.read_record.result _ _ (λ found is.
    is
    ∙ sym (find-accepted test kept rest (sym c.passes.ensures ∙ c.if-passes.true))
    ∙ ap (λ texts. find test (records_read format texts)) (sym c.in-Some.ensures)
    ∙ c.texts.invariant)
    c.read_record.ensures.found

-- it doesn't
pub texts-preserved : goal.texts-preserved
texts-preserved g c =
    let format = g.R.TableRecord.format in
    let test = g.T.RecordTest.accepts c.args.test.now in
    let kept = format.read c.in-Some.text.now in
    let rest = records_read format c.take.new.self in
    sym (find-refused test kept rest (sym c.passes.ensures ∙ c.if-passes.false))
    ∙ ap (λ texts. find test (records_read format texts)) (sym c.in-Some.ensures)
    ∙ c.texts.invariant

-- no text is left, so none passes
pub returns : goal.returns
returns g c =
    let format = g.R.TableRecord.format in
    ap (λ texts. find (g.T.RecordTest.accepts c.args.test.now) (records_read format texts))
    (sym c.in_default.ensures)
    ∙ c.texts.invariant
