use Rattle.std.proofs.Common.{◌∙◌, length, sym, ap, arith, subst}
use Rattle.std.specs.Prelude.{find}
use Rattle.std.proofs.lemmas.Result.{IfOk-weaker}
use Rattle.account_model.specs.Format.{records_of}
use Rattle.acct_tables.specs.Marks.{IsFromMark}
use Rattle.table.proofs.NumberLemmas.{marked-fewer, marked-passing}
use Rattle.table.proofs.RecordLemmas.{find-accepted, find-refused}
use Rattle.table.proofs.search.first_passing.Goals as goal

-- no line in front of the first with the number passes
pub lines-init : goal.lines-init
lines-init g c =
    let format = g.R.TableRecord.format in
    let test = g.T.RecordTest.accepts c.args.test.now in
    let text = c.args.text.now in
    let from = subst (λ mark. IsFromMark mark text c.from_mark.result.now)
    (c.as_bytes-number.ensures.value ∙ c.format.ensures.text) c.from_mark.ensures in
    ap (λ lines. find test (records_of format lines)) c.of-left.ensures
    ∙ marked-passing format test c.number.result c.number.ensures text c.from_mark.result.now from

-- the line that passes is the first of all that do
pub returns-then-passes : goal.returns-then-passes
returns-then-passes g c =
    let format = g.R.TableRecord.format in
    let test = g.T.RecordTest.accepts c.args.test.now in
    let kept = format.read c.in-Some.line.text.now in
    let rest = records_of format c.take.new.self in
    IfOk-weaker c.read_record.result _ _ (λ found is.
    is
    ∙ sym (find-accepted test kept rest (sym c.passes.ensures ∙ c.if-passes.true))
    ∙ ap (λ lines. find test (records_of format lines)) (sym c.in-Some.ensures.taken)
    ∙ c.lines.invariant)
    c.read_record.ensures.found

-- neither the line that is taken passes, nor one in front of the next with the number
pub lines-preserved : goal.lines-preserved
lines-preserved g c =
    let format = g.R.TableRecord.format in
    let test = g.T.RecordTest.accepts c.args.test.now in
    let kept = format.read c.in-Some.line.text.now in
    let rest = records_of format c.take.new.self in
    let next = c.bytes.result.now in
    let from = subst (λ mark. IsFromMark mark next c.from_mark-in-Some.result.now)
    (c.as_bytes-number.ensures.value ∙ c.format.ensures.text) c.from_mark-in-Some.ensures in
    ap (λ lines. find test (records_of format lines)) c.of-left-in-Some.ensures
    ∙ marked-passing format test c.number.result c.number.ensures next
    c.from_mark-in-Some.result.now from
    ∙ ap (λ lines. find test (records_of format lines)) c.bytes.ensures.lines
    ∙ sym (find-refused test kept rest (sym c.passes.ensures ∙ c.if-passes.false))
    ∙ ap (λ lines. find test (records_of format lines)) (sym c.in-Some.ensures.taken)
    ∙ c.lines.invariant

-- one line is taken, and none is put back
pub lines-smaller : goal.lines-smaller
lines-smaller g c =
    let next = c.bytes.result.now in
    let fewer = marked-fewer c.as_bytes-number.result.now next c.from_mark-in-Some.result.now
    c.from_mark-in-Some.ensures in
    omega (
      arith,
      ap length c.in-Some.ensures.taken,
      ap length c.of-left-in-Some.ensures,
      ap length c.bytes.ensures.lines,
      fewer,
    )

-- no line is left, so none passes
pub returns : goal.returns
returns g c =
    let format = g.R.TableRecord.format in
    ap (λ lines. find (g.T.RecordTest.accepts c.args.test.now) (records_of format lines))
    (sym c.in_default.ensures.taken)
    ∙ c.lines.invariant
