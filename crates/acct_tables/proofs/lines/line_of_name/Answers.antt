use Rattle.std.proofs.Common.{◌∙◌, length, ap, sym, arith}
use Rattle.account_model.specs.Format.{find_named, records_of}
use Rattle.acct_tables.proofs.BehindLines.{behind-fewer}
use Rattle.acct_tables.proofs.MarkedRecords.{IsOther, behind-found}
use Rattle.acct_tables.proofs.RecordLines.{met-by, named-some, passed-by}
use Rattle.acct_tables.proofs.lines.line_of_name.Goals as goal

pub returns-then-is_named-clause-found : goal.returns-then-is_named-clause-found
returns-then-is_named-clause-found g c =
    let format = g.R.TableRecord.format in
    let name = c.args.name.now in
    let kept = format.read c.in-Some.line.text.now in
    let rest = records_of format c.take.new.self in
    sym (met-by format name kept rest (sym c.is_named.ensures ∙ c.if-is_named.true))
    ∙ ap (λ lines. find_named format name (records_of format lines)) (sym c.in-Some.ensures.taken)
    ∙ c.lines.invariant

pub returns-then-is_named-clause-reads : goal.returns-then-is_named-clause-reads
returns-then-is_named-clause-reads g c =
    let format = g.R.TableRecord.format in
    named-some format c.args.name.now (format.read c.in-Some.line.text.now)
    (sym c.is_named.ensures ∙ c.if-is_named.true)

pub lines-preserved : goal.lines-preserved
lines-preserved g c =
    let format = g.R.TableRecord.format in
    let name = c.args.name.now in
    let kept = format.read c.in-Some.line.text.now in
    let rest = records_of format c.take.new.self in
    ap (λ lines. find_named format name (records_of format lines)) c.of-left-in-Some.ensures
    ∙ behind-found format name c.bytes.result.now c.from_name-in-Some.result.now
    c.from_name-in-Some.ensures
    ∙ ap (λ lines. find_named format name (records_of format lines)) c.bytes.ensures.lines
    ∙ sym (passed-by format name kept rest (sym c.is_named.ensures ∙ c.if-is_named.false))
    ∙ ap (λ lines. find_named format name (records_of format lines)) (sym c.in-Some.ensures.taken)
    ∙ c.lines.invariant

pub lines-init : goal.lines-init
lines-init g c =
    let format = g.R.TableRecord.format in
    let name = c.args.name.now in
    ap (λ lines. find_named format name (records_of format lines)) c.of-left.ensures
    ∙ behind-found format name c.args.text.now c.from_name.result.now c.from_name.ensures

pub lines-smaller : goal.lines-smaller
lines-smaller g c =
    let fewer = behind-fewer (IsOther g.R.TableRecord.format c.args.name.now) c.bytes.result.now
    c.from_name-in-Some.result.now c.from_name-in-Some.ensures in
    omega (
      arith,
      ap length c.in-Some.ensures.taken,
      ap length c.of-left-in-Some.ensures,
      ap length c.bytes.ensures.lines,
      fewer,
    )

pub returns-clause-found : goal.returns-clause-found
returns-clause-found g c =
    let format = g.R.TableRecord.format in
    ap (λ lines. find_named format c.args.name.now (records_of format lines))
    (sym c.in_default.ensures.taken)
    ∙ c.lines.invariant
