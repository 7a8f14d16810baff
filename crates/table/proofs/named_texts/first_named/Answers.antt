use Rattle.std.proofs.Common.{◌∙◌, ap, sym}
use Rattle.account_model.specs.Format.{find_named}
use Rattle.acct_tables.proofs.RecordLines.{met-by, named-some, passed-by}
use Rattle.table.specs.TableCells.{records_read}
use Rattle.table.proofs.named_texts.first_named.Goals as goal

-- the text that is taken is a record of the name
pub returns-then-is_named-clause-found : goal.returns-then-is_named-clause-found
returns-then-is_named-clause-found g c =
    let format = g.R.TableRecord.format in
    let name = c.args.name.now in
    let kept = format.read c.in-Some.text.now in
    let rest = records_read format c.take.new.self in
    sym (met-by format name kept rest (sym c.is_named.ensures ∙ c.if-is_named.true))
    ∙ ap (λ texts. find_named format name (records_read format texts)) (sym c.in-Some.ensures)
    ∙ c.texts.invariant

pub returns-then-is_named-clause-reads : goal.returns-then-is_named-clause-reads
returns-then-is_named-clause-reads g c =
    let format = g.R.TableRecord.format in
    named-some format c.args.name.now (format.read c.in-Some.text.now)
    (sym c.is_named.ensures ∙ c.if-is_named.true)

-- it isn't
pub texts-preserved : goal.texts-preserved
texts-preserved g c =
    let format = g.R.TableRecord.format in
    let name = c.args.name.now in
    let kept = format.read c.in-Some.text.now in
    let rest = records_read format c.take.new.self in
    sym (passed-by format name kept rest (sym c.is_named.ensures ∙ c.if-is_named.false))
    ∙ ap (λ texts. find_named format name (records_read format texts)) (sym c.in-Some.ensures)
    ∙ c.texts.invariant

-- no text is left
pub returns-clause-found : goal.returns-clause-found
returns-clause-found g c =
    let format = g.R.TableRecord.format in
    ap (λ texts. find_named format c.args.name.now (records_read format texts))
    (sym c.in_default.ensures)
    ∙ c.texts.invariant
