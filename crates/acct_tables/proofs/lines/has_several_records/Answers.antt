use Rattle.std.proofs.Common.{◌≡◌, ◌∙◌, ap, arith, sym, zero-add}
use Rattle.std.proofs.lemmas.Grind.{common_steps}
use Rattle.account_model.specs.Format.{count_named, records_of}
use Rattle.acct_tables.specs.SeenLines.{seen_line}
use Rattle.acct_tables.proofs.MarkedRecords.{behind-counted}
use Rattle.acct_tables.proofs.RecordLines.{counted-next}
use Rattle.acct_tables.proofs.lines.has_several_records.Goals as goal

pub lines-init : goal.lines-init
lines-init g c =
    let format = g.R.TableRecord.format in
    let name = c.args.name.now in
    sym (zero-add (count_named format name (records_of format c.of-left.result))
    ∙ ap (λ lines. count_named format name (records_of format lines)) c.of-left.ensures
    ∙ behind-counted format name c.args.text.now c.from_name.result.now c.from_name.ensures)

pub lines-preserved : goal.lines-preserved
lines-preserved g c =
    let format = g.R.TableRecord.format in
    let name = c.args.name.now in
    let next = counted-next format name (seen_line c.in-Some.line) c.lines.left c.take.new.self
    c.is_named-is_one.result c.in-Some.ensures.taken (sym c.is_named-is_one.ensures) in
    let same : count_named format name (records_of format c.of-left-in-Some.result)
    ≡ count_named format name (records_of format c.take.new.self) =
    ap (λ lines. count_named format name (records_of format lines)) c.of-left-in-Some.ensures
    ∙ behind-counted format name c.bytes.result.now c.from_name-in-Some.result.now
    c.from_name-in-Some.ensures
    ∙ ap (λ lines. count_named format name (records_of format lines)) c.bytes.ensures.lines in
    grind (arith, next, same, common_steps)
