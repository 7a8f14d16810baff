use Rattle.std.proofs.Common.{◌∙◌, ◌++◌, length, map, ap, arith}
use Rattle.account_model.specs.Format.{records_of}
use Rattle.acct_text.specs.Lines.{lines_of}
use Rattle.acct_tables.specs.SeenLines.{seen_line}
use Rattle.acct_tables.proofs.GatheredIds.{ids-end, ids-found}
use Rattle.acct_tables.proofs.ids.listed_ids.Goals as goal

-- all lines are left
pub lines-init : goal.lines-init
lines-init g c =
    let format = g.R.TableRecord.format in
    let number = g.R.NumberedRecord.id_of in
    ap (λ ids. ids ++ map number (records_of format c.of-left.result)) c.new-ids.ensures.items
    ∙ ap (λ lines. map number (records_of format lines)) c.of-left.ensures

-- the ID of the line that is taken goes to those so far
pub lines-preserved : goal.lines-preserved
lines-preserved g c =
    let format = g.R.TableRecord.format in
    let number = g.R.NumberedRecord.id_of in
    ids-found format number (map number (records_of format (lines_of c.args.text.now)))
    (seen_line c.in-Some.line) c.lines.left c.take.new.self c.lines.ids.items
    c.note_id.new.ids.items c.in-Some.ensures.taken c.in_ok-note_id.ensures c.lines.invariant

-- one line is taken
pub lines-smaller : goal.lines-smaller
lines-smaller g c = omega (arith, ap length c.in-Some.ensures.taken)

-- no line is left
pub returns : goal.returns
returns g c =
    ids-end g.R.TableRecord.format g.R.NumberedRecord.id_of
    (map g.R.NumberedRecord.id_of (records_of g.R.TableRecord.format (lines_of c.args.text.now)))
    c.lines.ids.items c.lines.left c.in_default.ensures.taken c.lines.invariant
