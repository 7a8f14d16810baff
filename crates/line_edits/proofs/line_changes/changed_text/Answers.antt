use Rattle.std.proofs.Common.{◌∙◌, ◌++◌, length, ap, arith}
use Rattle.std.specs.Prelude.{flat_map}
use Rattle.acct_text.specs.Lines.{file_bytes}
use Rattle.account_model.specs.Edits.{becomes}
use Rattle.acct_tables.specs.SeenLines.{seen_line}
use Rattle.acct_tables.proofs.LinesAhead.{walked, walked-all}
use Rattle.line_edits.proofs.line_changes.changed_text.Goals as goal

pub lines-init : goal.lines-init
lines-init g c =
    let change = becomes g.R.TableRecord.format (g.R.EditedRecord.becomes c.args.change.now) in
    ap (λ made. made ++ file_bytes (flat_map change c.of-left.result)) c.new-made.ensures
    ∙ ap (λ lines. file_bytes (flat_map change lines)) c.of-left.ensures

pub lines-preserved : goal.lines-preserved
lines-preserved g c =
    walked (becomes g.R.TableRecord.format (g.R.EditedRecord.becomes c.args.change.now))
    (seen_line c.in-Some.line) c.lines.left c.take.new.self c.lines.made
    c.push_changed.new.made _
    c.in-Some.ensures.taken c.in_ok-push_changed.ensures c.lines.invariant

pub lines-smaller : goal.lines-smaller
lines-smaller g c = omega (arith, ap length c.in-Some.ensures.taken)

pub returns : goal.returns
returns g c =
    walked-all (becomes g.R.TableRecord.format (g.R.EditedRecord.becomes c.args.change.now))
    c.lines.left c.lines.made _ c.in_default.ensures.taken c.lines.invariant
