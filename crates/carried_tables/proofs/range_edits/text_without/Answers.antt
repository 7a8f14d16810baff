use Rattle.std.proofs.Common.{◌∙◌, ◌∷◌, [], length, ap, arith}
use Rattle.acct_text.specs.Lines.{Line, file_bytes, lines_of}
use Rattle.account_model.specs.Edits.{edited_by}
use Rattle.account_model.specs.Records.{subid_format}
use Rattle.acct_tables.specs.SeenLines.{seen_line}
use Rattle.acct_tables.proofs.LinesAhead.{walked, walked-all}
use Rattle.line_edits.specs.SeenEdits.{seen_edits}
use Rattle.line_edits.specs.SubidChanges.{subid_becomes}
use Rattle.carried_tables.proofs.RemovalLemmas.{each-line}
use Rattle.carried_tables.proofs.range_edits.text_without.Goals as goal

pub lines-preserved : goal.lines-preserved
lines-preserved c =
    walked (λ (line : Line).
    edited_by subid_format (seen_edits subid_becomes c.args.edits.now) (line ∷ []))
    (seen_line c.in-Some.line) c.lines.left c.take.new.self c.lines.made c.push_left.new.made _
    c.in-Some.ensures.taken c.in_ok-push_left.ensures c.lines.invariant

pub lines-smaller : goal.lines-smaller
lines-smaller c = omega (arith, ap length c.in-Some.ensures.taken)

pub returns : goal.returns
returns c =
    let edits = seen_edits subid_becomes c.args.edits.now in
    let removals = c.args.removals.now in
    walked-all (λ (line : Line). edited_by subid_format edits (line ∷ []))
    c.lines.left c.lines.made _ c.in_default.ensures.taken c.lines.invariant
    ∙ ap file_bytes (each-line removals.owner.now removals.uid removals.ids edits
    (lines_of c.args.text.now) c.requires.kept)
