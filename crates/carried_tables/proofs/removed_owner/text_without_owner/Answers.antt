use Rattle.std.proofs.Common.{length, ap, arith}
use Rattle.account_model.specs.Edits.{becomes}
use Rattle.account_model.specs.Records.{subid_format}
use Rattle.acct_tables.specs.SeenLines.{seen_line}
use Rattle.acct_tables.proofs.LinesAhead.{walked, walked-all}
use Rattle.line_edits.specs.SubidChanges.{subid_becomes}
use Rattle.line_edits.specs.declared.subid_changes.SubidChange.TheVariants.{Remove}
use Rattle.carried_tables.proofs.removed_owner.text_without_owner.Goals as goal

pub lines-preserved : goal.lines-preserved
lines-preserved c =
    walked (becomes subid_format (subid_becomes (Remove c.args.owner.now c.args.uid)))
    (seen_line c.in-Some.line) c.lines.left c.take.new.self c.lines.made c.push_others.new.made _
    c.in-Some.ensures.taken c.in_ok-push_others.ensures c.lines.invariant

pub lines-smaller : goal.lines-smaller
lines-smaller c = omega (arith, ap length c.in-Some.ensures.taken)

pub returns : goal.returns
returns c =
    walked-all (becomes subid_format (subid_becomes (Remove c.args.owner.now c.args.uid)))
    c.lines.left c.lines.made _ c.in_default.ensures.taken c.lines.invariant
