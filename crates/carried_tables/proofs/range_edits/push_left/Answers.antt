use Rattle.std.proofs.Common.{◌∙◌, ◌++◌, ◌∷◌, [], ap}
use Rattle.std.proofs.lemmas.Result.{on_ok_weaker}
use Rattle.account_model.specs.Edits.{edited_by}
use Rattle.account_model.specs.Records.{subid_format}
use Rattle.acct_tables.specs.SeenLines.{seen_line}
use Rattle.line_edits.specs.SeenEdits.{seen_edits}
use Rattle.line_edits.specs.SubidChanges.{subid_becomes}
use Rattle.line_edits.proofs.ChangedLines.{stays-bytes}
use Rattle.carried_tables.proofs.RemovalLemmas.{apart-stays}
use Rattle.carried_tables.proofs.RangeCuts.{all-make}
use Rattle.carried_tables.proofs.range_edits.push_left.Goals as goal

pub returns-then-not-loses : goal.returns-then-not-loses
returns-then-not-loses c =
    let line = seen_line c.args.line.now in
    let edits = seen_edits subid_becomes c.args.edits.now in
    let removals = c.args.removals.now in
    on_ok_weaker c.push_to.result
    (λ pushed. pushed ∙ ap (λ bytes. c.args.made.now ++ bytes)
    (stays-bytes subid_format (λ r. r ∷ []) line (edited_by subid_format edits (line ∷ []))
    (apart-stays removals.owner.now removals.uid removals.ids edits line c.requires.one_line
    (c.loses.ensures.stays c.if-not-loses.true) c.requires.kept)))
    c.push_to.ensures

pub push_left_of-requires-clause-records : goal.push_left_of-requires-clause-records
push_left_of-requires-clause-records c =
    let removals = c.args.removals.now in
    all-make removals.owner.now removals.uid removals.ids
    (seen_edits subid_becomes c.args.edits.now) c.requires.kept
