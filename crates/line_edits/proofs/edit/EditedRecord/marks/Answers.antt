use Rattle.std.proofs.Common.{[], ◌∷◌}
use Rattle.acct_tables.specs.Marks.{marks_in}
use Rattle.line_edits.proofs.MarkLemmas.{named-marks}
use Rattle.line_edits.proofs.edit.EditedRecord.marks.Goals as goal

pub returns-in-Some : goal.returns-in-Some
returns-in-Some g c =
    named-marks g.Self.TableRecord.format g.met.Self.TableRecord.names_first
    (g.Self.EditedRecord.becomes c.args.change.now) (c.in-Some.name.now ∷ [])
    (marks_in c.one.result) c.one.ensures c.in-Some.ensures
