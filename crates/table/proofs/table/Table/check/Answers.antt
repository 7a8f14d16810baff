use Rattle.std.proofs.Common.{◌≡◌, ◌∙◌, ap, sym, subst}
use Rattle.std.specs.Prelude.{IfOk, IfSome, Result, Some, option_map}
use Rattle.std.proofs.lemmas.Result.{IfOk-weaker}
use Rattle.std.specs.declared.alloc.AllocError.{AllocError}
use Rattle.acct_text.specs.Lines.{file_bytes}
use Rattle.line_edits.specs.SeenEdits.{seen_edits}
use Rattle.acct_tables.specs.Cells.{lines_now}
use Rattle.acct_tables.specs.SeenLines.{AreOfFile}
use Rattle.table.specs.Met.{AreEditedAt}
use Rattle.table.specs.TableEdits.{AreEditedIn}
use Rattle.table.specs.declared.table.Checked.{Checked}
use Rattle.table.proofs.MetRecords.{none-told}
use Rattle.table.proofs.TableLemmas.{file-cells}
use Rattle.table.proofs.table.Table.check.Goals as goal
use Rattle.table.proofs.table.Table.check.Goals.{in-Some, in-None}

-- the places are those of the lines that the bytes make
pub returns-clause-places : goal.returns-clause-places
returns-clause-places g c =
    let format = g.R.TableRecord.format in
    let edits = seen_edits g.R.EditedRecord.becomes c.args.edits.now in
    let told : Result Checked AllocError → Type 0 = λ result. IfOk result (λ checked.
    AreEditedIn format edits c.args.self.now checked.places.items) in
    elim c.match-self.branch [
      | in-Some w ↦
          let file = sym c.self.view_is
          ∙ ap (option_map (λ cells. file_bytes (lines_now cells))) w.in-Some.is in
          let of_file : AreOfFile (lines_now w.in-Some.cells) =
          subst (λ lines. IfSome lines (λ cells. AreOfFile (lines_now cells))) w.in-Some.is
          c.self.invariant in
          subst told (sym w.result-is)
          (IfOk-weaker w.check.result _ _ (λ checked at.
          subst (λ cells. AreEditedAt format edits cells checked.places.items)
          (sym (file-cells c.args.self.now (lines_now w.in-Some.cells) file of_file)) at)
          w.check.ensures.places)
      | in-None w ↦
          subst told (sym w.result-is)
          (none-told format _ edits w.new.result.items w.new.ensures.items)
    ]
