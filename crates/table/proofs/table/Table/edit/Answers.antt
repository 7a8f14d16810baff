use Rattle.std.proofs.Common.{◌≡◌, ◌∙◌, ◌+◌, false, drop, inl, inr, sym, ap, subst, arith}
use Rattle.std.specs.Prelude.{Some, IfSome}
use Rattle.std.proofs.lemmas.Bool.{cases_Bool}
use Rattle.acct_text.specs.Lines.{file_bytes}
use Rattle.account_model.specs.Edits.{edited, edited_by}
use Rattle.account_model.specs.RecordEdits.{IsWrittenEdit}
use Rattle.acct_tables.specs.Cells.{lines_now}
use Rattle.acct_tables.specs.SeenLines.{AreOfFile}
use Rattle.acct_tables.proofs.EditedFiles.{edit-of_file}
use Rattle.line_edits.specs.SeenEdits.{seen_edit, seen_edits}
use Rattle.line_edits.proofs.EditLists.{edit-at, seen-from}
use Rattle.table.proofs.SettledEdits.{last-none, last-with}
use Rattle.table.proofs.table.Table.edit.Goals as goal
use Rattle.table.proofs.table.Table.edit.Goals.{then-differ, else-differ}

-- the next may print what all may
pub edit-requires : goal.edit-requires
edit-requires g c =
    edit-at g.R.EditedRecord.becomes (IsWrittenEdit g.R.TableRecord.format) c.args.edits.now
    c.edits.edit-index c.edit-item.result c.requires (omega arith) c.edit-item.is

-- it is made, and the others are left
pub edits-preserved : goal.edits-preserved
edits-preserved g c =
    let format = g.R.TableRecord.format in
    let becomes = g.R.EditedRecord.becomes in
    let edits = c.args.edits.now in
    let index = c.edits.edit-index in
    let edit = c.edit-item.result in
    let seen = seen_edit becomes edit in
    let lines = lines_now c.edits.cells in
    let now = lines_now c.renew.new.self in
    let ensured = c.in_ok-differs.ensures {u = tt} in
    let written : IsWrittenEdit format seen =
    edit-at becomes (IsWrittenEdit format) edits index edit c.requires (omega arith)
    c.edit-item.is in
    let of_file : AreOfFile (edited format lines seen) =
    edit-of_file format g.met.R.EditedRecord.no_blank seen written lines
    c.edits.invariant.of_file in
    let renewed : now ≡ lines_now c.edit.new.self =
    c.in_ok-renew.ensures {u = tt} (subst AreOfFile (sym ensured.edited) of_file) in
    let made : now ≡ edited format lines seen = renewed ∙ ensured.edited in
    let stays : c.in_ok-differs.differs ≡ false → now ≡ lines =
    λ same. renewed ∙ ensured.same same in
    record {
      made = ap (λ lines. Some (file_bytes
          (edited_by format (seen_edits becomes (drop (index + 1) edits)) lines))) made
          ∙ sym (ap (λ left. Some (file_bytes (edited_by format left lines)))
          (seen-from becomes edits index edit (omega arith) c.edit-item.is))
          ∙ c.edits.invariant.made;
      same = λ none. elim c.if-differ.branch [
        | then-differ w ↦ absurd cc
        | else-differ w ↦
            ap (λ lines. Some (file_bytes lines)) (stays (sym w.differ-is ∙ none))
            ∙ c.edits.invariant.same w.if-differ.false
      ];
      of_file = subst AreOfFile (sym made) of_file;
      idle = elim (cases_Bool c.in_ok-differs.differs) [
        | inl differs ↦ last-none becomes
            (λ edit. edited format now edit ≡ now) c.unless-idle.result
            (ap (λ idle. idle.last) (c.unless-idle.ensures.none differs))
            (ap (λ idle. idle.older) (c.unless-idle.ensures.none differs))
        | inr same ↦
            let is = stays same in
            let more = c.unless-idle.ensures.more same in
            last-with becomes (λ edit. edited format lines edit ≡ lines)
            (λ edit. edited format now edit ≡ now) c.edits.idle c.unless-idle.result
            (subst (λ idle. IfSome idle.last
            (λ last. edited format now (seen_edit becomes last.now) ≡ now)) (sym more)
            (ap (λ lines. edited format lines seen) is ∙ sym made))
            (ap (λ idle. idle.older) more)
            (λ edit left. ap (λ lines. edited format lines edit) is ∙ left ∙ sym is)
            c.edits.invariant.idle
      ];
    }
