use Rattle.std.proofs.Common.{◌≡◌, ◌∙◌, true, false, List, ℕ, [], ◌∷◌, ◌++◌, ap, sym, append-nil}
use Rattle.std.specs.Prelude.{if◌then◌else◌}
use Rattle.std.proofs.lemmas.Result.{on_ok_weaker}
use Rattle.acct_text.specs.Lines.{Line, file_bytes, line_bytes}
use Rattle.acct_tables.specs.SeenLines.{seen_line}
use Rattle.line_edits.proofs.ChangedLines.{same-printed}
use Rattle.line_edits.proofs.line_changes.push_instead.Goals as goal

pub returns-then-eq : goal.returns-then-eq
returns-then-eq g c =
    let format = g.R.TableRecord.format in
    let line = seen_line c.args.line.now in
    let other : Line = record line { text = format.print c.args.new.now } in
    on_ok_weaker c.push_to.result
    (λ pushed old written kept.
    let same : format.same old c.args.new.now ≡ true =
    same-printed format old c.args.new.now g.met.R.TableRecord.is_line_format.same written
    c.requires c.as_slice.result.now c.args.kept.now (c.as_slice.ensures ∙ c.in_ok-text.ensures)
    kept
    ∙ sym c.eq.ensures ∙ c.if-eq.true in
    pushed
    ∙ ap (λ bytes. c.args.made.now ++ bytes) (sym (append-nil (line_bytes line)))
    ∙ ap (λ same. c.args.made.now ++ file_bytes (if same then line ∷ [] else other ∷ []))
    (sym same))
    c.push_to.ensures

pub returns : goal.returns
returns g c =
    let format = g.R.TableRecord.format in
    let line = seen_line c.args.line.now in
    let other : Line = record line { text = format.print c.args.new.now } in
    on_ok_weaker c.push_to-2.result
    (λ pushed old written kept.
    let differs : format.same old c.args.new.now ≡ false =
    same-printed format old c.args.new.now g.met.R.TableRecord.is_line_format.same written
    c.requires c.as_slice.result.now c.args.kept.now (c.as_slice.ensures ∙ c.in_ok-text.ensures)
    kept
    ∙ sym c.eq.ensures ∙ c.if-eq.false in
    pushed
    ∙ ap (λ (text : List ℕ). c.args.made.now ++ line_bytes (record line { text = text }))
    (c.as_slice-2.ensures ∙ c.in_ok-text.ensures)
    ∙ ap (λ bytes. c.args.made.now ++ bytes) (sym (append-nil (line_bytes other)))
    ∙ ap (λ same. c.args.made.now ++ file_bytes (if same then line ∷ [] else other ∷ []))
    (sym differs))
    c.push_to-2.ensures
