use Rattle.std.proofs.Common.{◌≡◌, ◌∙◌, ◌+◌, ◌-◌, ap, arith, length, map, sym}
use Rattle.std.specs.Prelude.{Some, option_map}
use Rattle.std.specs.Vec.{vec_items}
use Rattle.acct_text.specs.Lines.{lines_of}
use Rattle.acct_tables.specs.declared.cell.Cell.{Cell}
use Rattle.acct_tables.specs.Cells.{cell_at, cells_from}
use Rattle.acct_tables.specs.Kept.{line_cell, patches_of, shown_cell}
use Rattle.acct_tables.proofs.ShownCells.{kept-at_added, kept-at_line}
use Rattle.acct_tables.proofs.file.LineFile.cell.Goals as goal

pub returns-then-place-size : goal.returns-then-place-size
returns-then-place-size c =
    let file = c.self.inside in
    let text = file.text in
    let place = c.args.place in
    let added = map vec_items file.added.items in
    let at = place - length c.as_slice-size.result.now in
    let is : place ≡ length text + at = omega (arith, ap length c.as_slice-size.ensures) in
    c.added_cell.ensures
    ∙ sym (kept-at_added text file.are_ended (patches_of file.patched) added place at is)
    ∙ ap (cell_at place) c.self.view_is

pub returns-in-Some : goal.returns-in-Some
returns-in-Some c =
    let file = c.self.inside in
    let text = file.text in
    let place = c.args.place in
    let patches = patches_of file.patched in
    let line = line_cell place c.in-Some.line in
    let shown = λ (cell : Cell). shown_cell file.are_ended (patches cell.place) cell in
    ap Some
    (c.cell_of.ensures ∙ ap (λ patch. shown_cell file.are_ended patch line) c.get.ensures.value)
    ∙ ap (option_map shown) c.in-Some.ensures
    ∙ ap (λ bytes. option_map shown (cell_at place (cells_from 0 (lines_of bytes))))
    c.as_slice.ensures
    ∙ sym (kept-at_line text file.are_ended patches (map vec_items file.added.items) place
    (omega (arith, ap length c.as_slice-size.ensures)))
    ∙ ap (cell_at place) c.self.view_is

pub returns-in-None : goal.returns-in-None
returns-in-None c =
    let file = c.self.inside in
    let text = file.text in
    let place = c.args.place in
    let patches = patches_of file.patched in
    let shown = λ (cell : Cell). shown_cell file.are_ended (patches cell.place) cell in
    ap (option_map shown) c.in-None.ensures
    ∙ ap (λ bytes. option_map shown (cell_at place (cells_from 0 (lines_of bytes))))
    c.as_slice.ensures
    ∙ sym (kept-at_line text file.are_ended patches (map vec_items file.added.items) place
    (omega (arith, ap length c.as_slice-size.ensures)))
    ∙ ap (cell_at place) c.self.view_is
