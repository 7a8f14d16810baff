use Rattle.std.proofs.Common.{◌∙◌, ap, ap₂, arith, length, map, subst}
use Rattle.std.specs.Vec.{vec_items}
use Rattle.acct_text.specs.Lines.{file_bytes, lines_of}
use Rattle.acct_text.proofs.LinesLaws.{lines_of-are}
use Rattle.acct_tables.specs.Cells.{ArePlaced}
use Rattle.acct_tables.specs.Kept.{cells_left, patches_of}
use Rattle.acct_tables.proofs.ShownCells.{kept-ascend, kept-left}
use Rattle.acct_tables.proofs.PlacedCells.{ascend-placed}
use Rattle.acct_tables.proofs.file.LineFile.cells.Goals as goal

pub invariant_of-result : goal.invariant_of-result
invariant_of-result c =
    let are = lines_of-are c.as_slice.result.now in
    let size = ap length (ap file_bytes c.of.ensures ∙ are.joined) in
    omega (arith, size, c.as_slice-2.ensures.len)

pub returns-clause-cells : goal.returns-clause-cells
returns-clause-cells c =
    let file = c.self.inside in
    let text = file.text in
    let patches = patches_of file.patched in
    ap₂ (λ lines added. cells_left 0 lines file.are_ended patches (map vec_items added))
    (c.of.ensures ∙ ap lines_of c.as_slice.ensures) c.as_slice-2.ensures.value
    ∙ kept-left text file.are_ended patches (map vec_items file.added.items)
    ∙ c.self.view_is

pub returns-clause-placed : goal.returns-clause-placed
returns-clause-placed c =
    let file = c.self.inside in
    let added = map vec_items file.added.items in
    subst ArePlaced c.self.view_is (ascend-placed 0 _
    (kept-ascend file.text file.are_ended (patches_of file.patched) added))
