use Rattle.std.proofs.Common.{◌≡◌, ◌∙◌, ◌+◌, ◌<◌, true, [], ◌∷◌, ◌++◌, ap, ap₂, length, map, subst, sym}
use Rattle.std.specs.Prelude.{All}
use Rattle.std.specs.Vec.{vec_items}
use Rattle.std.proofs.lemmas.List.{length-map, map-append}
use Rattle.std.proofs.lemmas.List.Elements.{All-from_recursion}
use Rattle.acct_tables.specs.declared.cell.Cell.{Cell}
use Rattle.acct_tables.specs.Cells.{text_added}
use Rattle.acct_tables.specs.Kept.{cells_kept, patches_of}
use Rattle.acct_tables.proofs.ShownCells.{kept-added, kept-below}
use Rattle.acct_tables.proofs.file.LineFile.add.Goals as goal

pub returns-clause-added : goal.returns-clause-added
returns-clause-added c =
    let file = c.self.inside in
    let text = file.text in
    let patches = patches_of file.patched in
    let added = map vec_items file.added.items in
    let line = c.args.text in
    let place : length text + length added ≡ length c.as_slice.result.now + c.len.result =
    ap₂ (λ size count. size + count) (ap length (sym c.as_slice.ensures))
    (length-map file.added.items vec_items ∙ sym (c.len.ensures ∙ file.added.ok.0)) in
    let items : map vec_items c.push-2.new.self.items ≡ added ++ (line ∷ []) ∷ [] =
    ap (map vec_items) c.in_ok-push-2.ensures.items
    ∙ map-append vec_items file.added.items (c.push.new.self ∷ [])
    ∙ ap (λ texts. added ++ texts ∷ [])
    (c.in_ok-push.ensures.items ∙ ap (λ front. front ++ line ∷ []) c.new-texts.ensures.items) in
    ap (cells_kept text true patches) items
    ∙ kept-added text file.are_ended patches added line
    ∙ ap₂ (λ place cells. text_added place line cells) place c.self.view_is

pub returns-clause-behind : goal.returns-clause-behind
returns-clause-behind c =
    let file = c.self.inside in
    let text = file.text in
    let patches = patches_of file.patched in
    let added = map vec_items file.added.items in
    let cells = cells_kept text file.are_ended patches added in
    let place = length c.as_slice.result.now + c.len.result in
    let end : length text + length added ≡ place =
    ap₂ (λ size count. size + count) (ap length (sym c.as_slice.ensures))
    (length-map file.added.items vec_items ∙ sym (c.len.ensures ∙ file.added.ok.0)) in
    subst (All (λ (cell : Cell). cell.place < place)) c.self.view_is
    (subst (λ n. All (λ (cell : Cell). cell.place < n) cells) end
    (All-from_recursion (λ (cell : Cell). cell.place < length text + length added) cells
    (kept-below text file.are_ended patches added)))
