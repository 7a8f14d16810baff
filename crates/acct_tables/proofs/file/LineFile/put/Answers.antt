use Rattle.std.proofs.Common.{◌≡◌, ◌∙◌, ◌+◌, ◌-◌, ap, arith, length, map}
use Rattle.std.specs.Vec.{vec_items}
use Rattle.std.proofs.lemmas.Result.{on_ok_weaker}
use Rattle.acct_tables.specs.Cells.{texts_put}
use Rattle.acct_tables.specs.Kept.{cells_kept, patches_of}
use Rattle.acct_tables.proofs.ShownCells.{kept-put, kept-put_added}
use Rattle.acct_tables.proofs.file.LineFile.put.Goals as goal

pub returns-then-place-size-clause-put : goal.returns-then-place-size-clause-put
returns-then-place-size-clause-put c =
    let file = c.self.inside in
    let text = file.text in
    let place = c.args.place in
    let texts = c.args.texts.items in
    let size = ap length c.as_slice-size.ensures in
    on_ok_weaker c.put_texts.result
    (λ put. kept-put text file.are_ended (patches_of file.patched) (map vec_items file.added.items)
    place texts (patches_of c.put_texts.new.patched) (omega (arith, size)) put
    ∙ ap (texts_put place texts) c.self.view_is)
    c.put_texts.ensures.put

pub returns-clause-put : goal.returns-clause-put
returns-clause-put c =
    let file = c.self.inside in
    let text = file.text in
    let patches = patches_of file.patched in
    let added = map vec_items file.added.items in
    let place = c.args.place in
    let texts = c.args.texts.items in
    let size = length c.as_slice-size.result.now in
    let is : place ≡ length text + (place - size) =
    omega (arith, ap length c.as_slice-size.ensures) in
    ap (cells_kept text file.are_ended patches) c.put_at.ensures
    ∙ kept-put_added text file.are_ended patches added place texts (place - size) is
    ∙ ap (texts_put place texts) c.self.view_is
