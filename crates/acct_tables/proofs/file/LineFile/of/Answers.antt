use Rattle.std.proofs.Common.{◌∙◌, false, ap}
use Rattle.std.specs.Prelude.{map, nat_eq}
use Rattle.std.specs.Map.{lookup}
use Rattle.std.specs.Vec.{vec_items}
use Rattle.acct_tables.specs.Kept.{cells_kept, patches_of}
use Rattle.acct_tables.proofs.ShownCells.{kept-first}
use Rattle.acct_tables.proofs.file.LineFile.of.Goals as goal

pub returns : goal.returns
returns c =
    let text = c.args.text in
    let none = patches_of c.new.result in
    ap (λ added. cells_kept text false none (map vec_items added)) c.new-2.ensures.items
    ∙ kept-first text none (λ other. ap (lookup (nat_eq other)) c.new.ensures.empty)
