use Rattle.std.proofs.Common.{◌≡◌, ◌∙◌, false, List, [], ◌∷◌, ap, arith, length, map, refl, sym}
use Rattle.std.specs.Map.{lookup}
use Rattle.std.specs.Prelude.{None, nat_eq}
use Rattle.std.specs.Vec.{vec_items}
use Rattle.std.proofs.lemmas.Bool.{eqb-true}
use Rattle.acct_tables.specs.Kept.{cells_kept, patches_of}
use Rattle.acct_tables.proofs.ShownCells.{kept-first}
use Rattle.acct_tables.proofs.file.are_kept.Goals as goal

-- a list without elements
empty-list : {X : Type 0} (xs : List X) → length xs ≡ 0 → xs ≡ []
empty-list [] none = refl
empty-list (x ∷ xs) none = absurd (omega arith)

pub returns : goal.returns
returns c is text =
    let patched = c.args.patched.now in
    let added = c.args.added.now in
    let none : (place : _) → patches_of patched place ≡ None =
    λ place. ap (lookup (nat_eq place)) (empty-list patched.entries
    (c.is_empty.ensures.0 c.if-not-is_empty.false)) in
    let unadded : map vec_items added.items ≡ [] =
    ap (map vec_items) (empty-list added.items
    (sym added.ok.0 ∙ eqb-true _ 0 (sym c.is_empty-2.ensures ∙ is))) in
    ap (λ ended. cells_kept text ended (patches_of patched) (map vec_items added.items))
    c.if-are_ended.false
    ∙ ap (cells_kept text false (patches_of patched)) unadded
    ∙ kept-first text (patches_of patched) none
