use Rattle.std.proofs.Common.{◌≡◌, ◌∙◌, ◌+◌, ℕ, List, [], ◌∷◌, ◌++◌, map, take, ap, sym, subst, arith}
use Rattle.std.specs.Vec.{vec_items}
use Rattle.std.proofs.lemmas.List.{map-append, take_more}
use Rattle.acct_tables.specs.Marks.{IsFrontWithout}
use Rattle.acct_tables.proofs.FrontLines.{front-narrowed}
use Rattle.acct_tables.proofs.marks.front_without.Goals as goal

pub others-preserved : goal.others-preserved
others-preserved c =
    let text = c.args.text.now in
    let first = c.args.marks.first.now in
    let others = c.args.marks.others.now in
    let place = c.others.mark-index in
    let item = c.mark-item.result in
    let so_far = map vec_items (take place others) in
    let next : map vec_items (take (place + 1) others) ≡ so_far ++ c.as_slice.result.now ∷ [] =
    ap (map vec_items) (take_more others place item (omega arith))
    ∙ map-append vec_items (take place others) _
    ∙ ap (λ mark. so_far ++ vec_items mark ∷ []) (sym c.mark-item.is)
    ∙ ap (λ (mark : List ℕ). so_far ++ mark ∷ []) (sym c.as_slice.ensures.value) in
    subst (λ marks. IsFrontWithout (first ∷ marks) text c.front_of-front-in-others.result.now)
    (sym next)
    (front-narrowed (first ∷ so_far) text (c.as_slice.result.now ∷ []) c.others.front.now
    c.front_of-front-in-others.result.now c.others.invariant c.front_of-front-in-others.ensures)
