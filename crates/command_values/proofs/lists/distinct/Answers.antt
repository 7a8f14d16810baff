use Rattle.std.proofs.Common.{◌≡◌, ◌∙◌, ◌++◌, ◌∷◌, [], ap}
use Rattle.account_model.specs.Text.{is_listed}
use Rattle.command_values.proofs.ListLemmas.{with_more, distinct-next}
use Rattle.command_values.proofs.lists.distinct.Goals as goal
use Rattle.command_values.proofs.lists.distinct.Goals.{then-not-contains+in_ok-push, else-not-contains}

pub loop-name-preserved : goal.loop-name-preserved
loop-name-preserved c =
    let name = c.name-item.result in
    let kept = c.loop-name.kept in
    let step =
    distinct-next c.args.names.now c.loop-name.name-index name kept c.loop-name-test.true
    c.name-item.is c.loop-name.invariant in
    let same : is_listed c.as_slice.result.now kept ≡ is_listed name kept =
    ap (λ n. is_listed n kept) c.as_slice.ensures in
    elim c.if-not-contains.branch [
      | then-not-contains+in_ok-push w ↦
          w.kept-is ∙ (w.in_ok-push.ensures {u = tt}).ok
          ∙ ap (λ n. kept ++ n ∷ []) w.as_slice-then-not-contains.ensures
          ∙ ap (λ listed. with_more listed name kept) (w.if-not-contains.ensures {u = tt} ∙ same)
          ∙ step
      | else-not-contains w ↦
          w.kept-is
          ∙ ap (λ listed. with_more listed name kept) (w.if-not-contains.ensures {u = tt} ∙ same)
          ∙ step
    ]
