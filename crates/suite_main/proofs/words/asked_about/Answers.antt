use Rattle.std.proofs.Common.{◌⊎◌, ◌≡◌, ◌∙◌, ap, inl, inr, [], ◌∷◌, codes}
use Rattle.account_model.specs.Words.{tool_named}
use Rattle.suite_main.proofs.HelpWords.{asked-named}
use Rattle.suite_main.proofs.words.asked_about.Goals.{then-is_only-via-then-is_only, then-is_only-via-else-is_only+then-is_only-2}
use Rattle.suite_main.proofs.words.asked_about.Goals as goal

-- one of the two options stands behind the name
asks :
    (c : goal.After-named)
    → (c.in_ok-name.options.now ≡ codes "--help" ∷ []) ⊎ (c.in_ok-name.options.now ≡ codes "-h" ∷ [])
asks c = elim c.then-is_only.branch [
  | then-is_only-via-then-is_only w ↦ inl (c.is_only.ensures.0 w.if-is_only.true)
  | then-is_only-via-else-is_only+then-is_only-2 w ↦
      inr (w.is_only-else-is_only.ensures.0 w.if-is_only-2.true)
]

pub returns-then-is_only : goal.returns-then-is_only
returns-then-is_only c =
    asked-named c.args.words.now c.in_ok-name.name.now c.in_ok-name.options.now
    (c.in_ok-name.ensures {u = tt}).cases.0 (asks c) c.named.result
    (c.named.ensures ∙ ap tool_named c.as_slice.ensures)
