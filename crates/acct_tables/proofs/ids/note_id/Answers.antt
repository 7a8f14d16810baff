use Rattle.std.proofs.Common.{◌≡◌, ◌∙◌, ◌++◌, ℕ, [], append-nil, ap, sym, subst}
use Rattle.std.specs.Prelude.{Option}
use Rattle.std.specs.List.{cons_option}
use Rattle.acct_tables.proofs.ids.note_id.Goals as goal

-- other text has no ID
pub returns-in_default : goal.returns-in_default
returns-in_default g c =
    let ids = c.args.ids.now.items in
    subst (λ (found : Option ℕ). ids ≡ ids ++ cons_option found []) c.in_default.ensures
    (sym (append-nil ids))

-- the line's ID goes behind the others
pub returns : goal.returns
returns g c =
    c.in_ok-push.ensures.items
    ∙ ap (λ (found : Option ℕ). c.args.ids.now.items ++ cons_option found []) c.in-Some.ensures
