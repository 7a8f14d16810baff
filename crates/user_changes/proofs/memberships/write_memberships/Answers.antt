use Rattle.std.proofs.Common.{◌≡◌, ◌∙◌, true, [], ◌∷◌, ap, sym}
use Rattle.std.proofs.lemmas.Result.{on_ok_weaker}
use Rattle.account_model.specs.Edits.{each, edit_if}
use Rattle.account_model.specs.Tables.{followed_by, no_edits}
use Rattle.account_model.proofs.ScriptLaws.{followed-assoc}
use Rattle.account_model.specs.Usermod.{changed_group, changed_gshadow, sets_lists}
use Rattle.carried_tables.specs.Scripts.{seen_script}
use Rattle.user_changes.specs.Memberships.{group_edit, gshadow_edit, membership}
use Rattle.user_changes.proofs.MembershipLemmas.{group-edit, gshadow-edit}
use Rattle.user_changes.proofs.memberships.write_memberships.Goals as goal

pub returns : goal.returns
returns c =
    let asked = c.args.asked.now in
    let files = c.args.tables.now in
    let change = membership asked c.in_ok-names.names in
    let is = c.in_ok-names.ensures {u = tt} in
    let in_group : group_edit change ≡ each (changed_group asked files) =
    ap (λ names. group_edit (membership asked names)) is ∙ group-edit asked files in
    let in_gshadow : gshadow_edit change ≡ each (changed_gshadow asked files) =
    ap (λ names. gshadow_edit (membership asked names)) is ∙ gshadow-edit asked files in
    let first = record no_edits { group = group_edit change ∷ [] } in
    let second = record no_edits { gshadow = gshadow_edit change ∷ [] } in
    let old = seen_script c.args.script.now in
    let sets : sets_lists asked ≡ true = sym c.sets_lists.ensures ∙ c.if-not-sets_lists.false in
    on_ok_weaker c.write_gshadow.result
    (λ also.
    also
    ∙ ap (λ script. followed_by script second) (c.in_ok-write_groups.ensures {u = tt})
    ∙ followed-assoc old first second
    ∙ (λ i. followed_by old
    (record no_edits { group = in_group i ∷ []; gshadow = in_gshadow i ∷ [] }))
    ∙ ap (λ set. followed_by old (record no_edits {
      group = edit_if set (each (changed_group asked files));
      gshadow = edit_if set (each (changed_gshadow asked files));
    })) (sym sets))
    c.write_gshadow.ensures
