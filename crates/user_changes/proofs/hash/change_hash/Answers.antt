use Rattle.std.proofs.Common.{◌≡◌, ◌∙◌, true, sym, ap, subst, if◌then◌else◌}
use Rattle.std.specs.Prelude.{OnOk}
use Rattle.account_model.specs.Hashes.{each_user_hash}
use Rattle.account_model.specs.Request.{operand}
use Rattle.account_model.specs.Tables.{no_edits}
use Rattle.account_model.specs.UsermodHash.{hash_after, sets_hash}
use Rattle.carried_tables.specs.Scripts.{HasAlso}
use Rattle.line_edits.specs.HashChanges.{hash_by}
use Rattle.user_changes.proofs.hash.change_hash.Goals as goal

pub returns : goal.returns
returns c =
    let asked = c.args.asked.now in
    let files = c.args.tables.now in
    let user = operand asked in
    let sets : sets_hash asked ≡ true = sym c.sets_hash.ensures ∙ c.if-not-sets_hash.false in
    let edits = each_user_hash user (hash_after asked) files in
    subst
    (λ edits. OnOk c.change_user_hash.result
    (HasAlso edits c.args.script.now c.change_user_hash.new.script))
    (ap (λ name. each_user_hash name (hash_by c.in_ok-change.change) files) c.operand.ensures
    ∙ ap (λ f. each_user_hash user f files) (c.in_ok-change.ensures {u = tt})
    ∙ sym (ap (λ set. if set then edits else no_edits) sets))
    c.change_user_hash.ensures
