use Rattle.std.proofs.Common.{◌∙◌, ◌<◌, ℕ, List, ap, length, map, arith}
use Rattle.account_model.specs.Members.{add_to_group}
use Rattle.account_model.specs.Tables.{followed_by, in_order}
use Rattle.carried_tables.specs.Scripts.{seen_script}
use Rattle.user_creation.proofs.JoiningLemmas.{order-on}
use Rattle.user_creation.proofs.script.join_all.Goals as goal

pub loop-group-preserved : goal.loop-group-preserved
loop-group-preserved c =
    let user = c.args.user.now in
    let groups = c.args.groups.now in
    let joined = λ (group : List ℕ). add_to_group group user in
    let place = c.loop-group.group-index in
    let inside : place < length groups = omega arith in
    let old = seen_script c.loop-group.script in
    order-on joined groups place c.group-item.result old
    (seen_script c.add_to_group.new.self)
    (followed_by (seen_script c.args.script.now) (in_order (map joined groups))) inside
    c.group-item.is
    (c.in_ok-add_to_group.ensures {u = tt}
    ∙ ap (λ group. followed_by old (joined group)) c.as_slice.ensures)
    c.loop-group.invariant
