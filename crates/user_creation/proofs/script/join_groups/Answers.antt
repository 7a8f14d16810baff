use Rattle.std.proofs.Common.{◌∙◌, ℕ, List, ap, map}
use Rattle.std.proofs.lemmas.Result.{on_ok_weaker}
use Rattle.std.proofs.lemmas.Simd.{map-map}
use Rattle.account_model.specs.GivenGroups.{given_groups}
use Rattle.account_model.specs.Members.{add_to_group}
use Rattle.account_model.specs.Request.{operand}
use Rattle.account_model.specs.Tables.{followed_by, in_order}
use Rattle.account_model.specs.declared.records.GroupRecord.{GroupRecord}
use Rattle.carried_tables.specs.Scripts.{seen_script}
use Rattle.user_creation.proofs.script.join_groups.Goals as goal

-- the names are those of the groups of `-G`
pub returns : goal.returns
returns c =
    let asked = c.args.asked.now in
    let joined = λ (user : List ℕ) (groups : List (List ℕ)).
    followed_by (seen_script c.args.script.now)
    (in_order (map (λ group. add_to_group group user) groups)) in
    on_ok_weaker c.join_all.result
    (λ also.
    also
    ∙ ap (λ user. joined user c.as_slice.result.now) c.operand.ensures
    ∙ ap (joined (operand asked)) (c.as_slice.ensures ∙ c.in_ok-groups.ensures {u = tt})
    ∙ ap (λ scripts. followed_by (seen_script c.args.script.now) (in_order scripts))
    (map-map (λ group. add_to_group group (operand asked)) (λ (group : GroupRecord). group.name)
    (given_groups asked c.args.tables.now)))
    c.join_all.ensures
