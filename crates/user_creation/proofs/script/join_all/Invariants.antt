use Rattle.std.proofs.Common.{◌≡◌, drop, map}
use Rattle.account_model.specs.Members.{add_to_group}
use Rattle.account_model.specs.Tables.{followed_by, in_order}
use Rattle.carried_tables.specs.Scripts.{seen_script}
use Rattle.user_creation.proofs.script.join_all.Given as goal

-- with the edits of the groups left, the script has those of all groups behind those of before
abbrev pub invariant-loop-group : goal.invariant-loop-group
invariant-loop-group l =
    followed_by (seen_script l.script)
    (in_order (map (λ group. add_to_group group l.user) (drop l.group-index l.groups)))
    ≡ followed_by (seen_script l.initial.script)
    (in_order (map (λ group. add_to_group group l.user) l.groups))
