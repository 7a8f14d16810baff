use Rattle.std.proofs.Common.{◌≡◌, map, take}
use Rattle.std.specs.Prelude.{filter_map}
use Rattle.account_model.specs.GivenGroups.{find_group}
use Rattle.account_model.specs.Tables.{group_records}
use Rattle.table_edits.proofs.given_groups.group_names.Given as goal

-- the names so far are those of the groups of the words so far
abbrev pub invariant-loop-word : goal.invariant-loop-word
invariant-loop-word l =
    l.names ≡ map (λ group. group.name) (filter_map
    (λ word. find_group word (group_records l.tables)) (take l.word-index l.word-items))
