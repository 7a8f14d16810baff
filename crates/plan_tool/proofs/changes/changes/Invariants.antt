use Rattle.std.proofs.Common.{◌≡◌, map, take}
use Rattle.std.specs.Prelude.{filter_map}
use Rattle.plan_tool.specs.SeenChanges.{change_told, seen_change}
use Rattle.plan_tool.proofs.changes.changes.Given as goal

-- the changes of the tables so far
abbrev pub invariant-tables : goal.invariant-tables
invariant-tables l = map seen_change l.found.items
    ≡ filter_map (change_told l.files) (take l.table-index l.table-items)
