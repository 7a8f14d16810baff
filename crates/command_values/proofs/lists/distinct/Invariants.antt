use Rattle.std.proofs.Common.{◌≡◌, take}
use Rattle.account_model.specs.Text.{distinct}
use Rattle.command_values.proofs.lists.distinct.Given as goal

-- of the names so far the first of equal ones are kept
abbrev pub invariant-loop-name : goal.invariant-loop-name
invariant-loop-name l = l.kept ≡ distinct (take l.name-index l.names)
