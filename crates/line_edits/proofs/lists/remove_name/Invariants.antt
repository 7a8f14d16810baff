use Rattle.std.proofs.Common.{◌≡◌, take}
use Rattle.account_model.specs.Members.{without_name}
use Rattle.line_edits.proofs.lists.remove_name.Given as goal

-- the others so far are the names so far without this one
abbrev pub invariant-loop-other : goal.invariant-loop-other
invariant-loop-other l = l.others ≡ without_name l.name (take l.other-index l.other-items)
