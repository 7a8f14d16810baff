use Rattle.std.proofs.Common.{◌≡◌, ◌++◌, drop}
use Rattle.account_model.specs.Members.{name_once, in_place_of}
use Rattle.acct_tables.specs.Renaming.{once_more}
use Rattle.acct_tables.proofs.renaming.put_in_place.Given as goal

-- the names so far and those left, renamed, are all of them
abbrev pub invariant-loop-name : goal.invariant-loop-name
invariant-loop-name l =
    l.renamed ++ once_more l.stands l.new (in_place_of l.old l.new (drop l.name-index l.name-items))
    ≡ name_once l.new (in_place_of l.old l.new l.name-items)
