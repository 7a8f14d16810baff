use Rattle.std.proofs.Common.{◌≡◌, ◌++◌, codes, take}
use Rattle.std.specs.Prelude.{flat_map}
use Rattle.account_model.specs.PlanJson.{escaped}
use Rattle.plan_tool.proofs.strings.push_string.Given as goal

-- the bytes so far stand behind the quote
abbrev pub invariant-loop-byte : goal.invariant-loop-byte
invariant-loop-byte l = l.out
    ≡ l.fn.out ++ codes "\"" ++ flat_map escaped (take l.byte-index l.byte-items)
