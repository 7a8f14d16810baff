-- What a check answers that wants memory for more than a refusal; no manual page has this.
use Rattle.std.specs.Prelude.{◌≡◌, Option, Some, None, Result, Ok, Err, ⊤}
use Rattle.account_model.specs.declared.refusal.Refusal.{Refusal}
use Rattle.tool_answers.specs.declared.tool_fault.ToolFault.{ToolFault}
use Rattle.tool_answers.specs.declared.tool_fault.ToolFault.TheVariants.{Refused, Memory}

-- the check goes on where there is no refusal, and refuses by one; want of memory may come anywhere
abbrev pub StopsBy : {X : Type 0} → Option Refusal → Result X ToolFault → Type 0
StopsBy refusal (Ok done) = refusal ≡ None
StopsBy refusal (Err (Refused found)) = refusal ≡ Some found
StopsBy refusal (Err Memory) = ⊤
