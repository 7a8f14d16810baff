-- What a check answers where a tool may refuse; no manual page has this.
use Rattle.std.specs.Prelude.{◌≡◌, Option, Some, None, Result, Ok, Err, IsSome}
use Rattle.account_model.specs.declared.refusal.Refusal.{Refusal}
use Rattle.tool_answers.specs.declared.tool_fault.ToolFault.{ToolFault}
use Rattle.tool_answers.specs.declared.tool_fault.ToolFault.TheVariants.{Refused, Memory}

-- the fault of a check that has this refusal; memory is wanted only for one
abbrev pub IsFaultOf : Option Refusal → ToolFault → Type 0
IsFaultOf refusal (Refused found) = refusal ≡ Some found
IsFaultOf refusal Memory = IsSome refusal

-- a check goes on exactly where there is no refusal
abbrev pub RefusesBy : {X : Type 0} → Option Refusal → Result X ToolFault → Type 0
RefusesBy refusal (Ok done) = refusal ≡ None
RefusesBy refusal (Err fault) = IsFaultOf refusal fault
