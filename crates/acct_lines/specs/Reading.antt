-- What a reading of a line answers: what was read, the fault of the line, or want of memory.
use Rattle.std.specs.Prelude.{Result, Ok, Err, ⊤}
use Rattle.account_model.specs.declared.fault.LineFault.{LineFault}
use Rattle.acct_lines.specs.declared.record.ReadFault.{ReadFault}
use Rattle.acct_lines.specs.declared.record.ReadFault.TheVariants.{Line, Memory}

-- a fact of what was read, and one of the fault of a line; want of memory may come with any line
abbrev pub MatchRead :
    {X : Type 0} → Result X ReadFault → (X → Type 0) → (LineFault → Type 0) → Type 0
MatchRead (Ok x) Good Bad = Good x
MatchRead (Err (Line fault)) Good Bad = Bad fault
MatchRead (Err Memory) Good Bad = ⊤
