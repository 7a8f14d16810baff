-- What holds where a call answered, carried to another fact.
use Rattle.std.proofs.Common.{Result, Ok, Err}
use Rattle.std.specs.Prelude.{OnOk}

-- what holds where a call answered leads to what follows from it
pub on_ok : {T E : Type 0} {P Q : Type 0} (result : Result T E) → (P → Q) → OnOk result P
    → OnOk result Q
on_ok (Ok value) to is = to is
on_ok (Err fault) to is = tt
