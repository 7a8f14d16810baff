-- Claim: among two lists of refusals behind one another the first of the first counts
-- (`first_some-before`), and where there is none that of the second (`first_some-behind`); and a
-- fault that is handed on is the tool's answer (`acts-handed`). Way: refusal by refusal.
use Rattle.std.proofs.Common.{◌≡◌, List, [], ◌∷◌, ◌++◌, refl, sym, subst}
use Rattle.std.specs.Prelude.{Option, Some, None, Result, Ok, Err, IsErrAnd}
use Rattle.account_model.specs.Action.{Action}
use Rattle.account_model.specs.Text.{first_some}
use Rattle.tool_answers.specs.declared.tool_fault.ToolFault.{ToolFault}
use Rattle.table_edits.specs.Acting.{ActsBy}
use Rattle.carried_tables.specs.declared.script.Script.{Script}

-- what is first among some is first with more behind them
pub first_some-before :
    {X : Type 0} (some more : List (Option X)) (first : X)
    → first_some some ≡ Some first
    → first_some (some ++ more) ≡ Some first
first_some-before [] more first is = absurd cc
first_some-before (None ∷ some) more first is = first_some-before some more first is
first_some-before (Some x ∷ some) more first is = is

-- where some are none, the first is one of those behind them
pub first_some-behind :
    {X : Type 0} (some more : List (Option X))
    → first_some some ≡ None
    → first_some (some ++ more) ≡ first_some more
first_some-behind [] more none = refl
first_some-behind (None ∷ some) more none = first_some-behind some more none
first_some-behind (Some x ∷ some) more none = absurd cc

-- a fault that is handed on is the tool's answer
pub acts-handed :
    (action : Action) (result : Result Script ToolFault) (fault : ToolFault)
    → IsErrAnd result (λ found. found ≡ fault)
    → ActsBy action (Err fault)
    → ActsBy action result
acts-handed action (Ok script) fault handed is = absurd handed
acts-handed action (Err found) fault handed is =
    subst (λ fault. ActsBy action (Err fault)) (sym handed) is
