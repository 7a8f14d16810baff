-- Claim: `chage -l` and `passwd -S` print what they show, and nothing beside (`listed-output`). Way: by
-- whether the option is given.
use Rattle.std.proofs.Common.{◌≡◌, Bool, true, false, ℕ, List, [], ap}
use Rattle.std.specs.Prelude.{Option, if◌then◌else◌}
use Rattle.account_model.specs.declared.refusal.Refusal.{Refusal}
use Rattle.account_model.specs.declared.tool.Tool.{Tool}
use Rattle.account_model.specs.Action.{changes, reports}
use Rattle.account_model.specs.Tables.{Script}
use Rattle.tool_answers.specs.declared.decision.Output.{Output}
use Rattle.table_edits.specs.Acting.{IsOutputOf}

-- what is shown, where the command shows something
pub listed-output :
    (tool : Tool) (refusals : List (Option Refusal)) (script : Script) (lists : Bool)
    (text out : List ℕ) (output : Output)
    → lists ≡ true
    → out ≡ text
    → output ≡ record { status = 0; out = out; err = [] }
    → IsOutputOf tool (if lists then reports refusals 0 text else changes refusals script) output
listed-output tool refusals script true text out output listed shown is = record {
  status = ap (λ (one : Output). one.status) is;
  output = cc (ap (λ (one : Output). one.out) is, shown);
  notices = ap (λ (one : Output). one.err) is;
}
listed-output tool refusals script false text out output listed shown is = absurd cc
