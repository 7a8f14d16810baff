use Rattle.std.proofs.Common.{[], ◌∷◌, subst}
use Rattle.std.specs.Prelude.{codes}
use Rattle.account_model.specs.Refusals.{bad_name, bad_key, bad_value}
use Rattle.account_model.specs.Text.{first_some}
use Rattle.account_model.specs.Values.{is_days_value, is_expiration_value, is_field, is_folder, is_shell}
use Rattle.account_model.specs.Records.{is_id}
use Rattle.tool_answers.specs.Refusing.{IsFaultOf}
use Rattle.tool_answers.proofs.FirstRefusal.{handed-on, refuses-first}
use Rattle.user_creation.proofs.creation.check_words.Goals as goal

pub returns-in_err-check_name-clause-refused : goal.returns-in_err-check_name-clause-refused
returns-in_err-check_name-clause-refused c =
    let asked = c.args.asked.now in
    let fault = c.in_err-check_name.field-0.0 in
    let values = bad_key asked
    ∷ bad_value (codes "c") is_field asked
    ∷ bad_value (codes "d") is_folder asked
    ∷ bad_value (codes "b") is_folder asked
    ∷ bad_value (codes "e") is_expiration_value asked
    ∷ bad_value (codes "f") is_days_value asked
    ∷ bad_value (codes "s") is_shell asked
    ∷ bad_value (codes "p") is_field asked
    ∷ bad_value (codes "u") is_id asked
    ∷ [] in
    let refused = c.in_err-check_name.ensures {u = tt} in
    handed-on _ c.from_residual.result fault c.from_residual.ensures.1
    (subst (λ name. IsFaultOf (first_some (bad_name name ∷ values)) fault) c.operand.ensures
    (refuses-first (bad_name c.operand.result.now) values fault refused))
