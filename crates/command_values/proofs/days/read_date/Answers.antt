use Rattle.std.proofs.Common.{◌≡◌, ◌∙◌, ℕ, ℤ, rules, subst}
use Rattle.std.specs.Prelude.{Option}
use Rattle.std.proofs.lemmas.Int.{to_z-of_z}
use mir.Syntax.{w64}
use mir.Val.{SFits}
use Rattle.acct_lines.specs.DaysValues.{days_held}
use Rattle.command_values.specs.FieldNumbers.{IsFieldNumber}
use Rattle.command_values.proofs.DayLemmas.{date-field}
use Rattle.command_values.proofs.days.read_date.Goals as goal

pub returns-in-Ok : goal.returns-in-Ok
returns-in-Ok c =
    let day = c.in-Ok.day in
    let fits : SFits w64 day = search rules in
    let is : (wanted : Option ℕ) → IsFieldNumber day wanted → c.field_number.result ≡ wanted =
    subst (λ (z : ℤ). (wanted : Option ℕ) → IsFieldNumber z wanted → c.field_number.result ≡ wanted)
    (to_z-of_z w64 day fits) c.field_number.ensures in
    date-field c.args.text.now day (days_held c.of.result)
    (λ wanted told. c.of.ensures ∙ is wanted told) (c.in-Ok.ensures {u = tt})
