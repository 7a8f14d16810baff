use Rattle.std.proofs.Common.{◌≡◌, ◌∙◌, arith, ap, refl, Ok, FitsSigned, w8, w16, w32, w64}
use Rattle.std.proofs.lemmas.Int.{to_z_pos, to_z-of_z}
use Rattle.jiff.specs.Words.{epoch_day}
use Rattle.jiff.proofs.SpanFacts.{signed_arith}
use Rattle.acct_dates.specs.Days.{calendar_date}
use Rattle.acct_dates.proofs.WrittenDays.{late-day}
use Rattle.acct_dates.proofs.read.day_of.Goals as goal

pub returns : goal.returns
returns c =
    let written = c.args.written
    in let number = c.to_unix_epoch_day.result
    in let bound = c.to_unix_epoch_day.ensures.bound
    in let small : FitsSigned w32 number = omega (arith, signed_arith, bound)
    in let wide : FitsSigned w64 number = omega (arith, signed_arith, bound)
    in let same : c.from.result ≡ number = simp to_z-of_z at c.from.ensures
    in let is : number ≡ epoch_day c.in-Ok.date =
    c.to_unix_epoch_day.ensures.value ∙ ap epoch_day c.to_plain.ensures
    in let late = late-day
    (calendar_date written)
    c.in-Ok.date
    _
    _
    _
    (to_z_pos w16 written.year (omega arith))
    (to_z_pos w8 written.month (omega arith))
    (to_z_pos w8 written.day (omega arith))
    (c.in-Ok.ensures.succeeds.0 refl)
    c.in-Ok.ensures.value
    c.if-written-lt1970.false
    in rw same (simp to_z-of_z (ap Ok is ∙ late))
