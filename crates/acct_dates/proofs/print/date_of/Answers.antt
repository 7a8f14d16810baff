use Rattle.std.proofs.Common.{◌≡◌, ◌<◌, arith, pos, subst, sym, w64, MatchOption}
use Rattle.std.proofs.lemmas.Int.{to_z_pos}
use Rattle.jiff.specs.Types.{Day}
use Rattle.jiff.specs.Words.{date_text, IsOnly}
use Rattle.acct_text.specs.Limits.{last_day}
use Rattle.account_model.specs.Dates.{print_day}
use Rattle.acct_dates.proofs.DateTexts.{added-text}
use Rattle.acct_dates.proofs.print.date_of.Goals as goal

pub returns : goal.returns
returns c =
    let day = c.args.day
    in let within = c.if-day-gt-LAST_DAY.false
    in let same = to_z_pos w64 day (omega (arith, within))
    in let only : IsOnly Day (pos day) c.days.result =
    subst (λ days. IsOnly Day days c.days.result) same c.days.ensures
    in let text = added-text
    c.date.result
    c.days.result
    c.checked_add.result
    day
    within
    c.date.ensures
    only
    c.checked_add.ensures.succeeds.1
    c.checked_add.ensures.value
    in subst
    (λ found. MatchOption found (last_day < day) (λ date. date_text date ≡ print_day day))
    (sym c.ok.ensures.value)
    text
