-- Claim: the field that a read day gives is the one that the text of a date means (`date-field`).
-- Way: by what is read; a day that is read fits shadow(5).
use Rattle.std.proofs.Common.{◌≡◌, ℕ, List, refl, ap, ℤ, arith}
use Rattle.std.specs.Prelude.{Option, Some, None, Result, Ok, Err}
use Rattle.account_model.specs.Dates.{DayFault, read_day}
use Rattle.account_model.specs.Values.{date_value}
use Rattle.account_model.specs.Written.{IsDaysNumber}
use Rattle.account_model.proofs.AgingToolScripts.{date-held}
use Rattle.acct_dates.specs.Days.{answered}
use Rattle.command_values.specs.FieldNumbers.{IsFieldNumber}

-- what a text means as a date, by what is read of it
abbrev pub value_of_read : Result (Option ℕ) DayFault → Option (Option ℕ)
value_of_read read = elim read [ Ok day ↦ Some day | Err fault ↦ None ]

module _ (text : List ℕ) (day : ℤ) (field : Option ℕ)
    (is : (wanted : Option ℕ) → IsFieldNumber day wanted → field ≡ wanted) where
  -- by what is read
  field-of :
      (read : Result (Option ℕ) DayFault)
      → read_day text ≡ read
      → Ok day ≡ answered read
      → Some field ≡ value_of_read read
  field-of (Err fault) of_text told = absurd cc
  field-of (Ok None) of_text told = ap Some (is None (cc))
  field-of (Ok (Some n)) of_text told =
      let small : IsDaysNumber (Some n) = date-held text (Some n) (ap value_of_read of_text) in
      ap Some (is (Some n) (cc, omega (arith, small)))

  -- the field is that of the text
  pub date-field : Ok day ≡ answered (read_day text) → Some field ≡ date_value text
  date-field told = field-of (read_day text) refl told
