-- chage LOGIN (chage(1)): changes or lists the aging of a user.
use Rattle.std.specs.Prelude.{ℕ, ◌+◌, ◌==◌, nat_lt, if◌then◌else◌, List, [], ◌∷◌, ◌++◌, decimal, codes, Option, Some, None, is_none}
use Rattle.acct_text.specs.declared.files.Files.{Files}
use Rattle.account_model.specs.declared.records.ShadowRecord.{ShadowRecord}
use Rattle.account_model.specs.declared.refusal.Refusal.{Refusal}
use Rattle.account_model.specs.declared.refusal.Refusal.TheVariants.{NoShadow}
use Rattle.acct_text.specs.Bytes.{newline}
use Rattle.account_model.specs.Format.{is_named}
use Rattle.account_model.specs.Edits.{each_where}
use Rattle.account_model.specs.Records.{shadow_format}
use Rattle.account_model.specs.Tables.{Script, no_edits, in_order}
use Rattle.account_model.specs.Request.{Request, has_option, operand}
use Rattle.account_model.specs.Refusals.{refuse_if, bad_value, missing_user}
use Rattle.account_model.specs.Action.{Action, changes, reports}
use Rattle.account_model.specs.Dates.{print_day}
use Rattle.account_model.specs.Values.{is_days_value, is_date_value, days_value, date_value, field_value}
use Rattle.account_model.specs.Hashes.{demand_shadow}
use Rattle.account_model.specs.Users.{aging_of}

-- ---- The change

-- in the order in which they are tested, with `-l` as well
abbrev pub chage_refusals : Request → Files → List (Option Refusal)
chage_refusals request files =
    bad_value (codes "d") is_date_value request
    ∷ bad_value (codes "E") is_date_value request
    ∷ bad_value (codes "I") is_days_value request
    ∷ bad_value (codes "m") is_days_value request
    ∷ bad_value (codes "M") is_days_value request
    ∷ bad_value (codes "W") is_days_value request
    ∷ refuse_if (is_none files.shadow) NoShadow
    ∷ missing_user (operand request) files
    ∷ []

-- each option sets its field; `-1` empties it
abbrev pub with_aging : Request → ShadowRecord → ShadowRecord
with_aging request r = record r {
  last_change = field_value date_value (codes "d") request r.last_change;
  minimum = field_value days_value (codes "m") request r.minimum;
  maximum = field_value days_value (codes "M") request r.maximum;
  warning = field_value days_value (codes "W") request r.warning;
  inactive = field_value days_value (codes "I") request r.inactive;
  expiration = field_value date_value (codes "E") request r.expiration;
}

-- the line of shadow on demand, and then its fields
abbrev pub chage_script : Request → Files → Script
chage_script request files = in_order
    (demand_shadow (operand request) files
    ∷ record no_edits {
      shadow = each_where (is_named shadow_format (operand request)) (with_aging request) ∷ [];
    }
    ∷ [])

-- ---- What `-l` prints

-- a number of days
abbrev pub shown_days : Option ℕ → List ℕ
shown_days None = codes "none"
shown_days (Some days) = decimal days

-- a date
abbrev pub shown_date : Option ℕ → List ℕ
shown_date None = codes "never"
shown_date (Some day) = print_day day

-- the last change; on day 0 it says that the password must be changed (shadow(5))
abbrev pub shown_last_change : Option ℕ → List ℕ
shown_last_change None = codes "never"
shown_last_change (Some day) = if day == 0 then codes "must change" else print_day day

-- a password of as many days never expires
abbrev pub endless_days : ℕ
endless_days = 10000

-- the day that lies the maximum after the last change
abbrev pub shown_end : ℕ → Option ℕ → List ℕ
shown_end day None = codes "never"
shown_end day (Some maximum) =
    if nat_lt maximum endless_days then print_day (day + maximum) else codes "never"

-- when the password expires, by the last change and the maximum
abbrev pub shown_expiry : Option ℕ → Option ℕ → List ℕ
shown_expiry None maximum = codes "never"
shown_expiry (Some day) maximum = if day == 0 then codes "must change" else shown_end day maximum

-- HEADING: VALUE
abbrev pub shown_line : List ℕ → List ℕ → List ℕ
shown_line heading value = heading ++ codes ": " ++ value ++ newline ∷ []

-- the seven lines of `-l`
abbrev pub aging_report : ShadowRecord → List ℕ
aging_report r =
    shown_line (codes "last change") (shown_last_change r.last_change)
    ++ shown_line (codes "password expires") (shown_expiry r.last_change r.maximum)
    ++ shown_line (codes "minimum days") (shown_days r.minimum)
    ++ shown_line (codes "maximum days") (shown_days r.maximum)
    ++ shown_line (codes "warning days") (shown_days r.warning)
    ++ shown_line (codes "inactive days") (shown_days r.inactive)
    ++ shown_line (codes "account expires") (shown_date r.expiration)

-- ---- The whole

-- what chage does, by the tables
abbrev pub chage : Request → Files → Action
chage request files = if has_option (codes "l") request
    then reports (chage_refusals request files) 0 (aging_report (aging_of (operand request) files))
    else changes (chage_refusals request files) (chage_script request files)
