-- passwd LOGIN (passwd(1)) without prompts: locks, unlocks, empties or ages the password of a user, or shows its state.
use Rattle.std.specs.Prelude.{ℕ, Bool, ◌&&◌, ◌||◌, if◌then◌else◌, List, [], ◌∷◌, ◌++◌, bytes_eq, decimal, codes, Option, Some, None, is_none}
use Rattle.std.specs.List.{join_with_byte}
use Rattle.acct_text.specs.declared.files.Files.{Files}
use Rattle.account_model.specs.declared.records.ShadowRecord.{ShadowRecord}
use Rattle.account_model.specs.declared.refusal.Refusal.{Refusal}
use Rattle.account_model.specs.declared.refusal.Refusal.TheVariants.{EmptyHash, NoShadow}
use Rattle.acct_text.specs.Bytes.{blank, newline, is_empty}
use Rattle.account_model.specs.Format.{is_named}
use Rattle.account_model.specs.Edits.{each_where}
use Rattle.account_model.specs.Records.{shadow_format}
use Rattle.account_model.specs.Tables.{Script, no_edits, in_order}
use Rattle.account_model.specs.Request.{Request, has_option, operand}
use Rattle.account_model.specs.Refusals.{refuse_if, bad_value, missing_user}
use Rattle.account_model.specs.Action.{Action, changes, reports}
use Rattle.account_model.specs.Values.{is_days_value, days_value, field_value}
use Rattle.account_model.specs.Hashes.{locked, demand_shadow, each_user_hash}
use Rattle.account_model.specs.Users.{aging_of, hash_of}
use Rattle.account_model.specs.Chage.{shown_date}
use Rattle.account_model.specs.Useradd.{opens_nothing}
use Rattle.account_model.specs.UsermodHash.{locked_hash, unlocked_hash}

-- ---- The refusals

-- `-e`, `-n`, `-x`, `-w` and `-i` set fields that shadow alone has
abbrev pub sets_password_aging : Request → Bool
sets_password_aging request =
    has_option (codes "e") request || has_option (codes "n") request
    || has_option (codes "x") request || has_option (codes "w") request
    || has_option (codes "i") request

-- `-u` would leave no password
abbrev pub opens_freely : Request → Files → Bool
opens_freely request files =
    has_option (codes "u") request && bytes_eq (hash_of (operand request) files) locked

-- in the order in which they are tested
abbrev pub passwd_refusals : Request → Files → List (Option Refusal)
passwd_refusals request files =
    bad_value (codes "n") is_days_value request
    ∷ bad_value (codes "x") is_days_value request
    ∷ bad_value (codes "w") is_days_value request
    ∷ bad_value (codes "i") is_days_value request
    ∷ missing_user (operand request) files
    ∷ refuse_if (sets_password_aging request && is_none files.shadow) NoShadow
    ∷ refuse_if (opens_freely request files) (EmptyHash (operand request))
    ∷ []

-- ---- The change

-- `-d` empties the hash, `-l` puts `!` before it where it doesn't begin with it, and `-u` takes one leading `!` away
abbrev pub password_after : Request → List ℕ → List ℕ
password_after request hash = if has_option (codes "d") request then [] else
    (if has_option (codes "l") request then locked_hash hash else
    (if has_option (codes "u") request then unlocked_hash hash else hash))

-- `-e` sets the last change to day 0, so that the password must be changed; each other option sets its field, and `-1`
-- empties it
abbrev pub with_password_aging : Request → ShadowRecord → ShadowRecord
with_password_aging request r = record r {
  last_change = if has_option (codes "e") request then Some 0 else r.last_change;
  minimum = field_value days_value (codes "n") request r.minimum;
  maximum = field_value days_value (codes "x") request r.maximum;
  warning = field_value days_value (codes "w") request r.warning;
  inactive = field_value days_value (codes "i") request r.inactive;
}

-- the edit of the fields
abbrev pub set_password_aging : Request → Script
set_password_aging request = record no_edits {
  shadow = each_where (is_named shadow_format (operand request)) (with_password_aging request) ∷ [];
}

-- the line of shadow on demand, then the hash, and then the fields
abbrev pub passwd_script : Request → Files → Script
passwd_script request files = in_order
    (demand_shadow (operand request) files
    ∷ each_user_hash (operand request) (password_after request) files
    ∷ (if sets_password_aging request then set_password_aging request else no_edits)
    ∷ [])

-- ---- What `-S` prints

-- there is no password, or it is locked, or it can be used
abbrev pub password_state : List ℕ → List ℕ
password_state hash = if is_empty hash then codes "NP" else
    (if opens_nothing hash then codes "L" else codes "P")

-- a number of days, which is -1 where there is none
abbrev pub status_days : Option ℕ → List ℕ
status_days None = codes "-1"
status_days (Some days) = decimal days

-- LOGIN STATE DATE MIN MAX WARN INACTIVE, of the hash and the aging that count
abbrev pub status_line : List ℕ → List ℕ → ShadowRecord → List ℕ
status_line user hash aging =
    join_with_byte blank
    (user ∷ password_state hash ∷ shown_date aging.last_change
    ∷ status_days aging.minimum ∷ status_days aging.maximum
    ∷ status_days aging.warning ∷ status_days aging.inactive ∷ [])
    ++ newline ∷ []

-- the line of the user
abbrev pub password_status : List ℕ → Files → List ℕ
password_status user files = status_line user (hash_of user files) (aging_of user files)

-- ---- The whole

-- what passwd does, by the tables
abbrev pub passwd : Request → Files → Action
passwd request files = if has_option (codes "S") request
    then reports (passwd_refusals request files) 0 (password_status (operand request) files)
    else changes (passwd_refusals request files) (passwd_script request files)
