-- Refusals that several tools share. Each is an entry of a tool's list, in which the first that there is refuses.
use Rattle.std.specs.Prelude.{find, ℕ, Bool, not, List, codes, slice_index, Option, Some, None, option_map, option_and_then, if◌then◌else◌}
use Rattle.account_model.specs.declared.refusal.Refusal.{Refusal}
use Rattle.account_model.specs.declared.refusal.Refusal.TheVariants.{BadName, BadKey, BadValue, NoGroup, NoUser}
use Rattle.acct_text.specs.declared.files.Files.{Files}
use Rattle.account_model.specs.Text.{comma, has_byte}
use Rattle.account_model.specs.Names.{is_valid_name}
use Rattle.account_model.specs.Settings.{bad_word}
use Rattle.account_model.specs.Request.{Request, value_of, values_of}
use Rattle.account_model.specs.Users.{has_user, has_group}

-- the refusal where the test holds
abbrev pub refuse_if : Bool → Refusal → Option Refusal
refuse_if test refusal = if test then Some refusal else None

-- the refusal that an option's value gives, where the option is given
abbrev pub refuse_value : List ℕ → Request → (List ℕ → Option Refusal) → Option Refusal
refuse_value letter request test = option_and_then test (value_of letter request)

-- ---- Values

-- the value is bad, by the option's letter
abbrev pub bad_value_of : List ℕ → List ℕ → Refusal
bad_value_of letter value = BadValue (slice_index letter 0) value

-- the value that counts of an option doesn't pass the test
abbrev pub bad_value : List ℕ → (List ℕ → Bool) → Request → Option Refusal
bad_value letter test request =
    refuse_value letter request (λ value. refuse_if (not (test value)) (bad_value_of letter value))

-- the first value that doesn't pass the test, of an option of which each value counts
abbrev pub bad_values : List ℕ → (List ℕ → Bool) → Request → Option Refusal
bad_values letter test request =
    option_map (bad_value_of letter) (find (λ value. not (test value)) (values_of letter request))

-- the first `-K` word that isn't KEY=VALUE with a key of login.defs(5) and a value that it allows (useradd(8), `-K`)
abbrev pub bad_key : Request → Option Refusal
bad_key request = option_map BadKey (bad_word (values_of (codes "K") request))

-- ---- Names

-- a new name isn't valid
abbrev pub bad_name : List ℕ → Option Refusal
bad_name name = refuse_if (not (is_valid_name name)) (BadName name)

-- a name with a comma, which can't stand in a list; it is the last entry of a tool that would add it to one
abbrev pub bad_list_name : List ℕ → Option Refusal
bad_list_name name = refuse_if (has_byte comma name) (BadName name)

-- the group isn't there
abbrev pub missing_group : List ℕ → Files → Option Refusal
missing_group name files = refuse_if (not (has_group name files)) (NoGroup name)

-- the first of these users that isn't there
abbrev pub missing_users : List (List ℕ) → Files → Option Refusal
missing_users names files = option_map NoUser (find (λ name. not (has_user name files)) names)

-- the user isn't there
abbrev pub missing_user : List ℕ → Files → Option Refusal
missing_user name files = refuse_if (not (has_user name files)) (NoUser name)
