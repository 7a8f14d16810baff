-- Why a setting or a settings file is refused (login.defs(5); useradd(8), `-K`).
use Rattle.std.specs.Prelude.{ℕ, List, Option, None, Some, is_some, option_map, bytes_eq, if◌then◌else◌}
use Rattle.std.specs.Option.{option_map_or}
use Rattle.account_model.specs.declared.settings.Key.{Key}
use Rattle.account_model.specs.Settings.{find_key, user_groups_key, allowed_value, bad_line}
use Rattle.login_defs.specs.declared.defs.DefsFault.{DefsFault}
use Rattle.login_defs.specs.declared.defs.DefsFault.TheVariants as file
use Rattle.login_defs.specs.declared.defs.KeyFault.{KeyFault}
use Rattle.login_defs.specs.declared.defs.KeyFault.TheVariants.{UnknownKey, BadNumber}

-- a value that the key doesn't allow
abbrev pub value_fault : List ℕ → Key → Option KeyFault
value_fault value key = if is_some (allowed_value key value) then None else Some BadNumber

-- a key that is none of login.defs, or a value that it doesn't allow; any value is a flag
abbrev pub setting_fault : List ℕ → List ℕ → Option KeyFault
setting_fault key value = if bytes_eq key user_groups_key then None
    else option_map_or (value_fault value) (find_key key) (Some UnknownKey)

-- the fault of a settings file: its first line with a value that the key doesn't allow
abbrev pub file_fault : List ℕ → Option DefsFault
file_fault text = option_map file.BadNumber (bad_line text)
