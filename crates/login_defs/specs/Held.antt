-- Which settings `Defs` holds: of each key what the last setting of the key gave (login.defs(5)).
use Rattle.std.specs.Prelude.{◌≡◌, ℕ, List, [], ◌∷◌, ◌++◌, length, Option, None, Some, option_map, slice_index_or, ℤ, pos, negsuc}
use Rattle.account_model.specs.declared.settings.Key.{Key}
use Rattle.account_model.specs.Settings.{Setting, keys, given_value, user_groups}
use Rattle.login_defs.specs.declared.defs.Defs.{Defs}
use Rattle.login_defs.specs.KeyValues.{value_number}
use Rattle.login_defs.specs.Places.{key_place}

-- what stands at a key: nothing, -1 as none, or a number
abbrev pub held_value : Defs → Key → Option (Option ℕ)
held_value defs key = option_map value_number (slice_index_or defs.values (key_place key) None)

-- the settings of which these are what each key was given, and the flag
pub record HasSettings (defs : Defs) (settings : List Setting) : Type 0 where
  -- one value for each key
  pub counted : length defs.values ≡ length keys
  pub values : (key : Key) → held_value defs key ≡ given_value key settings
  pub flag : defs.user_groups ≡ user_groups settings

-- the values are those of some settings
pub record IsHeld (defs : Defs) : Type 0 where
  pub settings : List Setting
  pub held : HasSettings defs settings

-- the new hold one setting more, behind those that the old hold
abbrev pub AddsSetting : Defs → Defs → Setting → Type 0
AddsSetting old new setting = (settings : List Setting) → HasSettings old settings
    → HasSettings new (settings ++ setting ∷ [])

-- a number as a command sees it: nothing is -1
abbrev pub signed : Option ℕ → ℤ
signed None = negsuc 0
signed (Some number) = pos number

-- the value is what each list of settings tells that these hold
abbrev pub GivesBySettings : {X : Type 0} → Defs → (List Setting → X) → X → Type 0
GivesBySettings defs told value =
    (settings : List Setting) → HasSettings defs settings → value ≡ told settings
