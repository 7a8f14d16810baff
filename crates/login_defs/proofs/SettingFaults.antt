-- Claim: a setting has the fault that its key and its value have, one by one (`flag-fault`,
-- `unknown-fault`, `bad-fault`, `no-fault`), and a line the fault of its setting (`line-bad`,
-- `line-good`, `line-none`). Way: each test of the definitions is rewritten by what is known of it.
use Rattle.std.proofs.Common.{◌≡◌, ℕ, Bool, true, false, List, [], ◌∷◌, ◌++◌, refl, sym, ap, subst, Some, None}
use Rattle.std.specs.Prelude.{Option, bytes_eq, is_some, if◌then◌else◌}
use Rattle.std.proofs.lemmas.Slice.Eq.{bytes_eq-Decides}
use Rattle.account_model.specs.declared.settings.Key.{Key}
use Rattle.account_model.specs.Settings.{Setting, find_key, user_groups_key, allowed_value, allows, is_allowed_value}
use Rattle.login_defs.specs.declared.defs.KeyFault.TheVariants.{UnknownKey, BadNumber}
use Rattle.login_defs.specs.declared.defs.DefsFault.TheVariants as file
use Rattle.login_defs.specs.declared.defs.KeyFault.{KeyFault}
use Rattle.std.specs.Option.{option_map_or}
use Rattle.login_defs.specs.Faults.{setting_fault, value_fault}
use Rattle.login_defs.specs.declared.defs.Defs.{Defs}
use Rattle.login_defs.specs.Held.{HasSettings}
use Rattle.login_defs.specs.LineSetting.{text_setting, line_fault, AddsLine}
use Rattle.login_defs.proofs.SettingLaws.{unknown-adds}

-- a key that isn't known
pub unknown-fault :
    (word value : List ℕ)
    → bytes_eq word user_groups_key ≡ false
    → find_key word ≡ None
    → setting_fault word value ≡ Some UnknownKey
unknown-fault word value no_flag none = rw (no_flag, none) refl

-- whether a file may have a setting with this fault: an unknown key is ignored there
abbrev pub may_stand : Option KeyFault → Bool
may_stand None = true
may_stand (Some UnknownKey) = true
may_stand (Some BadNumber) = false

-- the name of the flag is no numeric key
flag-unknown : (word : List ℕ) → bytes_eq word user_groups_key ≡ true → find_key word ≡ None
flag-unknown word is_flag = ap find_key ((bytes_eq-Decides word user_groups_key).0 is_flag)

-- a value is allowed where its setting may stand, by each test
allowed-by :
    (value : List ℕ) (flag : Bool) (found : Option Key)
    → (flag ≡ true → found ≡ None)
    → allows found value
    ≡ may_stand (if flag then None else option_map_or (value_fault value) found (Some UnknownKey))
allowed-by value true found unknown = rw (unknown refl) refl
allowed-by value false None unknown = refl
allowed-by value false (Some key) unknown = allowed-value value key (allowed_value key value) refl
  where
    allowed-value :
        (value : List ℕ) (key : Key) (number : Option (Option ℕ))
        → allowed_value key value ≡ number
        → is_some (allowed_value key value) ≡ may_stand (value_fault value key)
    allowed-value value key None is = rw is refl
    allowed-value value key (Some number) is = rw is refl

-- a value is allowed where its setting may stand
pub allowed-may_stand :
    (word value : List ℕ)
    → is_allowed_value word value ≡ may_stand (setting_fault word value)
allowed-may_stand word value =
    allowed-by value (bytes_eq word user_groups_key) (find_key word) (flag-unknown word)

-- a line of a setting that may stand has no fault
pub line-good :
    (number : ℕ) (line : List ℕ) (setting : Setting)
    → text_setting line ≡ Some setting
    → may_stand (setting_fault setting.key setting.value) ≡ true
    → line_fault number line ≡ None
line-good number line setting is good =
    rw (is, allowed-may_stand setting.key setting.value, good) refl

-- one of another has
pub line-bad :
    (number : ℕ) (line : List ℕ) (setting : Setting)
    → text_setting line ≡ Some setting
    → may_stand (setting_fault setting.key setting.value) ≡ false
    → line_fault number line ≡ Some (file.BadNumber number)
line-bad number line setting is bad =
    rw (is, allowed-may_stand setting.key setting.value, bad) refl

-- the tests behind the fault of an unknown key
unknown-is :
    (word value : List ℕ) (flag : Bool) (found : Option Key)
    → bytes_eq word user_groups_key ≡ flag
    → find_key word ≡ found
    → setting_fault word value ≡ Some UnknownKey
    → (flag ≡ false) × (found ≡ None)
unknown-is word value true found is_flag is_found fault =
    let wrong = rw is_flag at fault in absurd cc
unknown-is word value false None is_flag is_found fault = (refl, refl)
unknown-is word value false (Some key) is_flag is_found fault =
    unknown-value key (allowed_value key value) refl (rw (is_flag, is_found) at fault)
  where
    unknown-value :
        (key : Key) (number : Option (Option ℕ))
        → allowed_value key value ≡ number
        → value_fault value key ≡ Some UnknownKey
        → (false ≡ false) × (Some key ≡ None)
    unknown-value key None is fault = let wrong = rw is at fault in absurd cc
    unknown-value key (Some number) is fault = let wrong = rw is at fault in absurd cc

-- the line of an unknown key adds itself, and changes nothing
pub unknown-line :
    (old new : Defs) (line : List ℕ) (setting : Setting)
    → text_setting line ≡ Some setting
    → setting_fault setting.key setting.value ≡ Some UnknownKey
    → new ≡ old
    → AddsLine old new line
unknown-line old new line setting is fault same = λ settings has.
    let tests = unknown-is setting.key setting.value _ _ refl refl fault in
    rw is (subst (λ defs. HasSettings defs (settings ++ setting ∷ [])) (sym same)
    (unknown-adds old setting.key setting.value tests.1 tests.0 settings has))
