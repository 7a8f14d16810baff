-- Claim: a word of `-K` is a setting exactly where it has a `=`, and the settings take what stands
-- before and behind its first one (`setting-told`, `setting-set`, `no_setting`). Way: the key
-- USERGROUPS_ENAB is no numeric key (`flag-unknown`), so the tests of the key come to the same in
-- either order.
use Rattle.std.proofs.Common.{◌≡◌, ℕ, Bool, true, false, List, [], ◌∷◌, refl, sym, ap, subst, ◌∙◌, inl, inr}
use Rattle.std.specs.Prelude.{Option, Some, None, Result, Ok, Err, OnOk, is_some, is_none, is_ok, bytes_eq, ◌&&◌, ◌||◌, if◌then◌else◌}
use Rattle.std.specs.Bool.{OnTrue}
use Rattle.std.specs.Option.{option_map_or}
use Rattle.std.specs.Result.{result_err}
use Rattle.std.proofs.lemmas.Bool.{cases_Bool}
use Rattle.std.proofs.lemmas.Slice.Eq.{bytes_eq-Decides}
use Rattle.acct_text.specs.Pieces.{cut_at}
use Rattle.acct_text.proofs.CutOnce.{cut-before, cut-behind, cut-has, uncut-has}
use Rattle.account_model.specs.declared.settings.Key.{Key}
use Rattle.account_model.specs.Text.{equals_sign}
use Rattle.account_model.specs.Settings.{Setting, find_key, user_groups_key, allows, allowed_value, is_allowed_value, is_setting_word, word_setting}
use Rattle.login_defs.specs.declared.defs.KeyFault.TheVariants.{UnknownKey}
use Rattle.login_defs.specs.Faults.{value_fault, setting_fault}

-- the name of the flag is no numeric key
flag-unknown : (key : List ℕ) → bytes_eq key user_groups_key ≡ true → find_key key ≡ None
flag-unknown key is_flag = ap find_key ((bytes_eq-Decides key user_groups_key).0 is_flag)

-- a value has no fault exactly where the key allows it
no_fault-allowed :
    (value : List ℕ) (key : Key)
    → is_none (value_fault value key) ≡ is_some (allowed_value key value)
no_fault-allowed value key = elim (cases_Bool (is_some (allowed_value key value))) [
  | inl allowed ↦ rw allowed refl
  | inr refused ↦ rw refused refl
]

-- a setting has no fault, by whether its key is the flag and by the numeric key
no_fault-by :
    (value : List ℕ) (flag : Bool) (key : Option Key)
    → (flag ≡ true → key ≡ None)
    → is_none (if flag then None else option_map_or (value_fault value) key (Some UnknownKey))
    ≡ ((is_some key || flag) && allows key value)
no_fault-by value true key unknown = rw (unknown refl) refl
no_fault-by value false None unknown = refl
no_fault-by value false (Some key) unknown = no_fault-allowed value key

-- the tests of a word: it has a `=`, a known key, and a value that the key allows
abbrev tests_of : Bool → List ℕ → List ℕ → Bool
tests_of has key value =
    has && (is_some (find_key key) || bytes_eq key user_groups_key) && is_allowed_value key value

-- a call is done exactly where it has no fault
pub is_ok-told :
    {T E : Type 0} (result : Result T E) (fault : Option E)
    → result_err result ≡ fault
    → is_ok result ≡ is_none fault
is_ok-told (Ok done) fault is = ap is_none is
is_ok-told (Err found) fault is = ap is_none is

-- a word with a `=` is a setting exactly where the call that takes its parts is done
pub setting-told :
    (word key value : List ℕ) (done : Bool)
    → cut_at equals_sign word ≡ key ∷ cut_at equals_sign value
    → done ≡ is_none (setting_fault key value)
    → done ≡ is_setting_word word
setting-told word key value done cut is =
    let parts = word_setting word in
    let told : is_none (setting_fault key value) ≡ tests_of true key value =
    no_fault-by value (bytes_eq key user_groups_key) (find_key key) (flag-unknown key) in
    is ∙ told
    ∙ ap (λ key. tests_of true key value) (sym (cut-before equals_sign word key value cut))
    ∙ ap (tests_of true parts.key) (sym (cut-behind equals_sign word key value cut))
    ∙ ap (λ has. tests_of has parts.key parts.value) (sym (cut-has equals_sign word key value cut))

-- a word without a `=` is no setting
pub no_setting :
    (word : List ℕ) → cut_at equals_sign word ≡ word ∷ [] → false ≡ is_setting_word word
no_setting word uncut =
    let parts = word_setting word in
    ap (λ has. tests_of has parts.key parts.value) (sym (uncut-has equals_sign word uncut))

-- what a call that is done sets is the setting of the word
pub setting-set :
    {T E : Type 0} (result : Result T E) (done : Bool) (IsSet : Setting → Type 0)
    (word key value : List ℕ)
    → cut_at equals_sign word ≡ key ∷ cut_at equals_sign value
    → done ≡ is_ok result
    → OnOk result (IsSet (record { key = key; value = value }))
    → OnTrue done (IsSet (word_setting word))
setting-set (Ok x) done IsSet word key value cut is set =
    let same : ◌≡◌ {A = Setting} (word_setting word) (record { key = key; value = value }) =
    λ i. record {
      key = cut-before equals_sign word key value cut i;
      value = cut-behind equals_sign word key value cut i;
    } in
    rw is (subst IsSet (sym same) set)
setting-set (Err fault) done IsSet word key value cut is set = rw is tt
