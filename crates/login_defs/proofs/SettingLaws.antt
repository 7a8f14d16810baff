-- Claim: a numeric setting, a flag and an unknown key each add themselves to the settings that
-- `Defs` holds (`number-adds`, `flag-adds`, `unknown-adds`). Way: a setting behind others is the
-- last of its key, and leaves the last of every other; a key is told by its name and its place.
use Rattle.std.proofs.Common.{length-set, ◌≡◌, ◌≢◌, ℕ, ◌<◌, true, false, List, [], ◌∷◌, ◌++◌, length, refl, sym, ◌∙◌, ap, subst, arith, inl, inr, Some, None}
use Rattle.std.specs.Prelude.{Option, find, filter, map, bytes_eq, slice_set, slice_get, codes, option_and_then}
use Rattle.std.proofs.lemmas.Bool.{cases_Bool}
use Rattle.std.proofs.lemmas.Bool.Decides.{eqb_tells}
use Rattle.std.proofs.lemmas.List.{get_or-set_same, get_or-set_other}
use Rattle.std.proofs.lemmas.Slice.Eq.{bytes_eq-Decides}
use Rattle.acct_text.proofs.NumberLaws.{some-inj}
use Rattle.account_model.specs.declared.settings.Key.{Key}
use Rattle.account_model.specs.declared.settings.Key.TheVariants.{UidMin}
use Rattle.account_model.specs.Text.{last_of}
use Rattle.account_model.specs.Settings.{Setting, keys, key_name, find_key, user_groups_key, allowed_value, last_setting_value, is_yes}
use Rattle.login_defs.specs.declared.defs.Defs.{Defs}
use Rattle.login_defs.specs.declared.values.KeyValue.{KeyValue}
use Rattle.login_defs.specs.KeyValues.{value_number}
use Rattle.login_defs.specs.Places.{key_place}
use Rattle.login_defs.specs.Held.{AddsSetting}

-- the key of a key's name is the key
named-key : (key : Key) → find_key (key_name key) ≡ Some key
named-key UidMin = refl
named-key key = refl

-- the key at a key's place is the key
placed-key : (key : Key) → slice_get keys (key_place key) ≡ Some key
placed-key UidMin = refl
placed-key key = refl

-- no numeric key has the name of the flag
flag-apart : (key : Key) → bytes_eq user_groups_key (key_name key) ≡ false
flag-apart UidMin = refl
flag-apart key = refl

-- the last item behind others
last-behind : (items : List (List ℕ)) (item : List ℕ) → last_of (items ++ item ∷ []) ≡ Some item
last-behind [] item = refl
last-behind (x ∷ []) item = refl
last-behind (x ∷ y ∷ items) item = last-behind (y ∷ items) item

-- the settings of the name, where one is put behind them
abbrev values_of : List ℕ → List Setting → List (List ℕ)
values_of name settings = map (λ s. s.value) (filter (λ s. bytes_eq s.key name) settings)

values-given :
    (name : List ℕ) (setting : Setting) (settings : List Setting)
    → bytes_eq setting.key name ≡ true
    → values_of name (settings ++ setting ∷ []) ≡ values_of name settings ++ setting.value ∷ []
values-given name setting [] given = rw given refl
values-given name setting (first ∷ settings) given =
    elim (cases_Bool (bytes_eq first.key name)) [
      | inl yes_is ↦ rw yes_is
          (ap (λ rest. first.value ∷ rest) (values-given name setting settings given))
      | inr no_is ↦ rw no_is (values-given name setting settings given)
    ]

values-other :
    (name : List ℕ) (setting : Setting) (settings : List Setting)
    → bytes_eq setting.key name ≡ false
    → values_of name (settings ++ setting ∷ []) ≡ values_of name settings
values-other name setting [] other = rw other refl
values-other name setting (first ∷ settings) other =
    elim (cases_Bool (bytes_eq first.key name)) [
      | inl yes_is ↦ rw yes_is
          (ap (λ rest. first.value ∷ rest) (values-other name setting settings other))
      | inr no_is ↦ rw no_is (values-other name setting settings other)
    ]

-- a setting of the name behind others is the last of the name
last-given :
    (name : List ℕ) (setting : Setting) (settings : List Setting)
    → bytes_eq setting.key name ≡ true
    → last_setting_value name (settings ++ setting ∷ []) ≡ Some setting.value
last-given name setting settings given =
    ap last_of (values-given name setting settings given)
    ∙ last-behind (values_of name settings) setting.value

-- one of another name leaves the last of the name
last-other :
    (name : List ℕ) (setting : Setting) (settings : List Setting)
    → bytes_eq setting.key name ≡ false
    → last_setting_value name (settings ++ setting ∷ []) ≡ last_setting_value name settings
last-other name setting settings other = ap last_of (values-other name setting settings other)

-- a word is the name of the key that is found by it
found-named :
    (word : List ℕ) (key : Key) → bytes_eq word (key_name key) ≡ true → find_key word ≡ Some key
found-named word key same =
    ap find_key ((bytes_eq-Decides word (key_name key)).0 same) ∙ named-key key

-- a word isn't the name of another key than the one that is found by it
apart :
    (word : List ℕ) (found : Option Key) (key : Key)
    → find_key word ≡ found
    → found ≢ Some key
    → bytes_eq word (key_name key) ≡ false
apart word found key is_found other = elim (cases_Bool (bytes_eq word (key_name key))) [
  | inl yes_is ↦ absurd (other (sym is_found ∙ found-named word key yes_is))
  | inr no_is ↦ no_is
]

-- what was found passes the test
found-passes :
    (word : List ℕ) (list : List Key) (key : Key)
    → find (λ other. bytes_eq (key_name other) word) list ≡ Some key
    → bytes_eq (key_name key) word ≡ true
found-passes word [] key found = absurd cc
found-passes word (other ∷ list) key found = elim (cases_Bool (bytes_eq (key_name other) word)) [
  | inl yes_is ↦
      let here : other ≡ key = some-inj (rw yes_is at found) in
      subst (λ k. bytes_eq (key_name k) word ≡ true) here yes_is
  | inr no_is ↦ found-passes word list key (rw no_is at found)
]

-- the word by which a key is found is its name
name-found : (word : List ℕ) (key : Key) → find_key word ≡ Some key → word ≡ key_name key
name-found word key found =
    sym ((bytes_eq-Decides (key_name key) word).0 (found-passes word keys key found))

-- keys with one place are one key
one-place : (key other : Key) → key_place key ≡ key_place other → key ≡ other
one-place key other same =
    some-inj (sym (placed-key key) ∙ ap (slice_get keys) same ∙ placed-key other)

-- an unknown key adds nothing that a key could be given
pub unknown-adds :
    (defs : Defs) (word value : List ℕ)
    → find_key word ≡ None
    → bytes_eq word user_groups_key ≡ false
    → AddsSetting defs defs (record { key = word; value = value })
unknown-adds defs word value none no_flag = λ settings has. record {
  counted = has.counted;
  values = λ key. has.values key ∙ sym (ap (option_and_then (allowed_value key))
      (last-other (key_name key) (record { key = word; value = value }) settings
      (apart word None key none (λ e. cc))));
  flag = has.flag ∙ sym (ap is_yes
      (last-other user_groups_key (record { key = word; value = value }) settings no_flag));
}

-- a flag adds itself
pub flag-adds :
    (old new : Defs) (word value : List ℕ)
    → bytes_eq word user_groups_key ≡ true
    → new.values ≡ old.values
    → new.user_groups ≡ bytes_eq value (codes "yes")
    → AddsSetting old new (record { key = word; value = value })
flag-adds old new word value is_flag same flag = λ settings has.
    let setting : Setting = record { key = word; value = value } in
    let word_is = (bytes_eq-Decides word user_groups_key).0 is_flag in
    record {
      counted = ap length same ∙ has.counted;
      values = λ key. rw same (has.values key) ∙ sym (ap (option_and_then (allowed_value key))
          (last-other (key_name key) setting settings
          (ap (λ w. bytes_eq w (key_name key)) word_is ∙ flag-apart key)));
      flag = flag ∙ sym (ap is_yes (last-given user_groups_key setting settings is_flag));
    }

-- a numeric setting adds itself
pub number-adds :
    (old new : Defs) (word value : List ℕ) (key : Key) (held : KeyValue)
    → bytes_eq word user_groups_key ≡ false
    → find_key word ≡ Some key
    → allowed_value key value ≡ Some (value_number held)
    → key_place key < 17
    → new.values ≡ slice_set old.values (key_place key) (Some held)
    → new.user_groups ≡ old.user_groups
    → AddsSetting old new (record { key = word; value = value })
number-adds old new word value key held no_flag found allowed place set flag = λ settings has.
    let setting : Setting = record { key = word; value = value } in
    let low : key_place key < length old.values = omega (arith, place, has.counted) in
    record {
      counted = ap length set ∙ length-set old.values (key_place key) (Some held) ∙ has.counted;
      values = λ other. rw set (elim (eqb_tells (key_place other) (key_place key)) [
        | inl same ↦
            let named : bytes_eq word (key_name key) ≡ true =
            (bytes_eq-Decides word (key_name key)).1 (name-found word key found) in
            let here = get_or-set_same old.values (key_place key) (Some held) None low in
            rw (one-place other key same.1, here) (sym (ap (option_and_then (allowed_value key))
            (last-given (key_name key) setting settings named)
            ∙ allowed))
        | inr other_is ↦
            let away : bytes_eq word (key_name other) ≡ false =
            apart word (Some key) other found
            (λ e. other_is.1 (ap key_place (sym (some-inj e)))) in
            let there = get_or-set_other old.values (key_place key) (key_place other) (Some held)
            None other_is.1 in
            rw there (has.values other
            ∙ sym (ap (option_and_then (allowed_value other))
            (last-other (key_name other) setting settings away)))
      ]);
      flag = flag ∙ has.flag
          ∙ sym (ap is_yes (last-other user_groups_key setting settings no_flag));
    }
