-- Claim: the values of the options from a place on begin with that of the option there
-- (`values-from`), so the last is found in one walk over the options (`last-from`), and so is the
-- first that is bad (`find-passed`).
use Rattle.std.proofs.Common.{◌≡◌, ℕ, ◌+◌, ◌<◌, ◌==◌, List, ◌∷◌, length, drop, get_or, refl, sym, ap, ◌∙◌, inl, inr}
use Rattle.std.specs.Prelude.{Option, Some, None, not, find, filter, filter_map, option_and_then}
use Rattle.std.specs.Option.{option_or}
use Rattle.std.specs.List.{cons_option}
use Rattle.std.proofs.lemmas.Bool.{cases_Bool}
use Rattle.std.proofs.lemmas.List.{drop_more}
use Rattle.account_model.specs.declared.given.Given.{Given}
use Rattle.account_model.specs.Text.{last_of}
use Rattle.option_words.proofs.ReadingLemmas.{last_of-cons_option}
use Rattle.command_values.specs.Forms.{form_refusal, test_of}
use Rattle.command_values.specs.Options.{value_at}
use Rattle.command_values.specs.declared.form.Form.{Form}

-- the values of a letter among options
abbrev pub values_in : ℕ → List Given → List (List ℕ)
values_in letter options =
    filter_map (λ given. given.value) (filter (λ given. given.letter == letter) options)

-- the value of an option stands before those of the options behind it
pub values-first :
    (letter : ℕ) (option : Given) (options : List Given)
    → values_in letter (option ∷ options)
    ≡ cons_option (value_at letter option) (values_in letter options)
values-first letter option options = elim (cases_Bool (option.letter == letter)) [
  | inl same ↦ rw same refl
  | inr other ↦ rw other refl
]

-- the values from a place on, where an option stands
pub values-from :
    (letter : ℕ) (options : List Given) (place : ℕ) (option : Given)
    → place < length options
    → option ≡ get_or options place option
    → values_in letter (drop place options)
    ≡ cons_option (value_at letter option) (values_in letter (drop (place + 1) options))
values-from letter options place option inside is =
    let from : drop place options ≡ option ∷ drop (place + 1) options =
    drop_more options place option inside ∙ ap (λ o. o ∷ drop (place + 1) options) (sym is) in
    ap (values_in letter) from ∙ values-first letter option (drop (place + 1) options)

-- the last value of the options from a place on, where an option stands
pub last-from :
    (letter : ℕ) (options : List Given) (place : ℕ) (option : Given) (before : Option (List ℕ))
    → place < length options
    → option ≡ get_or options place option
    → option_or (last_of (values_in letter (drop place options))) before
    ≡ option_or (last_of (values_in letter (drop (place + 1) options)))
    (option_or (value_at letter option) before)
last-from letter options place option before inside is =
    let behind = values_in letter (drop (place + 1) options) in
    ap (λ values. option_or (last_of values) before)
    (values-from letter options place option inside is)
    ∙ last_of-cons_option (value_at letter option) behind before

-- a value that has no refusal is passed
pub find-passed :
    (letter : ℕ) (form : Form) (value : Option (List ℕ)) (rest : List (List ℕ))
    → option_and_then (form_refusal letter form) value ≡ None
    → find (λ v. not (test_of form v)) (cons_option value rest)
    ≡ find (λ v. not (test_of form v)) rest
find-passed letter form None rest none = refl
find-passed letter form (Some value) rest none = elim (cases_Bool (test_of form value)) [
  | inl fits ↦ rw fits refl
  | inr other ↦ absurd (cc (rw other at none))
]
