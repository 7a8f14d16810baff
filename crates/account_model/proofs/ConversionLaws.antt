-- Claim: conversion back to the main table keeps the hash that opens each account (`shows`). Way: the table of hashes is
-- empty then, and each field is the hash (`login-alone`, `login-shown`). Before that, what both ways need of lists of
-- records: each of records with different names is found by its name (`all-found`).
use Rattle.std.proofs.Common.{◌≡◌, ◌≢◌, ℕ, suc, Bool, true, false, List, [], ◌∷◌, map, refl, ◌∙◌, ap, inl, inr, arith}
use Rattle.std.specs.Prelude.{Option, Some, None, bytes_eq, flat_map, ⊤, is_some, if◌then◌else◌}
use Rattle.std.specs.List.{AllByRecursion}
use Rattle.std.specs.Option.{option_or}
use Rattle.std.proofs.ByRecursion.{All-from_get_or}
use Rattle.std.proofs.lemmas.Bool.{cases_Bool}
use Rattle.std.proofs.lemmas.Slice.Eq.{bytes_eq-Decides}
use Rattle.account_model.specs.Format.{Format, find_named, has_named}
use Rattle.account_model.specs.Hashes.{elsewhere}
use Rattle.account_model.specs.Conversion.{Accounts, login_hash, hidden, with_shown}
use Rattle.account_model.specs.ConversionLaws.{NamesAreDistinct, Both, AreHidden, KeepsHashes}
use Rattle.account_model.proofs.SameLaws.{bytes-self}

-- ---- Names

-- two names that differ
names-apart : (a b : List ℕ) → a ≢ b → bytes_eq a b ≡ false
names-apart a b apart = elim (cases_Bool (bytes_eq a b)) [
  | inl same ↦ absurd (apart ((bytes_eq-Decides a b).0 same))
  | inr differ ↦ differ
]

-- nothing behind what may be there
pub or-none : {X : Type 0} (o : Option X) → o ≡ option_or o None
or-none None = refl
or-none (Some x) = refl

module _ {R : Type 0} (format : Format R) where
  -- each of the last records is found behind another one, as each of all is
  behind-first :
      (first : R) (rest records : List R)
      → AllByRecursion (λ r. format.name first ≢ format.name r) records
      → AllByRecursion (λ r. find_named format (format.name r) rest ≡ Some r) records
      → AllByRecursion (λ r. find_named format (format.name r) (first ∷ rest) ≡ Some r) records
  behind-first first rest [] apart found = tt
  behind-first first rest (r ∷ records) apart found = (
    rw (names-apart (format.name first) (format.name r) apart.0) found.0,
    behind-first first rest records apart.1 found.1,
  )

  -- each of records with different names is found by its name
  pub all-found :
      (records : List R)
      → NamesAreDistinct format records
      → AllByRecursion (λ r. find_named format (format.name r) records ≡ Some r) records
  all-found [] apart = tt
  all-found (first ∷ rest) apart = (
    rw (bytes-self (format.name first)) refl,
    behind-first first rest rest
        (All-from_get_or (λ r. format.name first ≢ format.name r) rest first
        (λ i inside. apart 0 (suc i) first (omega arith) (omega (arith, inside))))
        (all-found rest (λ i j d before inside.
        apart (suc i) (suc j) d (omega (arith, before)) (omega (arith, inside)))),
  )

  -- whatever they are
  pub any-records : (records : List R) → AllByRecursion (λ r. ⊤) records
  any-records [] = tt
  any-records (r ∷ records) = (tt, any-records records)

  -- none for each
  pub each-none : (records : List R) → flat_map (λ r. if true then [] else r ∷ []) records ≡ []
  each-none [] = refl
  each-none (r ∷ records) = each-none records

-- ---- Records after a change

-- what is so of each record after a change of the field
pub each-with :
    {M X : Type 0} (new old : M → X) (change : M → M) (mains : List M)
    → AllByRecursion (λ m. new (change m) ≡ old m) mains
    → map new (map change mains) ≡ map old mains
each-with new old change [] all = refl
each-with new old change (m ∷ mains) all =
    ap (λ x. x ∷ map new (map change mains)) all.0
    ∙ ap (λ rest. old m ∷ rest) (each-with new old change mains all.1)

-- what holds of all in a list, where it holds of each that another fact holds of
pub all-by :
    {M : Type 0} (P Q : M → Type 0) (mains : List M)
    → ((m : M) → P m → Q m)
    → AllByRecursion P mains
    → AllByRecursion Q mains
all-by P Q [] each all = tt
all-by P Q (m ∷ mains) each all = (each m all.0, all-by P Q mains each all.1)

-- what holds of each
pub all-of :
    {M : Type 0} (Q : M → Type 0) (mains : List M)
    → ((m : M) → Q m)
    → AllByRecursion Q mains
all-of Q [] each = tt
all-of Q (m ∷ mains) each = (each m, all-of Q mains each)

-- what holds of each record after a change holds of all
pub all-with :
    {M : Type 0} (Q : M → Type 0) (change : M → M) (mains : List M)
    → ((m : M) → Q (change m))
    → AllByRecursion Q (map change mains)
all-with Q change [] each = tt
all-with Q change (m ∷ mains) each = (each m, all-with Q change mains each)

-- ---- Back to the main table

module _ {M H : Type 0} (accounts : Accounts M H)
    (field_of : (text : List ℕ) (m : M) → accounts.field (accounts.with_field text m) ≡ text)
    (name_of :
    (text : List ℕ) (m : M)
    → accounts.main.name (accounts.with_field text m) ≡ accounts.main.name m) where
  -- whether a name stands among records doesn't go by the field
  pub has-with :
      (name : List ℕ) (mains : List M)
      → has_named accounts.main name (map (accounts.with_field elsewhere) mains)
      ≡ has_named accounts.main name mains
  has-with name [] = refl
  has-with name (m ∷ mains) =
      rw (name_of elsewhere m) (by (bytes_eq (accounts.main.name m) name) (has-with name mains))
    where
      by :
          (same : Bool)
          → has_named accounts.main name (map (accounts.with_field elsewhere) mains)
          ≡ has_named accounts.main name mains
          → is_some (if same then Some (accounts.with_field elsewhere m)
          else find_named accounts.main name (map (accounts.with_field elsewhere) mains))
          ≡ is_some (if same then Some m else find_named accounts.main name mains)
      by true later = refl
      by false later = later

  -- a login without records of hashes
  login-alone : (m : M) → login_hash accounts [] m ≡ accounts.field m
  login-alone m = elim (cases_Bool (bytes_eq (accounts.field m) elsewhere)) [
    | inl hidden ↦ rw hidden refl
    | inr differ ↦ rw differ refl
  ]

  -- the field becomes the hash, where there is one, and that field was `x`
  login-shown :
      (hashes : List H) (m : M) (o : Option H)
      → find_named accounts.hashes (accounts.main.name m) hashes ≡ o
      → (is_some o ≡ true → accounts.field m ≡ elsewhere)
      → accounts.field (elim o as (λ o. M) [
        | None ↦ m
        | Some h ↦ accounts.with_field (accounts.hash h) m
      ])
      ≡ login_hash accounts hashes m
  login-shown hashes m None none hidden =
      elim (cases_Bool (bytes_eq (accounts.field m) elsewhere)) [
        | inl same ↦ rw (same, none) refl
        | inr differ ↦ rw differ refl
      ]
  login-shown hashes m (Some h) found hidden =
      let same : bytes_eq (accounts.field m) elsewhere ≡ true =
      (bytes_eq-Decides (accounts.field m) elsewhere).1 (hidden refl)
      in rw (same, found) (field_of (accounts.hash h) m)

  -- what gets its hash as field keeps its name
  shown-name :
      (m : M) (o : Option H)
      → accounts.main.name (elim o as (λ o. M) [
        | None ↦ m
        | Some h ↦ accounts.with_field (accounts.hash h) m
      ])
      ≡ accounts.main.name m
  shown-name m None = refl
  shown-name m (Some h) = name_of (accounts.hash h) m

  -- back to the main table
  pub shows :
      (both new : Both M H)
      → AreHidden accounts both
      → new.mains ≡ map (with_shown accounts both.hashes) both.mains
      → new.hashes ≡ []
      → KeepsHashes accounts both new
  shows both new hidden mains hashes = rw (mains, hashes) (record {
    names = each-with accounts.main.name accounts.main.name (with_shown accounts both.hashes)
        both.mains (all-of (λ m. accounts.main.name (with_shown accounts both.hashes m)
        ≡ accounts.main.name m) both.mains
        (λ m. shown-name m (find_named accounts.hashes (accounts.main.name m) both.hashes)));
    hashes = each-with (login_hash accounts []) (login_hash accounts both.hashes)
        (with_shown accounts both.hashes) both.mains
        (all-by (λ m. has_named accounts.hashes (accounts.main.name m) both.hashes ≡ true
        → accounts.field m ≡ elsewhere)
        (λ m. login_hash accounts [] (with_shown accounts both.hashes m)
        ≡ login_hash accounts both.hashes m) both.mains
        (λ m field. login-alone (with_shown accounts both.hashes m)
        ∙ login-shown both.hashes m (find_named accounts.hashes (accounts.main.name m) both.hashes)
        refl field) hidden);
  })
