-- A list in which a name was renamed: the old name is gone, the new one stands, and all others stay.
use Rattle.std.proofs.Common.{◌≡◌, ◌≢◌, ℕ, true, false, ◌||◌, List, [], ◌∷◌, ◌++◌, map, refl, ap, sym, subst, ◌∙◌, inl, inr}
use Rattle.std.specs.Prelude.{bytes_eq, if◌then◌else◌}
use Rattle.std.proofs.lemmas.Bool.{cases_Bool, false_from_ne_true}
use Rattle.std.proofs.Math.Bool.{or-true}
use Rattle.std.proofs.lemmas.Slice.Eq.{bytes_eq-Decides}
use Rattle.account_model.specs.Text.{is_listed}
use Rattle.account_model.specs.Members.{without_name, name_once, renamed_in}

-- tests of two names
pub apart : (a b : List ℕ) → a ≢ b → bytes_eq a b ≡ false
apart a b other = false_from_ne_true (bytes_eq a b) (λ same. other ((bytes_eq-Decides a b).0 same))

-- two names compare the same the other way round
pub flipped : (a b : List ℕ) → bytes_eq a b ≡ false → bytes_eq b a ≡ false
flipped a b other = false_from_ne_true (bytes_eq b a) (λ same.
    let e : b ≡ a = (bytes_eq-Decides b a).0 same in
    let yes_ab : bytes_eq a b ≡ true = (bytes_eq-Decides a b).1 (sym e) in cc (yes_ab, other))

-- the others of a list without a name, and with it once
pub others_without :
    (name other : List ℕ)
    → other ≢ name
    → (names : List (List ℕ))
    → is_listed other (without_name name names) ≡ is_listed other names
others_without name other differ [] = refl
others_without name other differ (n ∷ names) = elim (cases_Bool (bytes_eq n name)) [
  | inl same ↦
      let e : n ≡ name = (bytes_eq-Decides n name).0 same in
      let not_here : bytes_eq other n ≡ false =
      subst (λ m. bytes_eq other m ≡ false) (sym e) (apart other name differ) in
      rw (same, not_here) (others_without name other differ names)
  | inr kept ↦ rw kept (ap (λ b. bytes_eq other n || b) (others_without name other differ names))
]

-- other names stay where one stands once
pub others_once :
    (name other : List ℕ)
    → other ≢ name
    → (names : List (List ℕ))
    → is_listed other (name_once name names) ≡ is_listed other names
others_once name other differ [] = refl
others_once name other differ (n ∷ names) = elim (cases_Bool (bytes_eq n name)) [
  | inl same ↦ rw same (ap (λ b. bytes_eq other n || b) (others_without name other differ names))
  | inr kept ↦ rw kept (ap (λ b. bytes_eq other n || b) (others_once name other differ names))
]

-- the new name in the place of the old one
abbrev pub replaced : List ℕ → List ℕ → List (List ℕ) → List (List ℕ)
replaced old new names = map (λ name. if bytes_eq name old then new else name) names

-- other names stay where one takes the place of another
pub others_replaced :
    (old new other : List ℕ)
    → other ≢ old
    → other ≢ new
    → (names : List (List ℕ))
    → is_listed other (replaced old new names) ≡ is_listed other names
others_replaced old new other not_old not_new [] = refl
others_replaced old new other not_old not_new (n ∷ names) = elim (cases_Bool (bytes_eq n old)) [
  | inl same ↦
      let e : n ≡ old = (bytes_eq-Decides n old).0 same in
      let not_here : bytes_eq other n ≡ false =
      subst (λ m. bytes_eq other m ≡ false) (sym e) (apart other old not_old) in
      rw (same, not_here, apart other new not_new)
      (others_replaced old new other not_old not_new names)
  | inr kept ↦ rw kept (ap (λ b. bytes_eq other n || b)
      (others_replaced old new other not_old not_new names))
]

-- the old name is gone where the new one takes its place
pub old_replaced :
    (old new : List ℕ)
    → old ≢ new
    → (names : List (List ℕ))
    → is_listed old (replaced old new names) ≡ false
old_replaced old new differ [] = refl
old_replaced old new differ (n ∷ names) = elim (cases_Bool (bytes_eq n old)) [
  | inl same ↦ rw (same, apart old new differ) (old_replaced old new differ names)
  | inr kept ↦ rw (kept, flipped n old kept) (old_replaced old new differ names)
]

-- a list with the old name is renamed
pub renaming_of :
    (old new : List ℕ) (names : List (List ℕ))
    → old ≢ new
    → is_listed old names ≡ true
    → renamed_in old new names ≡ name_once new (replaced old new names)
renaming_of old new names differ listed = rw (listed, apart old new differ) refl

-- the old name is gone
pub old_is_gone :
    (old new : List ℕ) (names : List (List ℕ))
    → old ≢ new
    → is_listed old names ≡ true
    → is_listed old (renamed_in old new names) ≡ false
old_is_gone old new names differ listed =
    ap (is_listed old) (renaming_of old new names differ listed)
    ∙ others_once new old differ (replaced old new names) ∙ old_replaced old new differ names

-- the others stay
pub others_stay :
    (old new other : List ℕ) (names : List (List ℕ))
    → old ≢ new
    → is_listed old names ≡ true
    → other ≢ old
    → other ≢ new
    → is_listed other (renamed_in old new names) ≡ is_listed other names
others_stay old new other names differ listed not_old not_new =
    ap (is_listed other) (renaming_of old new names differ listed)
    ∙ others_once new other not_new (replaced old new names)
    ∙ others_replaced old new other not_old not_new names

-- a list without the old name stays
pub unlisted_stays :
    (old new : List ℕ) (names : List (List ℕ))
    → is_listed old names ≡ false
    → renamed_in old new names ≡ names
unlisted_stays old new names unlisted = rw unlisted refl

-- the new name stands once
pub none_without :
    (name : List ℕ) (names : List (List ℕ))
    → is_listed name (without_name name names) ≡ false
none_without name [] = refl
none_without name (n ∷ names) = elim (cases_Bool (bytes_eq n name)) [
  | inl same ↦ rw same (none_without name names)
  | inr kept ↦ rw (kept, flipped n name kept) (none_without name names)
]

-- the new name stands where the old one stood
pub new_replaced :
    (old new : List ℕ) (names : List (List ℕ))
    → is_listed old names ≡ true
    → is_listed new (replaced old new names) ≡ true
new_replaced old new [] listed = cc
new_replaced old new (n ∷ names) listed = elim (cases_Bool (bytes_eq n old)) [
  | inl same ↦ let itself : bytes_eq new new ≡ true =
      (bytes_eq-Decides new new).1 refl in rw (same, itself) refl
  | inr kept ↦
      let rest : is_listed old names ≡ true = rw (flipped n old kept) at listed in
      rw kept (ap (λ b. bytes_eq new n || b) (new_replaced old new names rest)
      ∙ or-true (bytes_eq new n))
]

-- a list with the name once: some others, the name, and some others
pub once_split :
    (name : List ℕ) (names : List (List ℕ))
    → is_listed name names ≡ true
    → (before : List (List ℕ)) × (after : List (List ℕ))
    × (name_once name names ≡ before ++ name ∷ after) × (is_listed name before ≡ false)
    × (is_listed name after ≡ false)
once_split name [] listed = absurd (cc)
once_split name (n ∷ names) listed = elim (cases_Bool (bytes_eq n name)) [
  | inl same ↦
      let e : n ≡ name = (bytes_eq-Decides n name).0 same in (
        [],
        without_name name names,
        rw same (ap (λ m. m ∷ without_name name names) e),
        refl,
        none_without name names,
      )
  | inr kept ↦
      let other : bytes_eq name n ≡ false = flipped n name kept in
      let rest : is_listed name names ≡ true = rw other at listed in
      let found = once_split name names rest in
      (n ∷ found.0, found.1, rw kept (ap (λ ns. n ∷ ns) found.2), rw other found.3, found.4)
]

-- the new name stands once
pub new_stands_once :
    (old new : List ℕ) (names : List (List ℕ))
    → old ≢ new
    → is_listed old names ≡ true
    → (before : List (List ℕ)) × (after : List (List ℕ))
    × (renamed_in old new names ≡ before ++ new ∷ after) × (is_listed new before ≡ false)
    × (is_listed new after ≡ false)
new_stands_once old new names differ listed =
    let found = once_split new (replaced old new names) (new_replaced old new names listed) in
    (found.0, found.1, renaming_of old new names differ listed ∙ found.2, found.3, found.4)
