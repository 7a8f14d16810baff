-- Claim: a list of names that is renamed name by name, the new one only once, is as far as it has
-- come with the renamed rest the whole (`next-kept`, `next-first`, `next-again`). Way: each name is
-- the new one after the renaming or stays, and the new one is put where none stands yet.
use Rattle.std.proofs.Common.{◌≡◌, ℕ, ◌+◌, ◌<◌, Bool, true, false, List, [], ◌∷◌, ◌++◌, length, drop, get_or, refl, sym, ◌∙◌, ap, append_assoc}
use Rattle.std.specs.Prelude.{bytes_eq, if◌then◌else◌}
use Rattle.std.proofs.lemmas.List.{drop_more}
use Rattle.std.proofs.lemmas.Bool.{true≢false}
use Rattle.std.proofs.lemmas.Slice.Eq.{bytes_eq-Decides}
use Rattle.account_model.specs.Members.{in_place_of}
use Rattle.acct_tables.specs.Renaming.{once_more, renamed_name}

-- ---- One name

-- a text is itself
itself : (name : List ℕ) → bytes_eq name name ≡ true
itself name = (bytes_eq-Decides name name).1 refl

-- a name that isn't the new one after the renaming stays
stays-by :
    (new name : List ℕ) (is_old : Bool)
    → bytes_eq (if is_old then new else name) new ≡ false
    → (if is_old then new else name) ≡ name
stays-by new name true other = absurd (true≢false (sym (itself new) ∙ other))
stays-by new name false other = refl

-- ---- The first of the names left

-- another name than the new one is kept
once-kept :
    (stands : Bool) (new name : List ℕ) (rest : List (List ℕ))
    → bytes_eq name new ≡ false
    → once_more stands new (name ∷ rest) ≡ name ∷ once_more stands new rest
once-kept true new name rest other = rw other refl
once-kept false new name rest other = rw other refl

-- the first new one is kept
once-first :
    (new name : List ℕ) (rest : List (List ℕ))
    → bytes_eq name new ≡ true
    → once_more false new (name ∷ rest) ≡ name ∷ once_more true new rest
once-first new name rest is = rw is refl

-- a later one goes
once-again :
    (new name : List ℕ) (rest : List (List ℕ))
    → bytes_eq name new ≡ true
    → once_more true new (name ∷ rest) ≡ once_more true new rest
once-again new name rest is = rw is refl

-- ---- The next name

module _
    (old new name : List ℕ) (names : List (List ℕ)) (place : ℕ)
    (inside : place < length names)
    (is : name ≡ get_or names place name) where
  -- the names left, renamed, begin with it
  abbrev left : List (List ℕ)
  left = in_place_of old new (drop (place + 1) names)

  -- the names from the place on, renamed
  names-from : in_place_of old new (drop place names) ≡ renamed_name old new name ∷ left
  names-from =
      ap (in_place_of old new) (drop_more names place name inside
      ∙ ap (λ first. first ∷ drop (place + 1) names) (sym is))

  -- it goes behind the names so far
  next-goes :
      (renamed now total : List (List ℕ)) (stands later : Bool) (put : List ℕ)
      → renamed ++ once_more stands new (in_place_of old new (drop place names)) ≡ total
      → once_more stands new (renamed_name old new name ∷ left) ≡ put ∷ once_more later new left
      → now ≡ renamed ++ put ∷ []
      → now ++ once_more later new left ≡ total
  next-goes renamed now total stands later put so_far goes pushed =
      ap (λ front. front ++ once_more later new left) pushed
      ∙ append_assoc renamed (put ∷ []) (once_more later new left)
      ∙ ap (λ rest. renamed ++ rest) (sym goes)
      ∙ ap (λ rest. renamed ++ once_more stands new rest) (sym names-from)
      ∙ so_far

  -- a name that stays
  pub next-kept :
      (renamed now total : List (List ℕ)) (stands later : Bool)
      → renamed ++ once_more stands new (in_place_of old new (drop place names)) ≡ total
      → bytes_eq (renamed_name old new name) new ≡ false
      → later ≡ stands
      → now ≡ renamed ++ name ∷ []
      → now ++ once_more later new left ≡ total
  next-kept renamed now total stands later so_far other same pushed =
      let named = stays-by new name (bytes_eq name old) other in
      ap (λ test. now ++ once_more test new left) same
      ∙ next-goes renamed now total stands stands name so_far
      (once-kept stands new (renamed_name old new name) left other
      ∙ ap (λ first. first ∷ once_more stands new left) named) pushed

  -- the first that is the new name
  pub next-first :
      (renamed now total : List (List ℕ)) (stands later : Bool)
      → renamed ++ once_more stands new (in_place_of old new (drop place names)) ≡ total
      → bytes_eq (renamed_name old new name) new ≡ true
      → stands ≡ false
      → later ≡ true
      → now ≡ renamed ++ new ∷ []
      → now ++ once_more later new left ≡ total
  next-first renamed now total stands later so_far is_new none one pushed =
      let named = (bytes_eq-Decides (renamed_name old new name) new).0 is_new in
      ap (λ test. now ++ once_more test new left) one
      ∙ next-goes renamed now total false true new
      (ap (λ test. renamed ++ once_more test new (in_place_of old new (drop place names)))
      (sym none) ∙ so_far)
      (once-first new (renamed_name old new name) left is_new
      ∙ ap (λ first. first ∷ once_more true new left) named) pushed

  -- one more that is the new name
  pub next-again :
      (renamed now total : List (List ℕ)) (stands later : Bool)
      → renamed ++ once_more stands new (in_place_of old new (drop place names)) ≡ total
      → bytes_eq (renamed_name old new name) new ≡ true
      → stands ≡ true
      → later ≡ stands
      → now ≡ renamed
      → now ++ once_more later new left ≡ total
  next-again renamed now total stands later so_far is_new one same kept =
      ap (λ test. now ++ once_more test new left) (same ∙ one)
      ∙ ap (λ front. front ++ once_more true new left) kept
      ∙ ap (λ rest. renamed ++ rest) (sym (once-again new (renamed_name old new name) left is_new))
      ∙ ap (λ rest. renamed ++ once_more true new rest) (sym names-from)
      ∙ ap (λ test. renamed ++ once_more test new (in_place_of old new (drop place names)))
      (sym one)
      ∙ so_far
