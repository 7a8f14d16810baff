-- Claim: a set with one more text has it, and of the others those that it had (`set-takes`); so it
-- has the names of a list once each was added (`listed-more`). Its keys are these names
-- (`keys-listed`). Way: by whether a text is the new one.
use Rattle.std.proofs.Common.{◌≡◌, ◌∙◌, ℕ, Bool, true, false, List, [], ◌∷◌, ◌++◌, map, refl, sym, ap, ap₂}
use Rattle.std.specs.Prelude.{◌||◌, bytes_eq}
use Rattle.std.specs.Cmp.Lexicographic.{bytes_decides, nat_list_eq_equiv}
use Rattle.std.specs.HashSet.{HashSet}
use Rattle.std.specs.HashSet as bag
use Rattle.std.specs.List.{list_any}
use Rattle.std.specs.Set.{KeepsOthers}
use Rattle.std.proofs.lemmas.List.Folds.{list_any-append}
use Rattle.account_model.specs.Text.{is_listed}
use Rattle.line_edits.specs.NameSets.{has_text}

-- a text that is the first isn't the other
apart :
    (name other key : List ℕ)
    → bytes_eq name other ≡ false
    → bytes_eq name key ≡ true
    → bytes_eq other key ≡ false
apart name other key differs is =
    nat_list_eq_equiv.symm other key ∙ sym (nat_list_eq_equiv.congr name key other is) ∙ differs

-- by whether it is the new one
takes-by :
    (same new old : Bool)
    → (same ≡ true → new ≡ true)
    → (same ≡ false → new ≡ old)
    → new ≡ (same || old)
takes-by true new old here there = here refl
takes-by false new old here there = there refl

module _ {K S : Type 0} (text : K → List ℕ) where
  -- a set with one more text
  pub set-takes :
      (name : List ℕ) (old new : HashSet K S)
      → bag.UpdatesBy (λ x y. bytes_eq (text x) (text y)) (λ key. bytes_eq name (text key)) old new
      true
      → (other : List ℕ)
      → has_text new text other ≡ (bytes_eq name other || has_text old text other)
  unfolding KeepsOthers
  set-takes name old new updates other =
      takes-by (bytes_eq name other) (has_text new text other) (has_text old text other)
      (λ same. ap (has_text new text) (sym ((bytes_decides name other).0 same)) ∙ updates.1)
      (λ differs. updates.3 (λ key. bytes_eq other (text key))
      (λ x y. nat_list_eq_equiv.congr other (text x) (text y))
      (λ key. apart name other (text key) differs))

-- the last of two tests in front
last-or : (last before : Bool) → (last || before) ≡ (before || (last || false))
last-or true true = refl
last-or true false = refl
last-or false true = refl
last-or false false = refl

-- a list with one more name
pub listed-more :
    (name new : List ℕ) (names : List (List ℕ)) (before : Bool)
    → before ≡ is_listed name names
    → (bytes_eq new name || before) ≡ is_listed name (names ++ new ∷ [])
listed-more name new names before is =
    ap₂ (λ last before. last || before) (nat_list_eq_equiv.symm new name) is
    ∙ last-or (bytes_eq name new) (is_listed name names)
    ∙ sym (list_any-append (bytes_eq name) names (new ∷ []))

-- ---- The keys

module _ {K : Type 0} (text : K → List ℕ) where
  -- a key has a text where one of the texts of all is that
  pub keys-listed :
      (name : List ℕ) (keys : List K)
      → is_listed name (map text keys) ≡ list_any (λ key. bytes_eq name (text key)) keys
  keys-listed name [] = refl
  keys-listed name (key ∷ keys) =
      ap (λ others. bytes_eq name (text key) || others) (keys-listed name keys)
