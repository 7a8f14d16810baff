-- Claim: where all records of a name get one key, no more records have a key than before, but one that had none
-- (`set-meets`). The key is nobody's, or that of the first record of the name already; and a name with several records isn't
-- touched, as its command is refused.
-- Way: a record of the name has the key already, or the name has one record (`same-or-single`). In the first case all keys
-- stay; in the second one record gets it where none has it (`count-set`). Any other key can only be lost (`count-other`).
use Rattle.std.proofs.Common.{◌≡◌, ℕ, ◌≤◌, ◌<◌, max, Bool, true, false, ◌&&◌, List, [], ◌∷◌, ◌++◌, map, refl, sym, ◌∙◌, ap, subst, arith, inl, inr}
use Rattle.std.specs.Prelude.{◌⊎◌, Some, None, cond, fold, find, flat_map, count_by, nat_le, bytes_eq, ◌==◌, if◌then◌else◌}
use Rattle.std.specs.List.{AllByRecursion}
use Rattle.std.proofs.lemmas.Bool.{and_cases, eqb-true, leb-false, true≢false}
use Rattle.std.proofs.lemmas.List.Sums.{fold-append}
use Rattle.std.proofs.lemmas.Slice.Eq.{bytes_eq-Decides}
use Rattle.acct_text.proofs.NumberLaws.{some-inj}
use Rattle.account_model.specs.Format.{Format, is_named, count_named}
use Rattle.account_model.specs.Edits.{Edit, each_where, touches, is_multiple, first_multiple}
use Rattle.account_model.specs.RecordEdits.{records_edited, TellsSame}
use Rattle.ids_apart.proofs.Counts.{AtMostOne, at-most-one, count-either, count-le, count-map}
use Rattle.ids_apart.proofs.Pairs.{all-of, all-then}
use Rattle.ids_apart.proofs.HolderEdits.{AddsNone, EditsMeetNoMore, behind-meets}
use Rattle.ids_apart.proofs.Refusals.{map-none}
use Rattle.ids_apart.proofs.Keys.{KeepsKeys, has_key, composed, untouched-by, flat-each, map-after}

-- ---- The new keys

-- nobody has the key, or the first record that passes has it
abbrev pub IsFreeKey : {X : Type 0} → (X → ℕ) → (X → Bool) → ℕ → List X → Type 0
IsFreeKey {X} key test new xs = (count_by (has_key key new) xs ≡ 0)
    ⊎ ((own : X) × (find test xs ≡ Some own) × (key own ≡ new))

-- the keys where the records that pass get a new one
abbrev new_key : {X : Type 0} → (X → ℕ) → (X → Bool) → ℕ → X → ℕ
new_key key test new x = if test x then new else key x

-- a key that isn't the new one was there
other-by :
    (new one id : ℕ) (passes : Bool)
    → (new == id) ≡ false
    → ((if passes then new else one) == id) ≡ true
    → (one == id) ≡ true
other-by new one id true differs e = absurd (true≢false (sym e ∙ differs))
other-by new one id false differs e = e

-- the new key is had by one that passes, or was there
new-by :
    (new one : ℕ) (passes : Bool)
    → ((if passes then new else one) == new) ≡ true
    → (passes ≡ true) ⊎ ((one == new) ≡ true)
new-by new one true e = inl refl
new-by new one false e = inr e

-- the new key was there, where one that passes had it
had-by :
    (new one : ℕ) (passes : Bool)
    → (passes ≡ true → one ≡ new)
    → ((if passes then new else one) == new) ≡ true
    → (one == new) ≡ true
had-by new one true has e = ap (λ key. key == new) (has refl) ∙ e
had-by new one false has e = e

module _ {X : Type 0} (key : X → ℕ) (test : X → Bool) (new : ℕ) where
  -- none of those that don't pass is wrong
  vain : (xs : List X) → AllByRecursion (λ y. test y ≡ false) xs
      → AllByRecursion (λ y. test y ≡ true → key y ≡ new) xs
  vain [] none = tt
  vain (x ∷ xs) none = ((λ passes. absurd (true≢false (sym passes ∙ none.0))), vain xs none.1)

  -- the first that passes, or one behind it
  found-by :
      (x : X) (xs : List X) (own : X) (passes : Bool)
      → test x ≡ passes
      → cond passes (Some x) (find test xs) ≡ Some own
      → key own ≡ new
      → (test x ≡ true → AllByRecursion (λ y. test y ≡ false) xs)
      → (find test xs ≡ Some own → AllByRecursion (λ y. test y ≡ true → key y ≡ new) xs)
      → AllByRecursion (λ y. test y ≡ true → key y ≡ new) (x ∷ xs)
  found-by x xs own true is found has alone later =
      ((λ passes. ap key (some-inj found) ∙ has), vain xs (alone is))
  found-by x xs own false is found has alone later =
      ((λ passes. absurd (true≢false (sym passes ∙ is))), later found)

  -- where one record passes and has the key, all that pass have it
  found-has :
      (xs : List X) (own : X)
      → AtMostOne test xs
      → find test xs ≡ Some own
      → key own ≡ new
      → AllByRecursion (λ y. test y ≡ true → key y ≡ new) xs
  found-has [] own single found has = tt
  found-has (x ∷ xs) own single found has =
      found-by x xs own (test x) refl found has single.0
      (λ later. found-has xs own single.1 later has)

  -- where those that pass have the key, no more get it
  count-same :
      (xs : List X)
      → AllByRecursion (λ y. test y ≡ true → key y ≡ new) xs
      → count_by (λ x. new_key key test new x == new) xs ≤ count_by (has_key key new) xs
  count-same xs all = count-le (λ x. new_key key test new x == new) (has_key key new) xs
      (all-then (λ y. test y ≡ true → key y ≡ new)
      (λ x. (new_key key test new x == new) ≡ true → has_key key new x ≡ true) xs
      (λ x has. had-by new (key x) (test x) has) all)

  -- how many have the new key: no more than had it, or one
  count-set :
      (xs : List X)
      → IsFreeKey key test new xs
      → AllByRecursion (λ y. test y ≡ true → key y ≡ new) xs ⊎ (count_by test xs ≤ 1)
      → count_by (λ x. new_key key test new x == new) xs ≤ max 1 (count_by (has_key key new) xs)
  count-set xs free (inl same) = let few = count-same xs same in omega (arith, few)
  count-set xs (inl fresh) (inr single) =
      let few = count-either test (has_key key new) (λ x. new_key key test new x == new) xs
      (λ x. new-by new (key x) (test x))
      in omega (arith, few, fresh, single)
  count-set xs (inr own) (inr single) =
      let few = count-same xs (found-has xs own.0 (at-most-one test xs single) own.1 own.2)
      in omega (arith, few)

  -- another key is had by no more
  count-other :
      (id : ℕ) (xs : List X)
      → (new == id) ≡ false
      → count_by (λ x. new_key key test new x == id) xs ≤ count_by (has_key key id) xs
  count-other id xs differs = count-le (λ x. new_key key test new x == id) (has_key key id) xs
      (all-of (λ x. (new_key key test new x == id) ≡ true → has_key key id x ≡ true) xs
      (λ x. other-by new (key x) id (test x) differs))

  -- so it is with each key, where the new one is free
  count-key :
      (id : ℕ) (xs : List X) (is : Bool)
      → (new == id) ≡ is
      → (new ≡ id → IsFreeKey key test new xs)
      → AllByRecursion (λ y. test y ≡ true → key y ≡ new) xs ⊎ (count_by test xs ≤ 1)
      → count_by (λ x. new_key key test new x == id) xs ≤ max 1 (count_by (has_key key id) xs)
  count-key id xs false is free single =
      let few = count-other id xs is in omega (arith, few)
  count-key id xs true is free single =
      let same = eqb-true new id is
      in subst (λ n. count_by (λ x. new_key key test new x == n) xs
      ≤ max 1 (count_by (has_key key n) xs)) same (count-set xs (free same) single)

  -- one more record that passes has the key, or another thing holds
  same-or-by :
      (P : Type 0) (x : X) (xs : List X) (passes : Bool)
      → test x ≡ passes
      → (test x ≡ true → (key x ≡ new) ⊎ P)
      → AllByRecursion (λ y. test y ≡ true → key y ≡ new) xs
      → AllByRecursion (λ y. test y ≡ true → key y ≡ new) (x ∷ xs) ⊎ P
  same-or-by P x xs true is one rest =
      elim (one is) [ inl has ↦ inl ((λ passes. has), rest) | inr holds ↦ inr holds ]
  same-or-by P x xs false is one rest =
      inl ((λ passes. absurd (true≢false (sym passes ∙ is))), rest)

  -- all that pass have the key, or it holds
  same-or :
      (P : Type 0) (xs : List X)
      → AllByRecursion (λ y. test y ≡ true → (key y ≡ new) ⊎ P) xs
      → AllByRecursion (λ y. test y ≡ true → key y ≡ new) xs ⊎ P
  same-or P [] all = inl tt
  same-or P (x ∷ xs) all = elim (same-or P xs all.1) [
    | inl rest ↦ same-or-by P x xs (test x) refl all.0 rest
    | inr holds ↦ inr holds
  ]

-- ---- The edits

-- no record is found, so none passes
none-found-by :
    {X : Type 0} (test : X → Bool) (x : X) (xs : List X) (passes : Bool)
    → test x ≡ passes
    → cond passes (Some x) (find test xs) ≡ None
    → (test x ≡ false) × (find test xs ≡ None)
none-found-by test x xs true is none = cc
none-found-by test x xs false is none = (is, none)

none-found :
    {X : Type 0} (test : X → Bool) (xs : List X)
    → find test xs ≡ None
    → AllByRecursion (λ x. test x ≡ false) xs
none-found test [] none = tt
none-found test (x ∷ xs) none =
    let parts = none-found-by test x xs (test x) refl none
    in (parts.0, none-found test xs parts.1)

module _ {X : Type 0} (format : Format X) (tells : TellsSame format) (key : X → ℕ)
    (name : List ℕ) (new : ℕ) (set : X → X) (sets : (x : X) → key (set x) ≡ new)
    (before after : List (Edit X)) (keep : AllByRecursion (KeepsKeys format key) before) where
  -- the edits: those that keep names and keys, then the new key, then others
  abbrev edits : List (Edit X)
  edits = before ++ each_where (is_named format name) set ∷ after

  -- a record, by whether it is set
  abbrev set_where : X → X
  set_where x = if is_named format name x then set x else x

  -- the key of one that may be set
  set-key : (x : X) (named : Bool) → key (if named then set x else x)
      ≡ (if named then new else key x)
  set-key x true = sets x
  set-key x false = refl

  -- a record of the name that isn't touched has the key
  untouched-has :
      (x : X)
      → is_named format name x ≡ true
      → touches format edits x ≡ false
      → key x ≡ new
  untouched-has x passes e =
      let behind = (composed format tells key before keep).untouched
      (each_where (is_named format name) set ∷ after) x e
      in let here = untouched-by format tells key x (set_where x)
      (touches format after (set_where x)) behind.1
      in ap key (sym here.0) ∙ set-key x (is_named format name x)
      ∙ ap (λ named. if named then new else key x) passes

  -- so it has the key, or the name has one record
  same-or-single :
      (whole : List X) (x : X)
      → (touches format edits x && is_multiple format whole x) ≡ false
      → is_named format name x ≡ true
      → (key x ≡ new) ⊎ (nat_le 2 (count_named format name whole) ≡ false)
  same-or-single whole x e passes =
      elim (and_cases (touches format edits x) (is_multiple format whole x) e) [
        | inl untouched ↦ inl (untouched-has x passes untouched)
        | inr single ↦ inr (subst (λ own. nat_le 2 (count_named format own whole) ≡ false)
            ((bytes_eq-Decides (format.name x) name).0 passes) single)
      ]

  -- all records of the name have the key, or there is at most one
  single-by :
      (whole : List X)
      → AllByRecursion (λ y. is_named format name y ≡ true → key y ≡ new) whole
      ⊎ (nat_le 2 (count_named format name whole) ≡ false)
      → AllByRecursion (λ y. is_named format name y ≡ true → key y ≡ new) whole
      ⊎ (count_by (is_named format name) whole ≤ 1)
  single-by whole (inl same) = inl same
  single-by whole (inr few) =
      let small : count_by (is_named format name) whole < 2 =
      leb-false 2 (count_named format name whole) few
      in inr (omega (arith, small))

  -- so it is where no record of a multiple name is touched
  same-or-one :
      (whole : List X)
      → first_multiple format edits whole ≡ None
      → AllByRecursion (λ y. is_named format name y ≡ true → key y ≡ new) whole
      ⊎ (count_by (is_named format name) whole ≤ 1)
  same-or-one whole none =
      let tests = none-found (λ r. touches format edits r && is_multiple format whole r) whole
      (map-none format.name
      (find (λ r. touches format edits r && is_multiple format whole r) whole) none)
      in single-by whole
      (same-or key (is_named format name) new
      (nat_le 2 (count_named format name whole) ≡ false) whole
      (all-then (λ x. (touches format edits x && is_multiple format whole x) ≡ false)
      (λ x. is_named format name x ≡ true
      → (key x ≡ new) ⊎ (nat_le 2 (count_named format name whole) ≡ false))
      whole (same-or-single whole) tests))

  -- what the first edits and the new key make of a record
  abbrev becomes : X → X
  becomes x = set_where ((composed format tells key before keep).act x)

  -- its key
  becomes-key : (x : X) → key (becomes x) ≡ new_key key (is_named format name) new x
  becomes-key x =
      let first = composed format tells key before keep
      in set-key (first.act x) (is_named format name (first.act x))
      ∙ ap (λ own. if bytes_eq own name then new else key (first.act x)) (first.name x)
      ∙ ap (λ old. if is_named format name x then new else old) (first.same x)

  -- the records after the first edits and the new key
  becomes-all :
      (whole : List X)
      → records_edited format (fold (records_edited format) whole before)
      (each_where (is_named format name) set)
      ≡ map becomes whole
  becomes-all whole =
      let first = composed format tells key before keep
      in ap (λ (xs : List X). flat_map (λ x. set_where x ∷ []) xs) (first.folds whole)
      ∙ flat-each set_where (map first.act whole)
      ∙ map-after set_where first.act whole

  -- how many have a key then
  becomes-count :
      (id : ℕ) (whole : List X)
      → count_by (has_key key id) (map becomes whole)
      ≤ count_by (λ x. new_key key (is_named format name) new x == id) whole
  becomes-count id whole =
      subst (λ n. n ≤ count_by (λ x. new_key key (is_named format name) new x == id) whole)
      (sym (count-map (has_key key id) becomes whole))
      (count-le (λ x. has_key key id (becomes x))
      (λ x. new_key key (is_named format name) new x == id) whole
      (all-of (λ x. has_key key id (becomes x) ≡ true
      → (new_key key (is_named format name) new x == id) ≡ true) whole
      (λ x has. ap (λ own. own == id) (sym (becomes-key x)) ∙ has)))

  -- the claim
  pub set-meets :
      (id : ℕ) (whole : List X)
      → (new ≡ id → IsFreeKey key (is_named format name) new whole)
      → first_multiple format edits whole ≡ None
      → AllByRecursion (AddsNone format (has_key key id)) after
      → EditsMeetNoMore format (has_key key id) whole edits
  set-meets id whole free none later =
      let few = becomes-count id whole
      in let kept = count-key key (is_named format name) new id whole (new == id) refl free
      (same-or-one whole none)
      in subst (λ (xs : List X).
      count_by (has_key key id) xs ≤ max 1 (count_by (has_key key id) whole))
      (sym (fold-append (records_edited format) whole before
      (each_where (is_named format name) set ∷ after)))
      (behind-meets format (has_key key id) after whole
      (records_edited format (fold (records_edited format) whole before)
      (each_where (is_named format name) set)) later
      (subst (λ (xs : List X).
      count_by (has_key key id) xs ≤ max 1 (count_by (has_key key id) whole))
      (sym (becomes-all whole)) (omega (arith, few, kept))))
