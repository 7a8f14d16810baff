-- Edits that keep the name and the key of each record, as the UID of a user (`KeepsKeys`). Claim: after them no more
-- records have a key (`keys-keep`), and together they are one function of each record, which leaves one that they don't
-- touch as it is (`composed`).
use Rattle.std.proofs.Common.{◌≡◌, ℕ, Bool, true, false, not, ◌||◌, List, [], ◌∷◌, ◌++◌, map, refl, sym, ◌∙◌, ap, subst}
use Rattle.std.specs.Prelude.{fold, flat_map, ◌==◌, if◌then◌else◌}
use Rattle.std.specs.List.{AllByRecursion}
use Rattle.std.proofs.lemmas.Bool.{or_parts, not-false}
use Rattle.std.proofs.lemmas.List.{map-id}
use Rattle.account_model.specs.Format.{Format}
use Rattle.account_model.specs.Edits.{Edit, each, each_where, touches}
use Rattle.account_model.specs.RecordEdits.{records_edited, TellsSame}
use Rattle.ids_apart.proofs.HolderEdits.{AddsNone, each-adds-none}

-- whether a record has the key
abbrev pub has_key : {X : Type 0} → (X → ℕ) → ℕ → X → Bool
has_key key id x = key x == id

-- the edit makes one record of each, of the same name and key
pub record KeepsKeys {X : Type 0} (format : Format X) (key : X → ℕ) (edit : Edit X) : Type 0 where
  pub act : X → X
  pub is : edit ≡ each act
  pub name : (x : X) → format.name (act x) ≡ format.name x
  pub same : (x : X) → key (act x) ≡ key x

-- one of two records, of which a part is the same
where-same :
    {X Y : Type 0} (part : X → Y) (test : Bool) (x y : X)
    → part y ≡ part x
    → part (if test then y else x) ≡ part x
where-same part true x y same = same
where-same part false x y same = refl

-- the records that pass a test become others of the same name and key
pub where-keys :
    {X : Type 0} (format : Format X) (key : X → ℕ) (test : X → Bool) (f : X → X)
    → ((x : X) → format.name (f x) ≡ format.name x)
    → ((x : X) → key (f x) ≡ key x)
    → KeepsKeys format key (each_where test f)
where-keys format key test f named same = record {
  act = λ x. if test x then f x else x;
  is = refl;
  name = λ x. where-same format.name (test x) x (f x) (named x);
  same = λ x. where-same key (test x) x (f x) (same x);
}

-- records that become others of the same key
pub each-keep :
    {X : Type 0} (format : Format X) (key : X → ℕ) (id : ℕ) (f : X → X)
    → ((x : X) → key (f x) ≡ key x)
    → AddsNone format (has_key key id) (each f)
each-keep format key id f same = each-adds-none format (has_key key id) f
    (λ x e. ap (λ own. own == id) (sym (same x)) ∙ e)

-- the records that pass a test become others of the same key, under whatever name
pub where-keep :
    {X : Type 0} (format : Format X) (key : X → ℕ) (id : ℕ) (test : X → Bool) (f : X → X)
    → ((x : X) → key (f x) ≡ key x)
    → AddsNone format (has_key key id) (each_where test f)
where-keep format key id test f same =
    each-keep format key id (λ x. if test x then f x else x)
    (λ x. where-same key (test x) x (f x) (same x))

-- after an edit that keeps the keys no more records have one
pub keys-keep :
    {X : Type 0} (format : Format X) (key : X → ℕ) (id : ℕ) (edit : Edit X)
    → KeepsKeys format key edit
    → AddsNone format (has_key key id) edit
keys-keep format key id edit keeps = subst (AddsNone format (has_key key id)) (sym keeps.is)
    (each-keep format key id keeps.act keeps.same)

-- and so do several
pub all-keys-keep :
    {X : Type 0} (format : Format X) (key : X → ℕ) (id : ℕ) (edits : List (Edit X))
    → AllByRecursion (KeepsKeys format key) edits
    → AllByRecursion (AddsNone format (has_key key id)) edits
all-keys-keep format key id [] keep = tt
all-keys-keep format key id (edit ∷ edits) keep =
    (keys-keep format key id edit keep.0, all-keys-keep format key id edits keep.1)

-- ---- Together

-- one record of each, by a function
pub flat-each : {X : Type 0} (f : X → X) (xs : List X) → flat_map (λ x. f x ∷ []) xs ≡ map f xs
flat-each f [] = refl
flat-each f (x ∷ xs) = ap (λ rest. f x ∷ rest) (flat-each f xs)

-- a function after another
pub map-after :
    {X : Type 0} (g f : X → X) (xs : List X) → map g (map f xs) ≡ map (λ x. g (f x)) xs
map-after g f [] = refl
map-after g f (x ∷ xs) = ap (λ rest. g (f x) ∷ rest) (map-after g f xs)

-- What such edits make of each record: a record that they don't touch stays, and only later edits may touch it.
pub record Composed {X : Type 0} (format : Format X) (key : X → ℕ) (edits : List (Edit X))
    : Type 0 where
  pub act : X → X
  pub folds : (xs : List X) → fold (records_edited format) xs edits ≡ map act xs
  pub name : (x : X) → format.name (act x) ≡ format.name x
  pub same : (x : X) → key (act x) ≡ key x
  pub untouched : (later : List (Edit X)) (x : X) → touches format (edits ++ later) x ≡ false
      → (act x ≡ x) × (touches format later x ≡ false)

module _ {X : Type 0} (format : Format X) (tells : TellsSame format) (key : X → ℕ) where
  -- a record that becomes another isn't touched where it is the same and isn't touched later
  pub untouched-by :
      (x y : X) (later : Bool)
      → (not (format.same x y) || later) ≡ false
      → (y ≡ x) × (later ≡ false)
  untouched-by x y later e =
      let parts = or_parts (not (format.same x y)) later e
      in (sym ((tells x y).0 (not-false (format.same x y) parts.0)), parts.1)

  module _ (edit : Edit X) (edits : List (Edit X)) (one : KeepsKeys format key edit)
      (rest : Composed format key edits) where
    -- the records after one such edit and others
    more-folds :
        (xs : List X)
        → fold (records_edited format) xs (edit ∷ edits) ≡ map (λ x. rest.act (one.act x)) xs
    more-folds xs =
        ap (λ (by : Edit X). fold (records_edited format) (records_edited format xs by) edits)
        one.is
        ∙ rest.folds (flat_map (λ x. one.act x ∷ []) xs)
        ∙ ap (map rest.act) (flat-each one.act xs)
        ∙ map-after rest.act one.act xs

    -- what they don't touch
    more-untouched :
        (later : List (Edit X)) (x : X)
        → touches format (edit ∷ edits ++ later) x ≡ false
        → (rest.act (one.act x) ≡ x) × (touches format later x ≡ false)
    more-untouched later x e =
        let first = untouched-by x (one.act x) (touches format (edits ++ later) (one.act x))
        (subst (λ (by : Edit X). touches format (by ∷ edits ++ later) x ≡ false) one.is e)
        in let behind = rest.untouched later (one.act x) first.1
        in (behind.0 ∙ first.0, subst (λ y. touches format later y ≡ false) first.0 behind.1)

  -- edits that keep names and keys, together
  pub composed :
      (edits : List (Edit X)) → AllByRecursion (KeepsKeys format key) edits
      → Composed format key edits
  composed [] keep = record {
    act = λ x. x;
    folds = λ xs. sym (map-id xs);
    name = λ x. refl;
    same = λ x. refl;
    untouched = λ later x e. (refl, e);
  }
  composed (edit ∷ edits) keep =
      let one = keep.0
      in let rest = composed edits keep.1
      in record {
        act = λ x. rest.act (one.act x);
        folds = more-folds edit edits one rest;
        name = λ x. rest.name (one.act x) ∙ one.name x;
        same = λ x. rest.same (one.act x) ∙ one.same x;
        untouched = more-untouched edit edits one rest;
      }
