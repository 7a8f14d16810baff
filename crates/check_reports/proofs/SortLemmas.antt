-- Claim: a stable sort by a key gives the records in the order of `sorted_by_key` (`sorted-once`).
-- Way: what is sorted by insertion ascends (`sorting-rises`) and keeps the order of each key
-- (`sorting-keeps`), and of lists that do both there is one (`one-order`).
use Rattle.std.proofs.Common.{◌≡◌, ◌∙◌, ℕ, ◌<◌, ◌≤◌, ◌==◌, Bool, true, false, List, [], ◌∷◌, inl, inr, refl, sym, ap, arith}
use Rattle.std.specs.Prelude.{⊤, cond, filter, nat_le, nat_lt, if◌then◌else◌}
use Rattle.std.specs.List.{AllByRecursion}
use Rattle.std.proofs.lemmas.Bool.{cases_Bool, eq-eqb, eqb-true, leb-false, leb-true, ltb-false, ltb-true, ne_eqb}
use Rattle.account_model.specs.Edits.{Keyed, insert_by_key, sorted_by_key}

-- whether a record has this key
abbrev pub has_key : ℕ → Keyed → Bool
has_key key keyed = keyed.key == key

-- the keys ascend: none is less than one before it
abbrev pub Rises : List Keyed → Type 0
Rises [] = ⊤
Rises (first ∷ rest) = AllByRecursion (λ later. first.key ≤ later.key) rest × Rises rest

-- the records of each key stand in the same order in both
abbrev pub AreAlike : List Keyed → List Keyed → Type 0
AreAlike first second = (key : ℕ) → filter (has_key key) first ≡ filter (has_key key) second

-- ---- Sorting by insertion

-- what holds of the new one and of all others holds of all with it, by where it goes
all-by :
    (P : Keyed → Type 0) (new old : Keyed) (rest : List Keyed) (before : Bool)
    → P new → P old → AllByRecursion P rest → AllByRecursion P (insert_by_key new rest)
    → AllByRecursion P (if before then new ∷ old ∷ rest else old ∷ insert_by_key new rest)
all-by P new old rest true of_new of_old of_rest later = (of_new, (of_old, of_rest))
all-by P new old rest false of_new of_old of_rest later = (of_old, later)

-- what holds of the new one and of all others holds of all with it
pub all-inserted :
    (P : Keyed → Type 0) (new : Keyed) (others : List Keyed)
    → P new → AllByRecursion P others → AllByRecursion P (insert_by_key new others)
all-inserted P new [] of_new of_others = (of_new, tt)
all-inserted P new (old ∷ rest) of_new of_others =
    all-by P new old rest (nat_le new.key old.key) of_new of_others.0 of_others.1
    (all-inserted P new rest of_new of_others.1)

-- keys above a key are above a lower one
all-above :
    (low high : ℕ) (keyed : List Keyed)
    → low ≤ high
    → AllByRecursion (λ later. high ≤ later.key) keyed
    → AllByRecursion (λ later. low ≤ later.key) keyed
all-above low high [] below above = tt
all-above low high (first ∷ rest) below above =
    (omega (arith, below, above.0), all-above low high rest below above.1)

-- the new one before the others or behind the first, by the test
rises-by :
    (new old : Keyed) (rest : List Keyed) (before : Bool)
    → nat_le new.key old.key ≡ before
    → Rises (old ∷ rest)
    → Rises (insert_by_key new rest)
    → Rises (if before then new ∷ old ∷ rest else old ∷ insert_by_key new rest)
rises-by new old rest true test rises later =
    let below : new.key ≤ old.key = leb-true new.key old.key test in
    ((below, all-above new.key old.key rest below rises.0), rises)
rises-by new old rest false test rises later =
    let above : old.key ≤ new.key = omega (arith, leb-false new.key old.key test) in
    (all-inserted (λ later. old.key ≤ later.key) new rest above rises.0, later)

-- with one more in its place the keys ascend
insert-rises : (new : Keyed) (others : List Keyed) → Rises others
    → Rises (insert_by_key new others)
insert-rises new [] rises = (tt, tt)
insert-rises new (old ∷ rest) rises =
    rises-by new old rest (nat_le new.key old.key) refl rises (insert-rises new rest rises.1)

-- sorted keys ascend
pub sorting-rises : (keyed : List Keyed) → Rises (sorted_by_key keyed)
sorting-rises [] = tt
sorting-rises (first ∷ rest) = insert-rises first (sorted_by_key rest) (sorting-rises rest)

-- ---- The order of each key

-- a new one goes in front of those of its key, past others
keeps-by :
    (key : ℕ) (new old : Keyed) (rest : List Keyed) (before : Bool) (is_new is_old : Bool)
    → has_key key new ≡ is_new
    → has_key key old ≡ is_old
    → nat_le new.key old.key ≡ before
    → filter (has_key key) (insert_by_key new rest)
    ≡ cond is_new (new ∷ filter (has_key key) rest) (filter (has_key key) rest)
    → filter (has_key key) (if before then new ∷ old ∷ rest else old ∷ insert_by_key new rest)
    ≡ cond is_new (new ∷ filter (has_key key) (old ∷ rest)) (filter (has_key key) (old ∷ rest))
keeps-by key new old rest true is_new is_old of_new of_old test later =
    ap (λ passes. cond passes (new ∷ filter (has_key key) (old ∷ rest))
    (filter (has_key key) (old ∷ rest))) of_new
keeps-by key new old rest false true true of_new of_old test later =
    absurd (omega (
      arith,
      leb-false new.key old.key test,
      eqb-true new.key key of_new,
      eqb-true old.key key
          of_old,
    ))
keeps-by key new old rest false true false of_new of_old test later =
    rw of_old later
keeps-by key new old rest false false is_old of_new of_old test later =
    ap (λ back. cond (has_key key old) (old ∷ back) back) later

-- one more in its place keeps the order of each key
insert-keeps :
    (key : ℕ) (new : Keyed) (others : List Keyed)
    → filter (has_key key) (insert_by_key new others) ≡ filter (has_key key) (new ∷ others)
insert-keeps key new [] = refl
insert-keeps key new (old ∷ rest) =
    keeps-by key new old rest (nat_le new.key old.key) (has_key key new) (has_key key old) refl refl
    refl
    (insert-keeps key new rest)

-- sorting keeps the order of each key
pub sorting-keeps : (keyed : List Keyed) → AreAlike (sorted_by_key keyed) keyed
sorting-keeps [] key = refl
sorting-keeps (first ∷ rest) key =
    insert-keeps key first (sorted_by_key rest)
    ∙ ap (λ back. cond (has_key key first) (first ∷ back) back) (sorting-keeps rest key)

-- ---- One order

-- what is found of a key behind a greater one isn't there
none-below :
    (key : ℕ) (keyed : List Keyed)
    → AllByRecursion (λ later. key < later.key) keyed
    → filter (has_key key) keyed ≡ []
none-below key [] above = refl
none-below key (first ∷ rest) above =
    rw (ne_eqb first.key key (λ same. omega (arith, same, above.0))) (none-below key rest above.1)

-- a list that rises from a greater key has none of a lower one
none-at :
    (key : ℕ) (first : Keyed) (rest : List Keyed)
    → key < first.key
    → Rises (first ∷ rest)
    → filter (has_key key) (first ∷ rest) ≡ []
none-at key first rest below rises =
    none-below key (first ∷ rest) (below, all-over key first.key rest below rises.0)
  where
    all-over :
        (low high : ℕ) (keyed : List Keyed)
        → low < high
        → AllByRecursion (λ later. high ≤ later.key) keyed
        → AllByRecursion (λ later. low < later.key) keyed
    all-over low high [] below above = tt
    all-over low high (first ∷ rest) below above =
        (omega (arith, below, above.0), all-over low high rest below above.1)

-- the first of a list comes first of those of its key
own-first :
    (first : Keyed) (rest : List Keyed)
    → filter (has_key first.key) (first ∷ rest) ≡ first ∷ filter (has_key first.key) rest
own-first first rest = rw (eq-eqb first.key first.key refl) refl

-- alike lists that rise begin with the same record
same-first :
    (a b : Keyed) (left right : List Keyed)
    → Rises (a ∷ left) → Rises (b ∷ right)
    → AreAlike (a ∷ left) (b ∷ right)
    → a ≡ b
same-first a b left right rises_a rises_b alike =
    elim (cases_Bool (nat_lt a.key b.key)) [
      | inl below ↦
          let none = none-at a.key b right (ltb-true a.key b.key below) rises_b in
          let some = sym (own-first a left) ∙ alike a.key ∙ none in
          absurd (cc)
      | inr not_below ↦ elim (cases_Bool (nat_lt b.key a.key)) [
        | inl above ↦
            let none = none-at b.key a left (ltb-true b.key a.key above) rises_a in
            let some = sym (own-first b right) ∙ sym (alike b.key) ∙ none in
            absurd (cc)
        | inr not_above ↦
            let same : a.key ≡ b.key =
            omega (arith, ltb-false a.key b.key not_below, ltb-false b.key a.key not_above) in
            let firsts : a ∷ filter (has_key a.key) left ≡ b ∷ filter (has_key a.key) right =
            sym (own-first a left) ∙ alike a.key
            ∙ ap (λ (key : ℕ). cond (b.key == key) (b ∷ filter (has_key a.key) right)
            (filter (has_key a.key) right)) same
            ∙ rw (eq-eqb b.key b.key refl) refl in
            cc
      ]
    ]

-- behind the same first record lists are alike as before
rest-by :
    (passes : Bool) (first : Keyed) (left right : List Keyed)
    → cond passes (first ∷ left) left ≡ cond passes (first ∷ right) right
    → left ≡ right
rest-by true first left right same = cc
rest-by false first left right same = same

-- alike lists that rise are one
pub one-order : (first second : List Keyed) → Rises first → Rises second → AreAlike first second
    → first ≡ second
one-order [] [] rises_a rises_b alike = refl
one-order [] (b ∷ right) rises_a rises_b alike =
    let some = alike b.key ∙ own-first b right in absurd (cc)
one-order (a ∷ left) [] rises_a rises_b alike =
    let some = sym (own-first a left) ∙ alike a.key in absurd (cc)
one-order (a ∷ left) (b ∷ right) rises_a rises_b alike =
    let first = same-first a b left right rises_a rises_b alike in
    ap (λ a. a ∷ left) first
    ∙ ap (λ rest. b ∷ rest)
    (one-order left right rises_a.1 rises_b.1
    (λ key. rest-by (has_key key b) b (filter (has_key key) left)
    (filter (has_key key) right)
    (ap (λ a. cond (has_key key a) (a ∷ filter (has_key key) left) (filter (has_key key) left))
    (sym first) ∙ alike key)))
