-- Claims: kept IDs follow what their records gain and lose (`gain-follows`, `lose-follows`, one after
-- the other `both-follow`); a change that leaves all IDs, and one of the only record of a name are such
-- (`kept-counts`, `one-counts`, and `none-counts` where the name has no record). They are those of the
-- table after an edit (`after-edit`). Way: by how many records have each ID.
use Rattle.std.proofs.Common.{◌≡◌, ◌∙◌, ℕ, ◌+◌, ◌<◌, ◌≤◌, Bool, true, false, List, [], ◌∷◌, ◌++◌, cond, map, refl, sym, ap, ap₂, subst, inl, inr, arith, zero-add, length, take, get_or}
use Rattle.std.specs.Prelude.{Option, Some, None, IfSome, is_some, find, flat_map, nat_le, not, option_map, if◌then◌else◌, ◌==◌, ◌&&◌, ◌||◌}
use Rattle.std.proofs.lemmas.Bool.{cases_Bool, cases_eq, cases_lt, eq-eqb, false≢true, le-leb, leb-true, ne_eqb}
use Rattle.std.proofs.lemmas.List.{map-append, take_more}
use Rattle.std.proofs.lemmas.List.Sums.{sum_by-append, sum_by-cons}
use Rattle.account_model.specs.Edits.{Edit}
use Rattle.account_model.specs.Format.{Format, count_named, find_named, is_named}
use Rattle.account_model.specs.RecordEdits.{IsWrittenEdit, TellsSame, records_edited}
use Rattle.account_model.specs.Tables.{table_after, table_records}
use Rattle.account_model.proofs.EditLines.{table-edited}
use Rattle.account_model.specs.Ids.{is_used}
use Rattle.id_choice.specs.Runs.{LosesOne}
use Rattle.id_choice.specs.Used.{AreThoseOf}
use Rattle.carried_tables.specs.declared.kept_ids.KeptIds.{KeptIds}
use Rattle.carried_tables.specs.KeptIds.{AreIdsOf, FollowSwap, KeepsIds, Renumbers, counts_of, new_ids, table_counts}

-- ---- Counts

-- one more in front
counts-more :
    (first id : ℕ) (rest : List ℕ)
    → counts_of (first ∷ rest) id ≡ cond (first == id) 1 0 + counts_of rest id
counts-more first id rest = sum_by-cons (λ other. cond (other == id) 1 0) first rest

-- two lists
counts-both :
    (front back : List ℕ) (id : ℕ)
    → counts_of (front ++ back) id ≡ counts_of front id + counts_of back id
counts-both front back id = sum_by-append (λ other. cond (other == id) 1 0) front back

-- nothing more
plus-none : {a b : ℕ} → a ≡ b → a + 0 ≡ b
plus-none {a = a} {b = b} is = omega (arith, is)

-- the same of both sides
without-none : (before after : ℕ) → after + 0 ≡ before + 0 → before ≡ after
without-none before after is = omega (arith, is)

-- and of the right side
more-none : (after before : ℕ) → after ≡ before → after ≡ before + 0
more-none after before is = omega (arith, is)

-- one of a list by itself
counts-one : (first id : ℕ) → counts_of (first ∷ []) id ≡ cond (first == id) 1 0
counts-one first id = zero-add (cond (first == id) 1 0)

-- an ID is used by so many, by whether it is the first
used-by :
    (here : Bool) (used : Bool) (count : ℕ)
    → used ≡ nat_le 1 count
    → (here || used) ≡ nat_le 1 (cond here 1 0 + count)
used-by true used count is = sym (le-leb 1 (1 + count) (omega arith))
used-by false used count is = is ∙ ap (nat_le 1) (omega arith)

-- an ID is used where a record has it
pub used-counts :
    (ids : List ℕ) (id : ℕ) → is_used ids id ≡ nat_le 1 (counts_of ids id)
used-counts [] id = refl
used-counts (first ∷ ids) id =
    used-by (first == id) (is_used ids id) (counts_of ids id) (used-counts ids id)
    ∙ ap (nat_le 1) (sym (counts-more first id ids))

-- so the used ones are those of the records
kept-used :
    (kept : KeptIds) (ids : List ℕ) → AreIdsOf kept (counts_of ids) → AreThoseOf kept.used ids
kept-used kept ids are = λ id. are.used id ∙ sym (used-counts ids id)

-- and one that isn't shared has one record at most
pub alone :
    (kept : KeptIds) (counts : ℕ → ℕ) (id : ℕ)
    → AreIdsOf kept counts
    → is_used kept.shared id ≡ false
    → counts id ≤ 1
alone kept counts id are unshared = elim (cases_lt 1 (counts id)) [
  | inl several ↦ absurd (false≢true (sym unshared ∙ are.shared id (omega (arith, several))))
  | inr one ↦ one
]

-- no record has an ID before the first
pub none-kept :
    (kept : KeptIds)
    → AreThoseOf kept.used []
    → AreThoseOf kept.shared []
    → AreIdsOf kept (counts_of [])
none-kept kept used shared = record {
  used = λ id. used id;
  shared = λ id several. absurd (omega (arith, several));
}

-- counts that are the same are those of the same IDs
pub same-counts :
    (kept : KeptIds) (first second : ℕ → ℕ)
    → ((id : ℕ) → first id ≡ second id)
    → AreIdsOf kept first
    → AreIdsOf kept second
same-counts kept first second same are = record {
  used = λ id. are.used id ∙ ap (nat_le 1) (same id);
  shared = λ id several. are.shared id (omega (arith, same id, several));
}

-- so many IDs of a list, and one more
pub listed-counts :
    (ids : List ℕ) (place id : ℕ)
    → place < length ids
    → counts_of (take (place + 1) ids) id + counts_of [] id
    ≡ counts_of (take place ids) id + counts_of (get_or ids place 0 ∷ []) id
listed-counts ids place id inside =
    let more = ap (λ ids. counts_of ids id) (take_more ids place 0 inside)
    ∙ counts-both (take place ids) (get_or ids place 0 ∷ []) id in
    plus-none more

-- a test beside one that is passed, and beside one that isn't
beside-true : (test : Bool) → (test && true) ≡ test
beside-true true = refl
beside-true false = refl

beside-false : (test : Bool) → (test && false) ≡ false
beside-false true = refl
beside-false false = refl

-- ---- What is gained and lost

-- an ID that is gained, where it is used already
pub gain-shared :
    (old new : KeptIds) (gained : ℕ)
    → is_used old.used gained ≡ true
    → new.used ≡ old.used
    → AreThoseOf new.shared (gained ∷ old.shared)
    → FollowSwap old new [] (gained ∷ [])
gain-shared old new gained used same shared = λ before after are swap. record {
  used = λ id. ap (λ ids. is_used ids id) same ∙ are.used id ∙ elim (cases_eq gained id) [
    | inl here ↦
        let there = leb-true 1 (before id)
        (sym (are.used id) ∙ ap (is_used old.used) (sym here) ∙ used) in
        le-leb 1 (before id) there
        ∙ sym (le-leb 1 (after id) (omega (arith, there, swap id)))
    | inr other ↦
        let none : counts_of (gained ∷ []) id ≡ 0 = rw (ne_eqb gained id other) refl in
        ap (nat_le 1) (omega (arith, swap id, none))
  ];
  shared = λ id several. shared id ∙ elim (cases_eq gained id) [
    | inl here ↦ rw (eq-eqb gained id here) refl
    | inr other ↦
        let none : counts_of (gained ∷ []) id ≡ 0 = rw (ne_eqb gained id other) refl in
        rw (ne_eqb gained id other) (are.shared id (omega (arith, several, swap id, none)))
  ];
}

-- one that isn't used yet
pub gain-unused :
    (old new : KeptIds) (gained : ℕ)
    → is_used old.used gained ≡ false
    → AreThoseOf new.used (gained ∷ old.used)
    → new.shared ≡ old.shared
    → FollowSwap old new [] (gained ∷ [])
gain-unused old new gained unused added same = λ before after are swap. record {
  used = λ id. added id ∙ elim (cases_eq gained id) [
    | inl here ↦
        let one : counts_of (gained ∷ []) id ≡ 1 = rw (eq-eqb gained id here) refl in
        rw (eq-eqb gained id here) (sym (le-leb 1 (after id) (omega (arith, swap id, one))))
    | inr other ↦
        let none : counts_of (gained ∷ []) id ≡ 0 = rw (ne_eqb gained id other) refl in
        rw (ne_eqb gained id other)
        (are.used id ∙ ap (nat_le 1) (omega (arith, swap id, none)))
  ];
  shared = λ id several. ap (λ ids. is_used ids id) same ∙ elim (cases_eq gained id) [
    | inl here ↦
        let one : counts_of (gained ∷ []) id ≡ 1 = rw (eq-eqb gained id here) refl in
        let there : 1 ≤ before id = omega (arith, several, swap id, one) in
        absurd (false≢true (sym unused ∙ ap (is_used old.used) here ∙ are.used id
        ∙ le-leb 1 (before id) there))
    | inr other ↦
        let none : counts_of (gained ∷ []) id ≡ 0 = rw (ne_eqb gained id other) refl in
        are.shared id (omega (arith, several, swap id, none))
  ];
}

-- an ID that is lost, which isn't shared
pub lose-follows :
    (old new : KeptIds) (lost : ℕ)
    → is_used old.shared lost ≡ false
    → LosesOne old.used lost new.used
    → new.shared ≡ old.shared
    → FollowSwap old new (lost ∷ []) []
lose-follows old new lost unshared loses same = λ before after are swap. record {
  used = λ id. loses id ∙ elim (cases_eq lost id) [
    | inl here ↦
        let one : counts_of (lost ∷ []) id ≡ 1 = rw (eq-eqb lost id here) refl in
        let few : before id ≤ 1 =
        alone old before id are (ap (is_used old.shared) (sym here) ∙ unshared) in
        let none : after id ≡ 0 = omega (arith, swap id, one, few) in
        ap (λ same. is_used old.used id && not same) (eq-eqb id lost (sym here))
        ∙ beside-false (is_used old.used id)
        ∙ ap (nat_le 1) (sym none)
    | inr other ↦
        let none : counts_of (lost ∷ []) id ≡ 0 = rw (ne_eqb lost id other) refl in
        ap (λ same. is_used old.used id && not same) (ne_eqb id lost (λ same. other (sym same)))
        ∙ beside-true (is_used old.used id)
        ∙ are.used id ∙ ap (nat_le 1) (omega (arith, swap id, none))
  ];
  shared = λ id several.
      ap (λ ids. is_used ids id) same ∙ are.shared id (omega (arith, several, swap id));
}

-- nothing is gained
pub none-gained : (kept : KeptIds) → FollowSwap kept kept [] []
none-gained kept = λ before after are swap.
    same-counts kept before after (λ id. without-none (before id) (after id) (swap id)) are

-- one after the other
pub both-follow :
    (old mid new : KeptIds) (lost gained : List ℕ)
    → FollowSwap old mid [] gained
    → FollowSwap mid new lost []
    → FollowSwap old new lost gained
both-follow old mid new lost gained gains loses = λ before after are swap.
    let between : ℕ → ℕ = λ id. before id + counts_of gained id in
    loses between after (gains before between are (λ id. plus-none refl)) (λ id. more-none
    (after id + counts_of lost id) (between id) (swap id))

-- ---- What changes do

module _ {R : Type 0} (format : Format R) (id_of : R → ℕ) (f : R → List R) where
  -- the IDs of all records stay where f leaves the ID of each
  pub kept-all :
      (records : List R)
      → KeepsIds id_of f
      → map id_of (flat_map f records) ≡ map id_of records
  kept-all [] keeps = refl
  kept-all (r ∷ records) keeps =
      map-append id_of (f r) (flat_map f records)
      ∙ ap₂ (λ first rest. first ++ rest) (keeps r) (kept-all records keeps)

  module _ (name : List ℕ) (new : Option ℕ) (renumbers : Renumbers format id_of f name new) where
    -- no record has the name, by whether the first has it
    none-behind :
        (r : R) (found : Option R) (named : Bool)
        → (if named then Some r else found) ≡ None
        → (named ≡ false) × (found ≡ None)
    none-behind r found true none = absurd cc
    none-behind r found false none = (refl, none)

    -- no record has the name: all IDs stay
    pub none-stays :
        (records : List R)
        → find_named format name records ≡ None
        → map id_of (flat_map f records) ≡ map id_of records
    none-stays [] none = refl
    none-stays (r ∷ records) none =
        let both = none-behind r (find_named format name records) (is_named format name r) none in
        map-append id_of (f r) (flat_map f records)
        ∙ ap₂ (λ first rest. first ++ rest) (renumbers.others r both.0)
        (none-stays records both.1)

    -- of no record none is found
    none-found :
        (records : List R) → count_named format name records < 1
        → find_named format name records ≡ None
    none-found [] few = refl
    none-found (r ∷ records) few =
        let split = sum_by-cons (λ s. cond (is_named format name s) 1 0) r records in
        elim (cases_Bool (is_named format name r)) [
          | inl named ↦
              let one : cond {A = ℕ} (is_named format name r) 1 0 ≡ 1 = rw named refl in
              absurd (omega (arith, few, split, one))
          | inr other ↦
              let none : cond {A = ℕ} (is_named format name r) 1 0 ≡ 0 = rw other refl in
              rw other (none-found records (omega (arith, few, split, none)))
        ]

    -- the first record that is found is the first that has the name
    found-here :
        (r : R) (found : Option R) (named : Bool) (id : ℕ)
        → named ≡ true
        → option_map id_of (if named then Some r else found) ≡ Some id
        → id_of r ≡ id
    found-here r found true id is told = cc
    found-here r found false id is told = absurd cc

    -- and else one behind it
    found-behind :
        (r : R) (found : Option R) (named : Bool) (id : ℕ)
        → named ≡ false
        → option_map id_of (if named then Some r else found) ≡ Some id
        → option_map id_of found ≡ Some id
    found-behind r found true id is told = absurd cc
    found-behind r found false id is told = told

    -- one record has the name: its ID goes, and the new one comes
    pub one-swaps :
        (records : List R) (lost : ℕ) (id : ℕ)
        → option_map id_of (find_named format name records) ≡ Some lost
        → count_named format name records < 2
        → counts_of (map id_of (flat_map f records)) id + counts_of (lost ∷ []) id
        ≡ counts_of (map id_of records) id + counts_of (new_ids new) id
    one-swaps [] lost id found few = absurd cc
    one-swaps (r ∷ records) lost id found few =
        let split = sum_by-cons (λ s. cond (is_named format name s) 1 0) r records in
        let made = ap (λ ids. counts_of ids id) (map-append id_of (f r) (flat_map f records))
        ∙ counts-both (map id_of (f r)) (map id_of (flat_map f records)) id in
        let first = counts-more (id_of r) id (map id_of records) in
        elim (cases_Bool (is_named format name r)) [
          | inl named ↦
              let one : cond {A = ℕ} (is_named format name r) 1 0 ≡ 1 = rw named refl in
              let is : id_of r ≡ lost = found-here r (find_named format name records)
              (is_named format name r) lost named found in
              let rest = ap (λ ids. counts_of ids id) (none-stays records (none-found records
              (omega (arith, few, split, one)))) in
              let here = ap (λ ids. counts_of ids id) (renumbers.named r named) in
              let same : counts_of (lost ∷ []) id ≡ cond (id_of r == id) 1 0 =
              ap (λ lost. counts_of (lost ∷ []) id) (sym is) ∙ counts-one (id_of r) id in
              omega (arith, made, first, rest, here, same)
          | inr other ↦
              let none : cond {A = ℕ} (is_named format name r) 1 0 ≡ 0 = rw other refl in
              let behind = one-swaps records lost id
              (found-behind r (find_named format name records) (is_named format name r) lost other
              found)
              (omega (arith, few, split, none)) in
              let here : counts_of (map id_of (f r)) id ≡ cond (id_of r == id) 1 0 =
              ap (λ ids. counts_of ids id) (renumbers.others r other) ∙ counts-one (id_of r) id in
              omega (arith, made, first, behind, here)
        ]

-- ---- The table

module _ {R : Type 0} (format : Format R) (id_of : R → ℕ) where
  -- the IDs that are kept for the edited records are those of the table after the edit
  pub after-edit :
      (edit : Edit R) (file : Option (List ℕ)) (kept : KeptIds)
      → TellsSame format
      → format.read [] ≡ None
      → IsWrittenEdit format edit
      → is_some file ≡ true
      → AreIdsOf kept
      (counts_of (map id_of (records_edited format (table_records format file) edit)))
      → AreIdsOf kept (table_counts format id_of (table_after format (edit ∷ []) file))
  after-edit edit None kept tells none written there are = absurd cc
  after-edit edit (Some text) kept tells none written there are =
      subst (λ records. AreIdsOf kept (counts_of (map id_of records)))
      (sym (table-edited format tells none (edit ∷ []) text (written, tt))) are

  -- the used IDs that are known beside a file are those of its records
  pub known-used :
      (known : Option KeptIds) (ids : KeptIds) (file seen : Option (List ℕ))
      → IfSome known (λ ids. AreIdsOf ids (table_counts format id_of file))
      → known ≡ Some ids
      → file ≡ seen
      → AreThoseOf ids.used (map id_of (table_records format seen))
  known-used known ids file seen are is same =
      kept-used ids (map id_of (table_records format seen))
      (subst (λ file. AreIdsOf ids (table_counts format id_of file)) same
      (subst (λ found. IfSome found (λ ids. AreIdsOf ids (table_counts format id_of file))) is are))

-- an ID is used exactly where a record with it is found
pub used-found :
    {R : Type 0} (id_of : R → ℕ) (id : ℕ) (records : List R)
    → is_some (find (λ r. id_of r == id) records) ≡ is_used (map id_of records) id
used-found id_of id [] = refl
used-found id_of id (r ∷ records) = elim (cases_Bool (id_of r == id)) [
  | inl same ↦ rw same refl
  | inr other ↦ rw other (used-found id_of id records)
]
