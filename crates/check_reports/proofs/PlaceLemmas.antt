-- Claim: the places and the count of records are kept record by record (`order-record`,
-- `order-other`), and a name's place is where a search of the records stops (`place-or-count`).
-- Way: an index tells of the names of records as of those of lines.
use Rattle.std.proofs.Common.{◌≡◌, ◌∙◌, ℕ, ◌+◌, ◌^◌, ◌<◌, ◌≤◌, Bool, true, false, List, [], ◌∷◌, ◌++◌, length, length-append, map, refl, sym, ap, subst, arith, append-nil}
use Rattle.std.specs.Prelude.{◌&&◌, Option, Some, None, IfSome, bytes_eq, cond, count_by, find, if◌then◌else◌, is_some, nat_lt, not, option_map, option_to_list, unwrap_or}
use Rattle.std.specs.List.{position_from, position_or_len}
use Rattle.std.proofs.lemmas.Bool.{le-ltb, leb-false, lt-ltb}
use Rattle.std.proofs.lemmas.List.{length-map, map-append}
use Rattle.account_model.proofs.SameLaws.{bytes-self}
use Rattle.acct_text.specs.Lines.{Line, lines_of}
use Rattle.account_model.specs.Format.{Format, has_named, is_named, records_of}
use Rattle.acct_tables.specs.NameIndex.{IsNoted, TellsOf, TellsAtMost, are_several, begins_before, has_name, records_at, told, with_last}
use Rattle.acct_tables.specs.declared.name_index.NamedLines.{NamedLines}
use Rattle.acct_tables.proofs.LinesCounted.{lines-counted}
use Rattle.acct_tables.proofs.NameIndexLemmas.{told-record, told-within}
use Rattle.check_reports.specs.declared.sorting.ByPlace.{ByPlace}
use Rattle.check_reports.specs.Sorted.{IsOrderOf, IsPlaced, kept_place}
use Rattle.check_reports.proofs.RecordWalk.{HaveTaken, records-few}

-- by the test of the first, where a search stops
front-or :
    (passes : Bool) (place total before : ℕ) (rest : Option ℕ)
    → unwrap_or rest total ≡ place + 1 + before
    → unwrap_or (cond passes (Some place) rest) total ≡ place + cond (not passes) (1 + before) 0
front-or true place total before rest later = omega arith
front-or false place total before rest later = later ∙ omega arith

-- a search stops at the first place, and else behind all
position-or :
    {X : Type 0} (test : X → Bool) (place : ℕ) (xs : List X)
    → unwrap_or (position_from test place xs) (place + length xs) ≡ place + position_or_len test xs
position-or test place [] = refl
position-or test place (x ∷ xs) =
    front-or (test x) place (place + length (x ∷ xs)) (position_or_len test xs)
    (position_from test (place + 1) xs)
    (ap (unwrap_or (position_from test (place + 1) xs)) (omega arith)
    ∙ position-or test (place + 1) xs)

-- the first of some records
first-at :
    (first : Option ℕ) (count total : ℕ)
    → unwrap_or (option_map (λ found. found.first) (records_at first count)) total
    ≡ unwrap_or first total
first-at None count total = refl
first-at (Some first) count total = refl

-- ---- Names that differ

-- neither
both-so : (a b : Bool) → (a && not b) ≡ true → (a ≡ true) × (b ≡ false)
both-so true true is = absurd cc
both-so true false is = (refl, refl)
both-so false b is = absurd cc

-- with one that isn't told several times, of each one record is told
one-more :
    (same : Bool) (last : NamedLines) (other : Option NamedLines)
    → are_several (Some last) ≡ false
    → IfSome other (λ found. found.count ≤ 1)
    → IfSome (if same then Some last else other) (λ found. found.count ≤ 1)
one-more true last other one few = omega (arith, leb-false 2 last.count one)
one-more false last other one few = few

-- they still differ with one more
differ-more :
    (name : List ℕ) (before after : ByPlace)
    → IsPlaced name before after
    → (before.differ ≡ true → TellsAtMost 1 (told before.names))
    → after.differ ≡ true
    → TellsAtMost 1 (told after.names)
differ-more name before after placed few differ = λ other.
    let last = with_last before.count (told before.names name) in
    let is = both-so before.differ (are_several (told after.names name))
    (sym placed.differ ∙ differ) in
    let here : told after.names name ≡ Some last =
    placed.noted name ∙ (rw (bytes-self name) refl) in
    subst (λ found. IfSome found (λ found. found.count ≤ 1)) (sym (placed.noted other))
    (one-more (bytes_eq name other) last (told before.names other)
    (ap are_several (sym here) ∙ is.1) (few is.0 other))

-- ---- In front of a record

-- whether a place, where there is one, is in front of another
abbrev is_before : ℕ → Option ℕ → Bool
is_before place None = false
is_before place (Some first) = nat_lt first place

-- the first of some records stands there
begins-at :
    (place : ℕ) (first : Option ℕ) (count : ℕ)
    → begins_before place (records_at first count) ≡ is_before place first
begins-at place None count = refl
begins-at place (Some first) count = refl

-- a search that stops at an element stops before it where one before it passes
stops-before :
    {X : Type 0} (test : X → Bool) (front rest : List X) (x : X) (place : ℕ)
    → test x ≡ true
    → is_before (place + length front) (position_from test place (front ++ x ∷ rest))
    ≡ is_some (find test front)
stops-before test [] rest x place passes =
    rw passes (le-ltb place (place + 0) (omega arith))
stops-before {X = X} test (y ∷ front) rest x place passes =
    by (test y) (stops-before test front rest x (place + 1) passes)
  where
    by :
        (b : Bool)
        → is_before ((place + 1) + length front)
        (position_from test (place + 1) (front ++ x ∷ rest))
        ≡ is_some (find test front)
        → is_before (place + length (y ∷ front))
        (cond b (Some place) (position_from test (place + 1) (front ++ x ∷ rest)))
        ≡ is_some (if b then Some y else find test front)
    by true later = lt-ltb place (place + length (y ∷ front)) (omega arith)
    by false later =
        let next : place + length (y ∷ front) ≡ (place + 1) + length front = omega arith in
        ap (λ n. is_before n (position_from test (place + 1) (front ++ x ∷ rest))) next ∙ later

module _ {R : Type 0} (format : Format R) where
  -- the names of records
  abbrev names : List R → List (Option (List ℕ))
  names records = map (λ r. Some (format.name r)) records

  -- as many names are kept as records
  many : (records : List R) (kept : ByPlace) → IsOrderOf format records kept
      → kept.count ≡ length (names records)
  many records kept is =
      is.counted ∙ sym (length-map records (λ r. Some (format.name r)))

  -- a name's first place among names is that among records
  place-named :
      (name : List ℕ) (place : ℕ) (records : List R)
      → position_from (has_name name) place (names records)
      ≡ position_from (is_named format name) place records
  place-named name place [] = refl
  place-named name place (r ∷ rest) =
      ap (λ behind. cond (is_named format name r) (Some place) behind)
      (place-named name (place + 1) rest)

  -- of no name more records are told than there are
  pub order-within :
      (records : List R) (kept : ByPlace)
      → IsOrderOf format records kept
      → TellsAtMost kept.count (told kept.names)
  order-within records kept is =
      subst (λ count. TellsAtMost count (told kept.names)) (sym (many records kept is))
      (told-within (names records) (told kept.names) is.first)

  -- the place of one more record is a number of the machine
  pub place-fits :
      (all left rest : List Line) (line : Line) (taken : HaveTaken all left) (count : ℕ)
      (text : List ℕ)
      → count ≡ length (records_of format taken.done)
      → left ≡ line ∷ rest
      → lines_of text ≡ all
      → length text < 2 ^ 64
      → count + 1 < 2 ^ 64
  place-fits all left rest line taken count text counted next are fits = omega (
    arith,
    counted,
    records-few format taken.done,
    ap length taken.joined,
    length-append taken.done left,
    ap length next,
    ap length are,
    lines-counted text,
    fits,
  )

  -- with one more record it is the order of these
  pub order-placed :
      (records : List R) (r : R) (name : List ℕ) (before after : ByPlace)
      → name ≡ format.name r
      → IsOrderOf format records before
      → IsPlaced name before after
      → IsOrderOf format (records ++ r ∷ []) after
  order-placed records r name before after same is placed = record {
    first = subst (λ names. TellsOf names (told after.names))
        (sym (map-append (λ r. Some (format.name r)) records (r ∷ [])))
        (told-record (names records) (told before.names) is.first (format.name r)
        (told after.names)
        (subst (λ name. IsNoted name (length (names records)) (told before.names)
        (told after.names)) same
        (subst (λ place. IsNoted name place (told before.names) (told after.names))
        (many records before is) placed.noted)));
    counted = placed.counted ∙ omega (arith, is.counted, length-append records (r ∷ []));
    differ = differ-more name before after placed is.differ;
  }

  -- and so by what a line reads as
  pub order-record :
      (records : List R) (found : Option R) (name : List ℕ) (before after : ByPlace)
      → Some name ≡ option_map format.name found
      → IsOrderOf format records before
      → IsPlaced name before after
      → IsOrderOf format (records ++ option_to_list found) after
  order-record records None name before after named is placed = absurd cc
  order-record records (Some r) name before after named is placed =
      let same : name ≡ format.name r = cc in
      order-placed records r name before after same is placed

  -- with other text it stays
  pub order-other :
      (records : List R) (found : Option R) (kept : ByPlace)
      → None ≡ option_map format.name found
      → IsOrderOf format records kept
      → IsOrderOf format (records ++ option_to_list found) kept
  order-other records None kept other is =
      subst (λ records. IsOrderOf format records kept) (sym (append-nil records)) is
  order-other records (Some r) kept other is = absurd cc

  -- what a name's place is, and where a search of the records stops
  pub place-or-count :
      (records : List R) (kept : ByPlace) (name : List ℕ)
      → IsOrderOf format records kept
      → kept_place kept name ≡ position_or_len (is_named format name) records
  place-or-count records kept name is =
      ap (λ found. unwrap_or (option_map (λ found. found.first) found) kept.count) (is.first name)
      ∙ first-at (position_from (has_name name) 0 (names records))
      (count_by (has_name name) (names records)) kept.count
      ∙ ap (λ found. unwrap_or found kept.count) (place-named name 0 records)
      ∙ ap (unwrap_or (position_from (is_named format name) 0 records)) (is.counted ∙ omega arith)
      ∙ position-or (is_named format name) 0 records
      ∙ omega arith

  -- the name of a record is told in front of its place where one in front of it has it
  pub told-front :
      (before rest : List R) (r : R) (kept : ByPlace)
      → IsOrderOf format (before ++ r ∷ rest) kept
      → begins_before (length before) (told kept.names (format.name r))
      ≡ has_named format (format.name r) before
  told-front before rest r kept is =
      let name = format.name r in
      let all = before ++ r ∷ rest in
      let from : length before ≡ 0 + length before = omega arith in
      ap (begins_before (length before)) (is.first name)
      ∙ begins-at (length before) (position_from (has_name name) 0 (names all))
      (count_by (has_name name) (names all))
      ∙ ap (is_before (length before)) (place-named name 0 all)
      ∙ ap (λ n. is_before n (position_from (is_named format name) 0 all)) from
      ∙ stops-before (is_named format name) before rest r 0 (bytes-self name)
