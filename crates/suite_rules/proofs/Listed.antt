-- Claim: the tables of an intent are listed each with its bytes, as each stands there once
-- (`listed-there`); and where those of a list are all in place, so is each table that it lists
-- (`all-in-place`). Way: in the fixed order a table comes later than each before it (`later-behind`).
-- A list with a first table is that one and the others (`first-of`), and one of none is empty.
use Rattle.std.proofs.Common.{◌≡◌, refl, ap, subst, ◌<◌, Bool, true, false, nat_lt, if◌then◌else◌, List, [], ◌∷◌, ◌++◌, length, slice_get, drop, Option, Some, All, arith}
use Rattle.std.proofs.lemmas.Bool.{and_parts}
use Rattle.std.proofs.lemmas.Bool.Decides.{nat_tests}
use Rattle.std.proofs.lemmas.List.Elements.{All-head, All-tail}
use Rattle.acct_text.specs.declared.Tab.{Tab}
use Rattle.acct_text.specs.Bytes.{Bytes}
use Rattle.acct_text.specs.Tables.{table_place, same_table}
use Rattle.intent_file.specs.Intent.{NewTable, is_in_order, listed_in}
use Rattle.acct_outside.proofs.NameLemmas.{table-is, table-same}

-- the first of two tables comes earlier in the fixed order than the second
comes-earlier : (first second : NewTable) (tables : List NewTable) →
    is_in_order (first ∷ second ∷ tables) ≡ true →
    table_place first.table < table_place second.table
comes-earlier first second tables order =
    let earlier = (and_parts (nat_lt (table_place first.table) (table_place second.table))
    (is_in_order (second ∷ tables)) order).0 in
    grind (arith, nat_tests)

-- without its first table the order stays
order-behind : (first second : NewTable) (tables : List NewTable) →
    is_in_order (first ∷ second ∷ tables) ≡ true → is_in_order (second ∷ tables) ≡ true
order-behind first second tables order =
    (and_parts (nat_lt (table_place first.table) (table_place second.table))
    (is_in_order (second ∷ tables)) order).1

-- a table in the fixed order comes later than the first
later-behind : (first : NewTable) (moved : List NewTable) (next : NewTable)
    (left : List NewTable) → is_in_order (first ∷ (moved ++ next ∷ left)) ≡ true →
    table_place first.table < table_place next.table
later-behind first [] next left order = comes-earlier first next left order
later-behind first (second ∷ moved) next left order =
    let earlier = comes-earlier first second (moved ++ next ∷ left) order in
    let later = later-behind second moved next left
    (order-behind first second (moved ++ next ∷ left) order) in
    omega arith

-- a table that comes later is another one
differs-later : (table other : Tab) → table_place table < table_place other →
    same_table table other ≡ false
differs-later table other later = cases (same_table table other) refl
  where
    cases : (same : Bool) → same_table table other ≡ same → same ≡ false
    cases false is = refl
    cases true is =
        let place : table_place table ≡ table_place other =
        ap table_place (table-is table other is) in
        absurd (omega (arith, later, place))

-- the order of the tables behind the first
order-rest : (first : NewTable) (moved : List NewTable) (next : NewTable)
    (left : List NewTable) → is_in_order (first ∷ (moved ++ next ∷ left)) ≡ true →
    is_in_order (moved ++ next ∷ left) ≡ true
order-rest first [] next left order = order-behind first next left order
order-rest first (second ∷ moved) next left order =
    order-behind first second (moved ++ next ∷ left) order

-- each table of a list in the fixed order is listed with its bytes
pub listed-there : (moved : List NewTable) (next : NewTable) (left : List NewTable) →
    is_in_order (moved ++ next ∷ left) ≡ true →
    listed_in (moved ++ next ∷ left) next.table ≡ Some next.bytes
listed-there [] next left order = rw (table-same next.table) refl
listed-there (first ∷ moved) next left order =
    rw (differs-later first.table next.table (later-behind first moved next left order))
    (listed-there moved next left (order-rest first moved next left order))

-- where the tables of a list pass a test, each table that it lists passes it
pub all-in-place : (placed : Tab → Bool) (tables : List NewTable) →
    All (λ new. placed new.table ≡ true) tables → (table : Tab) (bytes : Bytes) →
    listed_in tables table ≡ Some bytes → placed table ≡ true
all-in-place placed [] all table bytes listed = absurd (cc listed)
all-in-place placed (new ∷ news) all table bytes listed =
    cases (same_table new.table table) refl listed (all-in-place placed news
    (All-tail (λ (new : NewTable). placed new.table ≡ true) new news all) table bytes)
  where
    cases : (same : Bool) → same_table new.table table ≡ same →
        (if same then Some new.bytes else listed_in news table) ≡ Some bytes →
        (listed_in news table ≡ Some bytes → placed table ≡ true) → placed table ≡ true
    cases true is found behind =
        subst (λ (other : Tab). placed other ≡ true) (table-is new.table table is)
        (All-head (λ (new : NewTable). placed new.table ≡ true) new news all)
    cases false is found behind = behind found

-- a list with a first table is that table and those behind it
pub first-of : (tables : List NewTable) (next : NewTable) → slice_get tables 0 ≡ Some next →
    tables ≡ next ∷ drop 1 tables
first-of [] next is = absurd (cc is)
first-of (first ∷ tables) next is =
    ap (λ (table : NewTable). table ∷ tables) (first-same first next is)
  where
    first-same : (first next : NewTable) →
        ◌≡◌ {A = Option NewTable} (Some first) (Some next) → first ≡ next
    first-same first next is = cc is

-- a list of no tables is empty
pub none-of : (tables : List NewTable) → length tables ≡ 0 → tables ≡ []
none-of [] none = refl
none-of (first ∷ tables) none = absurd (omega (arith, none))
