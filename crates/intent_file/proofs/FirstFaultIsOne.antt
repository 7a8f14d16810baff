-- Claim: bytes have one first part at most that doesn't stand, and none where they read as an
-- intent (`first_fault_is_one_holds`). Way: two fronts of the same bytes have one header, and the
-- tables of one begin those of the other (`compared`); so a front without a next table has as many
-- tables as any other (`no_more`), and faults at different parts exclude each other.
use Rattle.std.proofs.Common.{◌≡◌, refl, sym, ap, ap₂, subst, ◌∙◌, ℕ, ◌≤◌, true, nat_le, nat_lt, List, [], ◌∷◌, ◌++◌, length, append_assoc, length-append, arith}
use Rattle.std.proofs.lemmas.Bool.{and_parts}
use Rattle.std.proofs.lemmas.Bool.Decides.{nat_tests}
use Rattle.acct_text.specs.Bytes.{Bytes}
use Rattle.acct_text.specs.Limits.{table_limit}
use Rattle.acct_text.specs.Tables.{table_place}
use Rattle.intent_file.specs.Intent.{NewTable, Intended, table_part, table_parts, end_part, body, is_in_order, is_within_limit, ReadsIntent}
use Rattle.intent_file.specs.Laws.{FirstFaultIsOne}
use Rattle.intent_file.specs.Parts.{BeginsWith, BeginsWithNone, MayBeListed, Front, FirstFault, no_header, no_table, no_end}
use Rattle.intent_file.proofs.PartsLemmas.{header_cut, table_cut}
use Rattle.intent_file.proofs.Reading.{allowed_parts, at_most_six}

-- Tables that begin others.

-- the two lists are the same with the same rest, or one goes on where the other has its rest
data Compared (tables others : List NewTable) (rest tail : Bytes) : Type 0 where
  same : tables ≡ others → rest ≡ tail → Compared tables others rest tail
  fewer :
      (next : NewTable) (news : List NewTable)
      → others ≡ tables ++ next ∷ news
      → rest ≡ table_parts (next ∷ news) ++ tail
      → Compared tables others rest tail
  more :
      (next : NewTable) (news : List NewTable)
      → tables ≡ others ++ next ∷ news
      → tail ≡ table_parts (next ∷ news) ++ rest
      → Compared tables others rest tail

-- with the same table in front they compare as before
compared-cons :
    (first other : NewTable) (tables others : List NewTable) (rest tail : Bytes)
    → first ≡ other
    → Compared tables others rest tail
    → Compared (first ∷ tables) (other ∷ others) rest tail
compared-cons first other tables others rest tail is (same lists rests) =
    same (ap₂ (λ (t : NewTable) (ts : List NewTable). t ∷ ts) is lists) rests
compared-cons first other tables others rest tail is (fewer next news lists rests) =
    fewer next news (ap₂ (λ (t : NewTable) (ts : List NewTable). t ∷ ts) (sym is) lists) rests
compared-cons first other tables others rest tail is (more next news lists rests) =
    more next news (ap₂ (λ (t : NewTable) (ts : List NewTable). t ∷ ts) is lists) rests

-- the first of tables within their limit is within it
first_within :
    (first : NewTable) (tables : List NewTable)
    → is_within_limit (first ∷ tables) ≡ true
    → is_within_limit (first ∷ []) ≡ true
first_within first tables within =
    rw ((and_parts (nat_le (length first.bytes) table_limit) (is_within_limit tables) within).0)
    refl

-- the others are within it too
others_within :
    (first : NewTable) (tables : List NewTable)
    → is_within_limit (first ∷ tables) ≡ true
    → is_within_limit tables ≡ true
others_within first tables within =
    (and_parts (nat_le (length first.bytes) table_limit) (is_within_limit tables) within).1

-- the tables with which the same bytes begin compare
compared :
    (tables others : List NewTable) (rest tail : Bytes)
    → is_within_limit tables ≡ true
    → is_within_limit others ≡ true
    → table_parts tables ++ rest ≡ table_parts others ++ tail
    → Compared tables others rest tail
compared [] [] rest tail within within' is = same refl is
compared [] (other ∷ others) rest tail within within' is = fewer other others refl is
compared (first ∷ tables) [] rest tail within within' is = more first tables refl (sym is)
compared (first ∷ tables) (other ∷ others) rest tail within within' is =
    let cut = table_cut first other (table_parts tables ++ rest) (table_parts others ++ tail)
    (first_within first tables within) (first_within other others within')
    (sym (append_assoc (table_part first) (table_parts tables) rest)
    ∙ (is ∙ append_assoc (table_part other) (table_parts others) tail)) in
    compared-cons first other tables others rest tail cut.values
    (compared tables others rest tail (others_within first tables within)
    (others_within other others within') cut.rests)

-- Two fronts of the same bytes.

-- their headers are the same, and their tables compare
record Fronts {bytes : Bytes} (front other : Front bytes) : Type 0 where
  counts : front.head.count ≡ other.head.count
  tables : Compared front.tables other.tables front.rest other.rest

-- two fronts of the same bytes are such
fronts : (bytes : Bytes) (front other : Front bytes) → Fronts front other
fronts bytes front other =
    let cut = header_cut front.head other.head (length front.behind) (length other.behind)
    front.behind other.behind
    front.header.stands other.header.stands (sym front.header.whole ∙ other.header.whole) in
    record {
      counts = ap (λ head. head.count) cut.values;
      tables = compared front.tables other.tables front.rest other.rest
          front.listed.stands.within_limit other.listed.stands.within_limit
          (sym front.listed.whole ∙ (cut.rests ∙ other.listed.whole));
    }

-- where more tables are in order, the next one is
next_in_order :
    (tables : List NewTable) (next : NewTable) (news : List NewTable)
    → is_in_order (tables ++ next ∷ news) ≡ true
    → is_in_order (tables ++ next ∷ []) ≡ true
next_in_order [] next news order = refl
next_in_order (last ∷ []) next news order =
    rw ((and_parts (nat_lt (table_place last.table) (table_place next.table))
    (is_in_order (next ∷ news)) order).0) refl
next_in_order (first ∷ second ∷ tables) next news order =
    let parts =
    and_parts (nat_lt (table_place first.table) (table_place second.table))
    (is_in_order (second ∷ (tables ++ next ∷ news))) order in
    rw (parts.0, next_in_order (second ∷ tables) next news parts.1) refl

-- where more tables are within their limit, the next one is
next_within :
    (tables : List NewTable) (next : NewTable) (news : List NewTable)
    → is_within_limit (tables ++ next ∷ news) ≡ true
    → is_within_limit (next ∷ []) ≡ true
next_within [] next news within = first_within next news within
next_within (first ∷ tables) next news within =
    next_within tables next news (others_within first (tables ++ next ∷ news) within)

-- where another front goes on, a front has a next table
goes_on :
    (bytes : Bytes) (front other : Front bytes) (next : NewTable) (news : List NewTable)
    → other.tables ≡ front.tables ++ next ∷ news
    → front.rest ≡ table_parts (next ∷ news) ++ other.rest
    → BeginsWith (MayBeListed front.tables) table_part front.rest next
    (table_parts news ++ other.rest)
goes_on bytes front other next news lists rests = record {
  stands = record {
    in_order = next_in_order front.tables next news
        (subst (λ (ts : List NewTable). is_in_order ts ≡ true) lists other.listed.stands.in_order);
    within_limit = next_within front.tables next news
        (subst (λ (ts : List NewTable). is_within_limit ts ≡ true) lists
        other.listed.stands.within_limit);
  };
  whole = rests ∙ append_assoc (table_part next) (table_parts news) other.rest;
}

-- a front without a next table has as many tables as any other, or more
no_more :
    (bytes : Bytes) (front other : Front bytes)
    → BeginsWithNone (MayBeListed front.tables) table_part front.rest
    → length other.tables ≤ length front.tables
no_more bytes front other none = by_order (fronts bytes front other).tables
  where
    by_order :
        Compared front.tables other.tables front.rest other.rest
        → length other.tables ≤ length front.tables
    by_order (same lists rests) = let sizes = ap length lists in omega arith
    by_order (fewer next news lists rests) =
        absurd (none next (table_parts news ++ other.rest)
        (goes_on bytes front other next news lists rests))
    by_order (more next news lists rests) =
        let sizes = ap length lists in
        let sum = length-append other.tables (next ∷ news) in
        omega arith

-- The claim.

-- one first part at most doesn't stand
one_part :
    (bytes : Bytes) (part other : ℕ)
    → FirstFault bytes part
    → FirstFault bytes other
    → part ≡ other
one_part bytes _ _ (no_header none) (no_header none') = refl
one_part bytes _ _ (no_header none) (no_table front some next) =
    absurd (none front.head front.behind front.header)
one_part bytes _ _ (no_header none) (no_end front all end) =
    absurd (none front.head front.behind front.header)
one_part bytes _ _ (no_table front some next) (no_header none) =
    absurd (none front.head front.behind front.header)
one_part bytes _ _ (no_table front some next) (no_table front' some' next') =
    let most = no_more bytes front front' next in
    let least = no_more bytes front' front next' in
    omega arith
one_part bytes _ _ (no_table front some next) (no_end front' all end) =
    let most = no_more bytes front front' next in
    let counts = (fronts bytes front front').counts in
    absurd (omega arith)
one_part bytes _ _ (no_end front all end) (no_header none) =
    absurd (none front.head front.behind front.header)
one_part bytes _ _ (no_end front all end) (no_table front' some next) =
    let most = no_more bytes front' front next in
    let counts = (fronts bytes front front').counts in
    absurd (omega arith)
one_part bytes _ _ (no_end front all end) (no_end front' all' end') =
    let counts = (fronts bytes front front').counts in omega arith

-- the text of an intent is a front with all its tables
front_of : (bytes : Bytes) (intent : Intended) → ReadsIntent bytes intent → Front bytes
front_of bytes intent reads =
    let parts = allowed_parts intent reads.allowed in
    record {
      head = record {
        version = intent.version;
        number = intent.number;
        count = length intent.tables;
      };
      behind = body intent.tables;
      tables = intent.tables;
      rest = end_part;
      header = record {
        stands = record {
          number = parts.number;
          at_least_one = at_least parts.some;
          at_most_six = at_most_six intent.tables parts.in_order;
        };
        whole = reads.text;
      };
      listed = record {
        stands = record { in_order = parts.in_order; within_limit = parts.within_limit };
        whole = refl;
      };
    }
  where
    at_least : nat_le 1 (length intent.tables) ≡ true → 1 ≤ length intent.tables
    at_least some = grind (arith, nat_tests)

-- no part of bytes that read as an intent is one that doesn't stand
none_if_read :
    (bytes : Bytes) (part : ℕ) (intent : Intended)
    → FirstFault bytes part
    → ReadsIntent bytes intent
    → ⊥
unfolding front_of
none_if_read bytes _ intent (no_header none) reads =
    let front = front_of bytes intent reads in none front.head front.behind front.header
none_if_read bytes _ intent (no_table front some next) reads =
    let most : length intent.tables ≤ length front.tables =
    no_more bytes front (front_of bytes intent reads) next in
    let counts : front.head.count ≡ length intent.tables =
    (fronts bytes front (front_of bytes intent reads)).counts in
    omega arith
none_if_read bytes _ intent (no_end front all end) reads =
    by_order (fronts bytes front (front_of bytes intent reads)).tables
  where
    counts : front.head.count ≡ length intent.tables
    counts = (fronts bytes front (front_of bytes intent reads)).counts

    by_order : Compared front.tables intent.tables front.rest end_part → ⊥
    by_order (same lists rests) = end rests
    by_order (fewer next news lists rests) =
        let sizes = ap length lists in
        let sum = length-append front.tables (next ∷ news) in
        omega (arith, counts, all)
    by_order (more next news lists rests) =
        let sizes = ap length lists in
        let sum = length-append intent.tables (next ∷ news) in
        omega (arith, counts, all)

-- the law
pub first_fault_is_one_holds : FirstFaultIsOne
first_fault_is_one_holds = record { one_part = one_part; none_if_read = none_if_read }
