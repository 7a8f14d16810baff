-- The tables that differ stand in an intent: at least one, in the fixed order, within their limit
-- (`changed-allowed`). Way: one table more is at most one listed more, and comes before those of
-- later places.
use Rattle.std.proofs.Common.{add-one, append_assoc, append-nil, drop, drop-cons, get_or, ◌++◌, ◌+◌, ◌<◌, ◌≡◌, refl, sym, ap, ◌∙◌, ℕ, suc, ◌≤◌, Bool, true, false, ◌&&◌, if◌then◌else◌, nat_le, nat_lt, List, [], ◌∷◌, length, Option, Some, None, is_some, true≢false, arith}
use Rattle.std.specs.List.{AllByRecursion}
use Rattle.std.proofs.lemmas.List.{drop_all}
use Rattle.std.proofs.lemmas.Bool.{and_parts}
use Rattle.std.proofs.lemmas.Bool.Decides.{nat_tests}
use Rattle.std.proofs.lemmas.Slice.Eq.{bytes_eq-Decides}
use Rattle.acct_text.specs.declared.Tab.{Tab}
use Rattle.acct_text.specs.declared.Tab.TheVariants.{Passwd, Shadow, Group, Gshadow, Subuid, Subgid}
use Rattle.acct_text.specs.Bytes.{Bytes}
use Rattle.acct_text.specs.Limits.{table_limit}
use Rattle.acct_text.specs.Tables.{all_tables, table_place}
use Rattle.acct_text.specs.Contents.{Contents, same_content, IsChange}
use Rattle.acct_text.specs.ChangedTables.{with_new_table, changed_among, changed_bytes, changed_tables}
use Rattle.acct_text.proofs.ChangedTablesLemmas.{changed_among-cons, with_new_table-append}
use Rattle.intent_file.specs.Intent.{NewTable, intent_of, is_in_order, is_within_limit, is_lock_number, is_allowed}

-- the same content is one
pub content-is : (old new : Option Bytes) → same_content old new ≡ true → new ≡ old
content-is None None same = refl
content-is (Some b) (Some c) same = ap (λ (x : Bytes). Some x) (sym ((bytes_eq-Decides b c).0 same))
content-is old new same = absurd (true≢false (sym same))

-- each table has the place or a later one, and they are in order
abbrev is_from : ℕ → List NewTable → Bool
is_from place [] = true
is_from place (next ∷ news) =
    nat_le place (table_place next.table) && is_from (suc (table_place next.table)) news

-- two tests that hold, hold both
both : (a b : Bool) → a ≡ true → b ≡ true → (a && b) ≡ true
both a b holds holds' = rw (holds, holds') refl

-- tables from one place on are from an earlier one on
from-earlier :
    (place : ℕ) (news : List NewTable)
    → is_from (suc place) news ≡ true
    → is_from place news ≡ true
from-earlier place [] is = refl
from-earlier place (next ∷ news) is =
    let parts =
    and_parts (nat_le (suc place) (table_place next.table))
    (is_from (suc (table_place next.table)) news) is in
    both (nat_le place (table_place next.table)) (is_from (suc (table_place next.table)) news)
    (less parts.0) parts.1
  where
    less :
        nat_le (suc place) (table_place next.table) ≡ true
        → nat_le place (table_place next.table) ≡ true
    less later = grind (arith, nat_tests, later)

-- tables from a place on are in order
from-in_order :
    (place : ℕ) (news : List NewTable)
    → is_from place news ≡ true
    → is_in_order news ≡ true
from-in_order place [] is = refl
from-in_order place (new ∷ []) is = refl
from-in_order place (new ∷ next ∷ news) is =
    let later =
    and_parts (nat_le place (table_place new.table))
    (is_from (suc (table_place new.table)) (next ∷ news)) is in
    let parts =
    and_parts (nat_le (suc (table_place new.table)) (table_place next.table))
    (is_from (suc (table_place next.table)) news) later.1 in
    both (nat_lt (table_place new.table) (table_place next.table)) (is_in_order (next ∷ news))
    (less parts.0)
    (from-in_order (suc (table_place new.table)) (next ∷ news) later.1)
  where
    less :
        nat_le (suc (table_place new.table)) (table_place next.table) ≡ true
        → nat_lt (table_place new.table) (table_place next.table) ≡ true
    less is_later = grind (arith, nat_tests, is_later)

-- one table more is from its place on
from-cons :
    (table : Tab) (bytes : Option Bytes) (news : List NewTable)
    → is_from (suc (table_place table)) news ≡ true
    → is_from (table_place table) (with_new_table table bytes news) ≡ true
from-cons table None news is = from-earlier (table_place table) news is
from-cons table (Some bytes) news is =
    both (nat_le (table_place table) (table_place table))
    (is_from (suc (table_place table)) news) same is
  where
    same : nat_le (table_place table) (table_place table) ≡ true
    same = grind (arith, nat_tests)

-- the tables that differ, so far as they are one more than others
from-changed :
    (table : Tab) (tables : List Tab) (old new : Contents)
    → is_from (suc (table_place table)) (changed_among tables old new) ≡ true
    → is_from (table_place table) (changed_among (table ∷ tables) old new) ≡ true
from-changed table tables old new is =
    ap (is_from (table_place table)) (changed_among-cons table tables old new)
    ∙ from-cons table (changed_bytes (old table) (new table)) (changed_among tables old new) is

-- the tables that differ are in order
changed-in_order : (old new : Contents) → is_in_order (changed_tables old new) ≡ true
changed-in_order old new = from-in_order 0 (changed_tables old new)
    (from-changed Passwd (Shadow ∷ Group ∷ Gshadow ∷ Subuid ∷ Subgid ∷ []) old new
    (from-changed Shadow (Group ∷ Gshadow ∷ Subuid ∷ Subgid ∷ []) old new
    (from-changed Group (Gshadow ∷ Subuid ∷ Subgid ∷ []) old new
    (from-changed Gshadow (Subuid ∷ Subgid ∷ []) old new
    (from-changed Subuid (Subgid ∷ []) old new
    (from-changed Subgid [] old new refl))))))

-- the tables that differ are within their limit
changed-within_limit :
    (tables : List Tab) (old new : Contents)
    → ((table : Tab) (bytes : Bytes) → new table ≡ Some bytes → length bytes ≤ table_limit)
    → is_within_limit (changed_among tables old new) ≡ true
changed-within_limit [] old new small = refl
changed-within_limit (table ∷ tables) old new small =
    by_test (changed-within_limit tables old new small) (same_content (old table) (new table))
    (new table) refl
  where
    below : (bytes : Bytes) → length bytes ≤ table_limit → nat_le (length bytes) table_limit ≡ true
    below bytes most = grind (arith, nat_tests, most)

    by_test :
        is_within_limit (changed_among tables old new) ≡ true
        → (is_same : Bool) (now : Option Bytes)
        → new table ≡ now
        → is_within_limit
        (if is_same then changed_among tables old new else with_new_table table now
        (changed_among tables old new)) ≡ true
    by_test within true now is = within
    by_test within false None is = within
    by_test within false (Some bytes) is =
        both (nat_le (length bytes) table_limit) (is_within_limit (changed_among tables old new))
        (below bytes (small table bytes is)) within

-- a table that stays absent is the same
both_absent : (old new : Option Bytes) → is_some new ≡ is_some old → new ≡ None → new ≡ old
both_absent None new standing is = is
both_absent (Some bytes) new standing is = absurd (true≢false (sym standing ∙ ap is_some is))

-- where no table is listed, each is the same
none-changed :
    (tables : List Tab) (old new : Contents)
    → ((table : Tab) → is_some (new table) ≡ is_some (old table))
    → changed_among tables old new ≡ []
    → AllByRecursion (λ table. new table ≡ old table) tables
none-changed [] old new standing none = tt
none-changed (table ∷ tables) old new standing none =
    by_test (none-changed tables old new standing) (same_content (old table) (new table)) refl
    (new table) refl none
  where
    by_test :
        (changed_among tables old new ≡ [] → AllByRecursion (λ t. new t ≡ old t) tables)
        → (is_same : Bool)
        → same_content (old table) (new table) ≡ is_same
        → (now : Option Bytes)
        → new table ≡ now
        → (if is_same then changed_among tables old new else with_new_table table now
        (changed_among tables old new)) ≡ []
        → AllByRecursion (λ t. new t ≡ old t) (table ∷ tables)
    by_test later true same now is empty = (content-is (old table) (new table) same, later empty)
    by_test later false other None is empty =
        (both_absent (old table) (new table) (standing table) is, later empty)
    by_test later false other (Some bytes) is empty = absurd (cc)

-- a change has a table that differs
changed-some :
    (old new : Contents)
    → IsChange old new
    → nat_le 1 (length (changed_tables old new)) ≡ true
changed-some old new change = by_list (changed_tables old new) refl
  where
    each : AllByRecursion (λ t. new t ≡ old t) all_tables → (table : Tab) → new table ≡ old table
    each all Passwd = all.0
    each all Shadow = all.1.0
    each all Group = all.1.1.0
    each all Gshadow = all.1.1.1.0
    each all Subuid = all.1.1.1.1.0
    each all Subgid = all.1.1.1.1.1.0

    one : (count : ℕ) → nat_le 1 (suc count) ≡ true
    one count = grind (arith, nat_tests)

    by_list : (news : List NewTable) → changed_tables old new ≡ news → nat_le 1 (length news) ≡ true
    by_list [] none =
        absurd (change.changed.1
        (each (none-changed all_tables old new change.standing none) change.changed.0))
    by_list (next ∷ news) is = one (length news)

-- the intent of a change under a lock is allowed
pub changed-allowed :
    (number : ℕ) (old new : Contents)
    → is_lock_number number ≡ true
    → IsChange old new
    → is_allowed (intent_of number old new) ≡ true
changed-allowed number old new is_lock change =
    let tables = changed_tables old new in
    rw (
      is_lock,
      changed-some old new change,
      changed-in_order old new,
      changed-within_limit
          all_tables old new change.small,
    ) refl

-- Going over all tables.

module _ (all : List Tab) (old new : Contents) (place : ℕ) (default : Tab) where
  -- the table at the place
  abbrev at_place : Tab
  at_place = get_or all place default

  -- what it adds
  abbrev added : Option Bytes
  added = changed_bytes (old at_place) (new at_place)

  -- what is listed so far and what is to come stays the same, table by table
  pub changed-step :
      (done next whole : List NewTable)
      → place < length all
      → done ++ changed_among (drop place all) old new ≡ whole
      → next ≡ done ++ with_new_table at_place added []
      → next ++ changed_among (drop (place + 1) all) old new ≡ whole
  changed-step done next whole within so_far next_is =
      let rest = changed_among (drop (suc place) all) old new in
      let shorter : drop place all ≡ at_place ∷ drop (suc place) all =
      drop-cons all place default within in
      rw add-one (ap (λ (news : List NewTable). news ++ rest) next_is
      ∙ (append_assoc done (with_new_table at_place added []) rest
      ∙ (ap (λ (news : List NewTable). done ++ news)
      (with_new_table-append at_place added rest
      ∙ (sym (changed_among-cons at_place (drop (suc place) all) old new)
      ∙ ap (λ (tables : List Tab). changed_among tables old new) (sym shorter)))
      ∙ so_far)))

-- at the end all are listed
pub changed-end :
    (all : List Tab) (old new : Contents) (place : ℕ) (done whole : List NewTable)
    → length all ≤ place
    → done ++ changed_among (drop place all) old new ≡ whole
    → done ≡ whole
changed-end all old new place done whole past so_far =
    sym (append-nil done)
    ∙ (ap (λ (tables : List Tab). done ++ changed_among tables old new)
    (sym (drop_all place all past)) ∙ so_far)
