-- Claims: the table at a place of those that differ stood before (`next-stood`), and is the last of
-- those up to it (`with-next`); where no step is left, all are done (`all-done`, `none-left`), else there
-- is one at the place. What was read before is before the next (`before-after`), and files stay sound
-- with one table more (`sound-on`).
use Rattle.std.proofs.Common.{◌≡◌, refl, sym, ap, subst, ◌∙◌, ℕ, suc, ◌+◌, ◌-◌, ◌*◌, ◌<◌, ◌≤◌, Bool, true, false, ◌==◌, nat_lt, if◌then◌else◌, List, [], ◌∷◌, length, take, slice_get, Option, Some, None, All, true≢false, arith}
use Rattle.std.specs.Prelude.{IsSome, IsSomeAnd, IfSome, is_some, is_none}
use Rattle.std.proofs.lemmas.Bool.Decides.{nat_tests}
use Rattle.std.proofs.lemmas.List.{take_all, length-drop}
use Rattle.std.proofs.lemmas.List.Elements.{All-more, All-nil, All-cons, All-get_or}
use Rattle.std.proofs.lemmas.Option.{slice_get_within, get_or_from_slice_get}
use Rattle.acct_text.specs.declared.Tab.{Tab}
use Rattle.acct_text.specs.declared.Tab.TheVariants.{Passwd, Shadow, Group, Gshadow, Subuid, Subgid}
use Rattle.acct_text.specs.declared.files.Files.{Files}
use Rattle.acct_text.specs.Bytes.{Bytes}
use Rattle.acct_text.specs.Limits.{table_limit}
use Rattle.acct_text.specs.Contents.{Contents, same_content, IsChange}
use Rattle.acct_text.specs.Files.{table_of, with_table}
use Rattle.acct_text.proofs.FilesLemmas.{with_table-same, with_table-other}
use Rattle.acct_text.specs.Tables.{all_tables, table_place, same_table}
use Rattle.intent_file.specs.Intent.{NewTable}
use Rattle.acct_text.specs.ChangedTables.{with_new_table, changed_among}
use Rattle.acct_outside.proofs.NameLemmas.{table-is}
use Rattle.commit_steps.specs.States.{Change, Walker, AreSound, has_staged, old_files, new_files, changed, table_behind, is_before, steps_left, tables_left}
use Rattle.commit_steps.specs.Outcomes.{is_missing}

-- The tables that differ, where the same are absent before and after.
module _ (old new : Contents)
    (stands : (table : Tab) → is_some (new table) ≡ is_some (old table)) where
  -- one of the tables stood
  abbrev Stood : NewTable → Type 0
  Stood listed = IsSome (old listed.table)

  -- one table more, with what stands there after the change, before others
  stood-more : (table : Tab) (content : Option Bytes) → new table ≡ content →
      (news : List NewTable) → All Stood news → All Stood (with_new_table table content news)
  stood-more table None is news all = all
  stood-more table (Some bytes) is news all =
      All-cons Stood (record { table = table; bytes = bytes }) news
      (sym (stands table) ∙ ap is_some is) all

  -- each of them stood
  all-stood : (tables : List Tab) → All Stood (changed_among tables old new)
  all-stood [] = All-nil Stood
  all-stood (table ∷ tables) =
      cases (same_content (old table) (new table)) (all-stood tables)
    where
      cases : (same : Bool) → All Stood (changed_among tables old new) →
          All Stood (if same then changed_among tables old new
          else with_new_table table (new table) (changed_among tables old new))
      cases true rest = rest
      cases false rest = stood-more table (new table) refl (changed_among tables old new) rest

-- what holds of all elements holds of the one at a place
pub at-place : {X : Type 0} (Holds : X → Type 0) (list : List X) (place : ℕ) (next : X) →
    slice_get list place ≡ Some next → All Holds list → Holds next
at-place Holds list place next is all =
    subst Holds (get_or_from_slice_get list place next next is)
    (All-get_or Holds list place next (slice_get_within list place next is) all)

-- the table at a place of those that differ stood before
pub next-stood : (change : Change) (place : ℕ) (next : NewTable) →
    slice_get (changed change) place ≡ Some next → IsChange (old_files change) (new_files change) →
    IsSome (old_files change next.table)
next-stood change place next is allowed =
    at-place (Stood (old_files change) (new_files change) allowed.standing) (changed change) place
    next is (all-stood (old_files change) (new_files change) allowed.standing all_tables)

-- what holds of those before a place and of the one at it holds of those before the next place
pub with-next : {X : Type 0} (Holds : X → Type 0) (list : List X) (place : ℕ) (next : X) →
    slice_get list place ≡ Some next → All Holds (take place list) → Holds next →
    All Holds (take (place + 1) list)
with-next Holds list place next is all here =
    All-more Holds list place next (slice_get_within list place next is) all
    (subst Holds (sym (get_or_from_slice_get list place next next is)) here)

-- where a step is left, there is a table at the place
pub place-within : (tables place : ℕ) (staged : Bool) →
    0 < 2 * (tables - place) - (if staged then 1 else 0) → place < tables
place-within tables place true some = omega arith
place-within tables place false some = omega arith

-- where no step is left, the place is behind all tables
behind-all : (tables place : ℕ) (staged : Bool) →
    2 * (tables - place) - (if staged then 1 else 0) ≡ 0 → (staged ≡ true → place < tables) →
    tables ≤ place
behind-all tables place true none within = absurd (omega (arith, within refl))
behind-all tables place false none within = omega arith

-- what is said of one that is there is said of this one
pub which : {X : Type 0} (found : Option X) (Holds : X → Type 0) → IsSomeAnd found Holds →
    (next : X) × (found ≡ Some next) × Holds next
which (Some next) Holds holds = (next, refl, holds)
which None Holds holds = absurd holds

-- where no step is left, no table is
pub none-left : (walker : Walker) → steps_left walker ≡ 0 →
    (has_staged walker ≡ true → walker.place < length (changed walker.change)) →
    length (tables_left walker) ≡ 0
none-left walker none within =
    let tables = changed walker.change in
    let behind = behind-all (length tables) walker.place (has_staged walker) none within in
    omega (arith, length-drop walker.place tables, behind)

-- where no step is left, all tables are done
pub all-done : (walker : Walker) → steps_left walker ≡ 0 →
    (has_staged walker ≡ true → walker.place < length (changed walker.change)) →
    take walker.place (changed walker.change) ≡ changed walker.change
all-done walker none within = take_all walker.place (changed walker.change)
    (behind-all (length (changed walker.change)) walker.place (has_staged walker) none within)

-- a table before the one after this is this one or before it
pub before-after : (table other : Tab) → is_before other (table_behind table) ≡ true →
    same_table other table ≡ false → is_before other (Some table) ≡ true
before-after table other before differs = steps (table_place other) (table_place table)
    (counted table other before) differs
  where
    counted : (table other : Tab) → is_before other (table_behind table) ≡ true →
        table_place other < suc (table_place table)
    counted Subgid Passwd before = omega arith
    counted Subgid Shadow before = omega arith
    counted Subgid Group before = omega arith
    counted Subgid Gshadow before = omega arith
    counted Subgid Subuid before = omega arith
    counted Subgid Subgid before = omega arith
    counted table other before = grind (arith, nat_tests, before)

    steps : (place next : ℕ) → place < suc next → (place == next) ≡ false →
        nat_lt place next ≡ true
    steps place next below apart = grind (arith, nat_tests, below, apart)

-- files stay sound with one table more, where a needed one stands and each is within its limit
pub sound-on : (table : Tab) (content : Option Bytes) (files : Files) →
    AreSound (Some table) files → is_missing table content ≡ false →
    IfSome content (λ bytes. length bytes ≤ table_limit) →
    AreSound (table_behind table) (with_table table content files)
sound-on table content files sound stands limit = record {
  passwd = passwd-on table content files sound stands;
  group = group-on table content files sound stands;
  small = λ other bytes is. small-on other bytes (same_table other table) refl is;
}
  where
    within : (content : Option Bytes) → IfSome content (λ bytes. length bytes ≤ table_limit) →
        (bytes : Bytes) → content ≡ Some bytes → length bytes ≤ table_limit
    within (Some held) most bytes is =
        subst (λ (one : Bytes). length one ≤ table_limit) (cc is) most
    within None most bytes is = absurd (cc is)

    small-on : (other : Tab) (bytes : Bytes) (same : Bool) → same_table other table ≡ same →
        table_of (with_table table content files) other ≡ Some bytes → length bytes ≤ table_limit
    small-on other bytes true same is = within content limit bytes
        (sym (with_table-same table content files)
        ∙ (ap (table_of (with_table table content files)) (sym (table-is other table same)) ∙ is))
    small-on other bytes false differs is = sound.small other bytes
        (sym (with_table-other table other content files differs) ∙ is)

    stands-then : (content : Option Bytes) → is_none content ≡ false → IsSome content
    stands-then (Some bytes) some = refl
    stands-then None some = absurd (true≢false some)

    passwd-on : (table : Tab) (content : Option Bytes) (files : Files) →
        AreSound (Some table) files → is_missing table content ≡ false →
        is_before Passwd (table_behind table) ≡ true →
        IsSome (with_table table content files).passwd
    passwd-on Passwd content files sound stands before = stands-then content stands
    passwd-on table content files sound stands before = sound.passwd refl

    group-on : (table : Tab) (content : Option Bytes) (files : Files) →
        AreSound (Some table) files → is_missing table content ≡ false →
        is_before Group (table_behind table) ≡ true →
        IsSome (with_table table content files).group
    group-on Passwd content files sound stands before = absurd (true≢false (sym before))
    group-on Shadow content files sound stands before = absurd (true≢false (sym before))
    group-on Group content files sound stands before = stands-then content stands
    group-on table content files sound stands before = sound.group refl
