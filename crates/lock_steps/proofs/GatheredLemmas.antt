-- Claims: what is kept is what was found, before the first read behind the intent (`begun-found`) and after
-- each (`read-found`); the names that are left are unread (`rest-unread`), and the files
-- within their limit (`small-seen`, `small-with`).
-- Way: a file that is read changes what is kept of its own name alone (`kept-there`, `kept-elsewhere`). Of
-- the inputs those are left that aren't listed (`in-filter`), each once.
use Rattle.std.proofs.Common.{◌≡◌, refl, sym, ap, ap₂, subst, ◌∙◌, ◌<◌, ◌≤◌, Bool, true, false, ◌||◌, ◌&&◌, if◌then◌else◌, List, [], ◌∷◌, ◌++◌, length, filter, get_or, drop, Option, Some, None, All, true≢false, arith}
use Rattle.std.specs.Prelude.{IfSome, is_none, is_some}
use Rattle.std.proofs.Math.Bool.{and-false, or-false}
use Rattle.std.proofs.lemmas.Bool.{and_left, or_from, or_parts}
use Rattle.std.proofs.lemmas.List.Elements.{All-head, All-tail}
use Rattle.std.proofs.lemmas.List.Folds.{list_any-append}
use Rattle.std.proofs.lemmas.Map.Views.{any-filter_same}
use Rattle.acct_text.specs.declared.Tab.{Tab}
use Rattle.acct_text.specs.declared.Tab.TheVariants.{Passwd, Shadow, Group, Gshadow, Subuid, Subgid}
use Rattle.acct_text.specs.declared.files.Files.{Files}
use Rattle.acct_text.specs.Bytes.{Bytes}
use Rattle.acct_text.specs.Files.{no_files, table_of, with_table}
use Rattle.acct_text.specs.Limits.{table_limit}
use Rattle.acct_text.specs.SeenTables.{is_among, seen_of, seen_through}
use Rattle.acct_text.specs.Tables.{same_table}
use Rattle.acct_outside.specs.declared.Name.{Name}
use Rattle.acct_outside.specs.declared.Name.TheVariants.{Table, Intent, Defs}
use Rattle.acct_outside.specs.Names.{same_name}
use Rattle.acct_outside.specs.Calls.{Found, found_absent, found_bytes, found_too_large}
use Rattle.intent_file.specs.Intent.{NewTable, listed_in}
use Rattle.suite_rules.specs.Knowledge.{is_input}
use Rattle.suite_rules.specs.Listing.{watched_with}
use Rattle.acct_outside.proofs.NameLemmas.{name-is, name-same, table-is}
use Rattle.suite_rules.proofs.Names.{table-turned, fails-apart}
use Rattle.lock_steps.specs.declared.gathered.IntentFound.{IntentFound}
use Rattle.lock_steps.specs.Gathered.{AreSmall, AreUnread, Gathered, HasFound, TellsIntent, content_at, defs_with, files_with_content, awaits, first_gathered, found_as, gathered_at, held_bytes, inputs, is_in, is_known, is_large, is_readable, known_of, lacks, large_with, listed_at, names_behind, with_content, with_found, with_listed}
use Rattle.acct_text.proofs.FilesLemmas.{seen-there, with_table-same, with_table-other}

-- the test takes either first
name-turned : (name other : Name) → same_name other name ≡ false → same_name name other ≡ false
name-turned name other differs = cases (same_name name other) refl
  where
    cases : (same : Bool) → same_name name other ≡ same → same ≡ false
    cases true is = sym (ap (same_name other) (name-is name other is) ∙ name-same other) ∙ differs
    cases false is = refl

-- each file stays within the limit with one more
pub small-with : (table : Tab) (content : Option Bytes) (files : Files) (defs : Option Bytes) →
    AreSmall files defs → IfSome content (λ bytes. length bytes ≤ table_limit) →
    AreSmall (with_table table content files) defs
small-with table content files defs small limit = record {
  tables = λ other bytes is. cases other bytes (same_table other table) refl is;
  settings = small.settings;
}
  where
    within : (content : Option Bytes) → IfSome content (λ bytes. length bytes ≤ table_limit) →
        (bytes : Bytes) → content ≡ Some bytes → length bytes ≤ table_limit
    within (Some held) most bytes is = subst (λ (one : Bytes). length one ≤ table_limit) (cc is)
        most
    within None most bytes is = absurd (cc is)

    cases : (other : Tab) (bytes : Bytes) (same : Bool) → same_table other table ≡ same →
        table_of (with_table table content files) other ≡ Some bytes → length bytes ≤ table_limit
    cases other bytes true same is = within content limit bytes
        (sym (with_table-same table content files)
        ∙ (ap (table_of (with_table table content files)) (sym (table-is other table same)) ∙ is))
    cases other bytes false differs is = small.tables other bytes
        (sym (with_table-other table other content files differs) ∙ is)

-- no file is there
none-there : (table : Tab) → table_of no_files table ≡ None
none-there Passwd = refl
none-there table = refl

-- the listed files are within the limit, where the listed tables are
small-listed : (tables : List NewTable) → All (λ new. length new.bytes ≤ table_limit) tables →
    AreSmall (with_listed tables no_files) None
small-listed [] all = record {
  tables = λ table bytes is. absurd (cc (sym (none-there table) ∙ is));
  settings = tt;
}
small-listed (new ∷ news) all =
    let Small : NewTable → Type 0 = λ new. length new.bytes ≤ table_limit in
    small-with new.table (Some new.bytes) (with_listed news no_files) None
    (small-listed news (All-tail Small new news all)) (All-head Small new news all)

-- so are they as they are seen through some tables
pub small-seen : (wanted : List Tab) (tables : List NewTable) →
    All (λ new. length new.bytes ≤ table_limit) tables →
    AreSmall (seen_through wanted (with_listed tables no_files)) None
small-seen wanted tables all = record {
  tables = λ table bytes is. cases table bytes (is_among wanted table)
      (sym (seen-there wanted (with_listed tables no_files) table) ∙ is);
  settings = tt;
}
  where
    cases : (table : Tab) (bytes : Bytes) (among : Bool) →
        (if among then table_of (with_listed tables no_files) table else Some []) ≡ Some bytes →
        length bytes ≤ table_limit
    cases table bytes true is = (small-listed tables all).tables table bytes is
    cases table bytes false is =
        let none : [] ≡ bytes = cc is in
        subst (λ (one : Bytes). length one ≤ table_limit) none (omega arith)

-- of the listed files each is as it is listed
pub listed-there : (tables : List NewTable) (table : Tab) →
    table_of (with_listed tables no_files) table ≡ listed_in tables table
listed-there [] table = none-there table
listed-there (new ∷ news) table =
    cases (listed-there news table) (same_table new.table table) refl
  where
    files : Files
    files = with_listed news no_files

    cases : table_of files table ≡ listed_in news table →
        (same : Bool) → same_table new.table table ≡ same →
        table_of (with_table new.table (Some new.bytes) files) table
        ≡ (if same_table new.table table then Some new.bytes else listed_in news table)
    cases behind true same = rw same (ap (table_of (with_table new.table (Some new.bytes) files))
        (sym (table-is new.table table same)) ∙ with_table-same new.table (Some new.bytes) files)
    cases behind false differs = rw differs (with_table-other new.table table (Some new.bytes) files
        (table-turned table new.table differs) ∙ behind)

-- the last of the listed tables is put first
pub listed-last : (tables : List NewTable) (new : NewTable) (files : Files) →
    with_listed (tables ++ new ∷ []) files
    ≡ with_listed tables (with_table new.table (Some new.bytes) files)
listed-last [] new files = refl
listed-last (first ∷ tables) new files =
    ap (with_table first.table (Some first.bytes)) (listed-last tables new files)

-- a name is among those that pass a test where it is among all and passes it
in-filter : (test : Name → Bool) (name : Name) (names : List Name) →
    is_in name (filter test names) ≡ (test name && is_in name names)
in-filter test name names = any-filter_same (λ other. same_name other name) test (test name)
    (λ other same. ap test (name-is other name same)) names

-- one more is among the names where it is that one, or was
in-more : (name other : Name) (names : List Name) →
    is_in other (names ++ name ∷ []) ≡ (is_in other names || (same_name name other || false))
in-more name other names = list_any-append (λ one. same_name one other) names (name ∷ [])

-- the others stay unread where one more is told too large
unread-more : (large : List Name) (name : Name) (names : List Name) → AreUnread large names →
    is_in name names ≡ false → AreUnread (large ++ name ∷ []) names
unread-more large name [] unread apart = tt
unread-more large name (other ∷ names) unread apart =
    let parts = or_parts (same_name other name) (is_in name names) apart in (
      unread.0,
      in-more name other large
          ∙ or_from (is_in other large) (same_name name other || false) unread.1
          (or_from (same_name name other) false (name-turned name other parts.0) refl),
      unread.2,
      unread-more large name names unread.3 parts.1,
    )

-- once the first of the names is read, the others are unread
pub rest-unread : (large : List Name) (name : Name) (names : List Name) (found : Found) →
    AreUnread large (name ∷ names) → AreUnread (large_with name found large) names
rest-unread large name names found_absent unread = unread.3
rest-unread large name names (found_bytes bytes) unread = unread.3
rest-unread large name names found_too_large unread =
    unread-more large name names unread.3 unread.2

-- the same of the first of a list
pub first-read : (large left : List Name) (name : Name) (found : Found) → 0 < length left →
    name ≡ get_or left 0 name → AreUnread large left →
    AreUnread (large_with name found large) (drop 1 left)
first-read large [] name found some is unread = absurd (omega (arith, some))
first-read large (first ∷ names) name found some is unread =
    subst (λ (one : Name). AreUnread (large_with one found large) names) (sym is)
    (rest-unread large first names found unread)

-- of another name it is told as before whether it is too large
large-elsewhere : (name other : Name) (found : Found) (large : List Name) →
    same_name other name ≡ false → is_in other (large_with name found large) ≡ is_in other large
large-elsewhere name other found_absent large differs = refl
large-elsewhere name other (found_bytes bytes) large differs = refl
large-elsewhere name other found_too_large large differs = in-more name other large
    ∙ (ap (λ (same : Bool). is_in other large || (same || false)) (name-turned name other differs)
    ∙ or-false (is_in other large))

-- of another table the same bytes are kept
files-elsewhere : (name : Name) (table : Tab) (content : Option Bytes) (files : Files) →
    same_name (Table table) name ≡ false →
    table_of (files_with_content name content files) table ≡ table_of files table
files-elsewhere (Table other) table content files differs =
    with_table-other other table content files differs
files-elsewhere name table content files differs = refl

-- of another table or login.defs the same is kept
kept-elsewhere : (name other : Name) (found : Found) (gathered : Gathered) →
    same_name other name ≡ false →
    gathered_at (with_found name found gathered) other ≡ gathered_at gathered other
kept-elsewhere name other found gathered differs = ap₂ found_as
    (large-elsewhere name other found gathered.large differs) (same_content other differs)
  where
    defs-elsewhere : (name : Name) (content defs : Option Bytes) → same_name Defs name ≡ false →
        defs_with name content defs ≡ defs
    defs-elsewhere Defs content defs differs = absurd (true≢false differs)
    defs-elsewhere name content defs differs = refl

    same_content : (other : Name) → same_name other name ≡ false →
        content_at (with_found name found gathered) other ≡ content_at gathered other
    same_content (Table table) differs =
        files-elsewhere name table (held_bytes found) gathered.files differs
    same_content Defs differs = defs-elsewhere name (held_bytes found) gathered.defs differs
    same_content other differs = refl

-- of the name that was read just what was found is kept
kept-there : (name : Name) → is_input name ≡ true → (found : Found) (gathered : Gathered) →
    is_large gathered name ≡ false → gathered_at (with_found name found gathered) name ≡ found
kept-there name input found gathered unread = kept found
  where
    content-there : (name : Name) (content : Option Bytes) → is_input name ≡ true →
        content_at (with_content name content gathered) name ≡ content
    content-there (Table table) content input = with_table-same table content gathered.files
    content-there Defs content input = refl
    content-there name content input = absurd (true≢false (sym input))

    kept : (found : Found) → gathered_at (with_found name found gathered) name ≡ found
    kept found_absent = ap₂ found_as unread (content-there name None input)
    kept (found_bytes bytes) = ap₂ found_as unread (content-there name (Some bytes) input)
    kept found_too_large = ap (λ (large : Bool). found_as large
        (content_at (with_found name found_too_large gathered) name))
        (in-more name name gathered.large
        ∙ ap₂ (λ (was same : Bool). was || (same || false)) unread (name-same name))

-- Before any other read, what is kept is what was found at the intent.
pub begun-found : (wanted : List Tab) (watched : Name → Option Found) (found : Found)
    (intent : IntentFound) → TellsIntent found intent →
    HasFound wanted (watched_with Intent found watched)
    (first_gathered wanted intent (listed_at found))
    (names_behind (first_gathered wanted intent (listed_at found)))
begun-found wanted watched found intent told = record {
  found = found;
  at_intent = refl;
  told = told;
  known = λ table bytes is. known-there table ∙ is;
  taken = λ table bytes is. (
    refl,
    in-filter left (Table table) inputs ∙ and_left (left (Table table)) (is_in (Table table) inputs)
        (ap (λ (content : Option Bytes). is_readable intent && is_none content)
        (known-there table ∙ is)
        ∙ and-false (is_readable intent)),
  );
  unknown = λ readable name input unknown gone. absurd (true≢false (sym
      (in-filter left name inputs ∙ ap₂ (λ (one two : Bool). one && two)
      (ap₂ (λ (one two : Bool). one && two) readable (lacks-it name unknown))
      (is-input name input))
      ∙ gone));
}
  where
    files : Files
    files = seen_through wanted (with_listed (listed_at found) no_files)

    left : Name → Bool
    left = awaits (first_gathered wanted intent (listed_at found))

    known-there : (table : Tab) → table_of files table ≡ known_of wanted found table
    known-there table = seen-there wanted (with_listed (listed_at found) no_files) table
        ∙ ap (seen_of wanted table) (listed-there (listed_at found) table)

    none-then : (content : Option Bytes) → is_some content ≡ false → is_none content ≡ true
    none-then None is = refl
    none-then (Some bytes) is = absurd (true≢false is)

    lacks-it : (name : Name) → is_known wanted found name ≡ false → lacks files name ≡ true
    lacks-it (Table table) unknown =
        ap is_none (known-there table) ∙ none-then (known_of wanted found table) unknown
    lacks-it name unknown = refl

    is-input : (name : Name) → is_input name ≡ true → is_in name inputs ≡ true
    is-input (Table Passwd) input = refl
    is-input (Table Shadow) input = refl
    is-input (Table Group) input = refl
    is-input (Table Gshadow) input = refl
    is-input (Table Subuid) input = refl
    is-input (Table Subgid) input = refl
    is-input Defs input = refl
    is-input name input = absurd (true≢false (sym input))

-- Once the first of the names that are left is read, what is kept is what was found.
pub read-found : (wanted : List Tab) (watched : Name → Option Found)
    (gathered : Gathered) (name : Name)
    (names : List Name) (found : Found) → AreUnread gathered.large (name ∷ names) →
    HasFound wanted watched gathered (name ∷ names) →
    HasFound wanted (watched_with name found watched) (with_found name found gathered) names
read-found wanted watched gathered name names found unread held = record {
  found = held.found;
  at_intent = rw (fails-apart is_input Intent name refl unread.0) held.at_intent;
  told = held.told;
  known = λ table bytes is.
      files-elsewhere name table (held_bytes found) gathered.files (other-table table bytes is)
      ∙ held.known table bytes is;
  taken = λ table bytes is. (
    large-elsewhere name (Table table) found gathered.large (other-table table bytes is)
        ∙ (held.taken table bytes is).0,
    (or_parts (same_name name (Table table)) (is_in (Table table) names)
        (held.taken table bytes is).1).1,
  );
  unknown = λ readable other input unknown gone.
      cases readable other input unknown gone (same_name other name) refl;
}
  where
    other-table : (table : Tab) (bytes : Bytes) → known_of wanted held.found table ≡ Some bytes →
        same_name (Table table) name ≡ false
    other-table table bytes is = name-turned (Table table) name
        (or_parts (same_name name (Table table)) (is_in (Table table) names)
        (held.taken table bytes is).1).0

    cases : is_readable gathered.intent ≡ true → (other : Name) → is_input other ≡ true →
        is_known wanted held.found other ≡ false → is_in other names ≡ false →
        (same : Bool) → same_name other name ≡ same →
        (if same_name other name then Some found else watched other)
        ≡ Some (gathered_at (with_found name found gathered) other)
    cases readable other input unknown gone true same = rw same
        (ap (λ (one : Found). let some : Option Found = Some one in some)
        (sym (ap (gathered_at (with_found name found gathered)) (name-is other name same)
        ∙ kept-there name unread.0 found gathered unread.1)))
    cases readable other input unknown gone false differs = rw differs
        (held.unknown readable other input unknown
        (or_from (same_name name other) (is_in other names) (name-turned name other differs) gone)
        ∙ ap (λ (one : Found). let some : Option Found = Some one in some)
        (sym (kept-elsewhere name other found gathered differs)))
