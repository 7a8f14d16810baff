-- Claims: where a report's first problem is one of a file that it has shown, that is the first problem of all
-- files that are as was shown, seen through the tables that it wanted (`problem-first`); and where it has
-- none, those are the files that it has kept (`shown-files`).
-- Way: what was found at a table is kept or too large (`as-found`), so each table has the problem that the
-- report finds (`table-by`); the first of a list of problems is that of the first table that has one
-- (`first-of`).
use Rattle.std.proofs.Common.{◌≡◌, refl, sym, ap, subst, ◌∙◌, ◌≤◌, ◌&&◌, ◌||◌, Bool, true, false, cond, nat_lt, if◌then◌else◌, List, [], ◌∷◌, ◌++◌, length, map, Option, Some, None, true≢false}
use Rattle.std.specs.Prelude.{find, is_none, is_some, unwrap_or}
use Rattle.std.specs.List.{AllByRecursion}
use Rattle.std.specs.Option.{option_and_then}
use Rattle.std.proofs.lemmas.Bool.{le-leb, ltb-true}
use Rattle.acct_text.specs.declared.Tab.{Tab}
use Rattle.acct_text.specs.declared.Tab.TheVariants.{Passwd, Shadow, Group, Gshadow, Subuid, Subgid}
use Rattle.acct_text.specs.declared.files.Files.{Files}
use Rattle.acct_text.specs.Bytes.{Bytes}
use Rattle.acct_text.specs.Contents.{Contents}
use Rattle.acct_text.specs.Files.{table_of}
use Rattle.acct_text.specs.Limits.{table_limit}
use Rattle.acct_text.specs.SeenTables.{is_among, seen_of, seen_through}
use Rattle.acct_text.specs.Tables.{all_tables}
use Rattle.acct_text.proofs.FilesLemmas.{seen-there}
use Rattle.acct_outside.specs.declared.Name.TheVariants.{Table, Defs}
use Rattle.acct_outside.specs.Calls.{Found, found_absent, found_bytes, found_too_large, found_within}
use Rattle.account_model.specs.Text.{first_some}
use Rattle.account_model.specs.Answer.{FileProblem, SettingsTooLarge, TableAbsent, TableTooLarge, files_problem, must_stand, settings_problem, table_problem}
use Rattle.intent_file.specs.Intent.{Intended, ReadsIntent, listed_in}
use Rattle.suite_rules.specs.Knowledge.{whole_content}
use Rattle.suite_rules.specs.Settled.{listed_by}
use Rattle.suite_rules.specs.Shown.{AreShown, Shown, ShowsIntent}
use Rattle.lock_steps.specs.declared.gathered.IntentFound.{IntentFound}
use Rattle.lock_steps.specs.declared.gathered.IntentFound.TheVariants.{Absent, Listed, TooLarge, Damaged}
use Rattle.lock_steps.specs.Gathered.{AreSmall, Gathered, HasFound, TellsIntent, found_as, gathered_at, is_large, is_readable, known_of, listed_at}
use Rattle.suite_session.specs.Deeds.{files_of}
use Rattle.suite_session.specs.Reporting.{bad_settings, bad_table, first_problem, is_unusable}
use Rattle.suite_session.proofs.ProblemLemmas.{IsLarge, large-settings, large-table}

-- the files of contents have these
pub files-have : (contents : Contents) (table : Tab) →
    table_of (files_of contents) table ≡ contents table
files-have contents Passwd = refl
files-have contents table = refl

-- ---- What was found

-- what stands where this is kept: too much, or just that
abbrev IsKept : Bool → Option Bytes → Option Bytes → Type 0
IsKept true kept stands = IsLarge stands
IsKept false kept stands = stands ≡ kept

-- so it is where a read within the limit found so
as-found : (large : Bool) (kept stands : Option Bytes) →
    found_as large kept ≡ found_within table_limit stands → IsKept large kept stands
as-found true kept None is = absurd (cc is)
as-found true kept (Some bytes) is = cases (nat_lt table_limit (length bytes)) refl is
  where
    cases : (more : Bool) → nat_lt table_limit (length bytes) ≡ more →
        found_too_large ≡ (if more then found_too_large else found_bytes bytes) →
        IsLarge (Some bytes)
    cases true more found = (bytes, refl, ltb-true table_limit (length bytes) more)
    cases false more found = absurd (cc found)
as-found false None None is = refl
as-found false None (Some bytes) is = cases (nat_lt table_limit (length bytes)) is
  where
    cases : (more : Bool) →
        found_absent ≡ (if more then found_too_large else found_bytes bytes) → Some bytes ≡ None
    cases true found = absurd (cc found)
    cases false found = absurd (cc found)
as-found false (Some kept) None is = absurd (cc is)
as-found false (Some kept) (Some bytes) is = cases (nat_lt table_limit (length bytes)) is
  where
    cases : (more : Bool) →
        found_bytes kept ≡ (if more then found_too_large else found_bytes bytes) →
        Some bytes ≡ Some kept
    cases true found = absurd (cc found)
    cases false found = let same : kept ≡ bytes = cc found in ap Some (sym same)

-- ---- The first problem

-- the first problem of a list is that of the first that has one
first-of : {X : Type 0} (test : X → Bool) (problem : X → Option FileProblem)
    (bad : X → FileProblem) →
    ((one : X) → problem one ≡ cond (test one) (Some (bad one)) None) → (all : List X)
    (rest : List (Option FileProblem)) → first_some (map problem all ++ rest)
    ≡ (elim (find test all) [ Some one ↦ Some (bad one) | None ↦ first_some rest ])
first-of test problem bad each [] rest = refl
first-of test problem bad each (one ∷ all) rest =
    ap (λ (found : Option FileProblem). first_some (found ∷ (map problem all ++ rest))) (each one)
    ∙ cases (test one) (first-of test problem bad each all rest)
  where
    cases : (is : Bool) → first_some (map problem all ++ rest)
        ≡ (elim (find test all) [ Some one ↦ Some (bad one) | None ↦ first_some rest ]) →
        first_some (cond is (Some (bad one)) None ∷ (map problem all ++ rest))
        ≡ (elim (cond is (Some one) (find test all)) [
          | Some one ↦ Some (bad one)
          | None ↦ first_some rest
        ])
    cases true same = refl
    cases false same = same

-- a table has the problem that the report finds
table-by : (table : Tab) (large : Bool) (kept stands : Option Bytes) → IsKept large kept stands →
    ((bytes : Bytes) → kept ≡ Some bytes → length bytes ≤ table_limit) →
    table_problem table stands ≡ cond (large || (must_stand table && is_none kept))
    (Some (if large then TableTooLarge table else TableAbsent table)) None
table-by table true kept stands is small = large-table table stands is
table-by table false None stands is small =
    ap (table_problem table) is ∙ cases (must_stand table)
  where
    cases : (must : Bool) → (if must then Some (TableAbsent table) else None)
        ≡ cond (must && true) (Some (TableAbsent table)) None
    cases true = refl
    cases false = refl
table-by table false (Some bytes) stands is small =
    ap (table_problem table) is ∙ (within ∙ cases (must_stand table))
  where
    within : table_problem table (Some bytes) ≡ None
    within = rw (le-leb (length bytes) table_limit (small bytes refl)) refl

    cases : (must : Bool) → None ≡ cond (must && false) (Some (TableAbsent table)) None
    cases true = refl
    cases false = refl

-- ---- The intent

-- the bytes that were found, none where there are none
abbrev pub content_of : Found → Option Bytes
content_of (found_bytes bytes) = Some bytes
content_of found = None

-- it lists the tables that what was found does
same-listed : (found : Found) (table : Tab) →
    listed_in (listed_by (content_of found)) table ≡ listed_in (listed_at found) table
same-listed found_absent table = refl
same-listed found table = refl

-- one that is absent or reads was found whole
readable-whole : (found : Found) (intent : IntentFound) → TellsIntent found intent →
    is_readable intent ≡ true → whole_content found ≡ Some (content_of found)
readable-whole found_absent intent told readable = refl
readable-whole (found_bytes bytes) intent told readable = refl
readable-whole found_too_large TooLarge told readable = absurd (true≢false (sym readable))
readable-whole found_too_large Absent told readable = absurd told
readable-whole found_too_large Listed told readable = absurd told
readable-whole found_too_large (Damaged part) told readable = absurd told

-- and reads where it is there
readable-reads : (found : Found) (intent : IntentFound) → TellsIntent found intent →
    is_readable intent ≡ true → (bytes : Bytes) → content_of found ≡ Some bytes →
    (intended : Intended) × ReadsIntent bytes intended
readable-reads (found_bytes kept) Listed told readable bytes is =
    let same : kept ≡ bytes = cc is in
    subst (λ (one : Bytes). (intended : Intended) × ReadsIntent one intended) same told
readable-reads (found_bytes kept) (Damaged part) told readable bytes is =
    absurd (true≢false (sym readable))
readable-reads found_absent intent told readable bytes is = absurd (cc is)
readable-reads found_too_large intent told readable bytes is = absurd (cc is)
readable-reads found intent told readable bytes is = absurd told

-- ---- No problem

-- where no element passes a test, each fails it
none-passes : {X : Type 0} (test : X → Bool) (all : List X) → find test all ≡ None →
    AllByRecursion (λ one. test one ≡ false) all
none-passes test [] none = tt
none-passes test (one ∷ all) none = cases (test one) refl none (none-passes test all)
  where
    cases : (is : Bool) → test one ≡ is → cond is (Some one) (find test all) ≡ None →
        (find test all ≡ None → AllByRecursion (λ other. test other ≡ false) all) →
        (test one ≡ false) × AllByRecursion (λ other. test other ≡ false) all
    cases true is found rest = absurd (cc found)
    cases false is found rest = (is, rest found)

-- what is so of all tables is so of each
each-table : (Holds : Tab → Type 0) → AllByRecursion Holds all_tables → (table : Tab) → Holds table
each-table Holds all Passwd = all.0
each-table Holds all Shadow = all.1.0
each-table Holds all Group = all.1.1.0
each-table Holds all Gshadow = all.1.1.1.0
each-table Holds all Subuid = all.1.1.1.1.0
each-table Holds all Subgid = all.1.1.1.1.1.0

-- where there is no first problem, no table has one, and login.defs isn't too large
pub record IsUsable (gathered : Gathered) : Type 0 where
  pub tables : (table : Tab) → is_unusable gathered table ≡ false
  pub settings : is_large gathered Defs ≡ false

-- files of which no problem is told are usable
pub none-usable : (gathered : Gathered) → first_problem gathered ≡ None → IsUsable gathered
none-usable gathered none = by-found (find (is_unusable gathered) all_tables) refl none
  where
    settings-usable : (large : Bool) → (if large then Some SettingsTooLarge else None) ≡ None →
        large ≡ false
    settings-usable true is = absurd (cc is)
    settings-usable false is = refl

    by-found : (found : Option Tab) → find (is_unusable gathered) all_tables ≡ found →
        (elim found as (λ one. Option FileProblem) [
          | Some table ↦ Some (bad_table gathered table)
          | None ↦ bad_settings gathered
        ]) ≡ None → IsUsable gathered
    by-found (Some table) is problem = absurd (cc problem)
    by-found None is problem = record {
      tables = each-table (λ table. is_unusable gathered table ≡ false)
          (none-passes (is_unusable gathered) all_tables is);
      settings = settings-usable (is_large gathered Defs) problem;
    }

-- a table without a problem isn't too large, and stands where it must
fine-small : (large rest : Bool) → (large || rest) ≡ false → large ≡ false
fine-small false rest is = refl
fine-small true rest is = absurd (true≢false is)

-- ---- Files as they were shown

module _ (wanted : List Tab) (shown : Shown) (gathered : Gathered)
    (found : HasFound wanted shown.file gathered [])
    (readable : is_readable gathered.intent ≡ true) (small : AreSmall gathered.files gathered.defs)
  where
    -- the intent that was found, none where there is none
    abbrev intent : Option Bytes
    intent = content_of found.found

    module _ (contents : Contents) (defs : Option Bytes)
        (agree : AreShown shown intent contents defs) where
      -- what the report sees of them
      abbrev seen : Files
      seen = seen_through wanted (files_of contents)

      -- of each table what is seen of its content
      seen-is : (table : Tab) → table_of seen table ≡ seen_of wanted table (contents table)
      seen-is table = seen-there wanted (files_of contents) table
          ∙ ap (seen_of wanted table) (files-have contents table)

      -- a table that is known without its read is seen so
      known-seen : (table : Tab) (bytes : Bytes) → known_of wanted found.found table ≡ Some bytes →
          seen_of wanted table (contents table) ≡ Some bytes
      known-seen table bytes = cases (is_among wanted table)
        where
          cases : (among : Bool) →
              (if among then listed_in (listed_at found.found) table else Some []) ≡ Some bytes →
              (if among then contents table else Some []) ≡ Some bytes
          cases true is = agree.listed table bytes (same-listed found.found table ∙ is)
          cases false is = is

      -- one that isn't is wanted, and the intent doesn't list it
      unknown-wanted : (table : Tab) → known_of wanted found.found table ≡ None →
          (is_among wanted table ≡ true) × (listed_in (listed_at found.found) table ≡ None)
      unknown-wanted table = cases (is_among wanted table)
        where
          cases : (among : Bool) →
              (if among then listed_in (listed_at found.found) table else Some []) ≡ None →
              (among ≡ true) × (listed_in (listed_at found.found) table ≡ None)
          cases true is = (refl, is)
          cases false is = absurd (cc is)

      -- each table is as it is kept
      table-kept : (table : Tab) → IsKept (is_large gathered (Table table))
          (table_of gathered.files table) (table_of seen table)
      table-kept table = subst
          (IsKept (is_large gathered (Table table)) (table_of gathered.files table))
          (sym (seen-is table))
          (by-known (known_of wanted found.found table) refl)
        where
          by-known : (known : Option Bytes) → known_of wanted found.found table ≡ known →
              IsKept (is_large gathered (Table table)) (table_of gathered.files table)
              (seen_of wanted table (contents table))
          by-known (Some bytes) is = subst
              (λ (large : Bool). IsKept large (table_of gathered.files table)
              (seen_of wanted table (contents table)))
              (sym (found.taken table bytes is).0)
              (known-seen table bytes is ∙ sym (found.known table bytes is))
          by-known None is = let one = unknown-wanted table is in
              as-found (is_large gathered (Table table)) (table_of gathered.files table)
              (seen_of wanted table (contents table))
              (agree.unlisted table (gathered_at gathered (Table table))
              (same-listed found.found table ∙ one.1)
              (found.unknown readable (Table table) refl (ap is_some is) refl)
              ∙ ap (found_within table_limit)
              (ap (λ (among : Bool). if among then contents table else Some [])
              (sym one.0)))

      -- so is login.defs
      settings-kept : IsKept (is_large gathered Defs) gathered.defs defs
      settings-kept = as-found (is_large gathered Defs) gathered.defs defs
          (agree.settings (gathered_at gathered Defs) (found.unknown readable Defs refl refl refl))

      -- each table has the problem that the report finds
      table-problem : (table : Tab) → table_problem table (table_of seen table)
          ≡ cond (is_unusable gathered table) (Some (bad_table gathered table)) None
      table-problem table = table-by table (is_large gathered (Table table))
          (table_of gathered.files table) (table_of seen table) (table-kept table)
          (small.tables table)

      -- so their first problem is that of the report, or of login.defs
      files-first : files_problem seen defs ≡ (elim (find (is_unusable gathered) all_tables) [
        | Some table ↦ Some (bad_table gathered table)
        | None ↦ first_some (settings_problem (unwrap_or defs []) ∷ [])
      ])
      files-first = first-of (is_unusable gathered)
          (λ table. table_problem table (table_of seen table)) (bad_table gathered) table-problem
          all_tables (settings_problem (unwrap_or defs []) ∷ [])

      -- the first claim
      pub problem-first : (problem : FileProblem) → first_problem gathered ≡ Some problem →
          files_problem seen defs ≡ Some problem
      problem-first problem is = files-first ∙ by-table (find (is_unusable gathered) all_tables) is
        where
          by-settings : (large : Bool) → IsKept large gathered.defs defs →
              (if large then Some SettingsTooLarge else None) ≡ Some problem →
              first_some (settings_problem (unwrap_or defs []) ∷ []) ≡ Some problem
          by-settings true kept same = ap
              (λ (one : Option FileProblem). first_some (one ∷ [])) (large-settings defs kept)
              ∙ same
          by-settings false kept same = absurd (cc same)

          by-table : (bad : Option Tab) → (elim bad [
            | Some table ↦ Some (bad_table gathered table)
            | None ↦ bad_settings gathered
          ]) ≡ Some problem → (elim bad [
            | Some table ↦ Some (bad_table gathered table)
            | None ↦ first_some (settings_problem (unwrap_or defs []) ∷ [])
          ]) ≡ Some problem
          by-table (Some table) same = same
          by-table None same = by-settings (is_large gathered Defs) settings-kept same

      module _ (usable : IsUsable gathered) where
        -- a table that is not too large is as it is kept
        table-same : (table : Tab) → table_of seen table ≡ table_of gathered.files table
        table-same table = subst (λ (large : Bool). IsKept large (table_of gathered.files table)
            (table_of seen table))
            (fine-small (is_large gathered (Table table)) _ (usable.tables table))
            (table-kept table)

        -- the second claim
        pub shown-files : seen ≡ gathered.files
        shown-files = λ i. record {
          passwd = table-same Passwd i;
          shadow = table-same Shadow i;
          group = table-same Group i;
          gshadow = table-same Gshadow i;
          subuid = table-same Subuid i;
          subgid = table-same Subgid i;
        }

        pub shown-settings : defs ≡ gathered.defs
        shown-settings = subst (λ (large : Bool). IsKept large gathered.defs defs) usable.settings
            settings-kept

    -- the intent is absent or reads
    pub intent-shown : ShowsIntent shown intent
    intent-shown = record {
      is_found = ap (option_and_then whole_content) found.at_intent
          ∙ readable-whole found.found gathered.intent found.told readable;
      reads = readable-reads found.found gathered.intent found.told readable;
    }
