-- Claims: where a read of the inputs leads on, the session stands with one more input seen
-- (`load-leads`), and where it refuses the keeper is clean, or has seen the absent table and all
-- before it (`load-refuses`). A clean keeper that hasn't called its commit stands at the start
-- (`starts-reading`). Way: a keeper that knows of no intent counts what it reads, and of a table and
-- login.defs each read counts under its own name.
use Rattle.std.proofs.Common.{◌≡◌, refl, sym, ap, subst, ◌∙◌, ℕ, Bool, true, false, if◌then◌else◌, Option, Some, None, Result, Ok, Err, true≢false}
use Rattle.std.specs.Prelude.{IfOk, IfErr}
use Rattle.acct_text.specs.declared.Tab.{Tab}
use Rattle.acct_text.specs.declared.Tab.TheVariants.{Passwd}
use Rattle.acct_text.specs.declared.files.Files.{Files}
use Rattle.acct_text.specs.Bytes.{Bytes}
use Rattle.acct_text.specs.Files.{table_of, with_table}
use Rattle.acct_text.proofs.FilesLemmas.{with_table-same, with_table-other}
use Rattle.acct_text.specs.Tables.{same_table}
use Rattle.acct_outside.specs.declared.Name.{Name}
use Rattle.acct_outside.specs.declared.Name.TheVariants.{Table, Defs}
use Rattle.acct_outside.specs.declared.FolderFault.{FolderFault}
use Rattle.acct_outside.specs.declared.Found.{Found as Reading}
use Rattle.acct_outside.specs.Names.{name_limit}
use Rattle.acct_outside.specs.Tokens.{Token}
use Rattle.acct_outside.specs.Calls.{Found, found_absent, found_bytes, found_too_large, reads, done}
use Rattle.acct_outside.specs.Moment.{Narrows, Moment}
use Rattle.acct_outside.specs.Contract.{Tells, TellsRead, found_result}
use Rattle.acct_outside.specs.declared.CommitStage.TheVariants.{Before}
use Rattle.acct_text.specs.Limits.{table_limit}
use Rattle.suite_rules.specs.Knowledge.{Knowledge, Seen, knows_none, whole_content, seen_with, input_step, read_step}
use Rattle.suite_rules.specs.Standing.{Standing, standing_step}
use Rattle.suite_rules.specs.Steps.{StandsIn}
use Rattle.acct_outside.proofs.NameLemmas.{table-is}
use Rattle.suite_rules.proofs.StepLemmas.{told-of, read-tells, stands-done}
use Rattle.lock_steps.specs.States.{Kept}
use Rattle.lock_steps.specs.Stands.{Keeps, KnowsNone}
use Rattle.lock_steps.proofs.KeeperLemmas.{IsAside, keeps-aside, keeps-on}
use Rattle.commit_steps.specs.declared.Loading.{Loading}
use Rattle.commit_steps.specs.declared.Loading.TheVariants.{More, Done}
use Rattle.commit_steps.specs.declared.LoadEnd.{LoadEnd}
use Rattle.commit_steps.specs.declared.LoadEnd.TheVariants.{Fault, TooLarge, NoTable}
use Rattle.commit_steps.specs.States.{AreSound, Reader, Inputs, is_before, inputs_of, next_name, read_on, start_of, table_behind}
use Rattle.commit_steps.specs.Stands.{HasRead, HasLoaded, HasMissed, KnowsSome, KnowsInputs, StandsLoading, StandsEnded}
use Rattle.commit_steps.specs.Outcomes.{Loads, is_missing}
use Rattle.commit_steps.proofs.TablesLemmas.{before-after}

-- what is read of it is within the limit of a table
pub next-limit : (next : Option Tab) → name_limit (next_name next) ≡ table_limit
next-limit None = refl
next-limit (Some table) = refl

-- a read of the next name, with the limit of a table, tells the read's event
pub next-told : (next : Option Tab) (name : Name) → name ≡ next_name next →
    (before now : Moment) (by token : Token) → by ≡ token → (found : Result Reading FolderFault) →
    TellsRead before now by name table_limit found →
    Tells before now token (reads (next_name next)) (found_result found)
next-told next name is before now by token same found tells =
    told-of before now by token (reads (next_name next)) (found_result found) same
    (read-tells before now by (next_name next) found
    (subst (λ (limit : ℕ). TellsRead before now by (next_name next) limit found)
    (sym (next-limit next))
    (subst (λ (other : Name). TellsRead before now by other table_limit found) is tells)))

-- a clean keeper that hasn't called its commit has read nothing
pub starts-reading : (keeper : Kept) (stood : Standing) → Keeps keeper KnowsNone stood →
    stood.commit ≡ Before → HasRead (start_of keeper) stood
starts-reading keeper stood keeps uncommitted = record {
  keeps = keeps-on keeper KnowsNone (KnowsSome (start_of keeper)) stood stood refl refl keeps
      (record {
        seen = keeps.knows.0;
        clean = keeps.knows.1;
        tables = λ table before. absurd (none-before table before);
      });
  uncommitted = uncommitted;
}
  where
    none-before : (table : Tab) → is_before table (Some Passwd) ≡ true → ⊥
    none-before Passwd before = true≢false (sym before)
    none-before table before = true≢false (sym before)

-- the seen inputs with what was read of one name
abbrev seeing : Name → Found → Seen → Seen
seeing name found seen = record seen { file = seen_with name (whole_content found) seen.file }

-- a read of an input, by a keeper that knows of no intent, counts
input-seen : (next : Option Tab) (found : Found) (knows : Knowledge) (seen : Seen) →
    knows ≡ knows_none seen →
    read_step (next_name next) found knows ≡ knows_none (seeing (next_name next) found seen)
input-seen None found knows seen clean =
    ap (λ (known : Knowledge). input_step Defs found known) clean
input-seen (Some table) found knows seen clean =
    ap (λ (known : Knowledge). input_step (Table table) found known) clean

-- a table of which bytes are there isn't missing
pub never-missing : (table : Tab) (bytes : Bytes) → is_missing table (Some bytes) ≡ true → ⊥
never-missing Passwd bytes is = true≢false (sym is)
never-missing table bytes is = true≢false (sym is)

-- What a read leads to, by the next of the inputs.
module _ (keeper : Kept) (files : Files) where
  -- the reader before it
  abbrev at : Option Tab → Reader
  at next = record { keeper = keeper; files = files; next = next }

  -- whatever it found, the keeper is clean
  clean-after-read : (next : Option Tab) (found : Found) (stood : Standing) →
      HasRead (at next) stood →
      Keeps keeper KnowsNone (standing_step (reads (next_name next)) (done found) stood)
  clean-after-read next found stood held =
      keeps-aside keeper KnowsNone (KnowsSome (at next)) (reads (next_name next)) (aside next)
      (done found) stood (
        seeing (next_name next) found held.keeps.knows.seen,
        input-seen next found stood.knows held.keeps.knows.seen held.keeps.knows.clean,
      ) held.keeps
    where
      aside : (one : Option Tab) → IsAside (reads (next_name one))
      aside None = tt
      aside (Some table) = tt

  -- what it saw of a table, it has read
  reads-on : (table : Tab) (content : Option Bytes) (found : Found) →
      whole_content found ≡ Some content → (stood : Standing) → HasRead (at (Some table)) stood →
      HasRead (read_on (at (Some table)) table content)
      (standing_step (reads (Table table)) (done found) stood)
  reads-on table content found whole stood held = record {
    keeps = keeps-aside keeper (KnowsSome (read_on (at (Some table)) table content))
        (KnowsSome (at (Some table))) (reads (Table table)) tt (done found) stood
        (record {
          seen = seeing (Table table) found seen;
          clean = input-seen (Some table) found stood.knows seen held.keeps.knows.clean;
          tables = λ other before. rw whole (cases other before (same_table other table) refl);
        })
        held.keeps;
    uncommitted = held.uncommitted;
  }
    where
      seen : Seen
      seen = held.keeps.knows.seen

      cases : (other : Tab) → is_before other (table_behind table) ≡ true →
          (same : Bool) → same_table other table ≡ same →
          (if same_table other table then Some content else seen.file (Table other))
          ≡ Some (table_of (with_table table content files) other)
      cases other before true same = rw same
          (ap (λ (content : Option Bytes).
          let some : Option (Option Bytes) = Some content in some)
          (sym (ap (table_of (with_table table content files)) (table-is other table same)
          ∙ with_table-same table content files)))
      cases other before false differs = rw differs
          (held.keeps.knows.tables other (before-after table other before differs)
          ∙ ap (λ (content : Option Bytes).
          let some : Option (Option Bytes) = Some content in some)
          (sym (with_table-other table other content files differs)))

  -- once it saw login.defs, it has loaded
  loads-all : (content : Option Bytes) (found : Found) → whole_content found ≡ Some content →
      (stood : Standing) → HasRead (at None) stood →
      HasLoaded (inputs_of (at None) content) (standing_step (reads Defs) (done found) stood)
  loads-all content found whole stood held = record {
    keeps = keeps-aside keeper (KnowsInputs (inputs_of (at None) content)) (KnowsSome (at None))
        (reads Defs) tt (done found) stood
        (record {
          seen = seeing Defs found held.keeps.knows.seen;
          clean = input-seen None found stood.knows held.keeps.knows.seen held.keeps.knows.clean;
          each_table = λ table. rw whole (held.keeps.knows.tables table refl);
          settings = rw whole refl;
        })
        held.keeps;
    uncommitted = held.uncommitted;
  }

  module _ (before now : Moment) (narrows : Narrows before.admits now.admits) (token : Token) where
    -- a done read leads to a condition that its answer leads to
    read-done : (next : Option Tab) (Holds : Standing → Type 0) (found : Found) →
        ((stood : Standing) → HasRead (at next) stood →
        Holds (standing_step (reads (next_name next)) (done found) stood)) →
        StandsIn before token (HasRead (at next)) →
        Tells before now token (reads (next_name next)) (Ok found) →
        StandsIn now token Holds
    read-done next Holds found follows stands tells =
        stands-done before.admits now.admits narrows token (reads (next_name next)) tt
        (HasRead (at next)) Holds found follows before.told now.told stands tells

    -- a read of a table that leads on
    more-read : (table : Tab) (content : Option Bytes) (found : Found) →
        whole_content found ≡ Some content → (more : Reader) →
        more ≡ read_on (at (Some table)) table content →
        StandsIn before token (HasRead (at (Some table))) →
        Tells before now token (reads (Table table)) (Ok found) →
        StandsIn now token (HasRead more)
    more-read table content found whole more is stands tells =
        subst (λ (other : Reader). StandsIn now token (HasRead other)) (sym is)
        (read-done (Some table) (HasRead (read_on (at (Some table)) table content)) found
        (reads-on table content found whole) stands tells)

    -- the read of login.defs
    all-read : (content : Option Bytes) (found : Found) → whole_content found ≡ Some content →
        (inputs : Inputs) → inputs ≡ inputs_of (at None) content →
        StandsIn before token (HasRead (at None)) →
        Tells before now token (reads Defs) (Ok found) →
        StandsIn now token (HasLoaded inputs)
    all-read content found whole inputs is stands tells =
        subst (λ (other : Inputs). StandsIn now token (HasLoaded other)) (sym is)
        (read-done None (HasLoaded (inputs_of (at None) content)) found
        (loads-all content found whole) stands tells)

    -- a read that hands the keeper back
    handed-back : (next : Option Tab) (found : Found) (kept : Kept) → kept ≡ keeper →
        StandsIn before token (HasRead (at next)) →
        Tells before now token (reads (next_name next)) (Ok found) →
        StandsIn now token (Keeps kept KnowsNone)
    handed-back next found kept is stands tells =
        subst (λ (other : Kept). StandsIn now token (Keeps other KnowsNone)) (sym is)
        (read-done next (Keeps keeper KnowsNone) found (clean-after-read next found) stands tells)

    -- a read of a table that is absent, and must stand
    table-missed : (table missing : Tab) (kept : Kept) → missing ≡ table → kept ≡ keeper →
        AreSound (Some table) files → StandsIn before token (HasRead (at (Some table))) →
        Tells before now token (reads (Table table)) (Ok found_absent) →
        StandsIn now token (HasMissed missing kept)
    table-missed table missing kept is same sound stands tells =
        subst (λ (other : Tab). StandsIn now token (HasMissed other kept)) (sym is)
        (subst (λ (other : Kept). StandsIn now token (HasMissed table other)) (sym same)
        (read-done (Some table) (HasMissed table keeper) found_absent
        (λ stood held. record {
          files = files;
          sound = sound;
          is_read = reads-on table None found_absent refl stood held;
        })
        stands tells))

    -- a read that leads on
    pub load-leads :
        (next : Option Tab) (answer : Result Found FolderFault) (result : Result Loading LoadEnd)
        → Loads (at next) answer result
        → StandsIn before token (HasRead (at next))
        → Tells before now token (reads (next_name next)) answer
        → IfOk result (StandsLoading now token)
    load-leads (Some table) (Ok found_absent) (Ok (More more)) shown stands tells =
        more-read table None found_absent refl more shown.1 stands tells
    load-leads (Some table) (Ok (found_bytes bytes)) (Ok (More more)) shown stands tells =
        more-read table (Some bytes) (found_bytes bytes) refl more shown.1 stands tells
    load-leads None (Ok found_absent) (Ok (Done inputs)) shown stands tells =
        all-read None found_absent refl inputs shown stands tells
    load-leads None (Ok (found_bytes bytes)) (Ok (Done inputs)) shown stands tells =
        all-read (Some bytes) (found_bytes bytes) refl inputs shown stands tells
    load-leads next answer (Err end) shown stands tells = tt
    load-leads next answer result shown stands tells = absurd shown

    -- a read that refuses
    pub load-refuses :
        (next : Option Tab) (answer : Result Found FolderFault) (result : Result Loading LoadEnd)
        → AreSound next files
        → Loads (at next) answer result
        → StandsIn before token (HasRead (at next))
        → Tells before now token (reads (next_name next)) answer
        → IfErr result (StandsEnded now token)
    load-refuses next (Ok found_too_large) (Err (TooLarge name kept)) sound shown stands tells =
        handed-back next found_too_large kept shown.1 stands tells
    load-refuses (Some table) (Ok found_absent) (Err (NoTable missing kept))
        sound shown stands tells =
        table-missed table missing kept shown.1 shown.2 sound stands tells
    load-refuses (Some table) (Ok (found_bytes bytes)) (Err (NoTable missing kept))
        sound shown stands tells = absurd (never-missing table bytes shown.0)
    load-refuses next answer (Err (Fault fault)) sound shown stands tells = tt
    load-refuses next answer (Ok loading) sound shown stands tells = tt
    load-refuses next answer result sound shown stands tells = absurd shown
