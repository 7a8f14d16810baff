-- The standing of a session in each state of a commit (docs/ARCHITECTURE.md, "Typed steps"). Each is
-- found from the session's own events alone.
use Rattle.std.specs.Prelude.{◌≡◌, ⊤, true, List, take, All, Option, Some, None, IfSome, IsSomeAnd}
use Rattle.std.specs.List.{concat}
use Rattle.acct_text.specs.declared.Tab.{Tab}
use Rattle.acct_text.specs.declared.files.Files.{Files}
use Rattle.acct_text.specs.Files.{table_of}
use Rattle.acct_outside.specs.declared.Name.TheVariants.{Table, BackupStage, IntentStage, Defs}
use Rattle.acct_outside.specs.declared.CommitStage.TheVariants.{Before, Committed}
use Rattle.acct_outside.specs.declared.StageFault.{StageFault}
use Rattle.acct_outside.specs.Pieces.{first_pieces}
use Rattle.acct_outside.specs.Tokens.{Token}
use Rattle.acct_outside.specs.Calls.{Command}
use Rattle.acct_outside.specs.Moment.{Past, Moment}
use Rattle.intent_file.specs.Intent.{NewTable, intent_text, ReadsIntent}
use Rattle.intent_file.specs.Pieces.{intent_pieces}
use Rattle.suite_rules.specs.Deeds.{SuiteDeeds}
use Rattle.suite_rules.specs.Knowledge.{Seen, Knowledge, knows_none}
use Rattle.suite_rules.specs.Standing.{Standing, standing}
use Rattle.suite_rules.specs.Steps.{StandsIn}
use Rattle.lock_steps.specs.States.{Kept}
use Rattle.recovery.specs.Carrying.{Carries, HasStagedFirst}
use Rattle.lock_steps.specs.Stands.{Keeps, KnowsNone, KnowsNoneYet}
use Rattle.commit_steps.specs.declared.Loading.{Loading}
use Rattle.commit_steps.specs.declared.Loading.TheVariants.{More, Done}
use Rattle.commit_steps.specs.declared.LoadEnd.{LoadEnd}
use Rattle.commit_steps.specs.declared.LoadEnd.TheVariants.{Fault, TooLarge, NoTable}
use Rattle.commit_steps.specs.States.{AreSound, Reader, Inputs, Change, Walker, Stager, has_staged, next_table, is_before, read_on, new_files, changed, intended, old_bytes, tables_left}

-- It knows that no intent stands, and has since seen each table before the next.
pub record KnowsSome (reader : Reader) (knows : Knowledge) : Type 0 where
  pub seen : Seen
  pub clean : knows ≡ knows_none seen
  pub tables : (table : Tab) → is_before table reader.next ≡ true →
      seen.file (Table table) ≡ Some (table_of reader.files table)

-- it keeps its number and hasn't called its commit, and knows this of the tables
pub record HasRead (reader : Reader) (standing : Standing) : Type 0 where
  pub keeps : Keeps reader.keeper (KnowsSome reader) standing
  pub uncommitted : standing.commit ≡ Before

-- it has read the table as absent, and before it those that come first, which stand as they must.
pub record HasMissed (table : Tab) (keeper : Kept) (standing : Standing) : Type 0 where
  pub files : Files
  pub sound : AreSound (Some table) files
  pub is_read : HasRead
      (read_on (record { keeper = keeper; files = files; next = Some table }) table None) standing

-- It knows that no intent stands, and has since seen the six tables and login.defs.
pub record KnowsInputs (inputs : Inputs) (knows : Knowledge) : Type 0 where
  pub seen : Seen
  pub clean : knows ≡ knows_none seen
  pub each_table : (table : Tab) → seen.file (Table table) ≡ Some (table_of inputs.files table)
  pub settings : seen.file Defs ≡ Some inputs.defs

-- it keeps its number and hasn't called its commit, and knows this of the inputs
pub record HasLoaded (inputs : Inputs) (standing : Standing) : Type 0 where
  pub keeps : Keeps inputs.keeper (KnowsInputs inputs) standing
  pub uncommitted : standing.commit ≡ Before

-- It knows the inputs, and has since moved the bytes that it saw of these tables to their backups.
pub record KnowsBackups (change : Change) (tables : List NewTable) (knows : Knowledge)
    : Type 0 where
  pub inputs : KnowsInputs change.inputs knows
  pub backed : All (λ new. inputs.seen.backed new.table ≡ true) tables

-- It hasn't called its commit. It has backed up the tables before the place, and staged as many first
-- pieces of the old bytes of the one at the place as the walker says.
pub record BacksUp (walker : Walker) (standing : Standing) : Type 0 where
  pub keeps : Keeps walker.change.inputs.keeper
      (KnowsBackups walker.change (take walker.place (changed walker.change))) standing
  pub uncommitted : standing.commit ≡ Before
  pub staged : has_staged walker ≡ true → IsSomeAnd (next_table walker)
      (λ next. standing.staged BackupStage
      ≡ Some (first_pieces walker.staged (old_bytes walker.change next.table)))

-- It hasn't called its commit. It has backed up each table that differs, and staged so many first
-- pieces of the text of the intent, which reads.
pub record HasStagedIntent (stager : Stager) (standing : Standing) : Type 0 where
  pub keeps : Keeps stager.change.inputs.keeper
      (KnowsBackups stager.change (changed stager.change)) standing
  pub uncommitted : standing.commit ≡ Before
  pub reads_it : ReadsIntent (intent_text (intended stager.change)) (intended stager.change)
  pub staged : standing.staged IntentStage
      ≡ Some (concat (take stager.staged (intent_pieces (intended stager.change))))

-- the new files are the deed of what the session was asked, on the inputs
pub record IsDeed (deeds : SuiteDeeds) (change : Change) (standing : Standing) : Type 0 where
  pub command : Command
  pub is_asked : standing.command ≡ Some command
  pub is_deed : deeds.deed command (table_of change.inputs.files) change.inputs.defs
      ≡ Some (new_files change)

-- after a commit that answered with a fault: it is as far as the fault's stage tells
abbrev pub StandsUnsure : Option Past → Token → StageFault → Type 0
StandsUnsure told token fault = IfSome told (λ past.
    (standing token past.history).commit ≡ fault.stage)

-- Its commit was done, and it carries out the intent of the change. The tables that aren't done are
-- left, and as many first pieces of the first one's new bytes are staged as the walker says.
pub record Installs (walker : Walker) (standing : Standing) : Type 0 where
  pub carries : Carries (intended walker.change) walker.change.inputs.keeper (tables_left walker)
      standing
  pub committed : standing.commit ≡ Committed
  pub staged : has_staged walker ≡ true →
      HasStagedFirst (tables_left walker) walker.staged standing

-- its commit was done, and it knows that no intent stands any more
pub record HasCleared (keeper : Kept) (standing : Standing) : Type 0 where
  pub keeps : Keeps keeper KnowsNoneYet standing
  pub committed : standing.commit ≡ Committed

-- after a read that leads on: more is to be read, or all is
abbrev pub HoldsLoading : Loading → Standing → Type 0
HoldsLoading (More reader) = HasRead reader
HoldsLoading (Done inputs) = HasLoaded inputs

-- the session stands so after that
abbrev pub StandsLoading : Moment → Token → Loading → Type 0
StandsLoading now token loading = StandsIn now token (HoldsLoading loading)

-- after a read that leads no further: a refusal hands the clean keeper back, and of an absent table
-- all is known that was read before it
abbrev pub StandsEnded : Moment → Token → LoadEnd → Type 0
StandsEnded now token (Fault fault) = ⊤
StandsEnded now token (TooLarge name keeper) =
    StandsIn now token (Keeps keeper KnowsNone)
StandsEnded now token (NoTable table keeper) =
    StandsIn now token (HasMissed table keeper)
