-- Where a session has staged bytes, which it then moves: at one name at a time, and at none once it leaves
-- (docs/ARCHITECTURE.md, "Typed steps").
use Rattle.std.specs.Prelude.{◌≡◌, ◌≢◌, false, if◌then◌else◌, slice_get, Option, Some, None, option_map}
use Rattle.acct_outside.specs.declared.Name.{Name}
use Rattle.acct_outside.specs.declared.Name.TheVariants.{Staged, IntentStage, BackupStage, FreeStage}
use Rattle.suite_rules.specs.OwnLock.{is_keeper}
use Rattle.suite_rules.specs.Standing.{Standing}
use Rattle.commit_steps.specs.States.{has_staged, next_table}
use Rattle.suite_session.specs.declared.state.State.{State}
use Rattle.suite_session.specs.declared.state.State.TheVariants.{Moving, BackingUp, Committing, Installing, Freeing}

-- the session has moved all that it has staged
abbrev pub HasMovedAll : Standing → Type 0
HasMovedAll standing = (name : Name) → standing.staged name ≡ None

-- the name at which a session in this state has staged bytes that it is to move
abbrev pub staged_in : State → Option Name
staged_in (Moving moving) = option_map (λ new. Staged new.table) (slice_get moving.left 0)
staged_in (BackingUp walker answer) =
    if has_staged walker then option_map (λ new. BackupStage) (next_table walker) else None
staged_in (Committing stager answer) = Some IntentStage
staged_in (Installing walker answer) =
    if has_staged walker then option_map (λ new. Staged new.table) (next_table walker) else None
staged_in (Freeing freeing answer) = Some FreeStage
staged_in state = None

-- a keeper has bytes staged at this name at most, and who is none has moved all
pub record StagesAt (slot : Option Name) (standing : Standing) : Type 0 where
  pub others : (name : Name) → slot ≢ Some name → standing.staged name ≡ None
  pub unkept : is_keeper standing.own ≡ false → HasMovedAll standing
