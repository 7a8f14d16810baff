-- Claims: what a session stages is due: of a table that an intent lists (`first-due`,
-- `more-due`), of a backup (`backs-due`, `backs-more-due`), of the intent
-- (`intent-due`, `intent-more-due`), and the free text (`free-due`).
-- Way: once the call is done, so many first bytes of a text are staged, and with all of that the rules permit
-- the move of the step behind it.
use Rattle.std.proofs.Common.{◌≡◌, refl, sym, ap, subst, ◌∙◌, ℕ, ◌+◌, ◌<◌, ◌*◌, true, false, List, take, drop, length, slice_get, Some, arith}
use Rattle.std.specs.List.{concat}
use Rattle.std.proofs.Math.Seq.{take-append_seam}
use Rattle.std.proofs.lemmas.List.{take-append-drop}
use Rattle.std.proofs.lemmas.List.Folds.{concat-append}
use Rattle.acct_text.specs.Bytes.{Bytes}
use Rattle.acct_outside.specs.declared.CommitStage.{CommitStage}
use Rattle.acct_outside.specs.declared.CommitStage.TheVariants.{Before, Committed}
use Rattle.acct_outside.specs.declared.Name.TheVariants.{Backup, BackupStage, FreeStage, Intent, IntentStage, Lock, Staged, Table}
use Rattle.acct_outside.specs.Calls.{appends, writes, done}
use Rattle.acct_outside.specs.Pieces.{piece_limit}
use Rattle.acct_outside.specs.Tokens.{free_text}
use Rattle.intent_file.specs.Intent.{Intended, NewTable, intent_text}
use Rattle.intent_file.specs.Pieces.{intent_pieces}
use Rattle.intent_file.proofs.PieceLemmas.{intent-in-pieces}
use Rattle.acct_outside.proofs.NameLemmas.{table-same}
use Rattle.suite_rules.specs.Knowledge.{Stages}
use Rattle.suite_rules.specs.Rules.{move_rule, moves_free}
use Rattle.suite_rules.specs.Outcomes.{stages, stages_more}
use Rattle.suite_rules.specs.Standing.{Standing, standing_step}
use Rattle.suite_rules.proofs.KeeperParts.{staged-next}
use Rattle.lock_steps.specs.States.{Kept}
use Rattle.lock_steps.specs.Stands.{Keeps, KnowsAnything}
use Rattle.recovery.specs.Carrying.{Carries, HasStagedFirst}
use Rattle.recovery.specs.Stands.{HasStagedNext, Recovers}
use Rattle.recovery.specs.States.{Mover, Recoverer}
use Rattle.recovery.proofs.CarryLemmas.{carries-after-append, carries-after-write, first-is-next, first-staged, may-install, more-staged, some-staged}
use Rattle.commit_steps.specs.Outcomes.{backs_up_more, installs_more}
use Rattle.commit_steps.specs.Stands.{BacksUp, HasStagedIntent, Installs, KnowsBackups}
use Rattle.commit_steps.specs.States.{Change, Stager, Walker, append_on, backup_pieces, changed, has_staged, install_pieces, intended, intent_left, intent_piece, new_files, next_table, old_bytes, old_files, steps_left, tables_left}
use Rattle.commit_steps.proofs.BackupLemmas.{all-backed-up, backs-after-append, backs-after-write, begun-backup, first-intent, intent-after-append, may-back-up, stages_backup, staged-old}
use Rattle.commit_steps.proofs.CommitLemmas.{may-commit-staged}
use Rattle.commit_steps.proofs.InstallLemmas.{begun-of, first-left, step-unstaged}
use Rattle.commit_steps.proofs.TablesLemmas.{next-stood}
use Rattle.suite_answers.specs.declared.answer.Answer.{Answer}
use Rattle.suite_session.specs.Moment.{Runs}
use Rattle.suite_session.specs.Runner.{Runner}
use Rattle.suite_session.specs.Stands.{IsOfChange}
use Rattle.suite_session.specs.Writing.{StagesDue, WritesDue}
use Rattle.suite_session.proofs.WritingLemmas.{IsTurnCall, change-deed, is-to-change}

-- ---- Tables of an intent

module _ (intent : Intended) (keeper : Kept) (left : List NewTable) (next : NewTable)
    (is_next : slice_get left 0 ≡ Some next) where
  -- so many first pieces of the first that is left
  table-due : (count : ℕ) (later : Standing) → Carries intent keeper left later →
      HasStagedFirst left count later → StagesDue (Staged next.table) later
  table-due count later held staged = record {
    text = next.bytes;
    is_due = record {
      to = Table next.table;
      may_move = λ deeds ours. may-install intent keeper left later held next is_next deeds _
          (rw (table-same next.table) refl);
      moves = tt;
    };
    size = count * piece_limit;
    staged = first-is-next intent keeper left later held next is_next count later staged;
  }

  module _ (stood : Standing) (held : Carries intent keeper left stood) where
    -- the write of the first
    first-due : WritesDue stood (stages next)
    first-due = table-due 1 _ (carries-after-write intent keeper left stood held next is_next tt)
        (first-staged intent keeper left stood held next is_next tt)

    -- the append of a further one
    more-due : (place : ℕ) → HasStagedFirst left place stood →
        WritesDue stood (stages_more place next)
    more-due place staged = table-due (place + 1) _
        (carries-after-append intent keeper left stood held next is_next place tt)
        (more-staged intent keeper left stood held next is_next place staged tt)

-- in a recovery
pub recovers-due : (runner : Runner) (recovering : Recoverer) (next : NewTable) →
    slice_get recovering.left 0 ≡ Some next →
    IsTurnCall (Runs runner Before (Recovers recovering)) (stages next)
recovers-due runner recovering next is_next = λ stood runs.
    first-due runs.holds.intent recovering.keeper recovering.left next is_next stood
    runs.holds.carries

pub recovers-more-due : (runner : Runner) (moving : Mover) (next : NewTable) →
    slice_get moving.left 0 ≡ Some next →
    IsTurnCall (Runs runner Before (HasStagedNext moving)) (stages_more moving.staged next)
recovers-more-due runner moving next is_next = λ stood runs.
    more-due runs.holds.recovers.intent moving.keeper moving.left next is_next stood
    runs.holds.recovers.carries moving.staged runs.holds.staged

-- and in an installation
module _ (runner : Runner) (walker : Walker) (next : NewTable)
    (is_next : next_table walker ≡ Some next) where
  pub installs-due : IsTurnCall (Runs runner Committed (Installs walker)) (stages next)
  installs-due = λ stood runs. first-due (intended walker.change) walker.change.inputs.keeper
      (tables_left walker) next (first-left walker next is_next) stood runs.holds.carries

  pub installs-more-due : 0 < install_pieces walker →
      IsTurnCall (Runs runner Committed (Installs walker)) (installs_more walker next)
  installs-more-due some = λ stood runs. more-due (intended walker.change)
      walker.change.inputs.keeper (tables_left walker) next (first-left walker next is_next) stood
      runs.holds.carries walker.staged (runs.holds.staged (begun-of walker next is_next some))

-- ---- Backups

module _ (runner : Runner) (answer : Answer) where
  -- so many first pieces of the old bytes of the table at the place
  backup-due : (walker : Walker) (next : NewTable) → next_table walker ≡ Some next →
      IsOfChange runner walker.change answer → has_staged walker ≡ true → (later : Standing) →
      later.command ≡ Some runner.asked.command → BacksUp walker later →
      StagesDue BackupStage later
  backup-due walker next is_next of_change begun later asked held = record {
    text = old_bytes walker.change next.table;
    is_due = record {
      to = Backup next.table;
      may_move = λ deeds ours.
          let deed = change-deed runner answer walker.change of_change deeds ours later asked in
          may-back-up walker next is_next (next-stood walker.change walker.place next is_next
          (deeds.makes_changes deed.command (old_files walker.change) walker.change.inputs.defs
          (new_files walker.change) deed.is_deed)) later held deeds _ refl;
      moves = is-to-change runner answer walker.change of_change walker.place next is_next later
          (record {
            holds = held.keeps.knows.inputs;
            asked = asked;
            commits = held.uncommitted;
          });
    };
    size = walker.staged * piece_limit;
    staged = staged-old walker next is_next begun later held;
  }

  module _ (walker : Walker) (next : NewTable) (is_next : next_table walker ≡ Some next)
      (of_change : IsOfChange runner walker.change answer) where
    -- the write of the first
    pub backs-due : has_staged walker ≡ false →
        IsTurnCall (Runs runner Before (BacksUp walker)) (stages_backup walker next)
    backs-due unstaged = λ stood runs.
        let first : Walker = record walker { staged = 1 } in
        let later = standing_step (stages_backup walker next) (done tt) stood in
        backup-due first next is_next of_change refl later runs.asked
        (subst (λ (one : Walker). BacksUp one later) (step-unstaged walker unstaged)
        (backs-after-write walker next is_next unstaged tt stood runs.holds))

    -- the append of a further one
    pub backs-more-due : 0 < backup_pieces walker →
        IsTurnCall (Runs runner Before (BacksUp walker)) (backs_up_more walker next)
    backs-more-due some = λ stood runs. backup-due (append_on walker) next is_next of_change
        (some-staged (walker.staged + 1) (omega arith)) _ runs.asked
        (backs-after-append walker next is_next (begun-backup walker next is_next some) tt stood
        runs.holds)

  -- ---- The intent

  -- so many first pieces of one
  abbrev front : Intended → ℕ → Bytes
  front intent count = concat (take count (intent_pieces intent))

  -- they are the first bytes of its text
  front-of : (intent : Intended) (count : ℕ) →
      front intent count ≡ take (length (front intent count)) (intent_text intent)
  front-of intent count =
      let pieces = intent_pieces intent in
      sym (take-append_seam (front intent count) (concat (drop count pieces)))
      ∙ ap (take (length (front intent count)))
      (sym (concat-append (take count pieces) (drop count pieces))
      ∙ (ap concat (take-append-drop count pieces) ∙ intent-in-pieces.joined intent))

  -- those of a change whose tables are backed up are due
  pieces-due : (change : Change) → IsOfChange runner change answer → (count : ℕ)
      (later : Standing) → later.command ≡ Some runner.asked.command → later.commit ≡ Before →
      Keeps change.inputs.keeper (KnowsBackups change (changed change)) later →
      later.staged IntentStage ≡ Some (front (intended change) count) →
      StagesDue IntentStage later
  pieces-due change of_change count later asked uncommitted keeps staged = record {
    text = intent_text (intended change);
    is_due = record {
      to = Intent;
      may_move = λ deeds ours. may-commit-staged change deeds later keeps uncommitted
          (change-deed runner answer change of_change deeds ours later asked) _ refl;
      moves = tt;
    };
    size = length (front (intended change) count);
    staged = staged ∙ ap (λ (bytes : Bytes). Some bytes) (front-of (intended change) count);
  }

  -- the write of the first
  pub intent-due : (walker : Walker) → IsOfChange runner walker.change answer →
      steps_left walker ≡ 0 → IsTurnCall (Runs runner Before (BacksUp walker))
      (writes IntentStage (intent_piece 0 walker.change))
  intent-due walker of_change none = λ stood runs.
      pieces-due walker.change of_change 1 _ runs.asked runs.commits
      (all-backed-up walker tt stood runs.holds none) (first-intent walker tt stood runs.holds)

  -- the append of a further one
  pub intent-more-due : (stager : Stager) → IsOfChange runner stager.change answer →
      0 < intent_left stager → IsTurnCall (Runs runner Before (HasStagedIntent stager))
      (appends IntentStage (intent_piece stager.staged stager.change))
  intent-more-due stager of_change some = λ stood runs.
      let then = intent-after-append stager some tt stood runs.holds in
      pieces-due stager.change of_change (stager.staged + 1) _ runs.asked runs.commits then.keeps
      then.staged

-- ---- The free text

-- a keeper writes it on its way out
pub free-due : (runner : Runner) (commit : CommitStage) (keeper : Kept) →
    IsTurnCall (Runs runner commit (Keeps keeper KnowsAnything)) (writes FreeStage free_text)
free-due runner commit keeper = λ stood runs. record {
  text = free_text;
  is_due = record {
    to = Lock keeper.number;
    may_move = λ deeds ours. move_rule FreeStage (Lock keeper.number)
        (record { number = keeper.number; keeps = runs.holds.locks.owns }) (moves_free refl);
    moves = tt;
  };
  size = length free_text;
  staged = ap (λ (staged : Stages). staged FreeStage)
      (staged-next (writes FreeStage free_text) (done tt) stood keeper.number
      runs.holds.locks.owns);
}
