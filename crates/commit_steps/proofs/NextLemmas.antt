-- Claims: the call of a keeper that backs up is that for the table at its place: its next piece, where
-- one is left (`backs-on`), and else the next step (`backs-some`); with no step left it stages the intent
-- (`backs-none`), appends its further pieces (`commits-on`) and commits (`commits-whole`). The program's
-- call is that one, and the rules permit it (`next-file`, `next-intent`, `next-further`, `next-more`,
-- `next-backup`, `next-old`, `next-commit`).
-- Way: the rules by the standing of the state (BackupLemmas, CommitLemmas).
use Rattle.std.specs.Prelude.{⊤, IsSome, nat_lt}
use Rattle.std.proofs.Common.{◌≡◌, refl, sym, ap, subst, ◌∙◌, ℕ, ◌-◌, ◌*◌, ◌<◌, ◌≤◌, Bool, true, false, if◌then◌else◌, length, Option, Some, None, arith}
use Rattle.std.proofs.lemmas.Option.{slice_get_past}
use Rattle.acct_text.specs.declared.Tab.{Tab}
use Rattle.acct_text.specs.Bytes.{Bytes}
use Rattle.acct_outside.specs.declared.Call.TheVariants.{Append, Read, Rename, Write}
use Rattle.acct_outside.specs.declared.Name.TheVariants.{Backup, BackupStage, Intent, IntentStage}
use Rattle.acct_outside.specs.Pieces.{piece_at}
use Rattle.acct_outside.specs.Calls.{Call, appends, reads, renames, writes}
use Rattle.acct_outside.specs.Contract.{IsName}
use Rattle.intent_file.specs.Intent.{NewTable}
use Rattle.suite_rules.specs.Outcomes.{pieces_left}
use Rattle.suite_rules.specs.Rules.{free_read}
use Rattle.lock_steps.specs.NextCall.{IsCallWhere, IsNextCall, next_or}
use Rattle.recovery.proofs.CarryLemmas.{some-staged}
use Rattle.commit_steps.specs.NextCall.{MayCommit, backing_call, backs_up_table, committing_call}
use Rattle.commit_steps.specs.Outcomes.{backs_up_more, backup_call}
use Rattle.commit_steps.specs.Stands.{BacksUp, HasRead}
use Rattle.commit_steps.specs.States.{Reader, Stager, Walker, backup_pieces, changed, has_staged, intent_left, intent_piece, next_name, next_table, old_bytes, old_files, steps_left}
use Rattle.commit_steps.proofs.BackupLemmas.{backup-staged, backup-unstaged, begun-backup, may-append-backup, may-append-intent, may-move-backup, may-stage-backup, may-stage-intent, old-pieces}
use Rattle.commit_steps.proofs.CommitLemmas.{may-commit}

-- where no step is left, the place is behind all tables
behind : (tables place : ℕ) (staged : Bool) →
    2 * (tables - place) - (if staged then 1 else 0) ≡ 0 → tables ≤ place
behind tables place true none = omega arith
behind tables place false none = omega arith

module _ (walker : Walker) where
  -- then there is no next table
  pub no-table : steps_left walker ≡ 0 → next_table walker ≡ None
  no-table none = slice_get_past (changed walker.change) walker.place
      (behind (length (changed walker.change)) walker.place (has_staged walker) none)

  -- a keeper that backs up stages the intent
  pub backs-none : steps_left walker ≡ 0 →
      backing_call walker ≡ writes IntentStage (intent_piece 0 walker.change)
  backs-none none = ap (next_or (writes IntentStage (intent_piece 0 walker.change))
      (backs_up_table walker)) (no-table none)

  module _ (next : NewTable) (is_next : next_table walker ≡ Some next) where
    -- with a piece left it is appended
    pub backs-on : 0 < backup_pieces walker → backing_call walker ≡ backs_up_more walker next
    backs-on some =
        ap (next_or (writes IntentStage (intent_piece 0 walker.change)) (backs_up_table walker))
        is_next
        ∙ ap (λ (more : Bool). if more then backs_up_more walker next else backup_call walker next)
        (some-staged (pieces_left walker.staged (old_bytes walker.change next.table))
        (subst (λ (count : ℕ). 0 < count) (old-pieces walker next is_next) some))

    -- with none left it is the next step of its backup
    pub backs-some : backup_pieces walker ≡ 0 → backing_call walker ≡ backup_call walker next
    backs-some whole =
        ap (next_or (writes IntentStage (intent_piece 0 walker.change)) (backs_up_table walker))
        is_next
        ∙ ap (λ (count : ℕ).
        if nat_lt 0 count then backs_up_more walker next else backup_call walker next)
        (sym (old-pieces walker next is_next) ∙ whole)

module _ (stager : Stager) where
  -- a keeper with a piece of the intent left appends it
  pub commits-on : 0 < intent_left stager →
      committing_call stager ≡ appends IntentStage (intent_piece stager.staged stager.change)
  commits-on some = ap (λ (more : Bool). if more
      then appends IntentStage (intent_piece stager.staged stager.change)
      else renames IntentStage Intent) (some-staged (intent_left stager) some)

  -- with none left it commits
  pub commits-whole : intent_left stager ≡ 0 →
      committing_call stager ≡ renames IntentStage Intent
  commits-whole whole = ap (λ (count : ℕ). if nat_lt 0 count
      then appends IntentStage (intent_piece stager.staged stager.change)
      else renames IntentStage Intent) whole

-- ---- The program's calls

-- a table and login.defs are names
file-name : (next : Option Tab) → IsName (next_name next)
file-name None = tt
file-name (Some table) = tt

-- the read of the next file
pub next-file : (reader : Reader) →
    IsNextCall (HasRead reader) (reads (next_name reader.next)) (Read (next_name reader.next))
next-file reader = record {
  names = refl;
  later = λ has. file-name reader.next;
  permitted = λ deeds stood held. free_read (next_name reader.next);
}

module _ (stager : Stager) where
  -- the commit
  pub next-commit : intent_left stager ≡ 0 →
      IsCallWhere ⊤ (MayCommit stager) (committing_call stager) (Rename IntentStage Intent)
  next-commit whole = subst (λ (one : Call).
      IsCallWhere ⊤ (MayCommit stager) one (Rename IntentStage Intent))
      (sym (commits-whole stager whole)) (record {
        names = refl;
        later = λ has. (tt, tt);
        permitted = λ deeds stood both. may-commit stager whole deeds stood both;
      })

  -- the append of the intent's next piece
  pub next-further : 0 < intent_left stager → (piece : Bytes) →
      piece ≡ intent_piece stager.staged stager.change →
      IsCallWhere ⊤ (MayCommit stager) (committing_call stager) (Append IntentStage piece)
  next-further some piece is = subst (λ (one : Call).
      IsCallWhere ⊤ (MayCommit stager) one (Append IntentStage piece))
      (sym (commits-on stager some)) (record {
        names = ap (appends IntentStage) is;
        later = λ has. tt;
        permitted = λ deeds stood both. may-append-intent stager deeds stood both.0;
      })

module _ (walker : Walker) where
  -- the write of the intent's first piece, once all tables are backed up
  pub next-intent : steps_left walker ≡ 0 → (piece : Bytes) →
      piece ≡ intent_piece 0 walker.change →
      IsNextCall (BacksUp walker) (backing_call walker) (Write IntentStage piece)
  next-intent none piece is =
      subst (λ (next : Call). IsNextCall (BacksUp walker) next (Write IntentStage piece))
      (sym (backs-none walker none)) (record {
        names = ap (writes IntentStage) is;
        later = λ has. tt;
        permitted = λ deeds stood held. may-stage-intent walker deeds stood held;
      })

  module _ (next : NewTable) (is_next : next_table walker ≡ Some next) where
    -- the append of the next piece of its old bytes
    pub next-more : 0 < backup_pieces walker → (piece : Bytes) →
        piece ≡ piece_at walker.staged (old_bytes walker.change next.table) →
        IsNextCall (BacksUp walker) (backing_call walker) (Append BackupStage piece)
    next-more some piece is = subst (λ (one : Call). IsNextCall (BacksUp walker) one
        (Append BackupStage piece)) (sym (backs-on walker next is_next some)) (record {
          names = ap (appends BackupStage) is;
          later = λ has. tt;
          permitted = λ deeds stood held. may-append-backup walker next is_next
              (begun-backup walker next is_next some) deeds stood held;
        })

    -- the move of the staged backup
    pub next-backup : IsSome (old_files walker.change next.table) → has_staged walker ≡ true →
        backup_pieces walker ≡ 0 →
        IsNextCall (BacksUp walker) (backing_call walker)
        (Rename BackupStage (Backup next.table))
    next-backup stands staged whole = subst (λ (one : Call). IsNextCall (BacksUp walker) one
        (Rename BackupStage (Backup next.table)))
        (sym (backs-some walker next is_next whole ∙ backup-staged walker next staged)) (record {
          names = refl;
          later = λ has. (tt, tt);
          permitted = λ deeds stood held.
              may-move-backup walker next is_next stands staged whole stood held deeds;
        })

    -- the write of the first piece of its old bytes
    pub next-old : has_staged walker ≡ false → backup_pieces walker ≡ 0 → (piece : Bytes) →
        piece ≡ piece_at 0 (old_bytes walker.change next.table) →
        IsNextCall (BacksUp walker) (backing_call walker) (Write BackupStage piece)
    next-old unstaged whole piece is = subst (λ (one : Call). IsNextCall (BacksUp walker) one
        (Write BackupStage piece))
        (sym (backs-some walker next is_next whole ∙ backup-unstaged walker next unstaged))
        (record {
          names = ap (writes BackupStage) is;
          later = λ has. tt;
          permitted = λ deeds stood held. may-stage-backup walker next is_next deeds stood held;
        })
