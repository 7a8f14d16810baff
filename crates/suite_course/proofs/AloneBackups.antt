-- Claim: a session that was alone since a moment, moved only tables that its deed changes to their
-- backups, and committed, left the bytes of that moment at the backup of each table that changed,
-- and each other backup as it stood (`alone-backups`).
-- Way: call by call (`backups-step`). Up to the commit nothing is committed, so what the session
-- has seen is what was settled at that moment, and a move to a backup brings that there
-- (`backup-step`). The rule of commits asks that each table that the deed changes is backed up
-- (`commit-backed`); after it the session moves nothing to a backup.
use Rattle.std.proofs.Common.{◌≡◌, ◌≢◌, ◌⊎◌, refl, sym, ap, ap₂, subst, ◌∙◌, [], ◌∷◌, ◌++◌, ℕ, Bool, true, false, append-nil, List, inl, inr, Option, Some, unwrap_or}
use Rattle.std.specs.List.{AllByRecursion}
use Rattle.acct_text.specs.declared.Tab.{Tab}
use Rattle.acct_text.specs.Bytes.{Bytes}
use Rattle.acct_text.specs.Tables.{same_table}
use Rattle.acct_text.specs.Contents.{Contents}
use Rattle.acct_outside.specs.declared.Name.TheVariants.{Table, Backup, Staged, Intent, IntentStage, BackupStage, FreeStage, Lock}
use Rattle.acct_outside.specs.Names.{is_staging}
use Rattle.acct_outside.specs.Tokens.{Token}
use Rattle.acct_outside.specs.Folder.{Folder, settings_file}
use Rattle.acct_outside.specs.Calls.{Call, Command, Answer, CallResult, Effect, begins, lists, reads, asks, creates, writes, appends, renames, removes, answers, done, failed, died, happened, nothing, left, effect_of, changed_by}
use Rattle.acct_outside.specs.History.{Event, History, after, own_events}
use Rattle.acct_outside.specs.Life.{Life, unbegun, running, life, life_step}
use Rattle.acct_outside.specs.declared.CommitStage.{CommitStage}
use Rattle.acct_outside.specs.declared.CommitStage.TheVariants.{Before, Committed}
use Rattle.suite_rules.specs.Deeds.{SuiteDeeds}
use Rattle.suite_rules.specs.Knowledge.{Seen, knows_none}
use Rattle.suite_rules.specs.Standing.{Standing, calls_commit, command_step, commit_step, standing}
use Rattle.suite_rules.specs.Rules.{KeeperRule, HasSeen, CommitRule, MayBackUp, moves_backup, moves_free, Permits, free_begin, free_listing, free_read, free_verdict, create_rule, staging_rule, append_rule, commit_rule, install_rule, clear_rule, move_rule, unlock_rule, answer_rule}
use Rattle.suite_rules.specs.Lawful.{IsNext, Lawful, goes_on}
use Rattle.suite_rules.specs.Settled.{settled}
use Rattle.suite_rules.specs.Committed.{Commitment, commitment_of, commits, committed, after_deed, folded}
use Rattle.suite_rules.specs.Invariant.{KnownStands, NoneStands, KeeperView}
use Rattle.suite_rules.specs.Laws.{IsCleanKeeper}
use Rattle.suite_rules.specs.OwnLock.{kept_number, made_number}
use Rattle.acct_outside.proofs.NameLemmas.{table-is, table-same}
use Rattle.suite_rules.proofs.Names.{fails-apart}
use Rattle.suite_rules.proofs.Commitments.{fold-append}
use Rattle.suite_rules.proofs.Settles.{file-facts, lawful-settles}
use Rattle.suite_rules.proofs.Places.{places-stay}
use Rattle.suite_session.specs.Writing.{IsToChange, WritesDue, WroteDue}
use Rattle.suite_session.specs.Deeds.{AreOfTools}
use Rattle.suite_course.specs.Alone.{IsAlone, IsBackedUp}
use Rattle.suite_course.proofs.AloneLemmas.{no-events, same-token}
use Rattle.suite_course.proofs.AloneStays.{created-same, removed-same, written-same, appended-same, moved-same, event-permitted}
use Rattle.suite_course.proofs.BackupLemmas.{begun-stays, moves-active, begun-asked, Makes, makes-one, IsMoved, IsUncommitted, BackupsAlone, leaves-one, leaves-all}

module _ (deeds : SuiteDeeds) (ours : AreOfTools deeds) (first entry : Folder) (token : Token)
    (history : History) (lawful : Lawful deeds first history) where
  -- how the folder and the session stood before the call
  abbrev folder : Folder
  folder = after first history

  abbrev stood : Standing
  stood = standing token history

  -- the session's call with this result
  abbrev own_event : (call : Call) → CallResult (Answer call) → Event
  own_event call result = record { token = token; call = call; result = result }

  -- it may come next
  abbrev Next : (call : Call) → CallResult (Answer call) → Type 0
  Next call result = IsNext deeds first history (own_event call result)

  -- the folder after it
  abbrev later : (call : Call) → CallResult (Answer call) → Folder
  later call result = changed_by token call (effect_of call result) folder

  -- the session's life after it
  abbrev lives : (call : Call) → CallResult (Answer call) → Life
  lives call result = life_step call result (life token history)

  -- how it stands with the backups after it
  abbrev BackupsAfter : (call : Call) → CallResult (Answer call) → Type 0
  BackupsAfter call result = BackupsAlone deeds first entry (later call result) (lives call result)
      (command_step call result stood.command) (commit_step call result stood.commit)

  -- a call that commits nothing leaves the settled files
  settled-same : (call : Call) (result : CallResult (Answer call)) → Next call result →
      commits token call (effect_of call result) stood ≡ [] → (table : Tab) →
      settled (later call result) table ≡ settled folder table
  settled-same call result next none table =
      lawful-settles.is_fold deeds first (own_event call result ∷ history)
      (goes_on (own_event call result) history lawful next) table
      ∙ (ap (λ (list : List Commitment). folded deeds first list table)
      (ap (λ (list : List Commitment). committed history ++ list) none
      ∙ append-nil (committed history))
      ∙ sym (lawful-settles.is_fold deeds first history lawful table))

  module _ (held : BackupsAlone deeds first entry folder (life token history) stood.command
      stood.commit) where
    -- a call that commits nothing and leaves the backups
    leaves : (call : Call) (result : CallResult (Answer call)) → Next call result →
        commits token call (effect_of call result) stood ≡ [] →
        commit_step call result stood.commit ≡ stood.commit →
        ((table : Tab) → (later call result).file (Backup table) ≡ folder.file (Backup table)) →
        BackupsAfter call result
    leaves call result next none same backups =
        subst (BackupsAlone deeds first entry (later call result) (lives call result)
        (command_step call result stood.command)) (sym same)
        (leaves-all deeds first entry folder (later call result) (life token history)
        (lives call result) stood.command (command_step call result stood.command)
        (begun-asked deeds history token call result stood.command next.keeps)
        (settled-same call result next none) backups stood.commit held)

    -- ---- What the session has seen

    module _ (uncalled : stood.commit ≡ Before) where
      -- how it stands with the backup of a table before the commit
      before : (table : Tab) →
          IsUncommitted deeds first entry folder (life token history) stood.command table
      before = subst (BackupsAlone deeds first entry folder (life token history) stood.command)
          uncalled held

      module _ (keeper : KeeperRule stood) (runs : life token history ≡ running) (seen : Seen)
          (knows : stood.knows ≡ knows_none seen) where
        -- it is a clean keeper
        clean : IsCleanKeeper history token keeper.number seen
        clean = record {
          active = record { runs = runs; keeps = keeper.keeps };
          uncommitted = uncalled;
          clean = knows;
        }

        -- what it knows and has staged stands
        view : KeeperView folder stood.knows stood.staged
        view = (file-facts deeds first history lawful).view token keeper.number clean.active

        -- no intent stands, and what it has seen does
        none : NoneStands folder seen
        none = subst (KnownStands folder) knows view.known

        -- a table that it has seen is settled as it was then
        seen-old : (table : Tab) (content : Option Bytes) →
            seen.file (Table table) ≡ Some content → content ≡ settled entry table
        seen-old table content is = (lawful-settles.has_seen deeds first history lawful token
            keeper.number seen clean table content is).0 ∙ (before table).settles

        -- its deed on what it has seen is that on the files as they were settled then
        makes-old : (all : HasSeen stood.command seen) (new : Contents) →
            deeds.deed all.command all.files all.defs ≡ Some new →
            Makes deeds first entry stood.command new
        makes-old all new is = record {
          command = all.command;
          is_asked = all.is_asked;
          is_deed = sym (ap₂ (λ (files : Contents) (defs : Option Bytes).
              deeds.deed all.command files defs)
              (λ i table. seen-old table (all.files table) (all.each_table table) i)
              (places-stay.settings deeds first history lawful token keeper.number seen
              (record {
                kept = ap kept_number keeper.keeps;
                uncommitted = uncalled;
                clean = knows;
              }) all.defs all.settings)) ∙ is;
        }

    -- ---- A move to a backup

    module _ (table : Tab) (keeper : KeeperRule stood) (may : MayBackUp stood table)
        (backs : IsToChange stood table) (result : CallResult (Unit {0}))
        (next : Next (renames BackupStage (Backup table)) result) where
      abbrev move : Call
      move = renames BackupStage (Backup table)

      -- how it stands with the backup of a table after it
      abbrev MovedAfter : Tab → Type 0
      MovedAfter other = IsUncommitted deeds first entry (later move result) (lives move result)
          stood.command other

      -- only an active session moves
      runs-on : life token history ≡ running
      runs-on = moves-active (life token history) BackupStage (Backup table) next.keeps.life_rule

      -- it brings the table there as it was settled then, or leaves the backup
      backup-moved : (effect : Effect) →
          ((changed_by token move effect folder).file (Backup table) ≡ folder.file (Backup table))
          ⊎ ((changed_by token move effect folder).file (Backup table) ≡ settled entry table)
      backup-moved happened = inr (rw (stands, table-same table)
          (seen-old backs.uncommitted keeper runs-on may.seen may.knows table (Some may.bytes)
          may.is_seen))
        where
          stands : folder.file BackupStage ≡ Some may.bytes
          stands = (view backs.uncommitted keeper runs-on may.seen may.knows).stages BackupStage
              may.bytes refl may.staged
      backup-moved nothing = inl refl
      backup-moved (left content) = inl refl

      -- a backup that it leaves
      backup-left : (other : Tab) →
          (later move result).file (Backup other) ≡ folder.file (Backup other) → MovedAfter other
      backup-left other same = leaves-one deeds first entry folder (later move result)
          (life token history) (lives move result) stood.command stood.command
          (begun-asked deeds history token move result stood.command next.keeps)
          (settled-same move result next refl) other same (before backs.uncommitted other)

      -- the backup of a table that the deed changes
      backup-made : (later move result).file (Backup table) ≡ settled entry table →
          MovedAfter table
      backup-made old = record {
        settles = settled-same move result next refl table
            ∙ (before backs.uncommitted table).settles;
        backup = inr (record {
          begun = begun-stays move result (life token history) (λ none. (
              let wrong : running ≡ unbegun = sym runs-on ∙ none in cc wrong));
          is_old = old;
          new = backs.new;
          makes = makes-old backs.uncommitted keeper runs-on backs.seen backs.clean backs.has_seen
              backs.new ((λ i. ours.is_deed i backs.has_seen.command backs.has_seen.files
              backs.has_seen.defs) ∙ backs.is_deed);
          differs = λ same. backs.differs (same ∙ sym (seen-old backs.uncommitted keeper runs-on
              backs.seen backs.clean table (backs.has_seen.files table)
              (backs.has_seen.each_table table)));
        });
      }

      -- so with each backup
      backup-step : BackupsAfter move result
      backup-step = subst (BackupsAlone deeds first entry (later move result) (lives move result)
          stood.command) (sym backs.uncommitted)
          (λ other. cases other (same_table other table) refl)
        where
          cases : (other : Tab) (same : Bool) → same_table other table ≡ same → MovedAfter other
          cases other false differs = backup-left other (moved-same token folder (Backup other)
              BackupStage (Backup table) (effect_of move result) refl differs)
          cases other true same = subst MovedAfter (sym (table-is other table same))
              (elim (backup-moved (effect_of move result)) [
                | inl stays ↦ backup-left table stays
                | inr old ↦ backup-made old
              ])

    -- ---- The commit

    module _ (keeper : KeeperRule stood) (rule : CommitRule deeds stood keeper.number) where
      abbrev commit : Call
      commit = renames IntentStage Intent

      -- it was done
      module _ (next : Next commit (done tt)) where
        -- the folder after it
        abbrev now : Folder
        now = later commit (done tt)

        -- only an active session commits
        active : life token history ≡ running
        active = moves-active (life token history) IntentStage Intent next.keeps.life_rule

        -- the deed makes the new files of those that were settled then
        made : Makes deeds first entry stood.command rule.new
        made = makes-old rule.first keeper active rule.seen rule.knows rule.has_seen rule.new
            rule.is_deed

        -- the files that it has seen are settled as they were then
        seen-is : (table : Tab) → rule.has_seen.files table ≡ settled entry table
        seen-is table = seen-old rule.first keeper active rule.seen rule.knows table
            (rule.has_seen.files table) (rule.has_seen.each_table table)

        -- what was committed before leaves them so
        fold-old : folded deeds first (committed history) ≡ settled entry
        fold-old = λ i table. (sym (lawful-settles.is_fold deeds first history lawful table)
            ∙ (before rule.first table).settles) i

        -- the new files are settled
        new-settled : (table : Tab) → settled now table ≡ rule.new table
        new-settled table =
            lawful-settles.is_fold deeds first (own_event commit (done tt) ∷ history)
            (goes_on (own_event commit (done tt)) history lawful next) table
            ∙ (ap₂ (λ (number : Option ℕ) (command : Option Command). folded deeds first
            (committed history ++ commitment_of token number command) table)
            (ap made_number keeper.keeps) made.is_asked
            ∙ (ap (λ (files : Contents). files table)
            (fold-append deeds (settings_file first) (settled first) (committed history)
            (record { token = token; number = keeper.number; command = made.command } ∷ []))
            ∙ (ap (λ (files : Contents).
            after_deed deeds (settings_file first) files made.command table) fold-old
            ∙ ap (λ (one : Option Contents). unwrap_or one (settled entry) table) made.is_deed)))

        -- a backup that was moved is of a table that the new files change
        moved-differs : (table : Tab) →
            IsMoved deeds first entry folder (life token history) stood.command table →
            settled now table ≢ settled entry table
        moved-differs table moved same = moved.differs (ap (λ (files : Contents). files table)
            (makes-one deeds first entry stood.command moved.new rule.new moved.makes made)
            ∙ (sym (new-settled table) ∙ same))

        -- each table that the deed changes is backed up, and no other
        commit-backed : (table : Tab) → IsBackedUp entry now table
        commit-backed table = record {
          changed = λ differs. stays ∙ (stands.backups table (rule.backed table (λ same.
              differs (new-settled table ∙ (same ∙ seen-is table))))
              ∙ (stands.inputs (Table table) (rule.has_seen.files table) refl
              (rule.has_seen.each_table table) ∙ seen-is table));
          unchanged = λ same. stays ∙ elim (before rule.first table).backup [
            | inl kept ↦ kept
            | inr moved ↦ absurd (moved-differs table moved same)
          ];
        }
          where
            stands : NoneStands folder rule.seen
            stands = none rule.first keeper active rule.seen rule.knows

            stays : now.file (Backup table) ≡ folder.file (Backup table)
            stays = moved-same token folder (Backup table) IntentStage Intent happened refl refl

      -- of one without an answer nothing is asked
      unanswered : (result : CallResult (Unit {0})) → BackupsAlone deeds first entry
          (later commit result) (lives commit result) stood.command (calls_commit stood.commit)
      unanswered result = subst (λ (one : CommitStage). BackupsAlone deeds first entry
          (later commit result) (lives commit result) stood.command (calls_commit one))
          (sym rule.first) tt

      -- whatever its result
      commit-step : (result : CallResult (Unit {0})) → Next commit result →
          BackupsAfter commit result
      commit-step (done answer) next = commit-backed next
      commit-step (failed effect) next = unanswered (failed effect)
      commit-step (died effect) next = unanswered (died effect)

    -- ---- Call by call

    -- each permitted call
    backups-step : (call : Call) (result : CallResult (Answer call)) →
        Permits deeds stood call → Next call result → WritesDue stood call →
        BackupsAfter call result
    backups-step _ result (free_begin command) next backs =
        leaves (begins command) result next refl refl (λ table. refl)
    backups-step _ result free_listing next backs =
        leaves lists result next refl refl (λ table. refl)
    backups-step _ result (free_read name) next backs =
        leaves (reads name) result next refl refl (λ table. refl)
    backups-step _ result (free_verdict asked) next backs =
        leaves (asks asked) result next refl refl (λ table. refl)
    backups-step _ result (create_rule number rule) next backs =
        leaves (creates number) result next refl refl (λ table. created-same token folder
        (Backup table) number (effect_of (creates number) result) refl)
    backups-step _ result (staging_rule name piece keeper rule) next backs =
        leaves (writes name piece) result next refl refl (λ table. written-same token folder
        (Backup table) name piece (effect_of (writes name piece) result)
        (fails-apart is_staging (Backup table) name refl rule.staging))
    backups-step _ result (append_rule name piece keeper rule) next backs =
        leaves (appends name piece) result next refl refl (λ table. appended-same token folder
        (Backup table) name piece (effect_of (appends name piece) result)
        (fails-apart is_staging (Backup table) name refl rule.rule.staging))
    backups-step _ result (commit_rule keeper rule) next backs = commit-step keeper rule result next
    backups-step _ result (install_rule table keeper rule) next backs =
        leaves (renames (Staged table) (Table table)) result next refl refl (λ other. moved-same
        token folder (Backup other) (Staged table) (Table table)
        (effect_of (renames (Staged table) (Table table)) result) refl refl)
    backups-step _ result (clear_rule keeper rule) next backs =
        leaves (removes Intent) result next refl refl (λ table. removed-same token folder
        (Backup table) Intent (effect_of (removes Intent) result) refl)
    backups-step _ result (move_rule _ _ keeper (moves_backup table may)) next backs =
        backup-step table keeper may backs result next
    backups-step _ result (move_rule _ _ keeper (moves_free staged)) next backs =
        leaves (renames FreeStage (Lock keeper.number)) result next refl refl (λ table. moved-same
        token folder (Backup table) FreeStage (Lock keeper.number)
        (effect_of (renames FreeStage (Lock keeper.number)) result) refl refl)
    backups-step _ result (unlock_rule number rule) next backs =
        leaves (removes (Lock number)) result next refl refl (λ table. removed-same token folder
        (Backup table) (Lock number) (effect_of (removes (Lock number)) result) refl)
    backups-step _ result (answer_rule status rule) next backs =
        leaves (answers status) result next refl refl (λ table. refl)

-- ---- Since the earlier moment

module _ (deeds : SuiteDeeds) (ours : AreOfTools deeds) (first : Folder) (token : Token)
    (old : History) (fresh : own_events token old ≡ []) where
  -- how it stands with the backups
  abbrev BackupsNow : History → Type 0
  BackupsNow history = BackupsAlone deeds first (after first old) (after first history)
      (life token history) (standing token history).command (standing token history).commit

  -- an event of the session
  own-step : (event : Event) (history : History) → Lawful deeds first history →
      event.token ≡ token → IsNext deeds first history event →
      WritesDue (standing token history) event.call → BackupsNow history →
      BackupsNow (event ∷ history)
  own-step event history lawful same next backs held =
      subst (λ (one : Token). IsNext deeds first history
      (record { token = one; call = event.call; result = event.result }) →
      BackupsNow (record { token = one; call = event.call; result = event.result } ∷ history))
      (sym same)
      (λ own. rw (same-token token)
      (backups-step deeds ours first (after first old) token history lawful held event.call
      event.result (event-permitted deeds history token event.call event.result own.keeps) own
      backs))
      next

  -- all its events
  own-steps : (newer : History) → AllByRecursion (λ event. event.token ≡ token) newer →
      Lawful deeds first (newer ++ old) → WroteDue token (newer ++ old) →
      BackupsNow (newer ++ old)
  own-steps [] own lawful backed =
      let none = no-events token old fresh in
      subst (λ (one : Standing). BackupsAlone deeds first (after first old) (after first old)
      (life token old) one.command one.commit) (sym none)
      (λ table. record { settles = refl; backup = inl refl })
  own-steps (event ∷ newer) own (goes_on _ _ lawful next) backed =
      own-step event (newer ++ old) lawful own.0 next (backed.0 own.0)
      (own-steps newer own.1 lawful backed.1)

-- the claim
pub alone-backups : (deeds : SuiteDeeds) → AreOfTools deeds → (first : Folder)
    (history : History) → Lawful deeds first history → (token : Token) (old : History) →
    IsAlone token old history → (standing token history).commit ≡ Committed →
    WroteDue token history → (table : Tab) →
    IsBackedUp (after first old) (after first history) table
alone-backups deeds ours first history lawful token old alone is backed =
    subst (BackupsAlone deeds first (after first old) (after first history) (life token history)
    (standing token history).command) is
    (subst (BackupsNow deeds ours first token old alone.fresh) (sym alone.parts)
    (own-steps deeds ours first token old alone.fresh alone.newer alone.own
    (subst (Lawful deeds first) alone.parts lawful)
    (subst (WroteDue token) alone.parts backed)))
