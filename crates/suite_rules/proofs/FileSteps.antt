-- What one lawful event does to the files: nothing, or one change of an active keeper
-- (`file-effect`); and a keeper's view after a done call of it (`view-step`), so after any event
-- after which it is active (`event-view`).
use Rattle.std.proofs.Common.{◌≡◌, refl, ℕ, Bool, true, false, if◌then◌else◌, List, [], Option, Some, None}
use Rattle.acct_text.specs.declared.Tab.{Tab}
use Rattle.acct_text.specs.Bytes.{Bytes}
use Rattle.acct_outside.specs.declared.Name.{Name}
use Rattle.acct_outside.specs.declared.Name.TheVariants.{Table, Backup, Staged, Intent, IntentStage, BackupStage, FreeStage, Lock}
use Rattle.acct_outside.specs.declared.Created.TheVariants.{Done, Exists}
use Rattle.acct_outside.specs.Names.{is_staging, same_name}
use Rattle.acct_outside.specs.Tokens.{Token, held_text}
use Rattle.acct_outside.specs.Folder.{Folder}
use Rattle.acct_outside.specs.Calls.{Call, Answer, Effect, begins, creates, writes, appends, renames, removes, answers, done, happened, nothing, left, effect_of, changed_by}
use Rattle.acct_outside.specs.History.{History}
use Rattle.acct_outside.specs.Life.{Life, unbegun, running, faulted, MayCall}
use Rattle.acct_outside.specs.Gives.{GivesEffect, GivesResult}
use Rattle.suite_rules.specs.Deeds.{SuiteDeeds}
use Rattle.suite_rules.specs.OwnLock.{OwnLock, is_keeper, made_number}
use Rattle.suite_rules.specs.Knowledge.{Knowledge, knows_nothing, knows_step}
use Rattle.suite_rules.specs.Standing.{Standing, nothing_staged, staged_step, keeper_part}
use Rattle.suite_rules.specs.Rules.{KeeperRule, CommitRule, InstallRule, ClearRule, MayBackUp, moves_backup, moves_free, Permits, free_read, create_rule, staging_rule, append_rule, commit_rule, install_rule, clear_rule, move_rule, unlock_rule, KeepsRules}
use Rattle.suite_rules.specs.Committed.{Commitment, commits, commitment_of}
use Rattle.suite_rules.specs.Invariant.{KeeperView}
use Rattle.suite_rules.proofs.Numbers.{number-same}
use Rattle.acct_outside.proofs.NameLemmas.{table-same}
use Rattle.suite_rules.proofs.Names.{is_lock, else-is, fails-apart}
use Rattle.suite_rules.proofs.Effects.{SameFiles, SameBut, FileMoved, files-same, lock-files, write-others, append-others, file-moved}
use Rattle.suite_rules.proofs.ViewSteps.{view-same, view-read, view-write, view-append, view-commit, view-install, view-backup, view-clear, view-free}

-- What an event did to the files, and which commands it committed: nothing, or one change of an
-- active keeper.
pub data FileEffect (deeds : SuiteDeeds) (token : Token) (before after : Folder) (life : Life)
    (standing : Standing) : List Commitment → Type 0 where
  files_stay : SameFiles before after → FileEffect deeds token before after life standing []
  file_written : (name : Name) → is_staging name ≡ true → KeeperRule standing → life ≡ running →
      SameBut name before after → FileEffect deeds token before after life standing []
  intent_committed : (keeper : KeeperRule standing) → CommitRule deeds standing keeper.number →
      life ≡ running → FileMoved before after IntentStage Intent →
      FileEffect deeds token before after life standing
      (commitment_of token (made_number standing.own) standing.command)
  table_installed : (table : Tab) → KeeperRule standing → InstallRule standing table →
      life ≡ running → FileMoved before after (Staged table) (Table table) →
      FileEffect deeds token before after life standing []
  table_backed_up : (table : Tab) → KeeperRule standing → MayBackUp standing table →
      life ≡ running → FileMoved before after BackupStage (Backup table) →
      FileEffect deeds token before after life standing []
  intent_cleared : KeeperRule standing → ClearRule standing → life ≡ running →
      after.file Intent ≡ None → SameBut Intent before after →
      FileEffect deeds token before after life standing []
  lock_given_back : KeeperRule standing → life ≡ running → SameBut FreeStage before after →
      FileEffect deeds token before after life standing []

-- the call is neither a begin nor an answer
abbrev pub is_between : Call → Bool
is_between (begins command) = false
is_between (answers status) = false
is_between _ = true

-- a session that may make such a call is active
pub active : (life : Life) (call : Call) → is_between call ≡ true → MayCall life call →
    life ≡ running
active running call is may = refl
active unbegun (begins command) is may = absurd (cc)
active faulted (answers status) is may = absurd (cc)
active life _ is may = absurd may

module _ (deeds : SuiteDeeds) (token : Token) (folder : Folder) (life : Life)
    (standing : Standing) where
  -- what a call with this effect did
  abbrev EffectOf : Call → Effect → Type 0
  EffectOf call effect = FileEffect deeds token folder (changed_by token call effect folder) life
      standing (commits token call effect standing)

  -- a create or a removal of a lock leaves the files
  lock-effect : (number : ℕ) (effect : Effect) →
      SameFiles folder (changed_by token (removes (Lock number)) effect folder)
  lock-effect number happened = lock-files folder number None
  lock-effect number nothing = files-same folder
  lock-effect number (left content) = files-same folder

  -- a create leaves the files
  create-effect : (number : ℕ) (effect : Effect) →
      SameFiles folder (changed_by token (creates number) effect folder)
  create-effect number happened = lock-files folder number (Some (held_text token))
  create-effect number nothing = files-same folder
  create-effect number (left content) = files-same folder

  -- a commit
  commit-effect : (keeper : KeeperRule standing) (effect : Effect) →
      CommitRule deeds standing keeper.number → life ≡ running →
      GivesEffect folder (renames IntentStage Intent) effect →
      EffectOf (renames IntentStage Intent) effect
  commit-effect keeper happened rule runs some =
      intent_committed keeper rule runs (file-moved folder IntentStage Intent refl some)
  commit-effect keeper nothing rule runs given = files_stay (files-same folder)
  commit-effect keeper (left content) rule runs given = absurd given

  -- a move to a table
  install-effect : (table : Tab) (effect : Effect) → KeeperRule standing →
      InstallRule standing table → life ≡ running →
      GivesEffect folder (renames (Staged table) (Table table)) effect →
      EffectOf (renames (Staged table) (Table table)) effect
  install-effect table happened keeper rule runs some =
      table_installed table keeper rule runs
      (file-moved folder (Staged table) (Table table) (table-same table) some)
  install-effect table nothing keeper rule runs given = files_stay (files-same folder)
  install-effect table (left content) keeper rule runs given = absurd given

  -- a move to a backup
  backup-effect : (table : Tab) (effect : Effect) → KeeperRule standing →
      MayBackUp standing table → life ≡ running →
      GivesEffect folder (renames BackupStage (Backup table)) effect →
      EffectOf (renames BackupStage (Backup table)) effect
  backup-effect table happened keeper may runs some =
      table_backed_up table keeper may runs
      (file-moved folder BackupStage (Backup table) (table-same table) some)
  backup-effect table nothing keeper may runs given = files_stay (files-same folder)
  backup-effect table (left content) keeper may runs given = absurd given

  -- a removal of the intent
  clear-effect : (effect : Effect) → KeeperRule standing → ClearRule standing →
      life ≡ running → GivesEffect folder (removes Intent) effect →
      EffectOf (removes Intent) effect
  clear-effect happened keeper rule runs given = intent_cleared keeper rule runs refl
      (λ other free off. else-is (same_name other Intent) None (folder.file other) off)
  clear-effect nothing keeper rule runs given = files_stay (files-same folder)
  clear-effect (left content) keeper rule runs given = absurd given

  -- a move of the free text
  free-effect : (number : ℕ) (effect : Effect) → KeeperRule standing → life ≡ running →
      GivesEffect folder (renames FreeStage (Lock number)) effect →
      EffectOf (renames FreeStage (Lock number)) effect
  free-effect number happened keeper runs some =
      let now = file-moved folder FreeStage (Lock number) (number-same number) some in
      lock_given_back keeper runs (λ other free off.
      now.others other free off (fails-apart is_lock other (Lock number) free refl))
  free-effect number nothing keeper runs given = files_stay (files-same folder)
  free-effect number (left content) keeper runs given = absurd given

  -- what a permitted call did, by its effect
  pub file-effect : (call : Call) (effect : Effect) → KeepsRules deeds life standing call →
      GivesEffect folder call effect → EffectOf call effect
  file-effect call effect keeps gives = cases call keeps.permitted keeps.life_rule gives
    where
      cases : (call : Call) → Permits deeds standing call → MayCall life call →
          GivesEffect folder call effect → EffectOf call effect
      cases _ (create_rule number rule) may gives = files_stay (create-effect number effect)
      cases _ (staging_rule name piece keeper rule) may gives =
          file_written name rule.staging keeper (active life (writes name piece) refl may)
          (write-others folder token name piece effect)
      cases _ (append_rule name piece keeper rule) may gives =
          file_written name rule.rule.staging keeper (active life (appends name piece) refl may)
          (append-others folder token name piece effect)
      cases _ (commit_rule keeper rule) may gives =
          commit-effect keeper effect rule (active life (renames IntentStage Intent) refl may) gives
      cases _ (install_rule table keeper rule) may gives =
          install-effect table effect keeper rule
          (active life (renames (Staged table) (Table table)) refl may) gives
      cases _ (clear_rule keeper rule) may gives =
          clear-effect effect keeper rule (active life (removes Intent) refl may) gives
      cases _ (move_rule _ _ keeper (moves_backup table rule)) may gives =
          backup-effect table effect keeper rule
          (active life (renames BackupStage (Backup table)) refl may) gives
      cases _ (move_rule _ _ keeper (moves_free staged)) may gives =
          free-effect keeper.number effect keeper
          (active life (renames FreeStage (Lock keeper.number)) refl may) gives
      cases _ (unlock_rule number rule) may gives = files_stay (lock-effect number effect)
      cases _ other may gives = files_stay (files-same folder)

module _ (deeds : SuiteDeeds) (history : History) (token : Token) (folder : Folder)
    (standing : Standing) where
  -- the keeper's view after a done call of it
  abbrev ViewAfter : (call : Call) → Answer call → Type 0
  ViewAfter call answer =
      KeeperView (changed_by token call (effect_of call (done answer)) folder)
      (knows_step standing.staged call (done answer) standing.knows)
      (staged_step call (done answer) standing.staged)

  -- a create leaves the view
  create-view : (number : ℕ) (answer : Answer (creates number)) →
      KeeperView folder standing.knows standing.staged → ViewAfter (creates number) answer
  create-view number Done view =
      view-same folder _ (lock-files folder number (Some (held_text token)))
      standing.knows standing.staged view
  create-view number Exists view = view

  -- a permitted call that is done keeps the view
  pub view-step : (call : Call) (answer : Answer call) → Permits deeds standing call →
      GivesResult folder history token call (done answer) →
      KeeperView folder standing.knows standing.staged → ViewAfter call answer
  view-step _ answer (free_read name) gives view =
      view-read folder standing.staged name answer standing.knows gives view
  view-step _ answer (create_rule number rule) gives view = create-view number answer view
  view-step _ answer (staging_rule name piece keeper rule) gives view =
      rw rule.staging (view-write deeds folder standing token view name piece rule.staging)
  view-step _ answer (append_rule name piece keeper rule) gives view =
      rw rule.rule.staging (view-append deeds folder standing token view name piece rule)
  view-step _ answer (commit_rule keeper rule) gives view =
      view-commit deeds folder standing token view keeper.number rule gives
  view-step _ answer (install_rule table keeper rule) gives view =
      rw (table-same table) (view-install deeds folder standing token view table rule gives)
  view-step _ answer (clear_rule keeper rule) gives view =
      view-clear deeds folder standing token view
  view-step _ answer (move_rule _ _ keeper (moves_backup table rule)) gives view =
      view-backup deeds folder standing token view table rule gives
  view-step _ answer (move_rule _ _ keeper (moves_free staged)) gives view =
      view-free deeds folder standing token view keeper.number gives (number-same keeper.number)
  view-step _ answer (unlock_rule number rule) gives view =
      view-same folder _ (lock-files folder number None) standing.knows standing.staged view
  view-step _ answer other gives view = view

-- the view of a session that is keeper after an event: as it begins where the session becomes keeper,
-- and else what the event made of it
pub view-part : (folder : Folder) (before later : OwnLock) (changed knows : Knowledge)
    (restaged staged : Name → Option Bytes) → is_keeper later ≡ true →
    (is_keeper before ≡ true → KeeperView folder changed restaged) →
    KeeperView folder (keeper_part before later knows_nothing changed knows)
    (keeper_part before later nothing_staged restaged staged)
view-part folder before later changed knows restaged staged keeps view =
    cases (is_keeper before) refl
  where
    cases : (kept : Bool) → is_keeper before ≡ kept →
        KeeperView folder
        (if kept then changed else (if is_keeper later then knows_nothing else knows))
        (if kept then restaged else (if is_keeper later then nothing_staged else staged))
    cases true is = view is
    cases false is =
        rw keeps (record { known = tt; stages = λ name bytes staging has. absurd (cc) })
