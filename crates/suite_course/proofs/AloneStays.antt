-- Claims: what a session that was alone since a moment finds: the locks as they stood then, up to
-- its own create (`alone-locks`), and the intent as it stood then, or none, up to its own commit
-- (`alone-intent`).
-- Way: call by call (`alone-along`); at the intent's name a keeper only moves its staged intent
-- there, which is its commit, or removes it (`intent-step`).
use Rattle.std.proofs.Common.{◌≡◌, ◌⊎◌, refl, sym, subst, ◌∙◌, ◌∷◌, ◌++◌, [], false, inl, inr, ℕ, Option, Some, None}
use Rattle.std.specs.List.{AllByRecursion}
use Rattle.std.proofs.lemmas.Slice.Eq.{bytes_eq-Decides}
use Rattle.acct_text.specs.Bytes.{Bytes}
use Rattle.acct_outside.specs.declared.Name.{Name}
use Rattle.acct_outside.specs.declared.Name.TheVariants.{Table, Backup, Staged, Intent, IntentStage, BackupStage, FreeStage, Lock}
use Rattle.acct_outside.specs.Names.{is_staging, same_name}
use Rattle.acct_outside.specs.Tokens.{Token, held_text}
use Rattle.acct_outside.specs.Folder.{Folder, moved_content, with_piece}
use Rattle.acct_outside.specs.Calls.{Call, Answer, CallResult, Effect, begins, creates, writes, appends, renames, removes, done, happened, nothing, left, effect_of, changed_by}
use Rattle.acct_outside.specs.History.{Event, History, after}
use Rattle.acct_outside.specs.Gives.{GivesResult}
use Rattle.acct_outside.specs.declared.CommitStage.{CommitStage}
use Rattle.acct_outside.specs.declared.CommitStage.TheVariants.{Before}
use Rattle.suite_rules.specs.Deeds.{SuiteDeeds}
use Rattle.suite_rules.specs.Standing.{Standing, commit_step, no_standing, standing, standing_step}
use Rattle.suite_rules.specs.Rules.{moves_backup, moves_free, Permits, free_begin, create_rule, staging_rule, append_rule, commit_rule, install_rule, clear_rule, move_rule, unlock_rule}
use Rattle.suite_rules.specs.Lawful.{KeepsRulesOrNone, IsNext, Lawful, goes_on}
use Rattle.suite_rules.proofs.Names.{else-is, fails-apart}
use Rattle.suite_rules.proofs.Settles.{uncalled-before}
use Rattle.suite_course.specs.Alone.{IsAlone}
use Rattle.suite_course.proofs.AloneLemmas.{no-events}
use Rattle.suite_course.proofs.AloneSteps.{LocksAlone, locks-step}

-- ---- The intent

-- the intent stands as it stood then, or none stands
abbrev pub IsIntentOf : Folder → Folder → Type 0
IsIntentOf entry now = (now.file Intent ≡ entry.file Intent) ⊎ (now.file Intent ≡ None)

-- so it is up to the own commit
abbrev IntentAlone : Folder → Folder → Standing → Type 0
IntentAlone entry now stood = stood.commit ≡ Before → IsIntentOf entry now

-- it stays where the file does
same-intent : (entry before now : Folder) → now.file Intent ≡ before.file Intent →
    IsIntentOf entry before → IsIntentOf entry now
same-intent entry before now same (inl stands) = inl (same ∙ stands)
same-intent entry before now same (inr none) = inr (same ∙ none)

-- a commit is called by its call
commit-called : (result : CallResult (Unit {0})) (commit : CommitStage) →
    commit_step (renames IntentStage Intent) result commit ≡ Before → ⊥
commit-called result commit is =
    let was : commit ≡ Before =
    uncalled-before (renames IntentStage Intent) result commit is in
    first result (subst (λ (one : CommitStage).
    commit_step (renames IntentStage Intent) result one ≡ Before) was is)
  where
    first : (one : CallResult (Unit {0})) →
        commit_step (renames IntentStage Intent) one Before ≡ Before → ⊥
    first (done answer) same = cc same
    first one same = cc same

-- what a call does to a file of another name
module _ (token : Token) (folder : Folder) (kept : Name) where
  -- a create leaves it
  pub created-same : (number : ℕ) (effect : Effect) → same_name kept (Lock number) ≡ false →
      (changed_by token (creates number) effect folder).file kept ≡ folder.file kept
  created-same number happened other =
      else-is (same_name kept (Lock number)) (Some (held_text token)) (folder.file kept) other
  created-same number nothing other = refl
  created-same number (left content) other = refl

  -- so does a removal
  pub removed-same : (name : Name) (effect : Effect) → same_name kept name ≡ false →
      (changed_by token (removes name) effect folder).file kept ≡ folder.file kept
  removed-same name happened other = else-is (same_name kept name) None (folder.file kept) other
  removed-same name nothing other = refl
  removed-same name (left content) other = refl

  -- a write
  pub written-same : (name : Name) (bytes : Bytes) (effect : Effect) →
      same_name kept name ≡ false →
      (changed_by token (writes name bytes) effect folder).file kept ≡ folder.file kept
  written-same name bytes happened other =
      else-is (same_name kept name) (Some bytes) (folder.file kept) other
  written-same name bytes nothing other = refl
  written-same name bytes (left content) other =
      else-is (same_name kept name) content (folder.file kept) other

  -- an append
  pub appended-same : (name : Name) (piece : Bytes) (effect : Effect) →
      same_name kept name ≡ false →
      (changed_by token (appends name piece) effect folder).file kept ≡ folder.file kept
  appended-same name piece happened other =
      else-is (same_name kept name) (with_piece piece (folder.file name)) (folder.file kept) other
  appended-same name piece nothing other = refl
  appended-same name piece (left content) other =
      else-is (same_name kept name) content (folder.file kept) other

  -- and a move
  pub moved-same : (from to : Name) (effect : Effect) → same_name kept from ≡ false →
      same_name kept to ≡ false →
      (changed_by token (renames from to) effect folder).file kept ≡ folder.file kept
  moved-same from to happened source target = cases (folder.file from)
    where
      cases : (content : Option Bytes) →
          (moved_content content from to folder).file kept ≡ folder.file kept
      cases None = refl
      cases (Some bytes) = rw (target, source) refl
  moved-same from to nothing source target = refl
  moved-same from to (left content) source target = refl

module _ (token : Token) (folder : Folder) where
  -- the removal of the intent removes it
  cleared-intent : (entry : Folder) (effect : Effect) → IsIntentOf entry folder →
      IsIntentOf entry (changed_by token (removes Intent) effect folder)
  cleared-intent entry happened is = inr refl
  cleared-intent entry nothing is = is
  cleared-intent entry (left content) is = is

module _ (deeds : SuiteDeeds) (token : Token) (entry folder : Folder) (stood : Standing)
    (held : IntentAlone entry folder stood) where
  -- a call that leaves the intent and the commit
  leaves-intent : (call : Call) (result : CallResult (Answer call)) →
      (changed_by token call (effect_of call result) folder).file Intent ≡ folder.file Intent →
      IntentAlone entry (changed_by token call (effect_of call result) folder)
      (standing_step call result stood)
  leaves-intent call result same uncalled = same-intent entry folder
      (changed_by token call (effect_of call result) folder) same
      (held (uncalled-before call result stood.commit uncalled))

  -- each permitted call
  intent-step : (call : Call) (result : CallResult (Answer call)) → Permits deeds stood call →
      IntentAlone entry (changed_by token call (effect_of call result) folder)
      (standing_step call result stood)
  intent-step _ result (create_rule number rule) = leaves-intent (creates number) result
      (created-same token folder Intent number (effect_of (creates number) result) refl)
  intent-step _ result (staging_rule name piece keeper rule) =
      leaves-intent (writes name piece) result
      (written-same token folder Intent name piece (effect_of (writes name piece) result)
      (fails-apart is_staging Intent name refl rule.staging))
  intent-step _ result (append_rule name piece keeper rule) =
      leaves-intent (appends name piece) result
      (appended-same token folder Intent name piece (effect_of (appends name piece) result)
      (fails-apart is_staging Intent name refl rule.rule.staging))
  intent-step _ result (commit_rule keeper rule) =
      λ uncalled. absurd (commit-called result stood.commit uncalled)
  intent-step _ result (install_rule table keeper rule) =
      leaves-intent (renames (Staged table) (Table table)) result
      (moved-same token folder Intent (Staged table) (Table table)
      (effect_of (renames (Staged table) (Table table)) result) refl refl)
  intent-step _ result (clear_rule keeper rule) = λ uncalled.
      cleared-intent token folder entry (effect_of (removes Intent) result)
      (held (uncalled-before (removes Intent) result stood.commit uncalled))
  intent-step _ result (move_rule _ _ keeper (moves_backup table may)) =
      leaves-intent (renames BackupStage (Backup table)) result
      (moved-same token folder Intent BackupStage (Backup table)
      (effect_of (renames BackupStage (Backup table)) result) refl refl)
  intent-step _ result (move_rule _ _ keeper (moves_free staged)) =
      leaves-intent (renames FreeStage (Lock keeper.number)) result
      (moved-same token folder Intent FreeStage (Lock keeper.number)
      (effect_of (renames FreeStage (Lock keeper.number)) result) refl refl)
  intent-step _ result (unlock_rule number rule) = leaves-intent (removes (Lock number)) result
      (removed-same token folder Intent (Lock number) (effect_of (removes (Lock number)) result)
      refl)
  intent-step _ result other = held

-- ---- Call by call

-- an event's call is permitted; a begin always is
pub event-permitted : (deeds : SuiteDeeds) (history : History) (token : Token) (call : Call)
    (result : CallResult (Answer call)) → KeepsRulesOrNone deeds history token call result →
    Permits deeds (standing token history) call
event-permitted deeds history token (begins command) result keeps = free_begin command
event-permitted deeds history token call result keeps = keeps.permitted

module _ (deeds : SuiteDeeds) (first : Folder) (token : Token) (P : Folder → Standing → Type 0)
    (step : (history : History) (call : Call) (result : CallResult (Answer call)) →
    Lawful deeds first history → KeepsRulesOrNone deeds history token call result →
    GivesResult (after first history) history token call result →
    P (after first history) (standing token history) →
    P (changed_by token call (effect_of call result) (after first history))
    (standing_step call result (standing token history))) where
  -- an event of the session
  event-step : (event : Event) (history : History) → event.token ≡ token →
      Lawful deeds first history → IsNext deeds first history event →
      P (after first history) (standing token history) →
      P (after first (event ∷ history)) (standing token (event ∷ history))
  event-step event history same lawful next held =
      rw ((bytes_eq-Decides event.token token).1 same)
      (subst (λ (one : Token). P (changed_by one event.call (effect_of event.call event.result)
      (after first history)) (standing_step event.call event.result (standing token history)))
      (sym same)
      (step history event.call event.result lawful
      (subst (λ (one : Token). KeepsRulesOrNone deeds history one event.call event.result) same
      next.keeps)
      (subst (λ (one : Token).
      GivesResult (after first history) history one event.call event.result) same next.gives)
      held))

  -- what each of its calls keeps holds since a moment since which it was alone
  alone-steps : (newer old : History) → AllByRecursion (λ event. event.token ≡ token) newer →
      Lawful deeds first (newer ++ old) → P (after first old) (standing token old) →
      P (after first (newer ++ old)) (standing token (newer ++ old))
  alone-steps [] old own lawful held = held
  alone-steps (event ∷ newer) old own (goes_on _ _ lawful next) held =
      event-step event (newer ++ old) own.0 lawful next
      (alone-steps newer old own.1 lawful held)

module _ (deeds : SuiteDeeds) (first : Folder) (token : Token) (old history : History)
    (alone : IsAlone token old history) (lawful : Lawful deeds first history) where
  -- what holds of who has done nothing, and is kept by each call after a lawful history, holds now
  pub alone-along : (P : Folder → Standing → Type 0) →
      ((past : History) (call : Call) (result : CallResult (Answer call)) →
      Lawful deeds first past → KeepsRulesOrNone deeds past token call result →
      GivesResult (after first past) past token call result →
      P (after first past) (standing token past) →
      P (changed_by token call (effect_of call result) (after first past))
      (standing_step call result (standing token past))) →
      P (after first old) no_standing → P (after first history) (standing token history)
  alone-along P step held =
      subst (λ (one : History). P (after first one) (standing token one)) (sym alone.parts)
      (alone-steps deeds first token P step alone.newer old alone.own
      (subst (Lawful deeds first) alone.parts lawful)
      (subst (P (after first old)) (sym (no-events token old alone.fresh)) held))

  -- so does what is kept by each permitted call
  alone-holds : (P : Folder → Standing → Type 0) →
      ((past : History) (folder : Folder) (stood : Standing) (call : Call)
      (result : CallResult (Answer call)) → Permits deeds stood call →
      GivesResult folder past token call result → P folder stood →
      P (changed_by token call (effect_of call result) folder) (standing_step call result stood)) →
      P (after first old) no_standing → P (after first history) (standing token history)
  alone-holds P step = alone-along P (λ past call result lawful keeps gives held.
      step past (after first past) (standing token past) call result
      (event-permitted deeds past token call result keeps) gives held)

  -- the locks are as they stood, up to its own create
  pub alone-locks : LocksAlone (after first old) (after first history)
      (standing token history).listing (standing token history).own
  alone-locks = alone-holds
      (λ folder stood. LocksAlone (after first old) folder stood.listing stood.own)
      (λ past folder stood call result permitted gives held.
      locks-step deeds past token (after first old) folder stood held call result permitted gives)
      (refl, tt)

  -- so is the intent, up to its own commit
  pub alone-intent : (standing token history).commit ≡ Before →
      IsIntentOf (after first old) (after first history)
  alone-intent = alone-holds (IntentAlone (after first old))
      (λ past folder stood call result permitted gives held.
      intent-step deeds token (after first old) folder stood held call result permitted)
      (λ uncalled. inl refl)
