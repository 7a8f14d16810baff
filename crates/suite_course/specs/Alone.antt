-- Of a session that was alone in its folder since an earlier moment: what it answers on, and what it
-- leaves there.
use Rattle.std.specs.Prelude.{◌≡◌, ◌≢◌, ◌⊎◌, ◌∷◌, ◌++◌, [], ℕ, true, false, Some, None}
use Rattle.std.specs.List.{AllByRecursion}
use Rattle.acct_text.specs.declared.Tab.{Tab}
use Rattle.acct_outside.specs.declared.CommitStage.{CommitStage}
use Rattle.acct_outside.specs.declared.Name.{Name}
use Rattle.acct_outside.specs.declared.Name.TheVariants.{Backup, Intent, Lock}
use Rattle.acct_outside.specs.Names.{is_staging}
use Rattle.acct_outside.specs.Tokens.{Token, free_text}
use Rattle.acct_outside.specs.Folder.{Folder, settings_file}
use Rattle.acct_outside.specs.History.{History, after, own_events}
use Rattle.account_model.specs.Request.{is_report}
use Rattle.suite_rules.specs.Deeds.{SuiteDeeds}
use Rattle.suite_rules.specs.Standing.{standing}
use Rattle.suite_rules.specs.OwnLock.{kept_number}
use Rattle.suite_rules.specs.Settled.{settled}
use Rattle.suite_rules.specs.Committed.{committed, commitments_of, fold_deeds}
use Rattle.suite_answers.specs.declared.cause.Cause.{Cause}
use Rattle.suite_answers.specs.declared.cause.Cause.TheVariants.{Changed, Memory}
use Rattle.suite_answers.specs.declared.answer.Answer.{Answer}
use Rattle.suite_session.specs.Runner.{Question}
use Rattle.suite_session.specs.Answers.{IsAnswerSeen}
use Rattle.suite_session.specs.Deeds.{files_of}
use Rattle.suite_session.specs.Stands.{IsDecided, IsStopped}

-- since an earlier moment all events are the session's own, and before it there is none of its
pub record IsAlone (token : Token) (old new : History) : Type 0 where
  pub newer : History
  pub parts : new ≡ newer ++ old
  pub own : AllByRecursion (λ event. event.token ≡ token) newer
  pub fresh : own_events token old ≡ []

-- The answer is that on the settled files as they stood at the earlier moment, as the command sees them. They
-- are now what the
-- session's own commitments made of them: one deed, or none.
pub record IsAnswerOnOld (deeds : SuiteDeeds) (asked : Question) (first : Folder)
    (old new : History)
    (token : Token) (given : Answer) : Type 0 where
  pub is_answer :
      IsAnswerSeen asked (files_of (settled (after first old)))
      (settings_file (after first old)) given
  pub settles : (table : Tab) → settled (after first new) table
      ≡ fold_deeds deeds (settings_file (after first old)) (settled (after first old))
      (commitments_of token (committed new)) table

-- so it is where the session was alone since whichever moment
abbrev pub AnswersAlone : SuiteDeeds → Question → Folder → History → Token → Answer → Type 0
AnswersAlone deeds asked first history token given = (old : History) → IsAlone token old history →
    IsAnswerOnOld deeds asked first old history token given

-- one lock stands, of this number, and it is free
pub record IsOnlyLock (folder : Folder) (number : ℕ) : Type 0 where
  pub only : folder.locks ≡ number ∷ []
  pub free : folder.file (Lock number) ≡ Some free_text

-- a table that changed has its bytes of before as backup, and any other the backup of before
pub record IsBackedUp (before now : Folder) (table : Tab) : Type 0 where
  pub changed : settled now table ≢ settled before table →
      now.file (Backup table) ≡ settled before table
  pub unchanged : settled now table ≡ settled before table →
      now.file (Backup table) ≡ before.file (Backup table)

-- each staging name is absent, or as it stood before
abbrev pub IsUnstaged : Folder → Folder → Type 0
IsUnstaged before now = (name : Name) → is_staging name ≡ true →
    (now.file name ≡ None) ⊎ (now.file name ≡ before.file name)

-- What a session that answered with this cause leaves, where it was alone since an earlier moment: a
-- report the folder as it was; any other its own lock, which is free, where it kept one, nothing at a
-- staging name that didn't stand there before, no intent, where its tool decided, and backups of what it
-- changed. A fault or want of memory may leave more.
pub record LeavesFolder (asked : Question) (first : Folder) (old new : History) (token : Token)
    (cause : Cause) : Type 0 where
  pub report : is_report asked.request ≡ true → after first new ≡ after first old
  pub lock : (IsStopped cause → ⊥) → (number : ℕ) →
      kept_number (standing token new).own ≡ Some number → IsOnlyLock (after first new) number
  pub staging : (IsStopped cause → ⊥) → IsUnstaged (after first old) (after first new)
  pub intent : is_report asked.request ≡ false → IsDecided cause →
      (after first new).file Intent ≡ None
  pub backups : cause ≡ Changed → (table : Tab) →
      IsBackedUp (after first old) (after first new) table

-- there was no memory, or the answer is the tool's on the settled files of the earlier moment
abbrev pub AnswersOnOld : SuiteDeeds → Question → Folder → History → History → Token →
    Answer → Type 0
AnswersOnOld deeds asked first old new token given =
    ((stage : CommitStage) × (given.outcome.cause ≡ Memory stage))
    ⊎ IsAnswerOnOld deeds asked first old new token given
