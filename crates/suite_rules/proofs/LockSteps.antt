-- What one lawful event does to the locks, and to what its session knows of them (`lock-step`): one
-- of nine changes, read off the call, its rule and its result.
use Rattle.std.proofs.Common.{◌≡◌, refl, sym, ap, ◌⊎◌, inl, inr, ℕ, List, Option, Some, None, option_map, IsSome, IsNone, true≢false}
use Rattle.acct_text.specs.Bytes.{Bytes}
use Rattle.acct_outside.specs.declared.Name.{Name}
use Rattle.acct_outside.specs.declared.Name.TheVariants.{Table, Backup, Staged, Intent, IntentStage, BackupStage, FreeStage, Lock}
use Rattle.acct_outside.specs.declared.Verdict.{Verdict}
use Rattle.acct_outside.specs.declared.Created.TheVariants.{Done}
use Rattle.acct_outside.specs.Names.{name_limit}
use Rattle.acct_outside.specs.Tokens.{Token, held_text}
use Rattle.acct_outside.specs.Folder.{Folder, greatest, top}
use Rattle.acct_outside.specs.Calls.{Call, Answer, CallResult, Found, found_within, lists, reads, asks, creates, writes, appends, renames, removes, done, failed, died, happened, nothing, left, found_bytes, effect_of, changed_by}
use Rattle.acct_outside.specs.History.{History}
use Rattle.acct_outside.specs.Gives.{GivesVerdict, GivesEffect, GivesResult}
use Rattle.suite_rules.specs.Deeds.{SuiteDeeds}
use Rattle.suite_rules.specs.OwnLock.{lock_called, lock_unsure, lock_made, lock_kept, lock_freed, held_number, has_called_create, makes, confirm_step, freed_at}
use Rattle.suite_rules.specs.Listing.{new_listing, text_step, verdict_step, before_create, with_removed, watch_step}
use Rattle.suite_rules.specs.Standing.{Standing, standing_step}
use Rattle.suite_rules.specs.Rules.{CreateRule, UnlockRule, moves_backup, moves_free, Permits, free_begin, free_listing, free_read, free_verdict, create_rule, staging_rule, append_rule, commit_rule, install_rule, clear_rule, move_rule, unlock_rule, answer_rule}
use Rattle.suite_rules.proofs.Numbers.{number-same}
use Rattle.suite_rules.proofs.Effects.{gives-effect, SameLocks, WithLock, WithoutLock, locks-same, write-locks, append-locks, rename-locks, remove-locks, free-lock, bytes-stand}

-- What an event did: the folder before became the one after, and the lock and the listing of its
-- session became those of the later standing.
pub data LockStep (history : History) (token : Token) (before after : Folder)
    (standing later : Standing) : Type 0 where
  -- nothing of the lock
  lock_quiet : SameLocks before after → later.own ≡ standing.own →
      later.listing ≡ standing.listing → LockStep history token before after standing later
  -- a listing
  lock_listed : SameLocks before after → later.own ≡ confirm_step (top before) standing.own →
      later.listing ≡ Some (new_listing (has_called_create standing.own) before.locks) →
      LockStep history token before after standing later
  -- a read of a lock's text
  lock_read : (number : ℕ) (text : Bytes) → before.file (Lock number) ≡ Some text →
      SameLocks before after → later.own ≡ standing.own →
      later.listing ≡ option_map (text_step number text) standing.listing →
      LockStep history token before after standing later
  -- a read of another file, or of a lock without a text
  lock_watched : (name : Name) (found : Found) →
      found ≡ found_within (name_limit name) (before.file name) → SameLocks before after →
      later.own ≡ standing.own →
      later.listing ≡ option_map (watch_step name found) standing.listing →
      LockStep history token before after standing later
  -- a verdict
  lock_told : (asked : Token) (verdict : Verdict) → GivesVerdict history asked verdict →
      SameLocks before after → later.own ≡ standing.own →
      later.listing ≡ option_map (verdict_step asked verdict) standing.listing →
      LockStep history token before after standing later
  -- a create that made no lock
  lock_tried : SameLocks before after → later.own ≡ makes lock_called standing.own →
      later.listing ≡ option_map before_create standing.listing →
      LockStep history token before after standing later
  -- a create that made a lock
  lock_created : (number : ℕ) → CreateRule standing number → IsNone (before.file (Lock number)) →
      WithLock number (held_text token) before after →
      (later.own ≡ lock_made number) ⊎ (later.own ≡ lock_unsure number) →
      later.listing ≡ option_map before_create standing.listing →
      LockStep history token before after standing later
  -- a keeper's move of the free text to its lock
  lock_given_up : (number : ℕ) (text : Bytes) → standing.own ≡ lock_kept number →
      WithLock number text before after → later.own ≡ lock_freed number →
      later.listing ≡ standing.listing → LockStep history token before after standing later
  -- a removal of a lock, which the listing notes where it was answered
  lock_removed : (number : ℕ) → UnlockRule standing number → WithoutLock number before after →
      later.own ≡ standing.own →
      (later.listing ≡ standing.listing)
      ⊎ (later.listing ≡ option_map (with_removed number) standing.listing) →
      LockStep history token before after standing later

module _ (deeds : SuiteDeeds) (history : History) (token : Token) (folder : Folder)
    (standing : Standing) where
  -- the step of a call of the session with this result
  abbrev StepOf : (call : Call) → CallResult (Answer call) → Type 0
  StepOf call result =
      LockStep history token folder (changed_by token call (effect_of call result) folder)
      standing (standing_step call result standing)

  -- a listing
  list-step : (result : CallResult (Answer lists)) →
      GivesResult folder history token lists result → StepOf lists result
  list-step (done numbers) gives =
      lock_listed (locks-same folder)
      (ap (λ (found : List ℕ). confirm_step (greatest found) standing.own) gives)
      (ap (λ (found : List ℕ). Some (new_listing (has_called_create standing.own) found)) gives)
  list-step (failed effect) gives = lock_quiet (locks-same folder) refl refl
  list-step (died effect) gives = lock_quiet (locks-same folder) refl refl

  -- a read
  read-step : (name : Name) (result : CallResult Found) →
      GivesResult folder history token (reads name) result → StepOf (reads name) result
  read-step (Lock number) (done (found_bytes text)) gives =
      lock_read number text
      (bytes-stand (name_limit (Lock number)) (folder.file (Lock number)) text gives)
      (locks-same folder) refl refl
  read-step name (done found) gives = lock_watched name found gives (locks-same folder) refl refl
  read-step name result gives = lock_quiet (locks-same folder) refl refl

  -- a verdict
  verdict-step : (asked : Token) (result : CallResult Verdict) →
      GivesResult folder history token (asks asked) result → StepOf (asks asked) result
  verdict-step asked (done verdict) gives =
      lock_told asked verdict gives (locks-same folder) refl refl
  verdict-step asked (failed effect) gives = lock_quiet (locks-same folder) refl refl
  verdict-step asked (died effect) gives = lock_quiet (locks-same folder) refl refl

  -- a create
  create-step : (number : ℕ) (result : CallResult (Answer (creates number))) →
      CreateRule standing number →
      GivesEffect folder (creates number) (effect_of (creates number) result) →
      StepOf (creates number) result
  create-step number (done Done) rule absent =
      lock_created number rule absent (record { numbers = refl; texts = λ other. refl })
      (inl (ap (makes (lock_made number)) rule.first)) refl
  create-step number (failed happened) rule absent =
      lock_created number rule absent (record { numbers = refl; texts = λ other. refl })
      (inr (ap (makes (lock_unsure number)) rule.first)) refl
  create-step number (failed (left content)) rule given = absurd given
  create-step number (died happened) rule absent =
      lock_created number rule absent (record { numbers = refl; texts = λ other. refl })
      (inr (ap (makes (lock_unsure number)) rule.first)) refl
  create-step number (died (left content)) rule given = absurd given
  create-step number result rule given = lock_tried (locks-same folder) refl refl

  -- a keeper's lock is freed where the free text comes to it
  freed-kept : (number : ℕ) → standing.own ≡ lock_kept number →
      freed_at number (held_number standing.own) standing.own ≡ lock_freed number
  freed-kept number keeps = rw keeps (rw (number-same number) refl)

  -- the free text came to the kept lock
  given-up : (number : ℕ) (later : Standing) → standing.own ≡ lock_kept number →
      IsSome (folder.file FreeStage) → later.own ≡ lock_freed number →
      later.listing ≡ standing.listing →
      LockStep history token folder
      (changed_by token (renames FreeStage (Lock number)) happened folder)
      standing later
  given-up number later keeps some own listing = cases (folder.file FreeStage) refl some
    where
      cases : (content : Option Bytes) → folder.file FreeStage ≡ content → IsSome content →
          LockStep history token folder
          (changed_by token (renames FreeStage (Lock number)) happened folder) standing later
      cases None is some = absurd (true≢false (sym some))
      cases (Some text) is some =
          lock_given_up number text keeps (free-lock folder number text is) own listing

  -- a move of the free text
  free-step : (number : ℕ) (result : CallResult (Unit {0})) → standing.own ≡ lock_kept number →
      GivesEffect folder (renames FreeStage (Lock number))
      (effect_of (renames FreeStage (Lock number)) result) →
      StepOf (renames FreeStage (Lock number)) result
  free-step number (failed nothing) keeps given = lock_quiet (locks-same folder) refl refl
  free-step number (failed (left content)) keeps given = absurd given
  free-step number (died nothing) keeps given = lock_quiet (locks-same folder) refl refl
  free-step number (died (left content)) keeps given = absurd given
  free-step number result keeps some = given-up number _ keeps some (freed-kept number keeps) refl

  -- a removal of a lock
  unlock-step : (number : ℕ) (result : CallResult (Unit {0})) → UnlockRule standing number →
      GivesEffect folder (removes (Lock number)) (effect_of (removes (Lock number)) result) →
      StepOf (removes (Lock number)) result
  unlock-step number (done answer) rule given =
      lock_removed number rule (record { numbers = refl; texts = λ other. refl }) refl (inr refl)
  unlock-step number (failed happened) rule given =
      lock_removed number rule (record { numbers = refl; texts = λ other. refl }) refl (inl refl)
  unlock-step number (failed nothing) rule given = lock_quiet (locks-same folder) refl refl
  unlock-step number (failed (left content)) rule given = absurd given
  unlock-step number (died happened) rule given =
      lock_removed number rule (record { numbers = refl; texts = λ other. refl }) refl (inl refl)
  unlock-step number (died nothing) rule given = lock_quiet (locks-same folder) refl refl
  unlock-step number (died (left content)) rule given = absurd given

  -- the step of a permitted call
  pub lock-step : (call : Call) (result : CallResult (Answer call)) → Permits deeds standing call →
      GivesResult folder history token call result → StepOf call result
  lock-step _ result (free_begin command) gives = lock_quiet (locks-same folder) refl refl
  lock-step _ result free_listing gives = list-step result gives
  lock-step _ result (free_read name) gives = read-step name result gives
  lock-step _ result (free_verdict asked) gives = verdict-step asked result gives
  lock-step _ result (create_rule number rule) gives =
      create-step number result rule
      (gives-effect folder history token (creates number) result gives)
  lock-step _ result (staging_rule name piece keeper rule) gives =
      lock_quiet (write-locks folder token name piece (effect_of (writes name piece) result)
      rule.staging) refl refl
  lock-step _ result (append_rule name piece keeper rule) gives =
      lock_quiet (append-locks folder token name piece (effect_of (appends name piece) result)
      rule.rule.staging) refl refl
  lock-step _ result (commit_rule keeper rule) gives =
      lock_quiet (rename-locks folder token IntentStage Intent
      (effect_of (renames IntentStage Intent) result) refl refl) refl refl
  lock-step _ result (install_rule table keeper rule) gives =
      lock_quiet (rename-locks folder token (Staged table) (Table table)
      (effect_of (renames (Staged table) (Table table)) result) refl refl) refl refl
  lock-step _ result (clear_rule keeper rule) gives =
      lock_quiet (remove-locks folder token Intent (effect_of (removes Intent) result) refl)
      refl refl
  lock-step _ result (move_rule _ _ keeper (moves_backup table may)) gives =
      lock_quiet (rename-locks folder token BackupStage (Backup table)
      (effect_of (renames BackupStage (Backup table)) result) refl refl) refl refl
  lock-step _ result (move_rule _ _ keeper (moves_free staged)) gives =
      free-step keeper.number result keeper.keeps
      (gives-effect folder history token (renames FreeStage (Lock keeper.number)) result gives)
  lock-step _ result (unlock_rule number rule) gives =
      unlock-step number result rule
      (gives-effect folder history token (removes (Lock number)) result gives)
  lock-step _ result (answer_rule status rule) gives = lock_quiet (locks-same folder) refl refl
