-- Claim: how it stands with the staging names of a session that was alone since a moment (`StagingAlone`)
-- stays so after each of its calls that was done (`done-step`), and after its begin (`begin-step`).
-- Way: until it keeps a lock the session touches no staging name; from then on one at which it has nothing
-- staged is absent or as it was. A call stages at a staging name, or moves what is staged away.
use Rattle.std.proofs.Common.{◌≡◌, ◌⊎◌, refl, sym, subst, ◌∙◌, ◌==◌, Bool, true, false, if◌then◌else◌, inl, inr, ℕ, Option, Some, None, IsSome}
use Rattle.acct_text.specs.Bytes.{Bytes}
use Rattle.acct_outside.specs.declared.Created.TheVariants.{Done, Exists}
use Rattle.acct_outside.specs.declared.Name.{Name}
use Rattle.acct_outside.specs.declared.Name.TheVariants.{Table, Backup, Staged, Intent, IntentStage, BackupStage, FreeStage, Lock}
use Rattle.acct_outside.specs.Names.{is_staging, same_name}
use Rattle.acct_outside.specs.Tokens.{Token}
use Rattle.acct_outside.specs.Folder.{Folder, greatest, moved, moved_content, with_piece}
use Rattle.acct_outside.specs.Calls.{Call, Answer, CallResult, Command, begins, creates, writes, appends, renames, removes, done, happened, effect_of, changed_by}
use Rattle.acct_outside.specs.Gives.{GivesResult}
use Rattle.acct_outside.specs.History.{History}
use Rattle.suite_rules.specs.Deeds.{SuiteDeeds}
use Rattle.suite_rules.specs.Knowledge.{Stages}
use Rattle.suite_rules.specs.OwnLock.{OwnLock, lock_uncalled, lock_made, lock_kept, lock_freed, confirm_step, own_step}
use Rattle.suite_rules.specs.Standing.{Standing, keeper_part, nothing_staged, staged_step, staged_with}
use Rattle.suite_rules.specs.Rules.{moves_backup, moves_free, KeeperRule, Permits, free_listing, free_read, create_rule, staging_rule, append_rule, commit_rule, install_rule, clear_rule, move_rule, unlock_rule}
use Rattle.suite_rules.proofs.Names.{passes-apart}
use Rattle.suite_course.proofs.AloneStays.{appended-same, created-same, removed-same, written-same}

-- ---- The staging names

-- what stands at a name is absent, or as it stood at the entry
abbrev pub IsGoneOrAs : Folder → Folder → Name → Type 0
IsGoneOrAs entry now name = (now.file name ≡ None) ⊎ (now.file name ≡ entry.file name)

-- so it is at each staging name at which nothing is staged
abbrev pub IsMovedFrom : Folder → Folder → Stages → Type 0
IsMovedFrom entry now staged = (name : Name) → is_staging name ≡ true → staged name ≡ None →
    IsGoneOrAs entry now name

-- each staging name is as it stood at the entry
abbrev pub IsUntouched : Folder → Folder → Type 0
IsUntouched entry now = (name : Name) → is_staging name ≡ true → now.file name ≡ entry.file name

-- so it is until the session keeps a lock; and once it does, or did, each that it has moved is
abbrev pub StagingAlone : Folder → Folder → Stages → OwnLock → Type 0
StagingAlone entry now staged (lock_kept number) = IsMovedFrom entry now staged
StagingAlone entry now staged (lock_freed number) = IsMovedFrom entry now staged
StagingAlone entry now staged own = IsUntouched entry now

module _ (entry before now : Folder) (same : IsUntouched before now) where
  -- what leaves the staging names leaves those that were moved
  same-moved : (staged : Stages) → IsMovedFrom entry before staged →
      IsMovedFrom entry now staged
  same-moved staged held name staging none = elim (held name staging none) [
    | inl gone ↦ inl (same name staging ∙ gone)
    | inr stays ↦ inr (same name staging ∙ stays)
  ]

  -- and those that weren't touched
  same-untouched : IsUntouched entry before → IsUntouched entry now
  same-untouched held name staging = same name staging ∙ held name staging

  -- so a call that stages nothing leaves all, where the own lock stays
  stays-alone : (staged : Stages) (own : OwnLock) → StagingAlone entry before staged own →
      StagingAlone entry now (keeper_part own own nothing_staged staged staged) own
  stays-alone staged (lock_kept number) held = same-moved staged held
  stays-alone staged (lock_freed number) held = same-moved staged held
  stays-alone staged own held = same-untouched held

-- a listing may make a keeper, who has staged nothing
list-alone : (entry now : Folder) (staged : Stages) (top : ℕ) (own : OwnLock) →
    StagingAlone entry now staged own →
    StagingAlone entry now
    (keeper_part own (confirm_step top own) nothing_staged staged staged) (confirm_step top own)
list-alone entry now staged top (lock_made number) held = cases (top == number)
  where
    cases : (same : Bool) → StagingAlone entry now
        (keeper_part (lock_made number) (if same then lock_kept number else lock_made number)
        nothing_staged staged staged)
        (if same then lock_kept number else lock_made number)
    cases true = λ name staging none. inr (held name staging)
    cases false = held
list-alone entry now staged top own held = held

-- a piece behind staged bytes leaves some
piece-some : (piece : Bytes) (content : Option Bytes) → IsSome content →
    with_piece piece content ≡ None → ⊥
piece-some piece (Some bytes) some none = absurd (cc none)
piece-some piece None some none = cc some

module _ (entry folder : Folder) (staged : Stages) (held : IsMovedFrom entry folder staged) where
  -- bytes that are put at a staging name, of which something is staged then
  put-moved : (name : Name) (content : Option Bytes) (now : Folder) →
      (content ≡ None → ⊥) → ((other : Name) → same_name other name ≡ false →
      now.file other ≡ folder.file other) → IsMovedFrom entry now (staged_with name content staged)
  put-moved name content now some others other staging none =
      cases (same_name other name) refl none
    where
      cases : (same : Bool) → same_name other name ≡ same →
          (if same then content else staged other) ≡ None → IsGoneOrAs entry now other
      cases true is gone = absurd (some gone)
      cases false is gone = elim (held other staging gone) [
        | inl absent ↦ inl (others other is ∙ absent)
        | inr stays ↦ inr (others other is ∙ stays)
      ]

  -- a move of what is staged, which leaves nothing there
  take-moved : (from to : Name) → is_staging to ≡ false → IsSome (folder.file from) →
      IsMovedFrom entry (moved from to folder) (staged_with from None staged)
  take-moved from to target stands other staging none = cases (same_name other from) refl none
    where
      apart : same_name other to ≡ false
      apart = passes-apart is_staging other to staging target

      gone : same_name other from ≡ true → (content : Option Bytes) → IsSome content →
          (moved_content content from to folder).file other ≡ None
      gone source (Some bytes) some = rw (apart, source) refl
      gone source None some = absurd (cc some)

      same : same_name other from ≡ false → (content : Option Bytes) →
          (moved_content content from to folder).file other ≡ folder.file other
      same source None = refl
      same source (Some bytes) = rw (apart, source) refl

      cases : (is : Bool) → same_name other from ≡ is →
          (if is then None else staged other) ≡ None →
          IsGoneOrAs entry (moved from to folder) other
      cases true is left = inl (gone is (folder.file from) stands)
      cases false is left = elim (held other staging left) [
        | inl absent ↦ inl (same is (folder.file from) ∙ absent)
        | inr stays ↦ inr (same is (folder.file from) ∙ stays)
      ]

module _ (deeds : SuiteDeeds) (token : Token) (entry folder : Folder) (stood : Standing) where
  -- how it stands with the staging names after a call
  abbrev pub StagingAfter : (call : Call) → CallResult (Answer call) → OwnLock → Type 0
  StagingAfter call result own =
      StagingAlone entry (changed_by token call (effect_of call result) folder)
      (keeper_part own (own_step call result own) nothing_staged
      (staged_step call result stood.staged) stood.staged) (own_step call result own)

  module _ (held : StagingAlone entry folder stood.staged stood.own) where
    -- as a keeper it has moved what it doesn't have staged
    kept-moved : (keeper : KeeperRule stood) → IsMovedFrom entry folder stood.staged
    kept-moved keeper =
        subst (StagingAlone entry folder stood.staged) keeper.keeps held

    -- and stays a keeper
    kept-after : (call : Call) (result : CallResult (Answer call)) (keeper : KeeperRule stood) →
        StagingAfter call result (lock_kept keeper.number) → StagingAfter call result stood.own
    kept-after call result keeper = subst (StagingAfter call result) (sym keeper.keeps)

    -- a create touches no staging name
    create-alone : (number : ℕ) (created : Answer (creates number)) →
        stood.own ≡ lock_uncalled → StagingAfter (creates number) (done created) stood.own
    create-alone number created first =
        subst (StagingAfter (creates number) (done created)) (sym first) (by-answer created)
      where
        untouched : IsUntouched entry folder
        untouched = subst (StagingAlone entry folder stood.staged) first held

        same : (one : Answer (creates number)) → IsUntouched entry
            (changed_by token (creates number) (effect_of (creates number) (done one)) folder)
        same one = same-untouched entry folder
            (changed_by token (creates number) (effect_of (creates number) (done one)) folder)
            (λ name staging.
            created-same token folder name number (effect_of (creates number) (done one))
            (passes-apart is_staging name (Lock number) staging refl)) untouched

        by-answer : (one : Answer (creates number)) →
            StagingAfter (creates number) (done one) lock_uncalled
        by-answer Done = same Done
        by-answer Exists = same Exists

    -- a removal of what is no staging name
    remove-alone : (name : Name) (answer : Unit {0}) → is_staging name ≡ false →
        StagingAfter (removes name) (done answer) stood.own
    remove-alone name answer other = stays-alone entry folder
        (changed_by token (removes name) happened folder) (λ one staging.
        removed-same token folder one name happened
        (passes-apart is_staging one name staging other)) stood.staged stood.own held

    -- the move of the free text frees the lock or leaves it
    free-alone : (keeper : KeeperRule stood) → IsSome (folder.file FreeStage) → (same : Bool) →
        StagingAlone entry (moved FreeStage (Lock keeper.number) folder)
        (keeper_part (lock_kept keeper.number)
        (if same then lock_freed keeper.number else lock_kept keeper.number) nothing_staged
        (staged_with FreeStage None stood.staged) stood.staged)
        (if same then lock_freed keeper.number else lock_kept keeper.number)
    free-alone keeper stands true = take-moved entry folder stood.staged (kept-moved keeper)
        FreeStage (Lock keeper.number) refl stands
    free-alone keeper stands false = take-moved entry folder stood.staged (kept-moved keeper)
        FreeStage (Lock keeper.number) refl stands

    -- each permitted call that was done
    pub done-step : (history : History) (call : Call) (answer : Answer call) →
        Permits deeds stood call → GivesResult folder history token call (done answer) →
        StagingAfter call (done answer) stood.own
    done-step history _ answer free_listing gives =
        list-alone entry folder stood.staged (greatest answer) stood.own held
    done-step history _ answer (free_read name) gives =
        stays-alone entry folder folder (λ one staging. refl) stood.staged stood.own held
    done-step history _ answer (create_rule number rule) gives =
        create-alone number answer rule.first
    done-step history _ answer (staging_rule name piece keeper rule) gives =
        kept-after (writes name piece) (done answer) keeper
        (subst (λ (is : Bool). IsMovedFrom entry
        (changed_by token (writes name piece) happened folder)
        (if is then staged_with name (Some piece) stood.staged else stood.staged))
        (sym rule.staging)
        (put-moved entry folder stood.staged (kept-moved keeper) name (Some piece)
        (changed_by token (writes name piece) happened folder)
        (λ none. absurd (cc none))
        (λ other. written-same token folder other name piece happened)))
    done-step history _ answer (append_rule name piece keeper rule) gives =
        kept-after (appends name piece) (done answer) keeper
        (subst (λ (is : Bool). IsMovedFrom entry
        (changed_by token (appends name piece) happened folder)
        (if is then staged_with name (with_piece piece (stood.staged name)) stood.staged
        else stood.staged)) (sym rule.rule.staging)
        (put-moved entry folder stood.staged (kept-moved keeper) name
        (with_piece piece (stood.staged name))
        (changed_by token (appends name piece) happened folder)
        (piece-some piece (stood.staged name) rule.behind)
        (λ other. appended-same token folder other name piece happened)))
    done-step history _ answer (commit_rule keeper rule) gives =
        kept-after (renames IntentStage Intent) (done answer) keeper
        (take-moved entry folder stood.staged (kept-moved keeper) IntentStage Intent refl gives)
    done-step history _ answer (install_rule table keeper rule) gives =
        kept-after (renames (Staged table) (Table table)) (done answer) keeper
        (take-moved entry folder stood.staged (kept-moved keeper) (Staged table) (Table table)
        refl gives)
    done-step history _ answer (clear_rule keeper rule) gives = remove-alone Intent answer refl
    done-step history _ answer (move_rule _ _ keeper (moves_backup table may)) gives =
        kept-after (renames BackupStage (Backup table)) (done answer) keeper
        (take-moved entry folder stood.staged (kept-moved keeper) BackupStage (Backup table)
        refl gives)
    done-step history _ answer (move_rule _ _ keeper (moves_free staged)) gives =
        kept-after (renames FreeStage (Lock keeper.number)) (done answer) keeper
        (free-alone keeper gives (keeper.number == keeper.number))
    done-step history _ answer (unlock_rule number rule) gives =
        remove-alone (Lock number) answer refl
    done-step history _ answer other gives =
        stays-alone entry folder folder (λ name staging. refl) stood.staged stood.own held

    -- a begin, whatever became of it
    pub begin-step : (command : Command) (result : CallResult (Unit {0})) →
        StagingAfter (begins command) result stood.own
    begin-step command result =
        stays-alone entry folder folder (λ name staging. refl) stood.staged stood.own held
