-- Claim: once a session that was alone has freed its lock, each call of it leaves the intent, and
-- its lock but to remove it (`freed-step`): the lock is free or gone, and where it knows that no
-- intent stands, none does.
-- Way: who frees its lock is a keeper that runs without a failed call, so what it knows and has
-- staged stands then; and afterwards no rule lets it change anything but locks that it removes.
use Rattle.std.proofs.Common.{◌≡◌, ◌⊎◌, refl, sym, ap, subst, ◌∙◌, ℕ, Bool, true, false, ◌==◌, if◌then◌else◌, inl, inr, Option, Some, None}
use Rattle.std.proofs.lemmas.Bool.Decides.{Decides-eqb}
use Rattle.acct_text.specs.Bytes.{Bytes}
use Rattle.acct_outside.specs.declared.Name.{Name}
use Rattle.acct_outside.specs.declared.Name.TheVariants.{Intent, FreeStage, Lock}
use Rattle.acct_outside.specs.declared.Created.TheVariants.{Done}
use Rattle.acct_outside.specs.Tokens.{Token, free_text}
use Rattle.acct_outside.specs.Folder.{Folder, greatest, moved_content}
use Rattle.acct_outside.specs.Calls.{Call, Answer, CallResult, Effect, begins, lists, reads, asks, creates, renames, removes, answers, done, failed, died, happened, nothing, left, effect_of, changed_by}
use Rattle.acct_outside.specs.History.{History}
use Rattle.acct_outside.specs.Life.{Life, running, life, MayCall}
use Rattle.suite_rules.specs.Deeds.{SuiteDeeds}
use Rattle.suite_rules.specs.OwnLock.{OwnLock, lock_uncalled, lock_made, lock_kept, lock_freed, confirm_step, create_step, free_step, own_step}
use Rattle.suite_rules.specs.Knowledge.{Stages, Knowledge, knows_step}
use Rattle.suite_rules.specs.Standing.{Standing, standing_step, keeper_part}
use Rattle.suite_rules.specs.Rules.{KeeperRule, moves_backup, moves_free, Permits, free_begin, free_listing, free_read, free_verdict, create_rule, staging_rule, append_rule, commit_rule, install_rule, clear_rule, move_rule, unlock_rule, answer_rule}
use Rattle.suite_rules.specs.Lawful.{KeepsRulesOrNone}
use Rattle.suite_rules.specs.Invariant.{KnownStands, KeeperView}
use Rattle.suite_rules.proofs.KeeperParts.{knows-next}
use Rattle.lock_steps.specs.Stands.{KnowsNone}
use Rattle.suite_course.proofs.AloneStays.{moved-same, removed-same}

-- the own lock is free or was removed, and where it knows of no intent none stands
pub record IsFreed (folder : Folder) (knows : Knowledge) (number : ℕ) : Type 0 where
  pub lock : (folder.file (Lock number) ≡ Some free_text) ⊎ (folder.file (Lock number) ≡ None)
  pub intent : KnowsNone knows → folder.file Intent ≡ None

-- so it is with a session that has freed its lock
abbrev pub StaysFreed : Folder → Standing → Type 0
StaysFreed folder stood =
    (number : ℕ) → stood.own ≡ lock_freed number → IsFreed folder stood.knows number

-- a lock that stays, or goes, is free or gone as before
lock-stays : (before now : Option Bytes) → (now ≡ before) ⊎ (now ≡ None) →
    (before ≡ Some free_text) ⊎ (before ≡ None) → (now ≡ Some free_text) ⊎ (now ≡ None)
lock-stays before now (inr gone) held = inr gone
lock-stays before now (inl same) (inl free) = inl (same ∙ free)
lock-stays before now (inl same) (inr gone) = inr (same ∙ gone)

-- what a keeper alone changes stays where the lock was freed
freed-part : {A : Type 0} (number : ℕ) (own later : OwnLock) (begun changed same : A) →
    own ≡ lock_freed number → later ≡ lock_freed number →
    keeper_part own later begun changed same ≡ same
freed-part number own later begun changed same was is = rw (was, is) refl

-- a listing frees no lock
confirm-freed : (number greatest : ℕ) (own : OwnLock) →
    confirm_step greatest own ≡ lock_freed number → own ≡ lock_freed number
confirm-freed number greatest (lock_made made) is = absurd (apart (greatest == made) is)
  where
    apart : (same : Bool) → (if same then lock_kept made else lock_made made) ≡ lock_freed number →
        ⊥
    apart true wrong = cc wrong
    apart false wrong = cc wrong
confirm-freed number greatest own is = is

-- nor does a create
create-freed : (number lock : ℕ) (result : CallResult (Answer (creates lock))) →
    create_step lock result lock_uncalled ≡ lock_freed number → ⊥
create-freed number lock (done Done) is = cc is
create-freed number lock (failed happened) is = cc is
create-freed number lock (died happened) is = cc is
create-freed number lock result is = cc is

-- a session that may move a file runs without a failed call
move-runs : (from to : Name) (lived : Life) → MayCall lived (renames from to) → lived ≡ running
move-runs from to running may = refl
move-runs from to lived may = absurd may

-- a move of the free text leaves what is known
free-knows : (lock : ℕ) (result : CallResult (Unit {0})) (staged : Stages) (knows : Knowledge) →
    knows_step staged (renames FreeStage (Lock lock)) result knows ≡ knows
free-knows lock (done answer) staged knows = refl
free-knows lock result staged knows = refl

module _ (deeds : SuiteDeeds) (past : History) (token : Token) (folder : Folder)
    (stood : Standing) (held : StaysFreed folder stood)
    (view : (number : ℕ) → life token past ≡ running → stood.own ≡ lock_kept number →
    KeeperView folder stood.knows stood.staged) (number : ℕ) where
  -- how it is after a call that leaves the lock freed
  abbrev FreedAfter : (call : Call) → CallResult (Answer call) → Type 0
  FreedAfter call result = (standing_step call result stood).own ≡ lock_freed number →
      IsFreed (changed_by token call (effect_of call result) folder)
      (standing_step call result stood).knows number

  -- no keeper has freed its lock
  not-freed : KeeperRule stood → stood.own ≡ lock_freed number → ⊥
  not-freed keeper freed =
      let wrong : lock_kept keeper.number ≡ lock_freed number = sym keeper.keeps ∙ freed in
      cc wrong

  -- a call that leaves the intent, and the lock or removes it
  stays-freed : (call : Call) (result : CallResult (Answer call)) →
      stood.own ≡ lock_freed number →
      (changed_by token call (effect_of call result) folder).file Intent ≡ folder.file Intent →
      ((changed_by token call (effect_of call result) folder).file (Lock number)
      ≡ folder.file (Lock number))
      ⊎ ((changed_by token call (effect_of call result) folder).file (Lock number) ≡ None) →
      FreedAfter call result
  stays-freed call result freed intent lock later = record {
    lock = lock-stays (folder.file (Lock number)) _ lock (held number freed).lock;
    intent = λ none. intent ∙ (held number freed).intent (subst KnowsNone
        (freed-part number stood.own (own_step call result stood.own) _ _ stood.knows freed later)
        none);
  }

  -- a listing
  list-freed : (result : CallResult (Answer lists)) →
      own_step lists result stood.own ≡ lock_freed number → stood.own ≡ lock_freed number
  list-freed (done numbers) is = confirm-freed number (greatest numbers) stood.own is
  list-freed (failed effect) is = is
  list-freed (died effect) is = is

  -- a removal of a lock
  removal-freed : (lock : ℕ) (effect : Effect) →
      ((changed_by token (removes (Lock lock)) effect folder).file (Lock number)
      ≡ folder.file (Lock number))
      ⊎ ((changed_by token (removes (Lock lock)) effect folder).file (Lock number) ≡ None)
  removal-freed lock happened = cases (number == lock)
    where
      cases : (same : Bool) →
          ((if same then None else folder.file (Lock number)) ≡ folder.file (Lock number))
          ⊎ ((if same then None else folder.file (Lock number)) ≡ None)
      cases true = inr refl
      cases false = inl refl
  removal-freed lock nothing = inl refl
  removal-freed lock (left content) = inl refl

  module _ (keeper : KeeperRule stood) (text : folder.file FreeStage ≡ Some free_text) where
    -- a keeper's move of the free text, which frees its lock
    given-lock : (effect : Effect) →
        free_step FreeStage (Lock keeper.number) effect stood.own ≡ lock_freed number →
        (changed_by token (renames FreeStage (Lock keeper.number)) effect folder).file (Lock number)
        ≡ Some free_text
    given-lock happened is = subst (λ (content : Option Bytes).
        (moved_content content FreeStage (Lock keeper.number) folder).file (Lock number)
        ≡ Some free_text) (sym text)
        (rw ((Decides-eqb number keeper.number).1 (number-is (keeper.number == keeper.number)
        (sym (ap (λ (own : OwnLock). free_step FreeStage (Lock keeper.number) happened own)
        keeper.keeps) ∙ is))) refl)
      where
        number-is : (same : Bool) →
            (if same then lock_freed keeper.number else lock_kept keeper.number)
            ≡ lock_freed number → number ≡ keeper.number
        number-is true same = cc same
        number-is false same = absurd (cc same)
    given-lock nothing is = absurd (not-freed keeper is)
    given-lock (left content) is = absurd (not-freed keeper is)

  -- after it the lock is free, and the intent is as it knows
  given-freed : (keeper : KeeperRule stood) (result : CallResult (Unit {0})) →
      stood.staged FreeStage ≡ Some free_text → KeeperView folder stood.knows stood.staged →
      FreedAfter (renames FreeStage (Lock keeper.number)) result
  given-freed keeper result staged viewed later =
      let effect : Effect = effect_of (renames FreeStage (Lock keeper.number)) result in
      record {
        lock = inl (given-lock keeper (viewed.stages FreeStage free_text refl staged) effect later);
        intent = λ none.
            let known : KnowsNone stood.knows = subst KnowsNone
            (knows-next (renames FreeStage (Lock keeper.number)) result stood keeper.number
            keeper.keeps ∙ free-knows keeper.number result stood.staged stood.knows) none in
            moved-same token folder Intent FreeStage (Lock keeper.number) effect refl refl
            ∙ (subst (KnownStands folder) known.1 viewed.known).intent;
      }

  -- each permitted call
  pub freed-step : (call : Call) (result : CallResult (Answer call)) →
      KeepsRulesOrNone deeds past token call result → Permits deeds stood call →
      FreedAfter call result
  freed-step _ result keeps (free_begin command) later =
      stays-freed (begins command) result later refl (inl refl) later
  freed-step _ result keeps free_listing later =
      stays-freed lists result (list-freed result later) refl (inl refl) later
  freed-step _ result keeps (free_read name) later =
      stays-freed (reads name) result later refl (inl refl) later
  freed-step _ result keeps (free_verdict asked) later =
      stays-freed (asks asked) result later refl (inl refl) later
  freed-step _ result keeps (create_rule lock rule) later = absurd (create-freed number lock result
      (sym (ap (λ (own : OwnLock). create_step lock result own) rule.first) ∙ later))
  freed-step _ result keeps (staging_rule name piece keeper rule) later =
      absurd (not-freed keeper later)
  freed-step _ result keeps (append_rule name piece keeper rule) later =
      absurd (not-freed keeper later)
  freed-step _ result keeps (commit_rule keeper rule) later = absurd (not-freed keeper later)
  freed-step _ result keeps (install_rule table keeper rule) later =
      absurd (not-freed keeper later)
  freed-step _ result keeps (clear_rule keeper rule) later = absurd (not-freed keeper later)
  freed-step _ result keeps (move_rule _ _ keeper (moves_backup table may)) later =
      absurd (not-freed keeper later)
  freed-step _ result keeps (move_rule _ _ keeper (moves_free staged)) later =
      given-freed keeper result staged (view keeper.number
      (move-runs FreeStage (Lock keeper.number) (life token past) keeps.life_rule) keeper.keeps)
      later
  freed-step _ result keeps (unlock_rule lock rule) later =
      stays-freed (removes (Lock lock)) result later
      (removed-same token folder Intent (Lock lock) (effect_of (removes (Lock lock)) result) refl)
      (removal-freed lock (effect_of (removes (Lock lock)) result)) later
  freed-step _ result keeps (answer_rule status rule) later =
      stays-freed (answers status) result later refl (inl refl) later
