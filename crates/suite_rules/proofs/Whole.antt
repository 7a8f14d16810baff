-- Claim: the invariant holds in every lawful history (`invariant`). Way: its parts are the facts of
-- the locks and of the files; what the parts say of earlier moments is added here: a lock that was
-- taken away lies below the greatest (`removed-below-top`), and so does a lock that is made again
-- (`made-again`).
use Rattle.std.proofs.Common.{◌≡◌, refl, sym, ap, subst, ◌∙◌, ◌⊎◌, inl, inr, ℕ, ◌<◌, ◌≤◌, Bool, true, false, ◌==◌, [], ◌∷◌, ◌++◌, Some, None, is_some, IsSome, IsNone, arith}
use Rattle.acct_outside.specs.declared.Name.TheVariants.{Lock}
use Rattle.acct_outside.specs.Tokens.{Token, held_text}
use Rattle.acct_outside.specs.Folder.{Folder, top}
use Rattle.acct_outside.specs.History.{History, after}
use Rattle.acct_outside.specs.Life.{runs_in}
use Rattle.suite_rules.specs.Deeds.{SuiteDeeds}
use Rattle.suite_rules.specs.OwnLock.{made_number}
use Rattle.suite_rules.specs.Standing.{Standing, standing}
use Rattle.suite_rules.specs.Lawful.{Lawful, goes_on}
use Rattle.suite_rules.specs.Committed.{Commitment, committed}
use Rattle.suite_rules.specs.Invariant.{HasNotFallen, TopHolds, LockStands, OwnLockHolds, KeeperViewHolds, SettledIsFold, InvariantHolds}
use Rattle.suite_rules.proofs.Cut.{lawful-prefix}
use Rattle.suite_rules.proofs.Numbers.{number-is, number-differs, has-most}
use Rattle.suite_rules.proofs.Sessions.{each, other-standing}
use Rattle.suite_rules.proofs.LockOrigins.{CreatedNow, held-made, number-origin}
use Rattle.suite_rules.proofs.LockFacts.{moment, LockFacts, absent-below, top-rises}
use Rattle.suite_rules.proofs.Keepers.{own-step, event-moves, lock-facts, never-falls, ever-made}
use Rattle.suite_rules.proofs.Commitments.{each-all, each-follows}
use Rattle.suite_rules.proofs.Settles.{Committer, FileFacts, file-facts, above-committed}
use Rattle.suite_rules.proofs.Watching.{report-view}

module _ (deeds : SuiteDeeds) (first : Folder) where
  -- a lock that stood and doesn't stand now lies below the greatest
  removed-below-top : (newer older : History) → Lawful deeds first (newer ++ older) →
      (number : ℕ) → 0 < number → IsSome ((after first older).file (Lock number)) →
      IsNone ((after first (newer ++ older)).file (Lock number)) →
      number < top (after first (newer ++ older))
  removed-below-top newer older lawful number above stood absent =
      let before = lock-facts deeds first older (lawful-prefix deeds first newer older lawful) in
      let then : number ≤ top (after first older) =
      has-most number (after first older).locks (before.is_folder.standing number ∙ stood) in
      let falls = never-falls deeds first newer older lawful in
      absent-below (after first (newer ++ older))
      (lock-facts deeds first (newer ++ older) lawful).is_folder number above (omega arith) absent

  -- a number that a session made though its lock stood before lies below the greatest
  made-again : (newer older : History) → Lawful deeds first (newer ++ older) →
      (token : Token) (number : ℕ) → made_number (standing token older).own ≡ None →
      IsSome ((after first older).file (Lock number)) →
      made_number (standing token (newer ++ older)).own ≡ Some number →
      number < top (after first (newer ++ older))
  made-again [] older lawful token number unmade stood made =
      let differ : None ≡ Some number = sym unmade ∙ made in absurd (cc)
  made-again (event ∷ newer) older (goes_on _ _ lawful next) token number unmade stood made =
      each (λ asked. (made_number (standing asked (newer ++ older)).own ≡ Some number →
      number < top (after first (newer ++ older))) →
      made_number (standing asked (event ∷ (newer ++ older))).own ≡ Some number →
      number < top (after first (event ∷ (newer ++ older)))) event.token
      (λ before is. elim (number-origin (newer ++ older) event.token
      (after first (newer ++ older)) (after first (event ∷ (newer ++ older)))
      (standing event.token (newer ++ older)) (standing event.token (event ∷ (newer ++ older)))
      (own-step deeds first event (newer ++ older) next) number) [
        | inl created ↦ later (removed-below-top newer older lawful number
            (above created) stood created.absent)
        | inr old ↦ later (before (old.made is))
      ])
      (λ other differs before is. later (before
      (sym (ap (λ (one : Standing). made_number one.own)
      (other-standing event (newer ++ older) other differs)) ∙ is)))
      token (made-again newer older lawful token number unmade stood) made
    where
      above : CreatedNow event.token (after first (newer ++ older))
          (after first (event ∷ (newer ++ older))) (standing event.token (newer ++ older)) number →
          0 < number
      above created = let over = created.rule.one_above in omega arith

      later : number < top (after first (newer ++ older)) →
          number < top (after first (event ∷ (newer ++ older)))
      later below =
          let rises = top-rises (moment first (newer ++ older))
          (moment first (event ∷ (newer ++ older))) event.token
          (lock-facts deeds first (newer ++ older) lawful)
          (event-moves deeds first event (newer ++ older) lawful next) in
          omega (arith, rises, below)

  -- the greatest number never falls
  top-holds : (history : History) → Lawful deeds first history → TopHolds first history
  top-holds history lawful newer older is =
      let whole = subst (λ (one : History). Lawful deeds first one) is lawful in
      subst (λ (one : History). HasNotFallen (after first older) (after first one)) (sym is)
      (record {
        rises = never-falls deeds first newer older whole;
        removed = removed-below-top newer older whole;
      })

  module _ (history : History) (lawful : Lawful deeds first history) where
    -- the facts of the locks
    locks : LockFacts (moment first history)
    locks = lock-facts deeds first history lawful

    -- the facts of the files
    files : FileFacts deeds first history
    files = file-facts deeds first history lawful

    -- the lock of the greatest number is new
    new-lock : (token : Token) (number : ℕ) → number ≡ top (after first history) →
        made_number (standing token history).own ≡ Some number →
        (newer older : History) → history ≡ newer ++ older →
        made_number (standing token older).own ≡ None →
        IsNone ((after first older).file (Lock number))
    new-lock token number is_top made newer older is unmade =
        cases (is_some ((after first older).file (Lock number))) refl
      where
        cases : (some : Bool) → is_some ((after first older).file (Lock number)) ≡ some →
            some ≡ false
        cases false none = refl
        cases true stood =
            let whole = subst (λ (one : History). Lawful deeds first one) is lawful in
            let below = subst (λ (one : History). number < top (after first one)) (sym is)
            (made-again newer older whole token number unmade stood
            (sym (ap (λ (one : History). made_number (standing token one).own) is) ∙ made)) in
            absurd (omega arith)

    -- a running session's lock stands, or a greater one
    own-lock : OwnLockHolds first history
    own-lock token number runs holds =
        cases (locks.own_text token number runs holds) (number == top (after first history)) refl
      where
        made : made_number (standing token history).own ≡ Some number
        made = held-made (standing token history).own number holds

        most : number ≤ top (after first history)
        most = (locks.made_most token number made).1

        cases : (number < top (after first history))
            ⊎ ((after first history).file (Lock number) ≡ Some (held_text token)) →
            (same : Bool) → (number == top (after first history)) ≡ same →
            (number < top (after first history)) ⊎ LockStands first history token number
        cases (inl below) same is = inl below
        cases (inr text) false is =
            let other = number-differs number (top (after first history)) is in
            inl (omega (arith, most, other))
        cases (inr text) true is = inr (record {
          text = text;
          new = new-lock token number (number-is number (top (after first history)) is) made;
        })

    -- the number of an active keeper is the greatest, and its view stands
    keeper-view : KeeperViewHolds first history
    keeper-view token number active = (
      locks.keeper_top token number (ap runs_in active.runs) active.keeps,
      files.view token number active,
    )

    -- the committed numbers are at most the greatest
    pub at-most-top : (one : Commitment) → Committer history one →
        one.number ≤ top (after first history)
    at-most-top one committer =
        (locks.made_most one.token one.number
        (ever-made deeds first history lawful one.token one.number committer.kept)).1

    -- the settled files are the fold of the committed list
    settled-is-fold : SettledIsFold deeds first history
    settled-is-fold = record {
      is_fold = files.is_fold;
      rises = files.rises;
      at_most_top = each-all (λ one. one.number ≤ top (after first history)) (committed history)
          (each-follows (Committer history) (λ one. one.number ≤ top (after first history))
          (committed history) at-most-top files.committers);
      below_keeper = λ token number keeper uncalled.
          each-all (λ one. one.number < number) (committed history)
          (above-committed deeds first history lawful token number keeper uncalled
          files.committers);
    }

-- the law
pub invariant : InvariantHolds
invariant deeds first history lawful = record {
  is_folder = (lock-facts deeds first history lawful).is_folder;
  top_holds = top-holds deeds first history lawful;
  own_lock = own-lock deeds first history lawful;
  judged_lock = (lock-facts deeds first history lawful).judged_lock;
  keeper_view = keeper-view deeds first history lawful;
  report_view = report-view deeds first history lawful;
  settled_is_fold = settled-is-fold deeds first history lawful;
  backups_kept = (file-facts deeds first history lawful).backups;
}
