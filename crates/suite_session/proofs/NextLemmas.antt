-- Claim: a session that belongs to a folder is ready for the call of its state, and its life has a place
-- for it (`next-ready`); where it reads a lock, it has listed one (`has-lock`).
-- Way: by the state, as it stands there; an answer is the one that the streams left.
use Rattle.std.proofs.Common.{◌≡◌, refl, sym, ap, subst, ◌∙◌, Some, None, IfSome, Result}
use Rattle.std.specs.Prelude.{IfOk}
use Rattle.acct_outside.specs.declared.Call.{Call as FolderCall}
use Rattle.acct_outside.specs.Life.{Life, MayCall, life, running}
use Rattle.acct_outside.specs.Moment.{Past, Moment}
use Rattle.acct_outside.specs.declared.CommitStage.{CommitStage}
use Rattle.acct_outside.specs.declared.CommitStage.TheVariants.{Before, Committed}
use Rattle.suite_rules.specs.Deeds.{SuiteDeeds}
use Rattle.suite_rules.specs.Rules.{AnswerRule}
use Rattle.suite_rules.specs.Standing.{Standing, standing}
use Rattle.lock_steps.specs.NextCall.{IsCallWhere}
use Rattle.lock_steps.specs.Stands.{HasJudged, HasLooked, HasMade, HasReadHeld, HasStagedFree, Keeps, KnowsAnything, WasOvertaken}
use Rattle.lock_steps.specs.Watching.{HasGathered}
use Rattle.recovery.specs.Stands.{HasStagedNext, Recovers}
use Rattle.commit_steps.specs.Stands.{BacksUp, HasRead, HasStagedIntent, Installs}
use Rattle.suite_answers.specs.declared.answer.Answer.{Answer}
use Rattle.suite_answers.specs.Reasons.{stage_of}
use Rattle.suite_session.specs.declared.state.State.{State}
use Rattle.suite_session.specs.declared.state.State.TheVariants.{Looking, Reading, Asking, Claiming, Confirming, Withdrawing, ReadingIntent, Recovering, Moving, Loading, BackingUp, Committing, Installing, Unlocking, Freeing, Watching, Gathering, Answering}
use Rattle.suite_session.specs.Runner.{IsRead, Runner}
use Rattle.suite_session.specs.Belongs.{IsOnItsWay}
use Rattle.suite_session.specs.Causes.{HasListedNone}
use Rattle.suite_session.specs.Deeds.{AreOfTools}
use Rattle.suite_session.specs.Moment.{At, Runs}
use Rattle.suite_session.specs.NextCall.{HasLock, IsReady, state_call}
use Rattle.suite_session.specs.Session.{given_in}
use Rattle.suite_session.specs.Stands.{StandsAs}
use Rattle.suite_session.proofs.WritingLemmas.{change-deed}
use Rattle.suite_session.proofs.BelongsLemmas.{told-both}
use Rattle.suite_session.proofs.MetLemmas.{told-as}
use Rattle.suite_session.proofs.RuleLemmas.{rule-left}
use Rattle.suite_session.proofs.SessionTurns.{answer-may}
use Rattle.suite_session.proofs.StreamLemmas.{going-led, left-given}

-- the session stands ready for the call of its state, and its life has a place for it
pub record MayCallNext (deeds : SuiteDeeds) (runner : Runner) (state : State) (past : Past)
    : Type 0 where
  pub ready : IsReady state deeds (standing runner.token past.history)
  pub may : MayCall (life runner.token past.history) (state_call state)

-- a call of one state is that of an equal one
pub of-state : (state own : State) {call : FolderCall} → state ≡ own →
    IsCallWhere (HasLock own) (IsReady own) (state_call own) call →
    IsCallWhere (HasLock state) (IsReady state) (state_call state) call
of-state state own {call} is holds = subst (λ (one : State).
    IsCallWhere (HasLock one) (IsReady one) (state_call one) call) (sym is) holds

-- also where memory may have run out for it
pub of-state-ok : {E : Type 0} (state own : State) (named : Result FolderCall E) → state ≡ own →
    IfOk named (IsCallWhere (HasLock own) (IsReady own) (state_call own)) →
    IfOk named (IsCallWhere (HasLock state) (IsReady state) (state_call state))
of-state-ok state own named is holds = subst (λ (one : State).
    IfOk named (IsCallWhere (HasLock one) (IsReady one) (state_call one))) (sym is) holds

module _ (now : Moment) (runner : Runner) where
  -- in a state that isn't its answer it stands as the state says
  led : (state : State) → given_in state ≡ None → IsOnItsWay now runner state →
      StandsAs now runner state
  led state none way = (going-led now runner state
      (λ answer is. let has : given_in state ≡ Some answer = ap given_in is in
      let wrong : None ≡ Some answer = sym none ∙ has in absurd (cc)) way).stands

  -- where it reads a lock, it has listed one
  pub has-lock : (state : State) → IsOnItsWay now runner state → HasLock state
  has-lock (Reading seen) way = (led (Reading seen) refl way).1
  has-lock state way = tt

  module _ (deeds : SuiteDeeds) where
    -- in such a state it runs
    going : (commit : CommitStage) (Holds : Standing → Type 0) (state : State) →
        ((stood : Standing) → Runs runner commit Holds stood → IsReady state deeds stood) →
        MayCall running (state_call state) → At now runner commit Holds →
        IfSome now.told (MayCallNext deeds runner state)
    going commit Holds state ready may stands = told-as now.told (λ past stood. record {
      ready = ready _ stood.holds;
      may = subst (λ (lived : Life). MayCall lived (state_call state)) (sym stood.runs) may;
    }) stands

    module _ (ours : AreOfTools deeds)
        (read : IsRead runner.asked) where
      pub next-ready : (state : State) → MayCall running (state_call state) →
          IsOnItsWay now runner state → IfSome now.told (MayCallNext deeds runner state)
      next-ready (Looking looking) may way =
          going Before HasListedNone _ (λ stood runs. runs.holds.owns) may
          (led (Looking looking) refl way).1
      next-ready (Reading seen) may way = going Before (HasLooked seen) _
          (λ stood runs. runs.holds) may (led (Reading seen) refl way).2
      next-ready (Asking asking) may way = going Before (HasReadHeld asking) _
          (λ stood runs. runs.holds) may (led (Asking asking) refl way).1
      next-ready (Claiming judged) may way = going Before (HasJudged judged) _
          (λ stood runs. runs.holds) may (led (Claiming judged) refl way).1
      next-ready (Confirming claimed) may way = going Before (HasMade claimed) _
          (λ stood runs. runs.holds) may (led (Confirming claimed) refl way).1
      next-ready (Withdrawing loser) may way = going Before (WasOvertaken loser) _
          (λ stood runs. runs.holds) may (led (Withdrawing loser) refl way).2
      next-ready (ReadingIntent keeper) may way =
          going Before (Keeps keeper KnowsAnything) (ReadingIntent keeper)
          (λ stood runs. runs.holds) may (led (ReadingIntent keeper) refl way).1
      next-ready (Recovering recovering) may way =
          going Before (Recovers recovering) (Recovering recovering)
          (λ stood runs. runs.holds) may (led (Recovering recovering) refl way).1
      next-ready (Moving moving) may way =
          going Before (HasStagedNext moving) (Moving moving)
          (λ stood runs. runs.holds) may (led (Moving moving) refl way).2
      next-ready (Loading reader) may way = going Before (HasRead reader) _
          (λ stood runs. runs.holds) may (led (Loading reader) refl way).1
      next-ready (BackingUp walker answer) may way =
          going Before (BacksUp walker) (BackingUp walker answer)
          (λ stood runs. runs.holds) may (led (BackingUp walker answer) refl way).stands
      next-ready (Committing stager answer) may way =
          let stands = led (Committing stager answer) refl way in
          going Before (HasStagedIntent stager) (Committing stager answer)
          (λ stood runs. (
            runs.holds,
            change-deed runner answer stager.change stands.of_change deeds ours stood runs.asked,
          )) may stands.stands
      next-ready (Installing walker answer) may way =
          going Committed (Installs walker) (Installing walker answer)
          (λ stood runs. runs.holds) may (led (Installing walker answer) refl way).stands
      next-ready (Unlocking keeper answer) may way =
          going (stage_of answer.outcome.cause) (Keeps keeper KnowsAnything)
          (Unlocking keeper answer) (λ stood runs. runs.holds) may
          (led (Unlocking keeper answer) refl way).stands
      next-ready (Freeing freeing answer) may way =
          going (stage_of answer.outcome.cause) (HasStagedFree freeing)
          (Freeing freeing answer) (λ stood runs. runs.holds) may
          (led (Freeing freeing answer) refl way).stands
      next-ready (Watching watcher) may way =
          going Before (HasJudged watcher) (Watching watcher)
          (λ stood runs. runs.holds) may (led (Watching watcher) refl way).1
      next-ready (Gathering reading) may way =
          going Before (HasGathered reading) (Gathering reading)
          (λ stood runs. runs.holds) may (led (Gathering reading) refl way).1
      next-ready (Answering answer) may way =
          let had = left-given now runner answer way in
          told-both now.told (λ past runs due. record {
            ready = subst (AnswerRule deeds (standing runner.token past.history))
                (ap (λ (one : Answer). one.outcome.status) (sym had.left))
                (rule-left deeds ours runner had.given past.history read due.asked had.put
                had.may.gives.says due.shown due.commits);
            may = answer-may _ answer.outcome.status runs.runs;
          }) had.may.may_answer had.may.gives.due
