-- Claims: an own call that came to a fault the session met as that (`fault-met`); it is one more event of
-- the session, or none where there was no memory (`makes-one`); and what the session has met it is still to
-- tell (`stays-told`).
-- Way: events of others come first, which leave what is the session's, and then the call's own.
use Rattle.std.proofs.Common.{◌≡◌, sym, subst, [], inl, inr, Option, Some, None, IfSome, Result, Ok, Err}
use Rattle.acct_outside.specs.declared.CommitStage.{CommitStage}
use Rattle.acct_outside.specs.declared.FolderFault.{FolderFault}
use Rattle.acct_outside.specs.declared.FolderFault.TheVariants.{Failed, Memory as NoMemory}
use Rattle.acct_outside.specs.Tokens.{Token}
use Rattle.acct_outside.specs.Calls.{Call, Answer, done, failed}
use Rattle.acct_outside.specs.History.{History}
use Rattle.acct_outside.specs.Others.{ByOthers}
use Rattle.acct_outside.specs.Contract.{Tells as OutsideTells}
use Rattle.suite_rules.specs.Standing.{Standing, standing}
use Rattle.suite_rules.specs.Steps.{MakesCall}
use Rattle.suite_rules.proofs.StepLemmas.{IsNoAnswer, stayed, stepped}
use Rattle.suite_answers.specs.declared.cause.Cause.{Cause}
use Rattle.suite_session.specs.declared.state.State.{State}
use Rattle.suite_session.specs.Runner.{Runner}
use Rattle.acct_outside.specs.Moment.{Past, Moment}
use Rattle.suite_rules.proofs.Parts.{StandsWhere, TellsWhere}
use Rattle.suite_session.specs.Moment.{Runs, At}
use Rattle.suite_session.specs.Locking.{cause_of_fault}
use Rattle.suite_session.specs.Telling.{IsToTell, MayFollow, Remembers}
use Rattle.suite_session.specs.Stands.{FindsNoMemory, MakesOne, StaysTold}
use Rattle.suite_session.proofs.CauseLemmas.{IsMetAs}
use Rattle.suite_session.proofs.MeetingLemmas.{MeetsBy}
use Rattle.suite_session.proofs.TellingLemmas.{tells-more, tells-others, tells-own}

module _ (before now : Moment) (runner : Runner) (commit : CommitStage) (Held : Standing → Type 0)
    (stands : At before runner commit Held) (token : Token) (same : token ≡ runner.token)
    (call : Call) (no_answer : IsNoAnswer call)
    (Shows : Result (Answer call) FolderFault → Type 0)
    (made : MakesCall before now token call Shows) where
  -- the folder tells it by that
  told-by-runner : OutsideTells before now runner.token call made.answer
  told-by-runner = subst
      (λ one. OutsideTells before now one call made.answer) same made.told

  -- what came to a fault, the session met as that
  pub fault-met : (stage : CommitStage) (fault : FolderFault) → made.answer ≡ Err fault →
      IfSome now.told (λ past. IsMetAs runner past.history (cause_of_fault stage fault))
  fault-met stage fault is = by-told fault before.told now.told
      (subst (OutsideTells before now runner.token call) is told-by-runner)
    where
      by-told : (one : FolderFault) (was told : Option Past) →
          TellsWhere before.admits was told runner.token call (Err one) →
          IfSome told (λ past. IsMetAs runner past.history (cause_of_fault stage one))
      by-told Failed (Some was) (Some past) tells = record {
        newer = [];
        older = tells.1.1.others_then.between;
        call = call;
        no_answer = λ status same. subst IsNoAnswer same no_answer;
        effect = tells.1.0;
        parts = tells.1.1.others_then.last;
      }
      by-told Failed (Some was) None tells = absurd tells
      by-told Failed None None tells = tt
      by-told Failed None (Some past) tells = absurd tells
      by-told NoMemory was None tells = tt
      by-told NoMemory was (Some past) tells = tt

  module _ (old new : State) (meets : MeetsBy call made.answer Held new) where
    -- the history got one event of the runner, of this call, or none where there was no memory
    pub makes-one : MakesOne before.told now.told runner.token call (FindsNoMemory new)
    makes-one = by-told made.answer before.told now.told stands meets told-by-runner
      where
        by-told : (answer : Result (Answer call) FolderFault) (was told : Option Past) →
            StandsWhere before.admits was runner.token (Runs runner commit Held) →
            MeetsBy call answer Held new →
            TellsWhere before.admits was told runner.token call answer →
            MakesOne was told runner.token call (FindsNoMemory new)
        by-told answer None None stood met tells = tt
        by-told (Ok given) (Some was) (Some past) stood met tells = (
          tells.0,
          inl (
            _,
            (stepped before.admits runner.token stood.own call (done given) _ was.history
                past.history tells.1).next_events,
          ),
        )
        by-told (Err Failed) (Some was) (Some past) stood met tells = (
          tells.0,
          inl (
            _,
            (stepped before.admits runner.token stood.own call (failed tells.1.0) _
                was.history past.history tells.1.1).next_events,
          ),
        )
        by-told (Err NoMemory) (Some was) (Some past) stood met tells = (
          tells.0,
          inr (
            met,
            (stayed before.admits runner.token stood.own was.history past.history
                tells.1).same_events,
          ),
        )
        by-told answer None (Some past) stood met tells = absurd tells
        by-told answer (Some was) None stood met tells = absurd tells

    -- and the session is to tell what it has met
    pub stays-told : ((met : Cause) → IsToTell old met → IsToTell new met × MayFollow met call) →
        StaysTold before.told now.told runner.token old new
    stays-told leads = by-told made.answer before.told now.told stands meets told-by-runner
      where
        -- after events of others
        before-call : (was : Past) (between : History) →
            StandsWhere before.admits (Some was) runner.token (Runs runner commit Held) →
            ByOthers before.admits was.history between → Remembers runner.token old was.history →
            Remembers runner.token old between
        before-call was between stood others =
            tells-others (IsToTell old) runner.token before.admits stood.own
            was.history between others

        held-then : (was : Past) (between : History) →
            StandsWhere before.admits (Some was) runner.token (Runs runner commit Held) →
            ByOthers before.admits was.history between → Held (standing runner.token between)
        held-then was between stood others = subst Held
            (sym (stayed before.admits runner.token stood.own was.history between
            others).same_standing)
            stood.holds.holds

        by-told : (answer : Result (Answer call) FolderFault) (was told : Option Past) →
            StandsWhere before.admits was runner.token (Runs runner commit Held) →
            MeetsBy call answer Held new →
            TellsWhere before.admits was told runner.token call answer →
            StaysTold was told runner.token old new
        by-told answer None None stood met tells = tt
        by-told (Ok given) (Some was) (Some past) stood met tells =
            let came = tells.1.others_then in (
              tells.0,
              λ remembers. subst (Remembers runner.token new) (sym came.last)
                  (tells-own (IsToTell old) runner.token (IsToTell new) _ came.between leads
                  (met (standing runner.token came.between)
                  (held-then was came.between stood came.others))
                  (before-call was came.between stood came.others remembers)),
            )
        by-told (Err Failed) (Some was) (Some past) stood met tells =
            let came = tells.1.1.others_then in (
              tells.0,
              λ remembers. subst (Remembers runner.token new) (sym came.last)
                  (tells-own (IsToTell old) runner.token (IsToTell new) _ came.between leads
                  (λ one shows. met one)
                  (before-call was came.between stood came.others remembers)),
            )
        by-told (Err NoMemory) (Some was) (Some past) stood met tells = (
          tells.0,
          λ remembers. tells-more (IsToTell old) (IsToTell new) runner.token
              (λ one told. (leads one told).0) past.history
              (before-call was past.history stood tells.1 remembers),
        )
        by-told answer None (Some past) stood met tells = absurd tells
        by-told answer (Some was) None stood met tells = absurd tells
