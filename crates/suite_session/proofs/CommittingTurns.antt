-- Claims: each call on the way to a commit leads to the next state of the change (`changes-to`), the commit
-- to the installation with its answer (`commits-stands`), and each call after it to the next with the
-- answer still due (`installs-to`, `clears`).
-- Way: the typed step gives the standing. Just before the commit the session is a clean keeper that
-- has seen the inputs, and this stays an earlier moment of each longer history.
use Rattle.std.proofs.Common.{◌≡◌, [], refl, sym, ap, subst, ◌∙◌, Option, Some, None, IfSome, Result, Ok, Err}
use Rattle.acct_outside.specs.declared.FolderFault.{FolderFault}
use Rattle.acct_outside.specs.declared.FolderFault.TheVariants.{Failed, Memory as NoMemory}
use Rattle.acct_outside.specs.declared.StageFault.{StageFault}
use Rattle.acct_outside.specs.declared.CommitStage.{CommitStage}
use Rattle.acct_outside.specs.declared.CommitStage.TheVariants.{Before, Committed}
use Rattle.acct_outside.specs.declared.Name.TheVariants.{Intent, IntentStage}
use Rattle.acct_outside.specs.Tokens.{Token}
use Rattle.acct_outside.specs.Calls.{Call, Answer, CallResult, renames}
use Rattle.acct_outside.specs.Contract.{MayAnswer}
use Rattle.suite_rules.specs.Deeds.{SuiteDeeds}
use Rattle.suite_rules.specs.Knowledge.{nothing_seen}
use Rattle.suite_rules.specs.Standing.{Standing, standing_step}
use Rattle.suite_rules.specs.Steps.{StandsIn, Leaves, MakesCall, own_command, asked as asked_of}
use Rattle.suite_rules.specs.Outcomes.{LeadsTo, at_commit}
use Rattle.suite_rules.proofs.StepLemmas.{stands-left, stands-weaker}
use Rattle.lock_steps.specs.States.{Kept}
use Rattle.lock_steps.specs.Stands.{Keeps, KnowsAnything}
use Rattle.commit_steps.specs.States.{Change, Stager, Walker, walk_of}
use Rattle.commit_steps.specs.Stands.{HasStagedIntent, HasCleared, Installs, IsDeed, StandsUnsure}
use Rattle.commit_steps.specs.Walks.{token_of}
use Rattle.suite_answers.specs.declared.cause.Cause.TheVariants.{Changed}
use Rattle.suite_answers.specs.declared.answer.Answer.{Answer as FinalAnswer}
use Rattle.suite_answers.specs.Reasons.{stage_of}
use Rattle.suite_session.specs.declared.state.State.{State}
use Rattle.suite_session.specs.declared.state.State.TheVariants.{Answering}
use Rattle.suite_session.specs.Runner.{Runner}
use Rattle.acct_outside.specs.Moment.{Past, Moment}
use Rattle.suite_rules.proofs.Parts.{LeavesWhere, StandsWhere}
use Rattle.suite_session.specs.Moment.{Runs, At}
use Rattle.suite_session.specs.Answers.{cause_of_answer, IsTold, Says}
use Rattle.suite_session.specs.Deeds.{AreOfTools}
use Rattle.suite_session.specs.Due.{AnsweredAll, IsShown, IsDue}
use Rattle.suite_session.specs.Grows.{Grew}
use Rattle.suite_session.specs.Locking.{cause_of_fault}
use Rattle.suite_session.specs.Stands.{AnswersWith, IsOutside, IsOfChange, HasToGive, Extends, StandsAs, StandsChanging, StandsInstalling, StandsUnlocking}
use Rattle.suite_session.proofs.WritingLemmas.{IsTurnCall, change-deed}
use Rattle.suite_session.proofs.LeavingLemmas.{fault-stopped, clean-known}
use Rattle.suite_session.proofs.CauseLemmas.{IsMetAs, fault-stage, told-met, told-stage, told-plain, told-says, plain-shown, fault-plain}
use Rattle.suite_session.proofs.TurnLemmas.{HasMetNow, goes-on, extended, told-left}
use Rattle.suite_session.proofs.LeadsLemmas.{leads-fault}
use Rattle.suite_session.proofs.DueLemmas.{earlier-stays}
use Rattle.suite_session.proofs.GrowsLemmas.{grew-extends, tells-grow}

-- ---- A fault of the commit

-- it is told as a fault of the folder only where that failed
commit-cause : (came : FolderFault) →
    IsOutside (cause_of_fault (at_commit came).stage (at_commit came).fault) →
    at_commit came ≡ at_commit Failed
commit-cause Failed told = refl
commit-cause NoMemory told = absurd told

-- where the call of the commit ends in a cause from outside, the system failed it at the commit
pub commit-failed : {A State : Type 0} (next : State) (answer : Result A FolderFault)
    (fault : StageFault) → LeadsTo next at_commit answer (Err fault) →
    IsOutside (cause_of_fault fault.stage fault.fault) → fault ≡ at_commit Failed
commit-failed next answer fault shown told =
    let came = leads-fault next at_commit answer fault shown in
    came.1 ∙ commit-cause came.0 (subst (λ (one : StageFault).
    IsOutside (cause_of_fault one.stage one.fault)) came.1 told)

-- it came of that fault of the call
commit-same : (came : FolderFault) → (at_commit came).fault ≡ came
commit-same Failed = refl
commit-same NoMemory = refl

-- the fault in which the commit ends is the one that its call met
pub commit-ended : {A State : Type 0} (next : State) (answer : Result A FolderFault)
    (fault : StageFault) → LeadsTo next at_commit answer (Err fault) → answer ≡ Err fault.fault
commit-ended next (Err came) fault shown =
    ap Err (sym (ap (λ (one : StageFault). one.fault) shown ∙ commit-same came))
commit-ended next (Ok answer) fault shown = absurd shown

-- ---- The turns

module _ (before now : Moment) (runner : Runner) (answer : FinalAnswer) where
  -- where a step keeps the change, its session is on its way to the commit still
  pub changes-to : (change : Change) (Held : Standing → Type 0) →
      StandsChanging before runner change Held answer → (on : Change) (Holds : Standing → Type 0) →
      on ≡ change → At now runner Before Holds → StandsChanging now runner on Holds answer
  changes-to change Held stood on Holds same stands = record {
    same = ap (λ (one : Change). one.inputs.keeper.token) same ∙ stood.same;
    stands = stands;
    of_change = subst (λ (one : Change). IsOfChange runner one answer) (sym same) stood.of_change;
  }

  module _ (stager : Stager)
      (stood : StandsChanging before runner stager.change (HasStagedIntent stager) answer) where
    -- the change whose intent is staged
    abbrev change : Change
    change = stager.change

    -- the answer is that of a change
    is-changed : answer.outcome.cause ≡ Changed
    is-changed = stood.of_change.is_answer.has_cause
        ∙ ap cause_of_answer stood.of_change.is_change

    -- just before its commit it was a clean keeper that had seen all
    answered-all : (was : Past) →
        StandsWhere before.admits (Some was) runner.token
        (Runs runner Before (HasStagedIntent stager)) →
        AnsweredAll runner answer was.history
    answered-all was stands =
        let held = stands.holds.holds in
        record {
          newer = [];
          older = was.history;
          parts = refl;
          number = change.inputs.keeper.number;
          seen = held.keeps.knows.inputs.seen;
          clean = record {
            active = record { runs = stands.runs; keeps = held.keeps.locks.owns };
            uncommitted = held.uncommitted;
            clean = held.keeps.knows.inputs.clean;
          };
          files = change.inputs.files;
          defs = change.inputs.defs;
          all = record {
            each_table = held.keeps.knows.inputs.each_table;
            settings = held.keeps.knows.inputs.settings;
          };
          is_answer = stood.of_change.is_answer;
        }

    -- the new files are the deed of what it was asked
    pub is-deed : (deeds : SuiteDeeds) → AreOfTools deeds →
        StandsIn before change.inputs.keeper.token (IsDeed deeds change)
    is-deed deeds ours =
        stands-weaker before.admits change.inputs.keeper.token
        (Runs runner Before (HasStagedIntent stager)) (IsDeed deeds change)
        (λ one runs.
        change-deed runner answer change stood.of_change deeds ours one runs.asked)
        before.told
        (subst (λ (token : Token). StandsIn before token
        (Runs runner Before (HasStagedIntent stager))) (sym stood.same) stood.stands)

    module _ (Shows : Result (Unit {0}) FolderFault → Type 0)
        (made : MakesCall before now
        change.inputs.keeper.token (renames IntentStage Intent) Shows)
        (left : Leaves asked_of change.inputs.keeper.token before now) where
      -- the history got an event of the runner, or none, after those of others
      pub commit-grew : Grew before.admits runner.token 1 before.told now.told
      commit-grew = subst (λ (token : Token). Grew before.admits token 1 before.told now.told)
          stood.same
          (tells-grow before.admits change.inputs.keeper.token
          (renames IntentStage Intent) made.answer
          before.told now.told (λ past is between others. tt) made.told)

      -- so it is extended
      commit-extends : Extends before.told now.told
      commit-extends = grew-extends before.admits runner.token 1 before.told now.told commit-grew

      left-asked : Leaves asked_of runner.token before now
      left-asked = subst (λ (token : Token). Leaves asked_of token before now) stood.same
          left

      -- once its commit was done, the answer is due
      committed-due : (Holds : Standing → Type 0) (was told : Option Past) →
          StandsWhere before.admits was runner.token
          (Runs runner Before (HasStagedIntent stager)) →
          StandsWhere now.admits told runner.token (Runs runner Committed Holds) →
          Extends was told → IfSome told (IsDue runner answer)
      committed-due Holds None None held stands extends = tt
      committed-due Holds (Some was) (Some past) held stands extends = record {
        asked = stands.holds.asked;
        commits = stands.holds.commits
            ∙ ap stage_of (sym is-changed);
        shown = subst (IsShown runner answer past.history) (sym is-changed)
            (earlier-stays runner answer was.history past.history extends.1.0 extends.1.1
            (answered-all was held));
      }
      committed-due Holds was told held stands extends = absurd extends

      -- so the runner installs, and has its answer to give
      pub commits-stands : (walked : Walker) → walked ≡ walk_of change →
          StandsIn now change.inputs.keeper.token (Installs walked) →
          StandsInstalling now runner walked answer
      commits-stands walked is next =
          let stands : At now runner Committed (Installs walked) =
          stands-weaker now.admits runner.token
          (λ one. Installs walked one × (asked_of one ≡ Some runner.asked.command))
          (Runs runner Committed (Installs walked))
          (λ one both. record {
            holds = both.0;
            asked = both.1;
            commits = both.0.committed;
          })
          now.told
          (stands-left asked_of (Some runner.asked.command)
          (Runs runner Before (HasStagedIntent stager)) (Installs walked)
          (λ one runs. runs.asked) before.admits now.admits runner.token before.told now.told
          stood.stands left-asked
          (subst (λ (token : Token). StandsIn now token (Installs walked))
          stood.same next)) in
          record {
            same = ap token_of is ∙ stood.same;
            stands = stands;
            changed = is-changed;
            gives = record {
              says = subst (Says runner.asked answer) (sym is-changed) (record {
                files = change.inputs.files;
                defs = change.inputs.defs;
                is_answer = stood.of_change.is_answer;
              });
              due = committed-due (Installs walked) before.told now.told stood.stands stands
                  commit-extends;
            };
          }

      -- after a fault of the commit an answer that tells it is due
      unsure-due : (fault : StageFault) (given : FinalAnswer) →
          IsTold runner.asked.request.tool (cause_of_fault fault.stage fault.fault) given →
          (was told : Option Past) →
          StandsWhere before.admits was runner.token
          (Runs runner Before (HasStagedIntent stager)) →
          StandsUnsure told runner.token fault → LeavesWhere asked_of runner.token was told →
          IfSome told (λ past.
          IsMetAs runner past.history (cause_of_fault fault.stage fault.fault)) →
          IfSome told (IsDue runner given)
      unsure-due fault given says None None held unsure kept met = tt
      unsure-due fault given says (Some was) (Some past) held unsure kept met = record {
        asked = kept.1 ∙ held.holds.asked;
        commits = unsure ∙ (sym (told-stage
            runner.asked.request.tool (cause_of_fault fault.stage fault.fault) given says
            ∙ fault-stage fault.stage fault.fault));
        shown = plain-shown runner given past.history given.outcome.cause
            (told-plain runner.asked (cause_of_fault fault.stage fault.fault) given
            (fault-plain fault.stage fault.fault) says)
            (told-met runner (cause_of_fault fault.stage fault.fault) given
            past.history says met);
      }
      unsure-due fault given says was told held unsure kept met = absurd kept

      pub unsure-stands : (fault : StageFault) (state : State) →
          AnswersWith runner.asked.request.tool (cause_of_fault fault.stage fault.fault) state →
          StandsUnsure now.told change.inputs.keeper.token fault →
          HasMetNow now runner (cause_of_fault fault.stage fault.fault) → StandsAs now runner state
      unsure-stands fault (Answering given) says unsure met = record {
        may_answer = subst (λ (token : Token). MayAnswer now token) stood.same
            made.may_answer;
        gives = record {
          says = told-says runner.asked (cause_of_fault fault.stage fault.fault) given
              (fault-plain fault.stage fault.fault) says;
          due = unsure-due fault given says before.told now.told stood.stands
              (subst (λ (token : Token). StandsUnsure now.told token fault) stood.same unsure)
              left-asked met;
        };
        left = told-left now runner (cause_of_fault fault.stage fault.fault) given says
            (λ goes_on. absurd (goes_on (fault-stopped fault.stage fault.fault)));
      }
      unsure-stands fault state says unsure met = absurd says

  module _ (walker : Walker) (stood : StandsInstalling before runner walker answer) where
    -- after the commit the answer stays due
    changed-due : (Holds : Standing → Type 0) (was told : Option Past) →
        IfSome was (IsDue runner answer) →
        StandsWhere now.admits told runner.token (Runs runner Committed Holds) →
        Extends was told → IfSome told (IsDue runner answer)
    changed-due Holds None None due stands extends = tt
    changed-due Holds (Some was) (Some past) due stands extends = record {
      asked = stands.holds.asked;
      commits = stands.holds.commits
          ∙ ap stage_of (sym stood.changed);
      shown = subst (IsShown runner answer past.history) (sym stood.changed)
          (earlier-stays runner answer was.history past.history extends.1.0 extends.1.1
          (subst (IsShown runner answer was.history) stood.changed due.shown));
    }
    changed-due Holds was told due stands extends = absurd extends

    module _ (call : Call)
        (of_turn : IsTurnCall (Runs runner Committed (Installs walker)) call)
        (Shows : Result (Answer call) FolderFault → Type 0)
        (quiet : (result : CallResult (Answer call)) (one : Standing) →
        own_command (standing_step call result one) ≡ own_command one)
        (made : MakesCall before now (token_of walker) call
        Shows) where
      -- so it has its answer to give
      gives-still : (Holds : Standing → Type 0) → At now runner Committed Holds →
          HasToGive now runner answer
      gives-still Holds stands = record {
        says = stood.gives.says;
        due = changed-due Holds before.told now.told stood.gives.due stands
            (extended before now runner Committed (Installs walker) stood.stands
            (token_of walker) stood.same call of_turn Shows quiet made);
      }

      -- a call of the installation, which leads on and keeps the keeper
      pub installs-to : (walked : Walker) →
          walked.change.inputs.keeper ≡ walker.change.inputs.keeper →
          StandsIn now (token_of walker) (Installs walked) →
          StandsInstalling now runner walked answer
      installs-to walked keeps next =
          let stands = goes-on before now runner Committed (Installs walker) stood.stands
          (token_of walker) stood.same call of_turn Shows quiet made (Installs walked) next in
          record {
            same = ap (λ (one : Kept). one.token) keeps ∙ stood.same;
            stands = stands;
            changed = stood.changed;
            gives = gives-still (Installs walked) stands;
          }

      -- the removal of the intent
      pub clears : (cleared : Kept) → cleared ≡ walker.change.inputs.keeper →
          StandsIn now (token_of walker) (HasCleared cleared) →
          StandsUnlocking now runner cleared answer
      clears cleared is next =
          let stands = goes-on before now runner Committed (Installs walker) stood.stands
          (token_of walker) stood.same call of_turn Shows quiet made
          (Keeps cleared KnowsAnything)
          (stands-weaker now.admits (token_of walker) (HasCleared cleared)
          (Keeps cleared KnowsAnything)
          (λ one held. record { locks = held.keeps.locks; knows = tt }) now.told next) in
          record {
            same = ap (λ (one : Kept). one.token) is ∙ stood.same;
            stands = subst (λ (one : CommitStage). At now runner one (Keeps cleared KnowsAnything))
                (ap stage_of (sym stood.changed)) stands;
            clean = clean-known runner.token answer.outcome.cause now.admits (HasCleared cleared)
                (λ one held. (nothing_seen, held.keeps.knows)) now.told
                (subst (λ (token : Token). StandsIn now token (HasCleared cleared))
                stood.same next);
            quiet = λ fault. subst IsOutside stood.changed fault;
            gives = gives-still (Keeps cleared KnowsAnything) stands;
          }
