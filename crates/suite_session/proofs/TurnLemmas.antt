-- Claim: a turn that makes one call of the folder, which neither begins, commits nor answers, leads
-- from the session's standing to that of the call's step (`turns`, of a step with a stage `leads-turns`), or
-- to an answer that is due (`stops`, `ends`, `leads-faults`).
-- Way: such a call leaves what the session was asked and how far its own commit is (`leaves` of
-- suite_rules); the rest are the clauses of the typed step, by the session's token.
use Rattle.std.proofs.Common.{◌≡◌, sym, ap, subst, ◌∙◌, ◌≤◌, [], inl, inr, Option, Some, None, IfSome, Result, Ok, Err}
use Rattle.acct_outside.specs.declared.CommitStage.{CommitStage}
use Rattle.acct_outside.specs.declared.CommitStage.TheVariants.{Before}
use Rattle.acct_outside.specs.declared.FolderFault.{FolderFault}
use Rattle.acct_outside.specs.declared.FolderFault.TheVariants.{Failed}
use Rattle.acct_outside.specs.declared.StageFault.{StageFault}
use Rattle.acct_outside.specs.Tokens.{Token}
use Rattle.acct_outside.specs.Calls.{Call, Answer, CallResult}
use Rattle.acct_outside.specs.Contract.{Tells as OutsideTells}
use Rattle.acct_outside.specs.Faults.{HasRisen}
use Rattle.suite_rules.specs.Outcomes.{LeadsTo, at_stage}
use Rattle.suite_rules.specs.Standing.{Standing, standing_step}
use Rattle.suite_rules.specs.Steps.{OwnCommand, own_command, StandsIn, AlwaysStaysLawful, Leaves, MakesCall}
use Rattle.suite_rules.proofs.StepLemmas.{IsNoAnswer, leaves, stands-done, stands-left, stands-weaker, stayed}
use Rattle.lock_steps.specs.States.{Kept}
use Rattle.lock_steps.specs.Stands.{Keeps, KnowsAnything}
use Rattle.suite_answers.specs.declared.cause.Cause.{Cause}
use Rattle.suite_answers.specs.declared.cause.Cause.TheVariants.{Memory}
use Rattle.suite_answers.specs.declared.answer.Answer.{Answer as FinalAnswer}
use Rattle.suite_answers.specs.Reasons.{stage_of}
use Rattle.suite_session.specs.declared.state.State.{State}
use Rattle.suite_session.specs.declared.state.State.TheVariants.{Unlocking, Answering}
use Rattle.suite_session.specs.Runner.{Runner}
use Rattle.acct_outside.specs.Moment.{Past, Moment}
use Rattle.suite_rules.proofs.Parts.{LeavesWhere, StandsWhere, TellsWhere}
use Rattle.suite_session.specs.Moment.{Runs, At}
use Rattle.suite_session.specs.Answers.{IsTold}
use Rattle.suite_session.specs.Causes.{Met}
use Rattle.suite_session.specs.Due.{IsShown, IsDue}
use Rattle.suite_session.specs.Grows.{Grew}
use Rattle.suite_session.specs.Locking.{cause_of_fault}
use Rattle.suite_session.specs.Looks.{LooksLess}
use Rattle.suite_session.specs.NextCall.{state_call}
use Rattle.suite_session.specs.Telling.{IsToTell, MayFollow}
use Rattle.suite_session.specs.Stands.{Extends, FindsNoMemory, HasToGive, MakesOne, MayGive, HasLeft, StandsAs, AnswersWith, LeavesWith, IsOutside, IsStopped, StagesTo, TellsOutside, Turns}
use Rattle.suite_session.proofs.AskingLemmas.{asks-once}
use Rattle.suite_session.proofs.WritingLemmas.{IsTurnCall, turn-no-answer, turn-writes-then}
use Rattle.suite_session.proofs.CauseLemmas.{IsMetAs, IsPlain, answers-fault, fault-failed, fault-plain, fault-stage, given-cause, plain-shown, plain-undecided, told-cause, told-met, told-plain, told-says, told-stage}
use Rattle.suite_session.proofs.GrowsLemmas.{tells-grow, grew-extends}
use Rattle.suite_session.proofs.LeavingLemmas.{KeepsNone, LeavesUnkept, clean-else, fault-stopped, none-left}
use Rattle.suite_session.proofs.LooksLemmas.{answers-less}
use Rattle.suite_session.proofs.LeadsLemmas.{leads-stage, leads-failed}
use Rattle.suite_session.proofs.MeetingLemmas.{IsQuiet, MeetsBy, fault-ends, fault-tells, leads-done, leads-ended, quiet-on}
use Rattle.suite_session.proofs.OwnCallLemmas.{fault-met, makes-one, stays-told}
use Rattle.suite_session.proofs.StagingLemmas.{stopped-stages}

-- what the runner was asked, and this commit
abbrev own_of : Runner → CommitStage → OwnCommand
own_of runner commit = record { command = Some runner.asked.command; commit = commit }

-- a typed step asks for the runner's standing by the token that it keeps
pub may-step : (now : Moment) (runner : Runner) (commit : CommitStage) (Holds : Standing → Type 0)
    (token : Token) → token ≡ runner.token → At now runner commit Holds →
    StandsIn now token Holds
may-step now runner commit Holds token same stands =
    stands-weaker now.admits token (Runs runner commit Holds) Holds (λ stood runs. runs.holds)
    now.told
    (subst (λ one. StandsIn now one (Runs runner commit Holds)) (sym same) stands)

-- what the runner met of the cause, where the folder tells its history
abbrev pub HasMetNow : Moment → Runner → Cause → Type 0
HasMetNow now runner cause = IfSome now.told (λ past. IsMetAs runner past.history cause)

-- of want of memory nothing
pub memory-met : (now : Moment) (runner : Runner) (stage : CommitStage) →
    HasMetNow now runner (Memory stage)
memory-met now runner stage = by-told now.told
  where
    by-told : (told : Option Past) →
        IfSome told (λ past. IsMetAs runner past.history (Memory stage))
    by-told None = tt
    by-told (Some past) = tt

-- the runner has left what it must with the cause, unless that stopped it
abbrev pub HasLeftNow : Moment → Runner → Cause → Type 0
HasLeftNow now runner cause =
    (IsStopped cause → ⊥) → IfSome now.told (HasLeft runner.token cause)

-- so it has with an answer that tells the cause, or that there was no memory to tell it
pub told-left : (now : Moment) (runner : Runner) (cause : Cause) (answer : FinalAnswer) →
    IsTold runner.asked.request.tool cause answer → HasLeftNow now runner cause →
    HasLeftNow now runner answer.outcome.cause
told-left now runner cause answer told has_left =
    elim (told-cause runner.asked.request.tool cause answer told) [
      | inl is ↦ subst (HasLeftNow now runner) (sym is) has_left
      | inr is ↦ λ goes_on. absurd (goes_on (subst IsStopped (sym is) tt))
    ]

-- what the runner met of a cause shows the answer that tells it
shown-now : (runner : Runner) (cause : Cause) (answer : FinalAnswer) (told : Option Past) →
    IsPlain cause → IsTold runner.asked.request.tool cause answer →
    IfSome told (λ past. IsMetAs runner past.history cause) →
    IfSome told (λ past. IsShown runner answer past.history answer.outcome.cause)
shown-now runner cause answer None plain tells met = tt
shown-now runner cause answer (Some past) plain tells met =
    plain-shown runner answer past.history answer.outcome.cause
    (told-plain runner.asked cause answer plain tells)
    (told-met runner cause answer past.history tells met)

module _ (before now : Moment) (runner : Runner) (commit : CommitStage) (Held : Standing → Type 0)
    (stands : At before runner commit Held) (token : Token) (same : token ≡ runner.token)
    (call : Call) (of_turn : IsTurnCall (Runs runner commit Held) call)
    (Shows : Result (Answer call) FolderFault → Type 0)
    (quiet : (result : CallResult (Answer call)) (stood : Standing) →
    own_command (standing_step call result stood) ≡ own_command stood)
    (made : MakesCall before now token call Shows) where
  -- the call by the runner's token
  by-runner : MakesCall before now runner.token call Shows
  by-runner = subst
      (λ one. MakesCall before now one call Shows) same made

  -- the call isn't the answer
  no_answer : IsNoAnswer call
  no_answer = turn-no-answer (Runs runner commit Held) call of_turn

  -- the runner's command and its commit are as before the call
  left : Leaves own_command runner.token before now
  left = leaves before.admits now.admits made.narrows runner.token call no_answer
      (Runs runner commit Held) own_command (λ result stood held. quiet result stood)
      by-runner.answer before.told now.told stands by-runner.told

  -- the standing at the next moment is that of the step
  pub goes-on : (Holds : Standing → Type 0) → StandsIn now token Holds →
      At now runner commit Holds
  goes-on Holds stands_now = stands-weaker now.admits runner.token
      (λ stood. Holds stood × (own_command stood ≡ own_of runner commit)) (Runs runner commit Holds)
      (λ stood both. record {
        holds = both.0;
        asked = ap (λ (own : OwnCommand). own.command) both.1;
        commits = ap (λ (own : OwnCommand). own.commit) both.1;
      })
      now.told
      (stands-left own_command (own_of runner commit) (Runs runner commit Held) Holds
      (λ stood runs. λ i. record { command = runs.asked i; commit = runs.commits i })
      before.admits now.admits runner.token before.told now.told stands left
      (subst (λ one. StandsIn now one Holds) same stands_now))

  -- the folder tells what the call answered
  answered : (answer : Answer call) → made.answer ≡ Ok answer →
      OutsideTells before now runner.token call (Ok answer)
  answered answer is = subst (OutsideTells before now runner.token call) is
      (subst (λ one. OutsideTells before now one call made.answer) same
      made.told)

  -- what the call answered, the session met
  pub got : (answer : Answer call) → made.answer ≡ Ok answer →
      IfSome now.told (λ past. Met runner.token call answer Held past.history)
  got answer is = by-told before.told now.told stands (answered answer is)
    where
      by-told : (was told : Option Past) →
          StandsWhere before.admits was runner.token (Runs runner commit Held) →
          TellsWhere before.admits was told runner.token call (Ok answer) →
          IfSome told (λ past. Met runner.token call answer Held past.history)
      by-told None None stood tells = tt
      by-told (Some was) (Some past) stood tells =
          let then = tells.1.others_then in
          record {
            newer = [];
            older = then.between;
            parts = then.last;
            stood = subst Held (sym (stayed before.admits runner.token stood.own was.history
                then.between then.others).same_standing) stood.holds.holds;
          }
      by-told was told stood tells = absurd tells

  -- what came to a fault, the session met as that
  pub ended : (stage : CommitStage) (fault : FolderFault) → made.answer ≡ Err fault →
      HasMetNow now runner (cause_of_fault stage fault)
  ended = fault-met before now runner commit Held stands token same call no_answer Shows made

  -- the history got an event of the runner, or none, after those of others
  pub grown : Grew before.admits runner.token 1 before.told now.told
  grown = tells-grow before.admits runner.token call by-runner.answer before.told now.told
      (turn-writes-then before.admits runner.token (Runs runner commit Held) call of_turn
      before.told stands) by-runner.told

  -- so it is extended
  pub extended : Extends before.told now.told
  extended = grew-extends before.admits runner.token 1 before.told now.told grown

  -- an answer of this commit is due, where its cause is shown
  pub is-due : (answer : FinalAnswer) → commit ≡ stage_of answer.outcome.cause →
      (was now_told : Option Past) →
      StandsWhere before.admits was runner.token (Runs runner commit Held) →
      LeavesWhere own_command runner.token was now_told →
      IfSome now_told (λ past. IsShown runner answer past.history answer.outcome.cause) →
      IfSome now_told (IsDue runner answer)
  is-due answer is None None stood kept shown = tt
  is-due answer is (Some was) (Some past) stood kept shown = record {
    asked = ap (λ (own : OwnCommand). own.command) kept.1 ∙ stood.holds.asked;
    commits = ap (λ (own : OwnCommand). own.commit) kept.1 ∙ (stood.holds.commits ∙ is);
    shown = shown;
  }
  is-due answer is was now_told stood kept shown = absurd kept

  -- where it leaves no lock kept, the runner has left what it must
  pub unkept-left : (cause : Cause) →
      ((IsStopped cause → ⊥) → LeavesUnkept call made.answer Held) → HasLeftNow now runner cause
  unkept-left cause leaves_unkept goes_on =
      let one = leaves_unkept goes_on in
      none-left runner.token cause now.admits now.told
      (stands-done before.admits now.admits made.narrows runner.token call no_answer
      (Runs runner commit Held) KeepsNone one.given (λ stood runs. one.unkept stood runs.holds)
      before.told now.told stands (answered one.given one.is))

  -- an answer that tells a plain cause of this commit is due
  gives-plain : (cause : Cause) (answer : FinalAnswer) →
      commit ≡ stage_of answer.outcome.cause → IsPlain cause →
      IsTold runner.asked.request.tool cause answer → HasMetNow now runner cause →
      HasToGive now runner answer
  gives-plain cause answer is plain tells met =
      let shown = shown-now runner cause answer now.told plain tells met in
      record {
        says = told-says runner.asked cause answer plain tells;
        due = is-due answer is before.told now.told stands left shown;
      }

  -- and the runner may give it, once it has left what it must
  may-give : (cause : Cause) (answer : FinalAnswer) →
      IsTold runner.asked.request.tool cause answer → IsPlain cause →
      HasMetNow now runner cause → HasLeftNow now runner answer.outcome.cause →
      commit ≡ stage_of cause → MayGive now runner answer
  may-give cause answer told plain met has_left is = record {
    may_answer = by-runner.may_answer;
    gives = gives-plain cause answer
        (is ∙ sym (told-stage runner.asked.request.tool cause answer told)) plain
        told met;
    left = has_left;
  }

  -- so it stands in a state that answers with a plain cause
  pub answers-turn : (cause : Cause) (state : State) →
      AnswersWith runner.asked.request.tool cause state → IsPlain cause →
      HasMetNow now runner cause → HasLeftNow now runner cause →
      commit ≡ stage_of cause → StandsAs now runner state
  answers-turn cause (Answering answer) told plain met has_left is =
      may-give cause answer told plain met (told-left now runner cause answer told has_left) is
  answers-turn cause state told plain met has_left is = absurd told

  -- or in one that leaves with a plain cause
  pub leaves-turn : (keeper : Kept) (cause : Cause) (state : State) →
      LeavesWith runner.asked.request.tool keeper cause state → IsPlain cause →
      HasMetNow now runner cause → (IsOutside cause → ⊥) → commit ≡ stage_of cause →
      keeper.token ≡ runner.token →
      StandsIn now token (Keeps keeper KnowsAnything) → StandsAs now runner state
  leaves-turn keeper cause (Unlocking kept answer) shown plain met quiet is owned next =
      let tool = runner.asked.request.tool in
      let has = ap (λ (given : FinalAnswer). given.outcome.cause) shown.1
      ∙ given-cause tool cause in
      let at = is ∙ ap stage_of (sym has) in
      record {
        same = ap (λ (one : Kept). one.token) shown.0 ∙ owned;
        stands = subst (λ (one : CommitStage). At now runner one (Keeps kept KnowsAnything)) at
            (goes-on (Keeps kept KnowsAnything)
            (subst (λ (one : Kept). StandsIn now token (Keeps one KnowsAnything))
            (sym shown.0) next));
        clean = clean-else runner.token answer.outcome.cause
            (plain-undecided answer.outcome.cause (subst IsPlain (sym has) plain)) now.told;
        quiet = λ fault. quiet (subst IsOutside has fault);
        gives = gives-plain cause answer at plain (inl shown.1) met;
      }
  leaves-turn keeper cause (Answering answer) shown plain met quiet is owned next =
      let has = ap (λ (given : FinalAnswer). given.outcome.cause) shown in
      may-give cause answer (inr shown) plain met
      (λ goes_on. absurd (goes_on (subst IsStopped (sym has) tt))) is
  leaves-turn keeper cause state shown plain met quiet is owned next = absurd shown

  module _ (lawful : AlwaysStaysLawful before now)
      (never_falls : before.faults ≤ now.faults) (old state : State) (is : state_call old ≡ call)
      (meets : MeetsBy call made.answer Held state)
      (leads : (met : Cause) → IsToTell old met → IsToTell state met × MayFollow met call) where
    -- a turn to a state, by how it stands there and of which faults it tells
    pub turn-made : StandsAs now runner state →
        (TellsOutside state → HasRisen before.faults now.faults) → StagesTo call state →
        LooksLess old state → Turns before now runner old state
    turn-made stood risen staged less = record {
      turns = record {
        stands = stood;
        grew = grown;
        lawful = λ deeds ours. lawful deeds;
        narrows = made.narrows;
        never_falls = never_falls;
        risen = risen;
      };
      makes_one = subst (λ one. MakesOne before.told now.told runner.token one
          (FindsNoMemory state))
          (sym is) (makes-one before now runner commit Held stands token same call no_answer Shows
          made old state meets);
      asks = asks-once before now token call Shows made Held old state is meets;
      remembers = stays-told before now runner commit Held stands token same call no_answer Shows
          made old state meets leads;
      stages = subst (λ one. StagesTo one state) (sym is) staged;
      looks = less;
    }

    -- a turn to a state that tells of no fault
    pub turns : StandsAs now runner state → (TellsOutside state → ⊥) → StagesTo call state →
        LooksLess old state → Turns before now runner old state
    turns stood quiet_state =
        turn-made stood (λ fault. absurd (quiet_state fault))

    -- a turn to the answer of a plain cause
    pub stops : (cause : Cause) → AnswersWith runner.asked.request.tool cause state →
        IsPlain cause → HasMetNow now runner cause → HasLeftNow now runner cause →
        commit ≡ stage_of cause →
        (IsOutside cause → HasRisen before.faults now.faults) → StagesTo call state →
        Turns before now runner old state
    stops cause told plain met has_left is failed staged =
        turn-made (answers-turn cause state told plain met has_left is)
        (λ fault. failed (answers-fault runner.asked.request.tool cause state told fault)) staged
        (answers-less runner.asked.request.tool cause old state told)

    -- a turn to the answer of what the session met by a call that leaves no lock kept
    pub ends : (cause : Cause) → AnswersWith runner.asked.request.tool cause state →
        IsPlain cause →
        (((answer : Answer call) → made.answer ≡ Ok answer →
        IfSome now.told (λ past. Met runner.token call answer Held past.history)) →
        ((fault : FolderFault) → made.answer ≡ Err fault →
        HasMetNow now runner (cause_of_fault Before fault)) → HasMetNow now runner cause) →
        ((IsStopped cause → ⊥) → LeavesUnkept call made.answer Held) →
        commit ≡ stage_of cause → (IsOutside cause → HasRisen before.faults now.faults) →
        StagesTo call state → Turns before now runner old state
    ends cause told plain met unkept =
        stops cause told plain (met got (ended Before)) (unkept-left cause unkept)

  -- a turn to the answer of a call that came to a fault
  pub faults : AlwaysStaysLawful before now → before.faults ≤ now.faults →
      (old state : State) → state_call old ≡ call →
      ((met : Cause) → IsToTell old met → MayFollow met call) →
      (stage : CommitStage) (fault : FolderFault) → made.answer ≡ Err fault →
      AnswersWith runner.asked.request.tool (cause_of_fault stage fault) state →
      commit ≡ stage → (fault ≡ Failed → HasRisen before.faults now.faults) →
      Turns before now runner old state
  faults lawful never_falls old state called follow stage fault is told at risen =
      let tool = runner.asked.request.tool in
      stops lawful never_falls old state called
      (fault-ends tool stage fault state told call made.answer Held is)
      (λ met is_told. (fault-tells tool stage fault state told met, follow met is_told))
      (cause_of_fault stage fault) told (fault-plain stage fault) (ended stage fault is)
      (λ goes_on. absurd (goes_on (fault-stopped stage fault)))
      (at ∙ sym (fault-stage stage fault))
      (λ outside. risen (fault-failed stage fault outside))
      (stopped-stages tool stage fault state told call)

  -- a turn to the state of a step that was done, whose call shows nothing that a session meets
  pub leads-turns : {S : Type 0} (next : S) (staged : FolderFault → StageFault) (reached : S) →
      LeadsTo next staged made.answer (Ok reached) → IsQuiet call →
      AlwaysStaysLawful before now → before.faults ≤ now.faults →
      (old state : State) → state_call old ≡ call →
      ((met : Cause) → IsToTell old met → IsToTell state met × MayFollow met call) →
      StandsAs now runner state → (TellsOutside state → ⊥) → StagesTo call state →
      LooksLess old state → Turns before now runner old state
  leads-turns next staged reached shown shows_none lawful never_falls old state called =
      let done = leads-done next staged made.answer reached shown in
      turns lawful never_falls old state called
      (quiet-on call shows_none made.answer done.0 Held state done.1)

  -- a turn to the answer of the fault of a step at the session's stage
  pub leads-faults : {S : Type 0} (next : S) (fault : StageFault) →
      LeadsTo next (at_stage commit) made.answer (Err fault) →
      AlwaysStaysLawful before now → before.faults ≤ now.faults →
      (old state : State) → state_call old ≡ call →
      ((met : Cause) → IsToTell old met → MayFollow met call) →
      AnswersWith runner.asked.request.tool (cause_of_fault fault.stage fault.fault) state →
      (fault ≡ at_stage commit Failed → HasRisen before.faults now.faults) →
      Turns before now runner old state
  leads-faults next fault shown lawful never_falls old state called follow told risen =
      faults lawful never_falls old state called follow fault.stage fault.fault
      (leads-ended next commit made.answer fault shown) told
      (sym (leads-stage next commit made.answer fault shown))
      (λ failed. risen (leads-failed next commit made.answer fault shown failed))
