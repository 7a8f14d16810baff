-- Claim: a session that finished ran as the top call says (`finished-ran`).
-- Way: its turns keep a history lawful, so it settles to the fold; its last event is the answer, and
-- PlaceLemmas has what the history shows of that; or its begin gave no token, and told that.
use Rattle.std.proofs.Common.{◌≡◌, refl, sym, ap, subst, ◌∙◌, ◌⊎◌, ◌++◌, ◌∷◌, [], ◌≤◌, ◌+◌, ℕ, true, inl, inr, Option, Some, None, IfSome, Result, Ok, Err}
use Rattle.acct_outside.specs.declared.CommitStage.TheVariants.{Before}
use Rattle.acct_outside.specs.declared.FolderFault.TheVariants.{Memory as NoFolderMemory}
use Rattle.acct_outside.specs.declared.streams.SinkFault.{SinkFault}
use Rattle.acct_outside.specs.declared.streams.SinkFault.TheVariants.{Failed, Memory as NoMemory}
use Rattle.acct_outside.specs.Tokens.{Token}
use Rattle.acct_outside.specs.Faults.{HasRisen}
use Rattle.acct_outside.specs.Folder.{Folder}
use Rattle.acct_outside.specs.Calls.{Command, answers, done}
use Rattle.acct_outside.specs.History.{Event, History, own_events}
use Rattle.acct_outside.specs.Others.{Admission, none_came}
use Rattle.acct_outside.specs.Contract.{TellsBegin, WhereTold}
use Rattle.suite_rules.specs.Deeds.{SuiteDeeds}
use Rattle.suite_rules.specs.Lawful.{Lawful}
use Rattle.suite_rules.specs.Steps.{LawfulOthers}
use Rattle.suite_rules.proofs.Cut.{lawful-prefix}
use Rattle.suite_rules.proofs.Settles.{lawful-settles}
use Rattle.suite_answers.specs.declared.cause.Cause.{Cause}
use Rattle.suite_answers.specs.declared.cause.Cause.TheVariants.{DiskFault}
use Rattle.suite_answers.specs.declared.cause.Outcome.{Outcome}
use Rattle.suite_answers.specs.declared.answer.Answer.{Answer}
use Rattle.suite_answers.specs.Reasons.{stage_of}
use Rattle.account_model.specs.Request.{is_report}
use Rattle.suite_session.specs.Runner.{Question, Runner}
use Rattle.suite_session.specs.Reports.{RunsFree}
use Rattle.acct_outside.specs.Moment.{Past, Moment, Narrows}
use Rattle.suite_rules.proofs.Parts.{StaysLawfulWhere}
use Rattle.suite_session.specs.Deeds.{AreOfTools}
use Rattle.suite_session.specs.Turning.{HasAnswered, IsNew, IsUnbegun}
use Rattle.suite_session.specs.Answers.{Says, after_streams, memory_answer}
use Rattle.suite_session.specs.Grows.{Grew, Grows}
use Rattle.suite_session.proofs.Parts.{StaysOursWhere}
use Rattle.suite_session.specs.Stands.{Extends, IsDiskFault, IsOutside, TurnsTo}
use Rattle.suite_session.proofs.GrowsLemmas.{grew-extends, grew-nothing}
use Rattle.suite_course.specs.Streams.{Streams, Serves}
use Rattle.suite_course.specs.Asked.{AsksThere}
use Rattle.suite_course.specs.Course.{AnsweredAs, Finished}
use Rattle.suite_course.specs.Shows.{IsAlwaysSettled, Shows}
use Rattle.suite_course.specs.Top.{Answered, ExtendsLawfully, HasRun, IfLawful, Ran, RunsOrNot}
use Rattle.suite_course.proofs.PlaceLemmas.{shows-at}
use Rattle.suite_course.proofs.PlanLemmas.{plans-exactly}
use Rattle.suite_course.proofs.CompleteLemmas.{ran-complete}
use Rattle.suite_course.proofs.FreeLemmas.{reports-freely}
use Rattle.suite_course.proofs.LeavesLemmas.{leaves-alone}
use Rattle.suite_course.proofs.CourseLemmas.{turns-as, turns-none, turns-then, unbegun-from}

-- a stream that failed leaves the stage
stage-left : (put : Result (Unit {0}) SinkFault) (given : Answer) →
    stage_of (after_streams put given).outcome.cause ≡ stage_of given.outcome.cause
stage-left (Ok unit) given = refl
stage-left (Err Failed) given = refl
stage-left (Err NoMemory) given = refl

-- of what lies outside a session its answer tells of the folder alone
disk-outside : (cause : Cause) → IsDiskFault cause → IsOutside cause
disk-outside (DiskFault stage) fault = tt
disk-outside cause fault = absurd fault

module _ (asked : Question) (entry now : Moment) where
  -- what follows of a lawful history follows where all is lawful
  where-lawful : (P : SuiteDeeds → Folder → History → History → Type 0) →
      ((deeds : SuiteDeeds) (first : Folder) (old new : History) → Lawful deeds first new →
      (newer : History) → new ≡ newer ++ old → P deeds first old new) →
      (was told : Option Past) → Extends was told → StaysOursWhere entry.admits was told →
      WhereTold was told (λ first old new. IfLawful entry.admits first old
      (λ deeds. P deeds first old new))
  where-lawful P follows None None extends stays = tt
  where-lawful P follows (Some was) (Some past) extends stays = (
    extends.0,
    λ deeds ours others lawful. follows deeds was.first was.history past.history
        ((stays deeds ours).1 others lawful) extends.1.0 extends.1.1,
  )
  where-lawful P follows was told extends stays = absurd extends

  -- a lawful history settles after each part of it
  settles : (deeds : SuiteDeeds) (first : Folder) (new : History) → Lawful deeds first new →
      IsAlwaysSettled deeds first new
  settles deeds first new lawful newer older parts table = lawful-settles.is_fold deeds first older
      (lawful-prefix deeds first newer older (subst (Lawful deeds first) parts lawful)) table

  module _ (outcome : Outcome) (given : Answer) (put : Result (Unit {0}) SinkFault)
      (ends : outcome ≡ (after_streams put given).outcome)
      (says : Says asked given given.outcome.cause) where
    abbrev last_status : ℕ
    last_status = (after_streams put given).outcome.status

    -- the last event is the outcome's answer
    answered-as : (runner : Runner) (past : Past) → runner.asked ≡ asked →
        HasAnswered runner given last_status past → Answered asked outcome runner.token past.history
    answered-as runner past same answered = record {
      older = answered.older;
      last = answered.last ∙ ap (λ (one : Outcome). let event : Event = record {
        token = runner.token;
        call = answers one.status;
        result = done tt;
      } in event ∷ answered.older) (sym ends);
      began = answered.ended.due.asked ∙ ap (λ (one : Question). Some one.command) same;
      commits = answered.ended.due.commits ∙ sym (stage-left put given)
          ∙ ap (λ (one : Outcome). stage_of one.cause) (sym ends);
    }

    -- a report has changed no name
    free-of : (runner : Runner) (past : Past) → runner.asked ≡ asked →
        HasAnswered runner given last_status past → is_report asked.request ≡ true →
        RunsFree runner.token past.history
    free-of runner past same answered is = answered.ended.free
        (subst (λ (one : Question). is_report one.request ≡ true) (sym same) is)

    -- what a lawful history shows of the session that answered
    answered-shows : (runner : Runner) (past : Past) → runner.asked ≡ asked →
        HasAnswered runner given last_status past → (deeds : SuiteDeeds) (first : Folder) →
        Lawful deeds first past.history →
        Shows deeds asked first past.history runner.token given
    answered-shows runner past same answered deeds first lawful =
        shows-at deeds first past.history lawful asked runner given same
        (answered.ended.due.asked ∙ ap (λ (one : Question). Some one.command) same)
        (free-of runner past same answered) answered.ended.due.commits answered.ended.due.shown

    -- the session that answered has run
    has-run : (runner : Runner) (was past : Past) (made : ℕ) → runner.asked ≡ asked →
        own_events runner.token was.history ≡ [] → HasAnswered runner given last_status past →
        Grows entry.admits runner.token was.history made past.history →
        ((deeds : SuiteDeeds) → AreOfTools deeds → LawfulOthers deeds entry.admits was.first →
        Lawful deeds was.first was.history → Lawful deeds was.first past.history) →
        HasRun asked entry.admits given outcome was.first was.history past.history runner.token
    has-run runner was past made same fresh answered grows stays = record {
      answered = answered-as runner past same answered;
      fresh = fresh;
      bounded = record { made = made; grows = grows; within = answered.ended.within };
      shows = λ deeds ours others lawful. answered-shows runner past same answered deeds was.first
          (stays deeds ours others lawful);
      drops_nothing = answered.ended.drops_nothing;
      looks_once = answered.ended.looked;
      wrote = answered.ended.wrote;
      free_reports = λ is. reports-freely runner given past.history
          (free-of runner past same answered is)
          (subst (λ (one : Question). Says one given given.outcome.cause) (sym same) says)
          answered.ended.due.shown answered.ended.drops_nothing;
      plan_exact = λ deeds ours others lawful. plans-exactly deeds asked was.first past.history
          runner.token given (free-of runner past same answered)
          (answered-shows runner past same answered deeds was.first
          (stays deeds ours others lawful)).shown;
      left = λ quiet. let left = answered.ended.left quiet in
          record { freed = left.freed; clean = left.clean };
      moved = answered.ended.moved;
      leaves = λ deeds ours others lawful earlier alone.
          let lawful_now = stays deeds ours others lawful in
          leaves-alone deeds asked was.first past runner.token given lawful_now ours earlier alone
          given.outcome.cause answered.ended.due.commits
          (answered-shows runner past same answered deeds was.first lawful_now).shown
          answered.ended.left answered.ended.wrote (free-of runner past same answered)
          answered.ended.drops_nothing (inr (_, answered.ended.before, answered.ended.last))
          answered.ended.moved;
    }

    -- it has run, or its begin gave no token
    runs-or-not : (by : Token) (made : ℕ) (was told : Option Past) → was ≡ entry.told →
        told ≡ now.told →
        AnsweredAs asked entry now by given last_status ⊎ IsUnbegun asked entry now given →
        Grew entry.admits by made was told → StaysOursWhere entry.admits was told →
        WhereTold was told (RunsOrNot asked entry.admits given outcome)
    runs-or-not by made None None was_is told_is stands grew stays = tt
    runs-or-not by made (Some was) (Some past) was_is told_is (inl gave) grew stays = (
      grew.0,
      inl (
        gave.runner.token,
        has-run gave.runner was past made gave.same
            (subst (λ (one : Option Past). IsNew one gave.runner.token) (sym was_is) gave.fresh)
            (subst (λ (one : Option Past). IfSome one (HasAnswered gave.runner given last_status))
            (sym told_is) gave.answered)
            (subst (λ (token : Token). Grows entry.admits token was.history made past.history)
            (sym gave.same_token) grew.1)
            (λ deeds ours. (stays deeds ours).1),
      ),
    )
    runs-or-not by made (Some was) (Some past) was_is told_is (inr unbegun) grew stays =
        let begin = subst (λ (one : Option Past). WhereTold one (Some past)
        (TellsBegin entry.admits asked.command (Err unbegun.fault))) (sym was_is)
        (subst (λ (one : Option Past). WhereTold entry.told one
        (TellsBegin entry.admits asked.command (Err unbegun.fault))) (sym told_is)
        unbegun.begin) in (
          grew.0,
          inr (record { fault = unbegun.fault; begin = begin.1; tells = unbegun.tells }),
        )
    runs-or-not by made was told was_is told_is begun grew stays = absurd grew

-- the claim
pub finished-ran : (asked : Question) (entry now : Moment) (was holds : Streams)
    (outcome : Outcome) → Finished asked entry now was holds outcome →
    AsksThere asked entry.journal now.journal → Ran asked entry now was holds outcome
finished-ran asked entry now was holds outcome finished asks =
    let turns = finished.turns in
    let extends = grew-extends entry.admits finished.token finished.made entry.told now.told
    turns.grew in
    let lawful = where-lawful asked entry now ExtendsLawfully
    (λ deeds first old new lawful newer parts.
    record { newer = newer; parts = parts; lawful = lawful })
    entry.told now.told extends turns.lawful in
    let session = runs-or-not asked entry now outcome finished.given finished.put finished.ends
    finished.says finished.token finished.made entry.told now.told refl refl turns.stands turns.grew
    turns.lawful in
    let failed : IsDiskFault finished.given.outcome.cause → HasRisen entry.faults now.faults =
    λ fault. turns.risen (disk-outside finished.given.outcome.cause fault) in
    record {
      narrows = turns.narrows;
      never_falls = turns.never_falls;
      given = finished.given;
      session = session;
      asks = asks;
      lawful = lawful;
      settles = where-lawful asked entry now
          (λ deeds first old new. IsAlwaysSettled deeds first new)
          (λ deeds first old new lawful newer parts.
          settles asked entry now deeds first new lawful)
          entry.told now.told extends turns.lawful;
      says = finished.says;
      failed = failed;
      ends = record { put = finished.put; served = finished.served; left = finished.ends };
      complete = ran-complete asked entry now was holds outcome finished.given finished.says
          failed finished.put finished.served finished.ends lawful session;
    }

-- ---- A command that finished, from its entry

-- what told and admitted no more leads to what stands there
pub stays-turns : (entry now : Moment) (token : Token) {S T : Type 0} → now.told ≡ entry.told →
    Narrows entry.admits now.admits → entry.faults ≤ now.faults → S → (T → ⊥) →
    TurnsTo entry now token 0 S T
stays-turns entry now token told narrows never_falls stands none = record {
  stands = stands;
  grew = subst (λ (one : Option Past). Grew entry.admits token 0 entry.told one) (sym told)
      (grew-nothing entry.admits token entry.told);
  lawful = λ deeds ours.
      subst (λ (one : Option Past). StaysLawfulWhere deeds entry.admits entry.told one)
      (sym told) (still-lawful deeds entry.admits entry.told);
  narrows = narrows;
  never_falls = never_falls;
  risen = λ fault. absurd (none fault);
}
  where
    still-lawful : (deeds : SuiteDeeds) (admits : Admission) (was : Option Past) →
        StaysLawfulWhere deeds admits was was
    still-lawful deeds admits None = tt
    still-lawful deeds admits (Some was) = (refl, λ others lawful. lawful)

-- a token that is new since a later moment, at which no more was told, is so since the entry
answered-from : (asked : Question) (entry between now : Moment) (by : Token) (given : Answer)
    (status : ℕ) → between.told ≡ entry.told → Narrows entry.admits between.admits →
    AnsweredAs asked between now by given status ⊎ IsUnbegun asked between now given →
    AnsweredAs asked entry now by given status ⊎ IsUnbegun asked entry now given
answered-from asked entry between now by given status told narrows (inl gave) = inl (record {
  runner = gave.runner;
  same = gave.same;
  same_token = gave.same_token;
  fresh = subst (λ (one : Option Past). IsNew one gave.runner.token) told gave.fresh;
  answered = gave.answered;
})
answered-from asked entry between now by given status told narrows (inr unbegun) =
    inr (unbegun-from asked entry between now given told narrows unbegun)

-- one that finished from a later moment finished from its entry
pub finished-from : (asked : Question) (entry between now : Moment) (was holds : Streams)
    (outcome : Outcome) (token : Token) {S T : Type 0} → between.told ≡ entry.told →
    TurnsTo entry between token 0 S T → Finished asked between now was holds outcome →
    Finished asked entry now was holds outcome
finished-from asked entry between now was holds outcome token told first finished =
    let none = turns-none entry between token finished.token first in
    let whole = turns-then entry between now finished.token 0 finished.made none finished.turns in
    record {
      given = finished.given;
      says = finished.says;
      put = finished.put;
      served = finished.served;
      ends = finished.ends;
      token = finished.token;
      made = 0 + finished.made;
      turns = turns-as entry now finished.token (0 + finished.made)
          (answered-from asked entry between now finished.token finished.given
          (after_streams finished.put finished.given).outcome.status told first.narrows)
          whole.risen whole;
    }

-- as much is told as if there had been no memory for the begin
untold-begin : (admits : Admission) (command : Command) (told : Option Past) →
    WhereTold told told (TellsBegin admits command (Err NoFolderMemory))
untold-begin admits command None = tt
untold-begin admits command (Some past) = (refl, none_came)

-- one that found no memory before its begin
pub unbegun-finished : (asked : Question) (entry now : Moment) (was holds : Streams)
    (outcome : Outcome) (put : Result (Unit {0}) SinkFault) → now.told ≡ entry.told →
    Narrows entry.admits now.admits → entry.faults ≤ now.faults →
    Serves (Some asked.request.tool) (memory_answer Before) was holds put →
    outcome ≡ (after_streams put (memory_answer Before)).outcome →
    Finished asked entry now was holds outcome
unbegun-finished asked entry now was holds outcome put told narrows never_falls
    served ends = record {
      given = memory_answer Before;
      says = refl;
      put = put;
      served = served;
      ends = ends;
      token = [];
      made = 0;
      turns = stays-turns entry now [] told narrows never_falls
          (inr (record {
            fault = NoFolderMemory;
            begin = subst (λ (one : Option Past).
                WhereTold entry.told one
                (TellsBegin entry.admits asked.command (Err NoFolderMemory)))
                (sym told) (untold-begin entry.admits asked.command entry.told);
            tells = inl refl;
            says = refl;
          }))
          (λ outside. outside);
    }
