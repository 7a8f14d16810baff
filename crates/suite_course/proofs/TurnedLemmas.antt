-- Claim: what the top call promises of its session holds of each that belongs to a folder and has its
-- answer to give, or gave it (`answers-keep-promises`).
-- Way: what its own events show a lawful history shows of its place (PlaceLemmas), and where it was alone
-- of the folder as it stood (CompleteLemmas, LeavesLemmas).
use Rattle.std.proofs.Common.{◌⊎◌, inl, inr, refl, subst, true, ◌≡◌, Option, Some, None, IfSome, arith}
use Rattle.acct_outside.specs.Contract.{RunsIn}
use Rattle.acct_outside.specs.Others.{Admission}
use Rattle.acct_outside.specs.Tokens.{Token}
use Rattle.acct_outside.specs.History.{History, own_events}
use Rattle.acct_outside.specs.Moment.{Past, Moment}
use Rattle.suite_rules.specs.Deeds.{SuiteDeeds}
use Rattle.suite_rules.specs.Lawful.{Lawful}
use Rattle.suite_rules.specs.Standing.{standing}
use Rattle.suite_rules.proofs.Cut.{lawful-prefix}
use Rattle.suite_rules.proofs.Settles.{lawful-settles}
use Rattle.suite_answers.specs.declared.answer.Answer.{Answer}
use Rattle.suite_session.specs.declared.state.State.TheVariants.{Answering}
use Rattle.suite_session.specs.declared.session.Phase.{Phase}
use Rattle.suite_session.specs.declared.session.Phase.TheVariants.{Begun, Over, Unbegun}
use Rattle.account_model.specs.Request.{is_report}
use Rattle.suite_session.specs.Runner.{Runner}
use Rattle.suite_session.specs.Reports.{RunsFree}
use Rattle.suite_session.specs.Answers.{Says}
use Rattle.suite_session.specs.Writing.{WroteDue}
use Rattle.suite_session.specs.Belongs.{Belongs, CameTo}
use Rattle.suite_session.specs.Bound.{HasCalled, HasCalledFree, IsWithinBound, calls_of}
use Rattle.suite_session.specs.Counts.{CountsLower}
use Rattle.suite_session.specs.Deeds.{AreOfTools}
use Rattle.suite_session.specs.Due.{IsDue}
use Rattle.suite_session.specs.Looks.{LooksOnce}
use Rattle.suite_session.specs.Staging.{HasMovedAll}
use Rattle.suite_session.specs.Stands.{HasLeft, IsStopped}
use Rattle.suite_session.specs.Telling.{DropsNothing}
use Rattle.suite_session.proofs.LooksLemmas.{looked-once}
use Rattle.suite_session.proofs.MetLemmas.{told-as}
use Rattle.suite_session.proofs.StreamLemmas.{left-given}
use Rattle.suite_session.proofs.TextCalls.{stages-texts}
use Rattle.suite_course.specs.Turned.{AnswersKeepPromises, KeepsPromises, Promises}
use Rattle.suite_course.proofs.AloneStaging.{HasCome}
use Rattle.suite_course.proofs.CompleteLemmas.{answers-as}
use Rattle.suite_course.proofs.FreeLemmas.{reports-freely}
use Rattle.suite_course.proofs.LeavesLemmas.{leaves-alone}
use Rattle.suite_course.proofs.PlaceLemmas.{shows-at}
use Rattle.suite_course.proofs.PlanLemmas.{plans-exactly}

-- with no call but that of the answer left, the calls are within the bound
called-within : (token : Token) (answer : Answer) (history : History) →
    HasCalled token (Answering answer) history → IsWithinBound token history
called-within token answer history called = by-counts called.counts
  where
    by-counts : ⊥ ⊎ CountsLower token history called.lower → IsWithinBound token history
    by-counts (inl never) = absurd never
    by-counts (inr counts) = record {
      lower = called.lower;
      counts = counts;
      within = omega (arith, called.within);
      appended = omega (arith, called.appended);
      stage = stages-texts (calls_of (own_events token history)) called.leads.text
          called.leads.leave;
    }

-- so a report has changed no name by the end of its way
called-free : (token : Token) (answer : Answer) (history : History) →
    HasCalledFree token (Answering answer) history → RunsFree token history
called-free token answer history called = record {
  free = called.free;
  within = omega (arith, called.within);
}

module _ (deeds : SuiteDeeds) (ours : AreOfTools deeds) where
  module _ (runner : Runner) (answer : Answer) where
    -- of an answer that is due
    promises-of : (past : Past) → Lawful deeds past.first past.history →
        Says runner.asked answer answer.outcome.cause → IsDue runner answer past →
        ((IsStopped answer.outcome.cause → ⊥) → HasLeft runner.token answer.outcome.cause past) →
        DropsNothing runner.token answer.outcome.cause past.history →
        IsWithinBound runner.token past.history → WroteDue runner.token past.history →
        (is_report runner.asked.request ≡ true → RunsFree runner.token past.history) →
        LooksOnce runner.token past.history → HasCome runner.token past.history →
        ((IsStopped answer.outcome.cause → ⊥) →
        HasMovedAll (standing runner.token past.history)) →
        Promises deeds runner answer past
    promises-of past lawful says due left drops within wrote free looks come moved =
        let shows = shows-at deeds past.first past.history lawful runner.asked runner answer refl
        due.asked free due.commits due.shown in
        record {
          says = says;
          settles = λ newer older parts table. lawful-settles.is_fold deeds past.first older
              (lawful-prefix deeds past.first newer older
              (subst (Lawful deeds past.first) parts lawful)) table;
          shows = shows;
          drops_nothing = drops;
          looks_once = looks;
          wrote = wrote;
          within = within;
          free_reports = λ is.
              reports-freely runner answer past.history (free is) says due.shown drops;
          plan_exact = plans-exactly deeds runner.asked past.first past.history runner.token answer
              free shows.shown;
          left = left;
          moved = moved;
          leaves = λ old alone. leaves-alone deeds runner.asked past.first past runner.token
              answer lawful ours old alone answer.outcome.cause due.commits shows.shown left wrote
              free drops come moved;
          complete = λ old alone opened inside. answers-as deeds runner.asked past.first old
              past.history runner.token lawful alone opened answer answer.outcome.cause refl
              due.commits says inside shows.shown;
        }

    -- of one that a session has to give, where the folder tells its history
    promises-told : Says runner.asked answer answer.outcome.cause → (admits : Admission)
        (told : Option Past) → IfSome told (RunsIn admits runner.token) →
        IfSome told (IsDue runner answer) →
        ((IsStopped answer.outcome.cause → ⊥) →
        IfSome told (HasLeft runner.token answer.outcome.cause)) →
        IfSome told (CameTo runner (Answering answer)) →
        IfSome told (λ past. Lawful deeds past.first past.history →
        Promises deeds runner answer past)
    promises-told says admits None may due left came = tt
    promises-told says admits (Some past) may due left came =
        λ lawful. promises-of past lawful says due left came.remembers
        (called-within runner.token answer past.history came.called) came.wrote
        (λ is. called-free runner.token answer past.history (came.free is))
        (looked-once runner.token (Answering answer) past.history came.looked) (inl may.runs)
        came.staged

  -- of none that has no answer
  nothing-promised : (told : Option Past) →
      IfSome told (λ past. Lawful deeds past.first past.history →
      Unit {0})
  nothing-promised None = tt
  nothing-promised (Some past) = λ lawful. tt

  -- of one whose begin gave no token
  untold-promised : {P : Type 0} (told : Option Past) → P →
      IfSome told (λ past. Lawful deeds past.first past.history → P)
  untold-promised None is = tt
  untold-promised (Some past) is = λ lawful. is

  -- of each session
  keeps-promises : (now : Moment) (session : Phase) → Belongs now session →
      IfSome now.told (λ past. Lawful deeds past.first past.history →
      KeepsPromises deeds past session)
  keeps-promises now (Begun runner (Answering answer)) belongs =
      let had = left-given now runner answer belongs in
      told-as now.told (λ past promises lawful.
      record {
        given = had.given;
        put = had.put;
        left = had.left;
        texted = had.texted;
        promises = promises lawful;
      })
      (promises-told runner had.given had.may.gives.says now.admits now.told had.may.may_answer
      had.may.gives.due had.may.left had.came)
  keeps-promises now (Over runner answer) belongs = told-as now.told (λ past ended lawful. record {
    given = belongs.given;
    put = belongs.put;
    left = belongs.left;
    texted = belongs.texted;
    promises = promises-of runner belongs.given past lawful belongs.says ended.due ended.left
        ended.drops_nothing ended.within ended.wrote ended.free ended.looked
        (inr (_, ended.before, ended.last)) ended.moved;
  }) belongs.ended
  keeps-promises now (Unbegun tool answer) belongs = untold-promised now.told belongs
  keeps-promises now session belongs = nothing-promised now.told

-- the claim
pub answers-keep-promises : {F : Type 0} (moment : F → Moment) → AnswersKeepPromises moment
answers-keep-promises moment deeds ours folder session belongs =
    keeps-promises deeds ours (moment folder) session belongs
