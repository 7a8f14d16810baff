-- Claims: the listing that confirms what a report has shown leads to an answer that is due
-- (`reported-stands`), which tells no fault (`reported-quiet`) and is the last call (`reported-calls`).
-- Way: a problem of what was shown is the first problem of all files that are as was shown, and without one
-- those are the files that it has kept (proofs/ReportProblems). So its answer is that on all of them
-- (`problem-shown`, `stays-shown`), and a report has no lock to leave (`reported-gives`).
use Rattle.std.proofs.Common.{◌≡◌, refl, sym, ap, subst, ◌∙◌, ℕ, true, false, List, inl, inr, Option, Some, None, IfSome, Result, Ok, Err, true≢false, arith}
use Rattle.acct_text.specs.Bytes.{Bytes}
use Rattle.acct_text.specs.declared.Tab.{Tab}
use Rattle.acct_text.specs.declared.files.Files.{Files}
use Rattle.acct_text.specs.SeenTables.{seen_through}
use Rattle.acct_outside.specs.declared.CommitStage.TheVariants.{Before}
use Rattle.acct_outside.specs.declared.FolderFault.{FolderFault}
use Rattle.acct_outside.specs.declared.Name.TheVariants.{Intent}
use Rattle.acct_outside.specs.Calls.{lists}
use Rattle.acct_outside.specs.Contract.{MayAnswer}
use Rattle.acct_outside.specs.Folder.{greatest}
use Rattle.acct_outside.specs.History.{History}
use Rattle.acct_outside.specs.Moment.{Moment}
use Rattle.account_model.specs.declared.tool.Tool.{Tool}
use Rattle.account_model.specs.Request.{is_report}
use Rattle.account_model.specs.SeenFiles.{read_tables, seen_files}
use Rattle.account_model.specs.Answer.{AnswerCause, FileProblem, TableTooLarge, SettingsTooLarge, Unusable, Changed, files_problem}
use Rattle.suite_rules.specs.OwnLock.{kept_number}
use Rattle.suite_rules.specs.Standing.{Standing}
use Rattle.suite_rules.specs.Steps.{MakesCall, StandsIn}
use Rattle.suite_rules.proofs.StepLemmas.{stands-weaker}
use Rattle.lock_steps.specs.declared.gathered.IntentFound.{IntentFound}
use Rattle.lock_steps.specs.declared.gathered.IntentFound.TheVariants.{Absent, Listed, TooLarge, Damaged}
use Rattle.lock_steps.specs.Gathered.{AreSmall, is_readable}
use Rattle.lock_steps.specs.Watching.{ConfirmsFound, Gatherer, HasGathered, HasReported, Report}
use Rattle.suite_answers.specs.declared.answer.Answer.{Answer as FinalAnswer}
use Rattle.suite_answers.specs.declared.cause.Which.TheVariants.{File}
use Rattle.suite_answers.specs.declared.cause.Cause.{Cause}
use Rattle.suite_answers.specs.declared.cause.Cause.TheVariants.{IntentDamaged, Memory, TooLarge as IsTooLarge}
use Rattle.suite_answers.specs.Reasons.{stage_of}
use Rattle.suite_session.specs.declared.state.State.{State}
use Rattle.suite_session.specs.declared.state.State.TheVariants.{Answering, Gathering}
use Rattle.suite_session.specs.Runner.{Runner}
use Rattle.suite_session.specs.Answers.{answer_on, cause_of_answer, cause_of_problem, given_for, IsAnswerOn, IsAnswerSeen, memory_answer, Says}
use Rattle.suite_session.specs.Causes.{Met}
use Rattle.suite_session.specs.Counts.{LeavesFewer}
use Rattle.suite_session.specs.Deeds.{files_of, is_change}
use Rattle.suite_session.specs.Due.{IsReported, IsShown}
use Rattle.suite_session.specs.Moment.{At, Runs}
use Rattle.suite_session.specs.Reporting.{AnswersFiles, AnswersIntent, ReportsTo, first_problem}
use Rattle.suite_session.specs.Reports.{AnswersShown}
use Rattle.suite_session.specs.Stands.{AnswersWith, IsOutside, MayGive, StandsAs, TellsOutside}
use Rattle.suite_session.proofs.AnswerLemmas.{answer-quiet, answer-says, cause-stage, problem-told}
use Rattle.suite_session.proofs.CallsLemmas.{answers-fewer, other-fewer}
use Rattle.suite_session.proofs.CauseLemmas.{IsPlain, answers-fault, given-cause}
use Rattle.suite_session.proofs.LeavingLemmas.{KeepsNone, none-left, report-unkept}
use Rattle.suite_session.proofs.MetLemmas.{told-as}
use Rattle.suite_session.proofs.ReportMeeting.{damaged-shown, large-shown}
use Rattle.suite_session.proofs.ReportProblems.{content_of, intent-shown, none-usable, problem-first, shown-files, shown-settings}
use Rattle.suite_session.proofs.TurnLemmas.{HasMetNow, answers-turn, goes-on, got, memory-met, unkept-left}

-- ---- The answer on what was shown

-- what was shown shows the cause of a tool's answer
reported-shown : (runner : Runner) (answer : FinalAnswer) (history : History)
    (cause : AnswerCause) → is_change cause ≡ false → IsReported runner answer history →
    IsShown runner answer history (cause_of_answer cause)
reported-shown runner answer history (Unusable (TableTooLarge table)) stays reported =
    inl (inr reported)
reported-shown runner answer history (Unusable SettingsTooLarge) stays reported =
    inl (inr reported)
reported-shown runner answer history (Changed files) stays reported =
    absurd (true≢false stays)
reported-shown runner answer history cause stays reported = inr reported

-- the answer to a problem of the files comes before the commit
problem-stage : (problem : FileProblem) → stage_of (cause_of_problem problem) ≡ Before
problem-stage (TableTooLarge table) = refl
problem-stage problem = refl

-- it says what tells its cause
problem-says : (runner : Runner) (problem : FileProblem) (answer : FinalAnswer) →
    answer ≡ given_for runner.asked.request.tool (cause_of_problem problem) →
    Says runner.asked answer (cause_of_problem problem)
problem-says runner (TableTooLarge table) answer is = is
problem-says runner problem answer is = is

module _ (runner : Runner) (report : Report) (is_one : is_report runner.asked.request ≡ true)
    (reads : report.wanted ≡ read_tables runner.asked.request)
    (small : AreSmall report.gathered.files report.gathered.defs)
    (readable : is_readable report.gathered.intent ≡ true) (stood : Standing)
    (reported : HasReported report stood) where
  -- the first problem of what was shown is the answer on all files that are as was shown
  problem-shown : (problem : FileProblem) → first_problem report.gathered ≡ Some problem →
      (answer : FinalAnswer) →
      answer ≡ given_for runner.asked.request.tool (cause_of_problem problem) →
      AnswersShown runner answer stood
  problem-shown problem is answer given = record {
    report = is_one;
    uncalled = reported.uncalled;
    shown = reported.shown;
    shows = reported.shows;
    intent = content_of reported.is_found.found;
    shows_intent =
        intent-shown report.wanted reported.shown report.gathered reported.is_found readable small;
    is_answer = λ contents defs agree. let files = files_of contents in
        subst (λ (one : FinalAnswer). IsAnswerSeen runner.asked files defs one) (sym given)
        (problem-told runner.asked (seen_files runner.asked.request files) defs problem
        (subst (λ (tables : List Tab).
        files_problem (seen_through tables files) defs ≡ Some problem) reads
        (problem-first report.wanted reported.shown report.gathered reported.is_found readable small
        contents defs agree problem is)));
  }

  -- without one the answer on the files that it has kept is
  stays-shown : first_problem report.gathered ≡ None → (answer : FinalAnswer) →
      IsAnswerOn runner.asked report.gathered.files report.gathered.defs answer →
      AnswersShown runner answer stood
  stays-shown none answer is_answer = let usable = none-usable report.gathered none in record {
    report = is_one;
    uncalled = reported.uncalled;
    shown = reported.shown;
    shows = reported.shows;
    intent = content_of reported.is_found.found;
    shows_intent =
        intent-shown report.wanted reported.shown report.gathered reported.is_found readable small;
    is_answer = λ contents defs agree. let files = files_of contents in
        subst (λ (one : Option Bytes). IsAnswerSeen runner.asked files one answer)
        (sym (shown-settings report.wanted reported.shown report.gathered reported.is_found readable
        small contents defs agree usable))
        (subst (λ (one : Files). IsAnswerOn runner.asked one report.gathered.defs answer)
        (sym (shown-files report.wanted reported.shown report.gathered reported.is_found readable
        small contents defs agree usable)
        ∙ ap (λ (tables : List Tab). seen_through tables files) reads) is_answer);
  }

-- ---- The turn

module _ (before now : Moment) (runner : Runner) (reading : Gatherer)
    (stands : At before runner Before (HasGathered reading))
    (same : reading.token ≡ runner.token) (is_one : is_report runner.asked.request ≡ true)
    (reads : reading.wanted ≡ read_tables runner.asked.request) (report : Report) (small : AreSmall report.gathered.files report.gathered.defs)
    (made : MakesCall before now reading.token lists
    (λ answer. ConfirmsFound reading answer (Ok report)))
    (next : StandsIn now reading.token (HasReported report)) where
  -- it stands with what it has shown
  stood : At now runner Before (HasReported report)
  stood = goes-on before now runner Before (HasGathered reading) stands reading.token same lists tt
      _ (λ result was. refl) made (HasReported report) next

  -- and may give an answer on that
  reported-gives : (answer : FinalAnswer) (cause : AnswerCause) →
      answer.outcome.cause ≡ cause_of_answer cause → is_change cause ≡ false →
      Says runner.asked answer (cause_of_answer cause) →
      ((one : Standing) → HasReported report one → AnswersShown runner answer one) →
      MayGive now runner answer
  reported-gives answer cause is stays says shows = record {
    may_answer = subst (MayAnswer now) same made.may_answer;
    gives = record {
      says = subst (Says runner.asked answer) (sym is) says;
      due = told-as now.told (λ past stand. record {
        asked = stand.holds.asked;
        commits = stand.holds.commits ∙ sym (ap stage_of is ∙ cause-stage cause stays);
        shown = subst (IsShown runner answer past.history) (sym is)
            (reported-shown runner answer past.history cause stays
            (shows _ stand.holds.holds));
      }) stood;
    };
    left = λ goes_on. none-left runner.token answer.outcome.cause now.admits now.told
        (stands-weaker now.admits runner.token (Runs runner Before (HasReported report)) KeepsNone
        (λ one runs. ap kept_number runs.holds.uncalled) now.told stood);
  }

  -- it has shown the tables that it wanted
  reads_shown : report.wanted ≡ read_tables runner.asked.request
  reads_shown = wanted-kept made.answer made.shown ∙ reads
    where
      wanted-kept : (answer : Result (List ℕ) FolderFault) →
          ConfirmsFound reading answer (Ok report) → report.wanted ≡ reading.wanted
      wanted-kept (Ok numbers) shown = ap (λ (one : Report). one.wanted) shown.1
      wanted-kept (Err fault) shown = absurd shown

  -- or say that there was no memory
  memory-stands : (state : State) → AnswersWith runner.asked.request.tool (Memory Before) state →
      StandsAs now runner state
  memory-stands state told = answers-turn before now runner Before (HasGathered reading) stands
      reading.token same lists tt _ (λ result was. refl) made (Memory Before) state told tt
      (memory-met now runner Before) (λ goes_on. absurd (goes_on tt)) refl

  -- on the files
  files-stands : is_readable report.gathered.intent ≡ true → (problem : Option FileProblem) →
      first_problem report.gathered ≡ problem → (state : State) →
      AnswersFiles runner report.gathered problem state → StandsAs now runner state
  files-stands readable (Some problem) is (Answering answer) (inl given) =
      let tool = runner.asked.request.tool in
      reported-gives answer (Unusable problem)
      (ap (λ (one : FinalAnswer). one.outcome.cause) given
      ∙ given-cause tool (cause_of_problem problem)) refl
      (problem-says runner problem answer given)
      (λ one reported. problem-shown runner report is_one reads_shown small readable one reported
      problem is answer given)
  files-stands readable (Some problem) is (Answering answer) (inr none) =
      memory-stands (Answering answer) (inr (none ∙ ap memory_answer (problem-stage problem)))
  files-stands readable None is (Answering answer) (inl (is_answer, stays)) =
      reported-gives answer
      (answer_on runner.asked report.gathered.files report.gathered.defs).cause
      is_answer.has_cause stays
      (subst (Says runner.asked answer) is_answer.has_cause
      (answer-says runner.asked report.gathered.files report.gathered.defs answer is_answer))
      (λ one reported. stays-shown runner report is_one reads_shown small readable one reported is
      answer is_answer)
  files-stands readable None is (Answering answer) (inr none) =
      memory-stands (Answering answer) (inr none)
  files-stands readable (Some problem) is state told = absurd told
  files-stands readable None is state told = absurd told

  -- where the listing confirmed them
  confirmed : (answer : Result (List ℕ) FolderFault) → ConfirmsFound reading answer (Ok report) →
      (numbers : List ℕ) × (answer ≡ Ok numbers) × (greatest numbers ≡ reading.number)
      × (report.gathered.intent ≡ reading.gathered.intent)
  confirmed (Ok numbers) shown =
      (numbers, refl, shown.0, ap (λ (one : Report). one.gathered.intent) shown.1)
  confirmed (Err fault) shown = absurd shown

  -- on an intent that doesn't read
  intent-stands : (cause : Cause) (state : State) →
      AnswersWith runner.asked.request.tool cause state → IsPlain cause →
      HasMetNow now runner cause → Before ≡ stage_of cause →
      StandsAs now runner state
  intent-stands cause state told plain met is =
      let shown = confirmed made.answer made.shown in
      answers-turn before now runner Before (HasGathered reading) stands reading.token same lists tt
      _ (λ result was. refl) made cause state told plain met
      (unkept-left before now runner Before (HasGathered reading) stands reading.token same lists tt
      _ (λ result was. refl) made cause
      (λ goes_on. report-unkept reading made.answer shown.0 shown.1)) is

  -- what was listed, with how it stood
  listed : (numbers : List ℕ) → made.answer ≡ Ok numbers →
      IfSome now.told (λ past. Met runner.token lists numbers (HasGathered reading) past.history)
  listed = got before now runner Before (HasGathered reading) stands reading.token same lists tt _
      (λ result was. refl) made

  by-intent : (intent : IntentFound) → report.gathered.intent ≡ intent → (state : State) →
      AnswersIntent runner report.gathered intent state → StandsAs now runner state
  by-intent (Damaged part) is state told =
      let shown = confirmed made.answer made.shown in
      intent-stands (IntentDamaged part) state told tt
      (told-as now.told (λ past met. damaged-shown runner reading shown.0 past.history shown.2 met
      part (sym shown.3 ∙ is)) (listed shown.0 shown.1)) refl
  by-intent TooLarge is state told =
      let shown = confirmed made.answer made.shown in
      intent-stands (IsTooLarge (File Intent)) state told tt
      (told-as now.told (λ past met. large-shown runner reading shown.0 past.history shown.2 met
      (sym shown.3 ∙ is)) (listed shown.0 shown.1)) refl
  by-intent Absent is state told = files-stands (ap is_readable is) _ refl state told
  by-intent Listed is state told = files-stands (ap is_readable is) _ refl state told

  -- the claim
  pub reported-stands : (state : State) → ReportsTo runner report state → StandsAs now runner state
  reported-stands state reports = by-intent report.gathered.intent refl state reports

-- ---- The state after it

-- it answers
module _ (runner : Runner) where
  -- with no fault of the folder
  files-quiet : (report : Report) (problem : Option FileProblem) (state : State) →
      AnswersFiles runner report.gathered problem state → TellsOutside state → ⊥
  files-quiet report (Some problem) state told fault = problem-quiet problem
      (answers-fault runner.asked.request.tool (cause_of_problem problem) state told fault)
    where
      problem-quiet : (one : FileProblem) → IsOutside (cause_of_problem one) → ⊥
      problem-quiet (TableTooLarge table) outside = outside
      problem-quiet one outside = outside
  files-quiet report None (Answering answer) (inl (is_answer, stays)) fault =
      answer-quiet runner.asked report.gathered.files report.gathered.defs answer is_answer fault
  files-quiet report None (Answering answer) (inr none) fault =
      subst IsOutside (ap (λ (one : FinalAnswer). one.outcome.cause) none) fault
  files-quiet report None state told fault = absurd told

  by-intent-quiet : (report : Report) (intent : IntentFound) (state : State) →
      AnswersIntent runner report.gathered intent state → TellsOutside state → ⊥
  by-intent-quiet report (Damaged part) state told fault =
      answers-fault runner.asked.request.tool (IntentDamaged part) state told fault
  by-intent-quiet report TooLarge state told fault =
      answers-fault runner.asked.request.tool (IsTooLarge (File Intent)) state told fault
  by-intent-quiet report Absent state told fault = files-quiet report _ state told fault
  by-intent-quiet report Listed state told fault = files-quiet report _ state told fault

  pub reported-quiet : (report : Report) (state : State) → ReportsTo runner report state →
      TellsOutside state → ⊥
  reported-quiet report = by-intent-quiet report report.gathered.intent

  -- so the answer alone is left
  pub reported-calls : (reading : Gatherer) (report : Report) (state : State) →
      ReportsTo runner report state → LeavesFewer (Gathering reading) state
  reported-calls reading report state reports =
      by-intent-calls report.gathered.intent state reports
    where
      tool : Tool
      tool = runner.asked.request.tool

      to-answer : (cause : Cause) (one : State) → AnswersWith tool cause one →
          LeavesFewer (Gathering reading) one
      to-answer cause one told =
          answers-fewer tool cause one told (Gathering reading) (omega arith) refl

      to-files : (problem : Option FileProblem) (one : State) →
          AnswersFiles runner report.gathered problem one → LeavesFewer (Gathering reading) one
      to-files (Some problem) one told = to-answer (cause_of_problem problem) one told
      to-files None (Answering answer) told =
          other-fewer (Gathering reading) (Answering answer) refl (omega arith) (omega arith) tt
      to-files None one told = absurd told

      by-intent-calls : (intent : IntentFound) (one : State) →
          AnswersIntent runner report.gathered intent one → LeavesFewer (Gathering reading) one
      by-intent-calls (Damaged part) one told = to-answer (IntentDamaged part) one told
      by-intent-calls TooLarge one told = to-answer (IsTooLarge (File Intent)) one told
      by-intent-calls Absent one told = to-files _ one told
      by-intent-calls Listed one told = to-files _ one told
