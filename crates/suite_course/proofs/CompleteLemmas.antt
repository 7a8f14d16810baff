-- Claims: a session that was alone, in whose way nothing stood, gives the tool's answer on the files of
-- its entry, or finds no memory (`ran-complete`); and a command that got no input or no day, or had a
-- line that asks for nothing, though nothing lacked, found no memory (`ends-unsupplied`,
-- `ends-without_supply`).
-- Way: cause by cause (`answers-as`): what a tool answers on is the files of the entry (AloneLemmas); what
-- others leave it doesn't meet (OpenLemmas); and each fault is counted.
use Rattle.std.proofs.Common.{◌≡◌, refl, sym, ap, subst, true, ◌∙◌, ◌∷◌, ◌++◌, [], ◌+◌, ◌≤◌, length, ◌⊎◌, inl, inr, Option, Some, None, Result, Ok, Err, arith}
use Rattle.std.specs.List.{AllByRecursion}
use Rattle.std.proofs.Math.Nat.{min-eq_left, min-eq_right}
use Rattle.std.proofs.lemmas.Bool.{cases_lt}
use Rattle.std.proofs.lemmas.List.{length-append}
use Rattle.acct_text.specs.Bytes.{Bytes}
use Rattle.acct_text.specs.Limits.{table_limit}
use Rattle.acct_outside.specs.declared.Name.TheVariants.{Table, Intent, Defs}
use Rattle.acct_outside.specs.declared.CommitStage.TheVariants.{Before}
use Rattle.acct_outside.specs.declared.FolderFault.{FolderFault}
use Rattle.acct_outside.specs.declared.FolderFault.TheVariants.{Failed as FolderFailed, Memory as NoFolderMemory}
use Rattle.acct_outside.specs.declared.streams.SinkFault.{SinkFault}
use Rattle.acct_outside.specs.declared.streams.SinkFault.TheVariants.{Failed, Memory as NoMemory}
use Rattle.acct_outside.specs.Faults.{Faults, HasRisen, LastFailed, last_count}
use Rattle.acct_outside.specs.Streams.{WhereBytesTold}
use Rattle.acct_outside.specs.Tokens.{Token}
use Rattle.acct_outside.specs.Folder.{Folder}
use Rattle.acct_outside.specs.Calls.{answers, done}
use Rattle.acct_outside.specs.History.{Event, History, after, own_events}
use Rattle.acct_outside.specs.Others.{Admission}
use Rattle.acct_outside.specs.Contract.{WhereTold}
use Rattle.account_model.specs.declared.tool.Tool.{Tool}
use Rattle.account_model.specs.BatchLines.{FaultyLine, first_faulty}
use Rattle.account_model.specs.Words.{is_batch}
use Rattle.suite_rules.specs.Deeds.{SuiteDeeds}
use Rattle.suite_rules.specs.Standing.{standing}
use Rattle.suite_rules.specs.Lawful.{Lawful}
use Rattle.suite_rules.specs.Steps.{LawfulOthers}
use Rattle.suite_answers.specs.declared.cause.Which.TheVariants.{Input, File}
use Rattle.suite_answers.specs.declared.cause.Cause.{Cause}
use Rattle.suite_answers.specs.declared.cause.Cause.TheVariants.{Syntax, BatchSyntax, Held, Gone, Raced, Outrun, LockDamaged, Exhausted, IntentDamaged, TooLarge, DiskFault, InputFault, OutputFault, ClockFault, Memory}
use Rattle.suite_answers.specs.declared.cause.Outcome.{Outcome}
use Rattle.suite_answers.specs.declared.answer.Answer.{Answer}
use Rattle.suite_answers.specs.Answers.{answer_for}
use Rattle.suite_answers.specs.Reasons.{stage_of}
use Rattle.suite_session.specs.Runner.{LinesAsk, Question}
use Rattle.acct_outside.specs.Moment.{Past, Moment}
use Rattle.suite_session.specs.Answers.{IsTold, Says, after_streams}
use Rattle.suite_session.specs.Deeds.{AreOfTools}
use Rattle.suite_session.specs.Locking.{cause_of_fault}
use Rattle.suite_session.specs.Stands.{IsDiskFault}
use Rattle.suite_course.specs.Open.{StandsOpen}
use Rattle.suite_course.specs.Streams.{Streams, Serves}
use Rattle.suite_course.proofs.StreamsLemmas.{serves-failed}
use Rattle.suite_course.specs.declared.supplies.Lack.{Lack}
use Rattle.suite_course.specs.declared.supplies.Lack.TheVariants.{Supply, Line}
use Rattle.suite_course.specs.Supplies.{Supplies, IsTooMuch, IsUnsupplied, IsLacking, LacksNothing, TakesAll, told_lack}
use Rattle.suite_course.specs.Alone.{AnswersOnOld, IsAlone}
use Rattle.suite_course.specs.Shows.{IsShownAt}
use Rattle.suite_course.specs.Top.{Answered, EndsEarly, EndsUnsupplied, ExtendsLawfully, IfLawful, RunsOrNot, StreamsServe, WhereLawful}
use Rattle.suite_course.proofs.OpenLemmas.{some-event, never-last, never-gone, never-damaged, never-held, never-raced, never-outrun, never-unread, never-large}
use Rattle.suite_course.proofs.SuppliesLemmas.{batch-reads}

-- ---- A session that was alone

module _ (deeds : SuiteDeeds) (asked : Question) (first : Folder)
    (old new : History) (token : Token)
    (lawful : Lawful deeds first new) (alone : IsAlone token old new)
    (opened : StandsOpen (after first old) token new) (given : Answer) where
  -- it gives the tool's answer, by the cause of its own
  pub answers-as : (cause : Cause) → given.outcome.cause ≡ cause →
      (standing token new).commit ≡ stage_of cause → Says asked given cause →
      (IsDiskFault cause → ⊥) → IsShownAt deeds asked first new token given cause →
      AnswersOnOld deeds asked first old new token given
  answers-as (TooLarge (File (Table table))) is commits says inside shown =
      inr (shown.alone old alone)
  answers-as (TooLarge (File Defs)) is commits says inside shown = inr (shown.alone old alone)
  answers-as (TooLarge (File Intent)) is commits says inside shown =
      absurd (never-large deeds first old new token lawful alone opened commits shown)
  answers-as (TooLarge which) is commits says inside shown = absurd shown
  answers-as (Memory stage) is commits says inside shown = inl (stage, is)
  answers-as (Held holder) is commits says inside shown =
      absurd (never-held deeds first old new token lawful alone opened holder shown)
  answers-as (Gone number) is commits says inside shown =
      absurd (never-gone deeds first old new token lawful alone opened number shown)
  answers-as (Raced number) is commits says inside shown =
      absurd (never-raced deeds first old new token lawful alone opened number shown)
  answers-as (Outrun number other) is commits says inside shown =
      absurd (never-outrun deeds first old new token lawful alone opened asked number other shown)
  answers-as (LockDamaged number) is commits says inside shown =
      absurd (never-damaged deeds first old new token lawful alone opened number shown)
  answers-as Exhausted is commits says inside shown =
      absurd (never-last deeds first old new token lawful alone opened shown)
  answers-as (IntentDamaged part) is commits says inside shown =
      absurd (never-unread deeds first old new token lawful alone opened commits part shown)
  answers-as (Syntax fault) is commits says inside shown = absurd says
  answers-as (BatchSyntax line fault) is commits says inside shown = absurd says
  answers-as (DiskFault stage) is commits says inside shown = absurd (inside tt)
  answers-as InputFault is commits says inside shown = absurd says
  answers-as (OutputFault stage) is commits says inside shown = absurd says
  answers-as ClockFault is commits says inside shown = absurd says
  answers-as cause is commits says inside shown = inr (shown.alone old alone)

-- who answered with the last event, and began since a moment, is who was alone since then
one-alone : (asked : Question) (outcome : Outcome) (token other : Token) (old new : History) →
    IsAlone token old new → Answered asked outcome other new → own_events other old ≡ [] →
    other ≡ token
one-alone asked outcome token other old new alone answered fresh =
    by-newer alone.newer alone.own (sym answered.last ∙ alone.parts)
  where
    event : Event
    event = record { token = other; call = answers outcome.status; result = done tt }

    by-newer : (newer : History) → AllByRecursion (λ one. one.token ≡ token) newer →
        event ∷ answered.older ≡ newer ++ old → other ≡ token
    by-newer [] own is = absurd (some-event other event answered.older refl
        (ap (λ (one : History). own_events other one) is ∙ fresh))
    by-newer (head ∷ newer) own is =
        let same : event ≡ head = cc is in ap (λ (one : Event). one.token) same ∙ own.0

module _ (tool : Option Tool) (was holds : Streams) (serve : StreamsServe was holds) where
  -- where no fault of a stream was counted, none failed
  none-failed : (given : Answer) → Serves tool given was holds (Err Failed) → ⊥
  none-failed given served = elim (serves-failed tool given was holds served) [
    | inl fails ↦ serve.out fails.rose
    | inr fails ↦ serve.err fails.rose
  ]

-- a begin that gave no token tells a fault of the folder, or that there was no memory
not-run-cause : (tool : Tool) (fault : FolderFault) (given : Answer) →
    IsTold tool (cause_of_fault Before fault) given →
    (given.outcome.cause ≡ DiskFault Before) ⊎ (given.outcome.cause ≡ Memory Before)
not-run-cause tool FolderFailed given (inl is) =
    inl (ap (λ (one : Answer). one.outcome.cause) is)
not-run-cause tool FolderFailed given (inr is) =
    inr (ap (λ (one : Answer). one.outcome.cause) is)
not-run-cause tool NoFolderMemory given (inl is) =
    inr (ap (λ (one : Answer). one.outcome.cause) is)
not-run-cause tool NoFolderMemory given (inr is) =
    inr (ap (λ (one : Answer). one.outcome.cause) is)

module _ (asked : Question) (before now : Moment) (was holds : Streams) (outcome : Outcome)
    (given : Answer) (says : Says asked given given.outcome.cause)
    (failed : IsDiskFault given.outcome.cause → HasRisen before.faults now.faults)
    (none : HasRisen before.faults now.faults → ⊥) (serve : StreamsServe was holds) where
  -- by what became of the streams
  answers-put : (put : Result (Unit {0}) SinkFault) →
      Serves (Some asked.request.tool) given was holds put →
      outcome ≡ (after_streams put given).outcome →
      (deeds : SuiteDeeds) (first : Folder) (old new : History) → Lawful deeds first new →
      (token : Token) → Answered asked outcome token new → IsAlone token old new →
      StandsOpen (after first old) token new →
      IsShownAt deeds asked first new token given given.outcome.cause →
      AnswersOnOld deeds asked first old new token (after_streams put given)
  answers-put (Ok unit) served ends deeds first old new lawful token answered alone opened shown =
      answers-as deeds asked first old new token lawful alone opened given given.outcome.cause refl
      (answered.commits ∙ ap (λ (one : Outcome). stage_of one.cause) ends) says
      (λ fault. none (failed fault)) shown
  answers-put (Err Failed) served ends deeds first old new lawful token answered
      alone opened shown =
      absurd (none-failed (Some asked.request.tool) was holds serve given served)
  answers-put (Err NoMemory) served ends deeds first old new lawful token answered
      alone opened shown =
      inl (stage_of given.outcome.cause, refl)

  -- by what became of a begin that gave no token
  unbegun-put : (put : Result (Unit {0}) SinkFault) →
      Serves (Some asked.request.tool) given was holds put →
      (given.outcome.cause ≡ DiskFault Before) ⊎ (given.outcome.cause ≡ Memory Before) →
      (deeds : SuiteDeeds) (first : Folder) (old new : History) (token : Token) →
      AnswersOnOld deeds asked first old new token (after_streams put given)
  unbegun-put (Ok unit) served (inl fault) deeds first old new token =
      absurd (none (failed (subst IsDiskFault (sym fault) tt)))
  unbegun-put (Ok unit) served (inr memory) deeds first old new token = inl (Before, memory)
  unbegun-put (Err Failed) served told deeds first old new token =
      absurd (none-failed (Some asked.request.tool) was holds serve given served)
  unbegun-put (Err NoMemory) served told deeds first old new token =
      inl (stage_of given.outcome.cause, refl)

  -- by the session that ran, or that there was none
  answers-told : (put : Result (Unit {0}) SinkFault) →
      Serves (Some asked.request.tool) given was holds put →
      outcome ≡ (after_streams put given).outcome →
      (deeds : SuiteDeeds) → AreOfTools deeds → (first : Folder) (old new : History) →
      LawfulOthers deeds before.admits first → Lawful deeds first old → Lawful deeds first new →
      RunsOrNot asked before.admits given outcome first old new →
      (token : Token) → IsAlone token old new → StandsOpen (after first old) token new →
      AnswersOnOld deeds asked first old new token (after_streams put given)
  answers-told put served ends deeds ours first old new others was_lawful lawful
      (inl run) token alone
      opened =
      let same = one-alone asked outcome token run.0 old new alone run.1.answered run.1.fresh in
      answers-put put served ends deeds first old new lawful token
      (subst (λ (one : Token). Answered asked outcome one new) same run.1.answered) alone opened
      (subst (λ (one : Token). IsShownAt deeds asked first new one given given.outcome.cause) same
      (run.1.shows deeds ours others was_lawful).shown)
  answers-told put served ends deeds ours first old new others was_lawful lawful
      (inr idle) token alone
      opened =
      unbegun-put put served (not-run-cause asked.request.tool idle.fault given idle.tells) deeds
      first old new token

-- what follows of a history that is told, and of what it has where it was lawful
where-both : (admits : Admission) (T : Folder → History → History → Type 0)
    (P Q : SuiteDeeds → Folder → History → History → Type 0) →
    ((deeds : SuiteDeeds) → AreOfTools deeds → (first : Folder) (old new : History) →
    LawfulOthers deeds admits first → Lawful deeds first old → T first old new →
    P deeds first old new → Q deeds first old new) →
    (was told : Option Past) → WhereTold was told T →
    WhereTold was told (λ first old new. IfLawful admits first old
    (λ deeds. P deeds first old new)) →
    WhereTold was told (λ first old new. IfLawful admits first old (λ deeds. Q deeds first old new))
where-both admits T P Q follows None None told one = tt
where-both admits T P Q follows (Some was) (Some past) told one = (
  one.0,
  λ deeds ours others lawful. follows deeds ours was.first was.history past.history others lawful
      told.1 (one.1 deeds ours others lawful),
)
where-both admits T P Q follows was now told one = absurd one

-- the first claim
pub ran-complete :
    (asked : Question) (before now : Moment) (was holds : Streams)
    (outcome : Outcome) (given : Answer)
    → Says asked given given.outcome.cause
    → (IsDiskFault given.outcome.cause → HasRisen before.faults now.faults)
    → (put : Result (Unit {0}) SinkFault)
    → Serves (Some asked.request.tool) given was holds put
    → outcome ≡ (after_streams put given).outcome
    → WhereLawful before now ExtendsLawfully
    → WhereTold before.told now.told (RunsOrNot asked before.admits given outcome)
    → (HasRisen before.faults now.faults → ⊥)
    → StreamsServe was holds
    → WhereLawful before now (λ deeds first old new. (token : Token) → IsAlone token old new
    → StandsOpen (after first old) token new → AnswersOnOld deeds asked first old new token
    (after_streams put given))
ran-complete asked before now was holds outcome given says failed put served
    ends lawful session none
    serve =
    where-both before.admits (RunsOrNot asked before.admits given outcome) ExtendsLawfully
    (λ deeds first old new. (token : Token) → IsAlone token old new →
    StandsOpen (after first old) token new →
    AnswersOnOld deeds asked first old new token (after_streams put given))
    (λ deeds ours first old new others was_lawful told extends.
    answers-told asked before now was holds outcome given says failed none serve put served ends
    deeds ours first old new others was_lawful extends.lawful told)
    before.told now.told session lawful

-- ---- A command without input or day

-- a fault that was noted is counted
last-failed-rises : (before now : Faults) → LastFailed before now →
    HasRisen before.count now.count
last-failed-rises before now is =
    let counted = ap (λ (one : Faults). one.count) is in
    elim (cases_lt before.count last_count) [
      | inl below ↦ inl (omega (
        arith,
        below,
        counted,
        min-eq_left {n = before.count + 1} {m = last_count} (omega (arith, below)),
      ))
      | inr past ↦ inr (counted
          ∙ min-eq_right {n = last_count} {m = before.count + 1} (omega (arith, past)))
    ]

-- the input wasn't too large
never-too-much : (was left : Option Bytes) (bytes : Bytes) → was ≡ Some bytes →
    length bytes ≤ table_limit → WhereBytesTold was left IsTooMuch → ⊥
never-too-much None left bytes is within much = absurd (cc is)
never-too-much (Some all) None bytes is within much = much
never-too-much (Some all) (Some rest) bytes is within much =
    let same : all ≡ bytes = cc is in
    let whole : length bytes ≡ length much.came + length rest =
    ap length (sym same ∙ much.parts) ∙ length-append much.came rest in
    let past = much.passes in
    absurd (omega (arith, whole, past, within))

-- it lacks memory
unsupplied-memory : (tool : Tool) (before now : Supplies) (cause : Cause) →
    IsUnsupplied tool before now cause → LacksNothing tool before now → cause ≡ Memory Before
unsupplied-memory tool before now InputFault due lacks = absurd
    (lacks.source (last-failed-rises before.input_faults now.input_faults due.1))
unsupplied-memory tool before now (TooLarge Input) due lacks =
    let all = lacks.input due.0 in
    absurd (never-too-much before.left now.left all.0 all.1 all.2 due.2.1)
unsupplied-memory tool before now ClockFault due lacks = absurd
    (lacks.clock (last-failed-rises before.clock_faults now.clock_faults due.clock))
unsupplied-memory tool before now (Memory Before) due lacks = refl
unsupplied-memory tool before now cause due lacks = absurd due

-- no line asks for nothing
never-faulty : (tool : Tool) (was left : Option Bytes) (bytes input : Bytes) (faulty : FaultyLine) →
    was ≡ Some bytes → LinesAsk tool bytes → is_batch tool ≡ true →
    WhereBytesTold was left (TakesAll (Ok input)) → first_faulty input ≡ Some faulty → ⊥
never-faulty tool None left bytes input faulty is ask batch came first = cc is
never-faulty tool (Some all) None bytes input faulty is ask batch came first = came
never-faulty tool (Some all) (Some rest) bytes input faulty is ask batch came first =
    let same : all ≡ bytes = cc is in
    let wrong : None ≡ Some faulty = sym (ask batch)
    ∙ (ap first_faulty (sym same ∙ came.0) ∙ first) in
    cc wrong

-- so what it lacks is memory
lack-memory : (tool : Tool) (before now : Supplies) (lack : Lack) → IsLacking tool before now lack →
    LacksNothing tool before now → (told_lack tool lack).outcome.cause ≡ Memory Before
lack-memory tool before now (Supply cause) due lacks =
    unsupplied-memory tool before now cause due lacks
lack-memory tool before now (Line faulty) due lacks =
    let all = lacks.input (batch-reads tool due.0) in
    absurd (never-faulty tool before.left now.left all.0 due.1.input faulty all.1 all.3 due.0
    due.1.all_input due.1.first)

-- so the outcome says, where the streams serve
unsupplied-complete : (tool : Tool) (before now : Supplies) (was holds : Streams)
    (outcome : Outcome) (lack : Lack) → IsLacking tool before now lack →
    EndsEarly (Some tool) (told_lack tool lack) was holds outcome →
    LacksNothing tool before now → StreamsServe was holds → outcome.cause ≡ Memory Before
unsupplied-complete tool before now was holds outcome lack due early lacks serve =
    ap (λ (one : Outcome). one.cause) early.ends.left ∙ by-put early.ends.put early.ends.served
  where
    told_is : early.given.outcome.cause ≡ Memory Before
    told_is = elim early.is [
      | inl is ↦ ap (λ (one : Answer). one.outcome.cause) is
          ∙ lack-memory tool before now lack due lacks
      | inr is ↦ ap (λ (one : Answer). one.outcome.cause) is
    ]

    by-put : (put : Result (Unit {0}) SinkFault) → Serves (Some tool) early.given was holds put →
        (after_streams put early.given).outcome.cause ≡ Memory Before
    by-put (Ok unit) served = told_is
    by-put (Err Failed) served =
        absurd (none-failed (Some tool) was holds serve early.given served)
    by-put (Err NoMemory) served = ap (λ (one : Cause). Memory (stage_of one)) told_is

-- the second claim
pub ends-unsupplied : (tool : Tool) (before now : Supplies) (was holds : Streams)
    (outcome : Outcome) (lack : Lack) → IsLacking tool before now lack →
    EndsEarly (Some tool) (told_lack tool lack) was holds outcome →
    EndsUnsupplied tool before now was holds outcome
ends-unsupplied tool before now was holds outcome lack due early = record {
  lack = lack;
  due = due;
  ends = early;
  complete = unsupplied-complete tool before now was holds outcome lack due early;
}

-- so it is for this cause, where the input or the day is what lacks; who calls knows no `Lack`
pub ends-without_supply : (tool : Tool) (before now : Supplies) (was holds : Streams)
    (outcome : Outcome) (cause : Cause) → IsUnsupplied tool before now cause →
    EndsEarly (Some tool) (answer_for tool cause) was holds outcome →
    EndsUnsupplied tool before now was holds outcome
ends-without_supply tool before now was holds outcome cause due early =
    ends-unsupplied tool before now was holds outcome (Supply cause) due early
