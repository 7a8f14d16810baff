use Rattle.std.proofs.Common.{◌≡◌, ◌⊎◌, ◌∙◌, ℕ, inl, inr, refl, sym, ap, subst, Option, Some}
use Rattle.acct_text.specs.Bytes.{Bytes}
use Rattle.account_model.specs.declared.word_fault.WordFault.TheVariants.{Memory as NoMemory}
use Rattle.acct_outside.specs.declared.CommitStage.TheVariants.{Before}
use Rattle.account_model.specs.declared.tool.Tool.{Tool}
use Rattle.account_model.specs.PlanWords.{command_words}
use Rattle.account_model.specs.Request.{Request}
use Rattle.option_words.specs.Parsed.{request_in}
use Rattle.suite_answers.specs.declared.cause.Cause.TheVariants.{Memory}
use Rattle.suite_answers.specs.Answers.{answer_for, told_words}
use Rattle.suite_session.specs.Runner.{question}
use Rattle.suite_course.specs.Streams.{streams}
use Rattle.suite_course.specs.Supplies.{AreSupplied, reads_input, supplies}
use Rattle.suite_course.specs.Top.{EndsEarly, EndsUnsupplied, Ran}
use Rattle.suite_course.proofs.CompleteLemmas.{ends-without_supply}
use Rattle.suite_course.proofs.RanLemmas.{finished-ran}
use Rattle.suite_course.proofs.SuppliesLemmas.{none-came}
use Rattle.suite_core.proofs.TopLemmas.{named-asked, no-fault, one-request}
use Rattle.suite_core.proofs.top.run_suite.Goals as goal

-- words with a fault: it is the one that was found, or there was no memory
pub returns-in-Err-clause-syntax : goal.returns-in-Err-clause-syntax
returns-in-Err-clause-syntax g c = λ found is. (
  refl,
  refl,
  refl,
  c.refuse_words.ensures (told_words (command_words c.args.words.now) found)
      (elim c.in-Err.ensures.first_fault [
        | inl other ↦ inr (ap (told_words (command_words c.args.words.now))
            (let same : Some found ≡ Some c.in-Err.fault = sym is ∙ other in cc same))
        | inr memory ↦ inl memory
      ]),
)

pub returns-in-Err-clause-ran : goal.returns-in-Err-clause-ran
returns-in-Err-clause-ran g c = λ request asks.
    let was = streams (g.O.Sink.moment c.args.out.now) (g.E.Sink.moment c.args.err.now) in
    let holds = streams (g.O.Sink.moment c.refuse_words.new.out)
    (g.E.Sink.moment c.refuse_words.new.err) in
    let memory = elim c.in-Err.ensures.first_fault as (λ one. c.in-Err.fault ≡ NoMemory) [
      | inl found ↦ absurd (no-fault c.args.words.now request c.in-Err.fault asks found)
      | inr memory ↦ memory
    ] in
    inl (
      refl,
      ends-without_supply request.tool _ _ was holds c.refuse_words.result (Memory Before) (
        refl,
        (
          record { gave = refl; faults = refl },
          none-came (g.S.Source.moment c.args.input.now).left,
        ),
      )
          (subst (λ (one : Option Tool).
          EndsEarly one (answer_for request.tool (Memory Before)) was holds c.refuse_words.result)
          (named-asked c.args.words.now request asks)
          (c.refuse_words.ensures (answer_for request.tool (Memory Before)) (inl memory))),
    )

-- words that ask for something
pub returns-in-Ok-clause-syntax : goal.returns-in-Ok-clause-syntax
returns-in-Ok-clause-syntax g c = λ found is. absurd
    (no-fault c.args.words.now (request_in c.in-Ok.parsed) found c.in-Ok.ensures.request is)

pub returns-in-Ok-clause-ran : goal.returns-in-Ok-clause-ran
returns-in-Ok-clause-ran g c = λ request asks.
    let entry = g.F.Folder.moment c.args.folder.now in
    let now = g.F.Folder.moment c.run_request.new.folder in
    let was = streams (g.O.Sink.moment c.args.out.now) (g.E.Sink.moment c.args.err.now) in
    let holds = streams (g.O.Sink.moment c.run_request.new.out)
    (g.E.Sink.moment c.run_request.new.err) in
    let same = one-request c.args.words.now (request_in c.in-Ok.parsed) request
    c.in-Ok.ensures.request asks in
    let first = supplies (g.S.Source.moment c.args.input.now) (g.C.Clock.moment c.args.clock.now) in
    let last = supplies (g.S.Source.moment c.run_request.new.input)
    (g.C.Clock.moment c.run_request.new.clock) in
    subst (λ (one : Request). ((c.run_request.new.folder ≡ c.args.folder.now)
    × EndsUnsupplied one.tool first last was holds c.run_request.result)
    ⊎ ((text : Bytes) × (day : ℕ) × AreSupplied one.tool first last text day
    × Ran (question c.args.words.now one text day) entry now was holds c.run_request.result)) same
    (elim c.run_request.ensures.ran [
      | inl early ↦ inl early
      | inr ran ↦ inr (
        ran.0,
        ran.1,
        ran.2,
        finished-ran _ entry now was holds c.run_request.result ran.3 ran.4,
      )
    ])

pub returns-in-Ok-clause-no_input : goal.returns-in-Ok-clause-no_input
returns-in-Ok-clause-no_input g c = λ request asks none.
    let same = one-request c.args.words.now (request_in c.in-Ok.parsed) request
    c.in-Ok.ensures.request asks in
    c.run_request.ensures.no_input (ap (λ (one : Request). reads_input one.tool) same ∙ none)
