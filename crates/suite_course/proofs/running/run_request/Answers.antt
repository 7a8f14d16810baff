use Rattle.std.proofs.Common.{◌≡◌, [], inl, inr, refl, subst, Some}
use Rattle.std.specs.Prelude.{IsErr}
use Rattle.option_words.specs.Parsed.{request_in}
use Rattle.suite_answers.specs.declared.answer.Answer.{Answer}
use Rattle.suite_session.specs.Runner.{Question, question}
use Rattle.suite_session.specs.Answers.{after_streams}
use Rattle.suite_course.specs.Streams.{Serves, streams}
use Rattle.suite_course.proofs.AskedEnd.{asked-none, asked-there}
use Rattle.suite_course.proofs.CompleteLemmas.{ends-unsupplied}
use Rattle.suite_course.proofs.RanLemmas.{finished-from, stays-turns, unbegun-finished}
use Rattle.suite_course.proofs.running.run_request.Goals as goal

-- no input or no day: nothing was called of the folder
pub returns-in-Err-clause-ran : goal.returns-in-Err-clause-ran
returns-in-Err-clause-ran g c =
    inl (
      refl,
      ends-unsupplied _ _ _ _ _ _ c.in-Err.lack c.in-Err.ensures.lacks c.tell.ensures,
    )

-- the folder was named, and the session made its calls
pub returns-in-Ok-enter-clause-ran : goal.returns-in-Ok-enter-clause-ran
returns-in-Ok-enter-clause-ran g c =
    let entry = g.F.Folder.moment c.args.folder.now in
    let between = g.F.Folder.moment c.enter.new.folder in
    let now = g.F.Folder.moment c.finish.new.folder in
    let was = streams (g.O.Sink.moment c.args.out.now) (g.E.Sink.moment c.args.err.now) in
    let holds = streams (g.O.Sink.moment c.finish.new.out) (g.E.Sink.moment c.finish.new.err) in
    let supplied = c.in-Ok.supplied in
    let asked : Question = question c.args.words.now (request_in c.args.parsed) supplied.input
    supplied.day in
    let named = c.enter.ensures.named in
    let made = c.finish.ensures.asks in
    inr (
      supplied.input,
      supplied.day,
      c.in-Ok.ensures.supplied,
      finished-from asked entry between now was holds c.finish.result [] c.enter.ensures.told
          (stays-turns entry between [] {S = Unit {0}} {T = ⊥} c.enter.ensures.told
          c.enter.ensures.narrows
          c.enter.ensures.never_falls tt (λ none. none))
          (c.finish.ensures.finished asked c.in-Ok-enter.ensures.session refl),
      asked-there _ named.0 _ _ _ made.0 named.1 made.1
          (λ refused. absurd (cc (subst IsErr c.in-Ok-enter.is (named.2 refused)))),
    )

-- it may have been named, and no session began
pub returns-in-Err-enter-clause-ran : goal.returns-in-Err-enter-clause-ran
returns-in-Err-enter-clause-ran g c =
    let entry = g.F.Folder.moment c.args.folder.now in
    let now = g.F.Folder.moment c.enter.new.folder in
    let was = streams (g.O.Sink.moment c.args.out.now) (g.E.Sink.moment c.args.err.now) in
    let holds = streams (g.O.Sink.moment c.end.new.out) (g.E.Sink.moment c.end.new.err) in
    let supplied = c.in-Ok.supplied in
    let asked : Question = question c.args.words.now (request_in c.args.parsed) supplied.input
    supplied.day in
    let named = c.enter.ensures.named in
    inr (
      supplied.input,
      supplied.day,
      c.in-Ok.ensures.supplied,
      unbegun-finished asked entry now was holds c.end.result c.end.ensures.put
          c.enter.ensures.told c.enter.ensures.narrows c.enter.ensures.never_falls
          (subst (λ (one : Answer). Serves (Some asked.request.tool) one was holds c.end.ensures.put)
          c.memory_answer.ensures c.end.ensures.served)
          (subst (λ (one : Answer). c.end.result ≡ (after_streams c.end.ensures.put one).outcome)
          c.memory_answer.ensures c.end.ensures.left),
      asked-none _ named.0 _ _ named.1,
    )
