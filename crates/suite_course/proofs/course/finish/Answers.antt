use Rattle.std.proofs.Common.{◌≡◌, refl, sym, subst, ◌∙◌, Bool, false, Option, Some, None, IsSome}
use Rattle.std.specs.Prelude.{is_none}
use Rattle.suite_session.specs.declared.session.Phase.{Phase}
use Rattle.suite_session.specs.Belongs.{Belongs}
use Rattle.suite_session.specs.Session.{answer_of}
use Rattle.suite_course.specs.Streams.{streams}
use Rattle.suite_course.proofs.AskedEnd.{asked-last}
use Rattle.suite_course.proofs.CourseLemmas.{comes-belongs, comes-first, comes-turn, none-of, waiting-is}
use Rattle.suite_course.proofs.FinishLemmas.{finishes, is-to-put, streams-answer, streams-belong}
use Rattle.suite_course.proofs.course.finish.Goals as goal

-- an answer is there where the session isn't going
is-there : {T : Type 0} (held : Option T) (going : Bool) → going ≡ is_none held → going ≡ false
    → IsSome held
is-there None going is over = absurd cc
is-there (Some held) going is over = refl

pub loop-session-init : goal.loop-session-init
loop-session-init g c = λ asked is. comes-first asked _ c.args.session is

pub turn-requires : goal.turn-requires
turn-requires g c =
    let entry = g.F.Folder.moment c.args.folder.now in
    let between = g.F.Folder.moment c.loop-session.folder in
    let waits = waiting-is c.args.session c.requires in
    comes-belongs waits.0 entry between c.loop-session.session
    (c.loop-session.invariant waits.0 waits.1)

pub loop-session-preserved : goal.loop-session-preserved
loop-session-preserved g c = λ asked is.
    let entry = g.F.Folder.moment c.args.folder.now in
    let between = g.F.Folder.moment c.loop-session.folder in
    let now = g.F.Folder.moment c.turn.new.folder in
    comes-turn asked entry between now c.loop-session.session c.turn.new.self
    (c.loop-session.invariant asked is)
    (none-of _ (sym c.is_going.ensures ∙ c.loop-session-test.true)) c.turn.ensures.turns

pub loop-session-smaller : goal.loop-session-smaller
loop-session-smaller g c = c.turn.ensures.nearer
    (none-of _ (sym c.is_going.ensures ∙ c.loop-session-test.true))

-- a stream that failed had a text to take
pub after_streams-requires : goal.after_streams-requires
after_streams-requires g c =
    let entry = g.F.Folder.moment c.args.folder.now in
    let between = g.F.Folder.moment c.loop-session.folder in
    let waits = waiting-is c.args.session c.requires in
    λ fault is. is-to-put waits.0 entry between c.args.tool
    (streams (g.O.Sink.moment c.args.out.now) (g.E.Sink.moment c.args.err.now))
    (streams (g.O.Sink.moment c.put_answer-put.new.out) (g.E.Sink.moment c.put_answer-put.new.err))
    c.put_answer-put.result c.loop-session.session
    (c.loop-session.invariant waits.0 waits.1)
    (is-there _ _ c.is_going.ensures c.loop-session-test.false)
    c.put_answer-put.ensures fault is

pub conclude-requires : goal.conclude-requires
conclude-requires g c =
    let entry = g.F.Folder.moment c.args.folder.now in
    let between = g.F.Folder.moment c.loop-session.folder in
    let was = streams (g.O.Sink.moment c.args.out.now) (g.E.Sink.moment c.args.err.now) in
    let holds = streams (g.O.Sink.moment c.put_answer-put.new.out)
    (g.E.Sink.moment c.put_answer-put.new.err) in
    let session = c.loop-session.session in
    let waits = waiting-is c.args.session c.requires in
    record {
      belongs = subst (λ (one : Phase). Belongs between one) (sym c.after_streams.ensures)
          (streams-belong waits.0 entry between c.args.tool was holds
          c.put_answer-put.result session
          (c.loop-session.invariant waits.0 waits.1)
          (is-there _ _ c.is_going.ensures c.loop-session-test.false)
          c.put_answer-put.ensures);
      answers = subst (λ (one : Phase). IsSome (answer_of one)) (sym c.after_streams.ensures)
          (streams-answer c.put_answer-put.result session
          (is-there _ _ c.is_going.ensures c.loop-session-test.false));
    }

pub returns-clause-finished : goal.returns-clause-finished
returns-clause-finished g c = λ asked is tool.
    let entry = g.F.Folder.moment c.args.folder.now in
    let between = g.F.Folder.moment c.loop-session.folder in
    let now = g.F.Folder.moment c.conclude.new.folder in
    let was = streams (g.O.Sink.moment c.args.out.now) (g.E.Sink.moment c.args.err.now) in
    let holds = streams (g.O.Sink.moment c.put_answer-put.new.out)
    (g.E.Sink.moment c.put_answer-put.new.err) in
    finishes asked entry between now was holds c.conclude.result c.put_answer-put.result
    c.args.tool c.loop-session.session c.after_streams.result tool
    (c.loop-session.invariant asked is)
    (is-there _ _ c.is_going.ensures c.loop-session-test.false)
    c.put_answer-put.ensures c.after_streams.ensures c.conclude.ensures

pub returns-clause-asks : goal.returns-clause-asks
returns-clause-asks g c =
    let entry = g.F.Folder.moment c.args.folder.now in
    let between = g.F.Folder.moment c.loop-session.folder in
    let now = g.F.Folder.moment c.conclude.new.folder in
    let waits = waiting-is c.args.session c.requires in
    let concludes = c.conclude.ensures in
    asked-last waits.0 entry between now c.put_answer-put.result concludes.last c.conclude.result
    concludes.ends c.loop-session.session c.after_streams.result
    (c.loop-session.invariant waits.0 waits.1)
    (is-there _ _ c.is_going.ensures c.loop-session-test.false)
    c.after_streams.ensures concludes.turns
