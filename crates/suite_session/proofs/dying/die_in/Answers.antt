use Rattle.std.proofs.Common.{◌≡◌, sym, subst}
use Rattle.std.specs.Prelude.{OnOk}
use Rattle.acct_outside.specs.NamedCalls.{call_of}
use Rattle.memory_folder.specs.Events.{effect_in}
use Rattle.memory_folder.specs.Logged.{with_event}
use Rattle.memory_folder.specs.Memory.{HasRunning, past_of}
use Rattle.suite_session.specs.Runner.{IsRead, Runner}
use Rattle.suite_session.proofs.DyingLemmas.{death_of, dies-then, lawful-then, may-die, others-then, runs-there}
use Rattle.suite_session.proofs.dying.die_in.Goals as goal

pub die-requires-clause-running : goal.die-requires-clause-running
die-requires-clause-running c =
    subst (λ (one : Runner). HasRunning c.args.folder.now one.token) (sym c.runner.view_is)
    (runs-there c.args.folder.now c.args.runner.now c.args.state.now c.requires)

pub die-requires-clause-call : goal.die-requires-clause-call
die-requires-clause-call c =
    may-die c.args.folder.now c.args.runner.now c.args.state.now c.requires c.in_ok-call.call
    c.in_ok-call.ensures

pub returns-clause-dies : goal.returns-clause-dies
returns-clause-dies c =
    dies-then c.args.folder.now c.args.runner.now c.args.state.now c.requires c.in_ok-call.call
    c.in_ok-call.ensures c.die.new.self c.args.effect c.die.result
    (subst (λ (one : Runner). OnOk c.die.result (past_of c.die.new.self
    ≡ with_event (death_of (past_of c.args.folder.now) one.token (call_of c.in_ok-call.call)
    (effect_in c.args.effect)) (past_of c.args.folder.now))) c.runner.view_is c.die.ensures.told)
    c.die.ensures.err

pub returns-clause-lawful : goal.returns-clause-lawful
returns-clause-lawful c =
    lawful-then c.args.folder.now c.args.runner.now c.args.state.now c.requires c.in_ok-call.call
    c.in_ok-call.ensures c.die.new.self c.args.effect c.die.result
    (subst (λ (one : Runner). OnOk c.die.result (past_of c.die.new.self
    ≡ with_event (death_of (past_of c.args.folder.now) one.token (call_of c.in_ok-call.call)
    (effect_in c.args.effect)) (past_of c.args.folder.now))) c.runner.view_is c.die.ensures.told)
    c.die.ensures.err
    (subst (λ (one : Runner). IsRead one.asked)
    c.runner.view_is c.asks_once.ensures)

pub returns-clause-others : goal.returns-clause-others
returns-clause-others c =
    others-then c.args.folder.now c.args.runner.now c.args.state.now c.requires c.in_ok-call.call
    c.in_ok-call.ensures c.die.new.self c.args.effect c.die.result
    (subst (λ (one : Runner). OnOk c.die.result (past_of c.die.new.self
    ≡ with_event (death_of (past_of c.args.folder.now) one.token (call_of c.in_ok-call.call)
    (effect_in c.args.effect)) (past_of c.args.folder.now))) c.runner.view_is c.die.ensures.told)
    c.die.ensures.err
