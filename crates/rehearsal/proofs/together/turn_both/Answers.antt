use Rattle.std.proofs.Common.{sym, ◌∙◌}
use Rattle.memory_folder.specs.Memory.{past_of}
use Rattle.suite_session.specs.Session.{answer_of}
use Rattle.rehearsal.proofs.TogetherLemmas.{both-some, both-turned, left-falls, promised-so, settles-so}
use Rattle.rehearsal.proofs.together.turn_both.Goals as goal

pub turns-init : goal.turns-init
turns-init c = c.requires

pub turn_once-requires : goal.turn_once-requires
turn_once-requires c = record {
  lawful = c.turns.invariant.lawful;
  belongs = c.turns.invariant.one_belongs;
}

pub turn_once-requires-in-turns : goal.turn_once-requires-in-turns
turn_once-requires-in-turns c =
    let together = c.turn_once.ensures.together c.turns.other c.turns.invariant in
    record { lawful = together.lawful; belongs = together.other_belongs }

pub turns-smaller : goal.turns-smaller
turns-smaller c = left-falls c.turns.one c.turn_once.new.session c.turns.other
    c.turn_once-in-turns.new.session c.turn_once.ensures.nearer c.turn_once.ensures.ends
    c.turn_once-in-turns.ensures.nearer c.turn_once-in-turns.ensures.ends
    (sym c.is_any_going.ensures ∙ c.turns-test.true)

pub turns-preserved : goal.turns-preserved
turns-preserved c = both-turned c.turns.folder c.turn_once.new.folder
    c.turn_once-in-turns.new.folder c.turns.one c.turns.other c.turn_once.new.session
    c.turn_once-in-turns.new.session c.turns.invariant c.turn_once.ensures.together
    c.turn_once-in-turns.ensures.together

pub turn_once-requires-2 : goal.turn_once-requires-2
turn_once-requires-2 c = record {
  lawful = c.turns.invariant.lawful;
  belongs = c.turns.invariant.one_belongs;
}

pub turn_once-requires-3 : goal.turn_once-requires-3
turn_once-requires-3 c =
    let together = c.turn_once-2.ensures.together c.turns.other c.turns.invariant in
    record { lawful = together.lawful; belongs = together.other_belongs }

pub returns-clause-together : goal.returns-clause-together
returns-clause-together c = both-turned c.turns.folder c.turn_once-2.new.folder
    c.turn_once-3.new.folder c.turns.one c.turns.other c.turn_once-2.new.session
    c.turn_once-3.new.session c.turns.invariant c.turn_once-2.ensures.together
    c.turn_once-3.ensures.together

pub returns-clause-other_answered : goal.returns-clause-other_answered
returns-clause-other_answered c = c.turn_once-3.ensures.ends (both-some (answer_of c.turns.one)
    (answer_of c.turns.other) (sym c.is_any_going.ensures ∙ c.turns-test.false))

pub returns-clause-settled : goal.returns-clause-settled
returns-clause-settled c = settles-so (past_of c.turn_once-3.new.folder) (both-turned
    c.turns.folder c.turn_once-2.new.folder c.turn_once-3.new.folder c.turns.one c.turns.other
    c.turn_once-2.new.session c.turn_once-3.new.session c.turns.invariant
    c.turn_once-2.ensures.together c.turn_once-3.ensures.together).lawful

pub returns-clause-one_promised : goal.returns-clause-one_promised
returns-clause-one_promised c =
    let together = both-turned c.turns.folder c.turn_once-2.new.folder c.turn_once-3.new.folder
    c.turns.one c.turns.other c.turn_once-2.new.session c.turn_once-3.new.session
    c.turns.invariant c.turn_once-2.ensures.together c.turn_once-3.ensures.together in
    promised-so c.turn_once-3.new.folder c.turn_once-2.new.session
    c.answers_keep_promises.ensures together.lawful together.one_belongs

pub returns-clause-other_promised : goal.returns-clause-other_promised
returns-clause-other_promised c =
    let together = both-turned c.turns.folder c.turn_once-2.new.folder c.turn_once-3.new.folder
    c.turns.one c.turns.other c.turn_once-2.new.session c.turn_once-3.new.session
    c.turns.invariant c.turn_once-2.ensures.together c.turn_once-3.ensures.together in
    promised-so c.turn_once-3.new.folder c.turn_once-3.new.session
    c.answers_keep_promises.ensures together.lawful together.other_belongs
