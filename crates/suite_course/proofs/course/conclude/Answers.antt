use Rattle.suite_course.proofs.course.conclude.Goals as goal

pub into_outcome-requires : goal.into_outcome-requires
into_outcome-requires g c = c.turn.ensures.ends c.requires.answers

pub returns : goal.returns
returns g c = record {
  last = c.turn.new.self;
  turns = c.turn.ensures.turns;
  ends = c.into_outcome.ensures;
}
