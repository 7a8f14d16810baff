use Rattle.suite_rules.proofs.Places.{places-stay}
use Rattle.suite_rules.proofs.places_stay.Goals as goal

pub returns : goal.returns
returns c = places-stay
