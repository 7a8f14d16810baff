use Rattle.std.proofs.Common.{◌≡◌, ◌++◌, length}
use Rattle.acct_tables.specs.KeyPlaces.{listed_places}
use Rattle.acct_tables.proofs.place_lists.PlaceLists.places.Given as goal

-- the places so far, and behind them those that are left, are all of the list
abbrev pub invariant-listed : goal.invariant-listed
invariant-listed l = l.places.items ++ l.listed ≡ listed_places l.self l.number

abbrev pub decreases-listed : goal.decreases-listed
decreases-listed l = length l.listed
