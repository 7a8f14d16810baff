use Rattle.std.proofs.Common.{◌≡◌, ◌++◌, length}
use Rattle.table.specs.TableCells.{texts_there}
use Rattle.table.proofs.texts_there.TextsThere.take.Given as goal

-- the texts left are those of the place at hand and of the places behind it
abbrev pub invariant-places : goal.invariant-places
invariant-places l =
    l.self-inside.texts ++ texts_there l.self-inside.file.now l.self-inside.places.now ≡ l.fn.self

abbrev pub decreases-places : goal.decreases-places
decreases-places l = length l.self-inside.places.now
