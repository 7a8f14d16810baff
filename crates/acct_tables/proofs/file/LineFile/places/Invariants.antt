use Rattle.std.proofs.Common.{◌≡◌, ◌++◌, length, map}
use Rattle.acct_tables.proofs.file.LineFile.places.Given as goal

-- the places so far, with those of the cells left, are all
abbrev pub invariant-cells : goal.invariant-cells
invariant-cells l =
    l.places.items ++ map (λ cell. cell.place) l.left ≡ map (λ cell. cell.place) l.self

abbrev pub decreases-cells : goal.decreases-cells
decreases-cells l = length l.left
