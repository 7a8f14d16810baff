use Rattle.std.proofs.Common.{◌≡◌, take}
use Rattle.rehearsal.specs.Images.{contents_among}
use Rattle.rehearsal.proofs.images.contents_of.Given as goal

-- the tables so far
abbrev pub invariant-tables : goal.invariant-tables
invariant-tables l =
    l.contents.items ≡ contents_among l.files (take l.table-index l.table-items)
