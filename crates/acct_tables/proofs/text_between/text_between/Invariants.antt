use Rattle.std.proofs.Common.{◌≡◌, ◌-◌, ◌≤◌, ◌++◌, drop, length, map}
use Rattle.std.specs.Vec.{vec_items}
use Rattle.acct_text.specs.Lines.{file_bytes, lines_of}
use Rattle.acct_tables.specs.Cells.{lines_now}
use Rattle.acct_tables.specs.Kept.{AreTold, cells_kept, cells_left, patches_of}
use Rattle.acct_tables.proofs.MarkedPlaces.{GoUp}
use Rattle.acct_tables.proofs.text_between.text_between.Given as goal

-- the bytes so far, with those of the lines behind, are all; no place behind is told but those left
abbrev pub invariant-places : goal.invariant-places
invariant-places l =
    let here = length l.text - length l.behind in
    let patches = patches_of l.patched in
    let added = map vec_items l.added in
    record {
      so_far : l.made
          ++ file_bytes (lines_now (cells_left here (lines_of l.behind) l.are_ended patches added))
          ≡ file_bytes (lines_now (cells_kept l.text l.are_ended patches added));
      inside : length l.behind ≤ length l.text;
      told : AreTold patches here (drop l.place-index l.place-items);
      up : GoUp 0 (drop l.place-index l.place-items);
    }

-- the bytes so far, with those of the cells left, are all
abbrev pub invariant-cells : goal.invariant-cells
invariant-cells l =
    l.made ++ file_bytes (lines_now l.left)
    ≡ file_bytes (lines_now
    (cells_kept l.text l.are_ended (patches_of l.patched) (map vec_items l.added)))

abbrev pub decreases-cells : goal.decreases-cells
decreases-cells l = length l.left
