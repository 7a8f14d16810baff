use Rattle.std.proofs.Common.{◌≡◌, ◌∙◌, ◌+◌, ◌-◌, ◌∷◌, ◌++◌, drop, get_or, length, map, append_assoc, sym, ap, subst, arith}
use Rattle.std.specs.Prelude.{◌==◌}
use Rattle.std.specs.Vec.{vec_items}
use Rattle.std.proofs.lemmas.Bool.{ne_eqb, or_from}
use Rattle.std.proofs.lemmas.Grind.{flat_map-append}
use Rattle.std.proofs.lemmas.List.{drop_more, length-append}
use Rattle.acct_text.specs.Lines.{AreEnded, file_bytes, line_bytes, lines_of}
use Rattle.acct_text.proofs.LinesLaws.{lines_of-are}
use Rattle.account_model.specs.Ids.{is_used}
use Rattle.acct_tables.specs.SeenLines.{seen_line}
use Rattle.acct_tables.specs.Cells.{cell_lines, lines_now}
use Rattle.acct_tables.specs.Kept.{cells_left, line_cell, patches_of, shown_cell}
use Rattle.acct_tables.proofs.ShownCells.{kept-left}
use Rattle.acct_tables.proofs.MarkedPlaces.{GoUp, lower}
use Rattle.acct_tables.proofs.StandingText.{behind-counted, standing-cut, up-from, up-unused}
use Rattle.acct_tables.proofs.text_between.text_between.Goals as goal

-- at first all lines are left
pub places-init : goal.places-init
places-init c =
    let text = c.args.text.now in
    let patches = patches_of c.args.patched.now in
    let added = map vec_items c.args.added.now in
    let start : length text - length text ≡ 0 = omega arith in
    let places = c.as_slice-place-items.ensures.value in
    record {
      so_far = ap (λ made. made ++ file_bytes (lines_now (cells_left (length text - length text)
          (lines_of text) c.args.are_ended patches added))) c.in_ok-made.ensures
          ∙ ap (λ n. file_bytes (lines_now
          (cells_left n (lines_of text) c.args.are_ended patches added))) start
          ∙ ap (λ cells. file_bytes (lines_now cells))
          (kept-left text c.args.are_ended patches added);
      inside = omega arith;
      told = λ place from unused.
          c.in_ok-places.ensures.told place (omega arith)
          (ap (λ places. is_used places place) (sym places) ∙ unused);
      up = subst (GoUp 0) (sym places)
          (up-from 0 c.in_ok-places.places.items (λ i d inside. omega arith)
          c.in_ok-places.ensures.ascending);
    }

-- the lines in front of the next place stand, then what was put there
pub places-preserved : goal.places-preserved
places-preserved c =
    let text = c.args.text.now in
    let patches = patches_of c.args.patched.now in
    let added = map vec_items c.args.added.now in
    let behind = c.places.behind.now in
    let here = length text - length behind in
    let index = c.places.place-index in
    let places = c.as_slice-place-items.result.now in
    let place = get_or places index 0 in
    let later = drop (index + 1) places in
    let cut = c.in-Some.cut in
    let is = c.in-Some.ensures in
    let line = seen_line cut.line in
    let rest = lines_of cut.behind.now in
    let next = length text - length cut.behind.now in
    let from : drop index places ≡ place ∷ later = drop_more places index 0 (omega arith) in
    let up : GoUp 0 (place ∷ later) = subst (GoUp 0) from c.places.invariant.up in
    let inside = c.places.invariant.inside in
    let whole = ap length (sym (lines_of-are behind).joined ∙ ap file_bytes is.lines
    ∙ flat_map-append line_bytes is.front (line ∷ rest)) in
    let parts = length-append (file_bytes is.front) (file_bytes (line ∷ rest)) in
    let two = length-append (line_bytes line) (file_bytes rest) in
    let last = ap length (lines_of-are cut.behind.now).joined in
    let end : place + length (line_bytes line) ≡ next =
    omega (arith, whole, parts, two, last, is.place_is, inside) in
    let ended : AreEnded (is.front ++ line ∷ rest) =
    subst AreEnded is.lines (lines_of-are behind).ended in
    let some = behind-counted is.front line rest ended in
    let standing = file_bytes (cell_lines (shown_cell c.args.are_ended (patches place)
    (line_cell place cut.line))) in
    let left = file_bytes (lines_now (cells_left next rest c.args.are_ended patches added)) in
    let front = file_bytes is.front in
    record {
      so_far =
          ap (λ made. made ++ left)
          (c.in_ok-push_lines.ensures {u = tt}
          ∙ ap (λ cell. c.push.new.self ++ file_bytes (cell_lines cell))
          (c.cell_of.ensures
          ∙ ap (λ patch. shown_cell c.args.are_ended patch (line_cell place cut.line))
          c.get.ensures.value)
          ∙ ap (λ made. made ++ standing)
          (c.in_ok-push.ensures.ok ∙ ap (λ front. c.places.made ++ front) is.bytes))
          ∙ append_assoc (c.places.made ++ front) standing left
          ∙ append_assoc c.places.made front (standing ++ left)
          ∙ ap (λ bytes. c.places.made ++ bytes)
          (sym (ap (λ lines. file_bytes (lines_now
          (cells_left here lines c.args.are_ended patches added))) is.lines
          ∙ standing-cut c.args.are_ended patches here place is.front line rest added
          ended is.place_is
          (λ other low high.
          c.places.invariant.told other low
          (ap (λ places. is_used places other) from
          ∙ or_from (place == other) (is_used later other)
          (ne_eqb place other (λ same. omega (arith, same, high)))
          (up-unused (place + 1) other later up.1 (omega (arith, high)))))
          ∙ ap (λ n. front ++ (standing ++ file_bytes (lines_now
          (cells_left n rest c.args.are_ended patches added)))) end))
          ∙ c.places.invariant.so_far;
      inside = omega (arith, whole, parts, two, last, inside);
      told = λ other low unused.
          c.places.invariant.told other (omega (arith, low, end, is.place_is))
          (ap (λ places. is_used places other) from
          ∙ or_from (place == other) (is_used later other)
          (ne_eqb place other (λ same. omega (arith, same, low, end, some))) unused);
      up = lower 0 (place + 1) later (omega arith) up.1;
    }

-- there is room for all places
pub invariant_of-left : goal.invariant_of-left
invariant_of-left c =
    let size = ap length (ap file_bytes c.of.ensures ∙ (lines_of-are c.places.behind.now).joined) in
    omega (arith, size, c.places.invariant.inside)
