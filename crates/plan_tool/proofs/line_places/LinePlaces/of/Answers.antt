use Rattle.std.proofs.Common.{◌≡◌, ◌+◌, ◌++◌, ◌∷◌, [], ◌∙◌, false, ap, arith, get_or, length, subst, sym, take}
use Rattle.std.specs.Prelude.{Some, bytes_eq, if◌then◌else◌}
use Rattle.std.proofs.lemmas.List.{length-map, length-take-le, map-append, take_more}
use Rattle.std.proofs.lemmas.Map.Text.{hash_map_updates_str}
use Rattle.acct_tables.specs.SeenLines.{seen_line}
use Rattle.acct_tables.specs.declared.lines.FileLine.{FileLine}
use Rattle.plan_tool.specs.SeenDiff.{Knows, place_told, seen_lines}
use Rattle.plan_tool.proofs.LinePlaceLemmas.{known-more}
use Rattle.plan_tool.proofs.line_places.LinePlaces.of.Goals as goal

-- a line where there is none
abbrev no_line : FileLine
no_line = record { text = record { ref_ptr = (0, 0); now = [] }; ended = false }

pub loop-place-preserved : goal.loop-place-preserved
loop-place-preserved c =
    let lines = c.args.lines.now in
    let at = c.loop-place.place in
    let line = seen_line (get_or lines at no_line) in
    let old = place_told (record { places = c.loop-place.places }) in
    let new = place_told (record { places = c.insert.new.self }) in
    let noted = hash_map_updates_str line.text c.loop-place.places c.insert.new.self _
    c.in_ok-insert.ensures.updates in
    let count : length (seen_lines (take at lines)) ≡ at =
    length-map (take at lines) seen_line ∙ length-take-le at lines (omega arith) in
    let more : seen_lines (take (at + 1) lines) ≡ seen_lines (take at lines) ++ line ∷ [] =
    ap seen_lines (take_more lines at no_line c.loop-place-test.true)
    ∙ map-append seen_line (take at lines) (get_or lines at no_line ∷ []) in
    subst (λ ls. Knows ls new) (sym more)
    (known-more (seen_lines (take at lines)) line old new c.loop-place.invariant
    (λ text. noted text
    ∙ ap (λ n. if bytes_eq line.text text then Some n else old text) (sym count)))
