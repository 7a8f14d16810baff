use Rattle.std.proofs.Common.{◌≡◌, ◌∙◌, ◌+◌, ◌-◌, [], ◌∷◌, ◌++◌, append-nil, append_assoc, length, ap, sym, subst, arith}
use Rattle.acct_text.specs.Lines.{AreEnded, file_bytes, line_bytes, lines_of}
use Rattle.acct_text.proofs.LinesLaws.{lines_of-are}
use Rattle.acct_tables.specs.Marks.{marks_in}
use Rattle.acct_tables.specs.SeenLines.{seen_line}
use Rattle.acct_tables.proofs.MarkedPlaces.{AreFrom, behind-size, marked-all, marked-behind, marked-here, marked-none}
use Rattle.acct_tables.proofs.marked.marked_in.Goals as goal

-- the lines in front have no mark
pub lines-init : goal.lines-init
lines-init c =
    let marks = marks_in c.args.marks in
    let text = c.args.text.now in
    let rest = c.from_marks-behind.result.now in
    let marked = c.from_marks-behind.ensures in
    let size = behind-size marked.front text rest marked.joined in
    record {
      here = c.of-left.ensures;
      inside = omega (arith, size);
      so_far = λ more are.
          subst (λ places. AreFrom marks 0 (lines_of text) (places ++ more))
          (sym c.new-places.ensures.items)
          (marked-behind marks 0 (length text - length rest) text rest more (omega (arith, size))
          marked are);
    }

-- one line has one, and those between it and the next have none
pub lines-preserved : goal.lines-preserved
lines-preserved c =
    let marks = marks_in c.args.marks in
    let text = c.args.text.now in
    let behind = c.lines.behind.now in
    let at = length text - length behind in
    let line = seen_line c.in-Some._line in
    let rest = c.take.new.self in
    let bytes = c.bytes.result.now in
    let next = c.from_marks-behind-in-Some.result.now in
    let marked = c.from_marks-behind-in-Some.ensures in
    let begins : lines_of behind ≡ line ∷ rest =
    sym c.lines.invariant.here ∙ c.in-Some.ensures.taken in
    let first : length behind ≡ length (file_bytes (line ∷ [])) + length bytes =
    behind-size (line ∷ []) behind bytes
    (begins ∙ ap (λ lines. line ∷ lines) (sym c.bytes.ensures.lines)) in
    let size : length (file_bytes (line ∷ [])) ≡ length (line_bytes line) =
    ap length (append-nil (line_bytes line)) in
    let later = behind-size marked.front bytes next marked.joined in
    let inside = c.lines.invariant.inside in
    record {
      here = c.of-left-in-Some.ensures;
      inside = omega (arith, first, later, inside);
      so_far = λ more are.
          subst (AreFrom marks 0 (lines_of text))
          (sym (append_assoc c.lines.places.items (at ∷ []) more)
          ∙ ap (λ places. places ++ more) (sym c.in_ok-push.ensures.items))
          (c.lines.invariant.so_far (at ∷ more)
          (subst (λ lines. AreFrom marks at lines (at ∷ more)) (sym begins)
          (marked-here marks at line rest more
          (subst AreEnded begins (lines_of-are behind).ended)
          (subst (λ lines. AreFrom marks (at + length (line_bytes line)) lines more)
          c.bytes.ensures.lines
          (marked-behind marks (at + length (line_bytes line))
          (length text - length next) bytes next
          more (omega (arith, first, size, later, inside)) marked are)))));
    }

-- no line is left
pub returns : goal.returns
returns c =
    let marks = marks_in c.args.marks in
    let text = c.args.text.now in
    let at = length text - length c.lines.behind.now in
    marked-all marks (lines_of text) c.lines.places.items
    (subst (AreFrom marks 0 (lines_of text)) (append-nil c.lines.places.items)
    (c.lines.invariant.so_far []
    (subst (λ lines. AreFrom marks at lines [])
    (sym (sym c.lines.invariant.here ∙ c.in_default.ensures.taken)) (marked-none marks at))))
