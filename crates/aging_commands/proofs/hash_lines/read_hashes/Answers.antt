use Rattle.std.proofs.Common.{◌≡◌, ◌+◌, ◌∙◌, Err, map, length, ap, subst, arith}
use Rattle.std.specs.Prelude.{None, slice_index_or}
use Rattle.std.proofs.lemmas.List.{length-map, drop_all}
use Rattle.acct_text.specs.Bytes.{part_of}
use Rattle.acct_text.specs.Lines.{Line, lines_of}
use Rattle.table_edits.specs.Stopping.{StopsBy}
use Rattle.aging_commands.specs.HashLines.{line_refusal}
use Rattle.aging_commands.specs.declared.hash_lines.NewHash.{NewHash}
use Rattle.acct_tables.proofs.LinesCounted.{lines-counted}
use Rattle.aging_commands.proofs.HashLineLemmas.{bad-by-text, bad_text_from, good-more, handed-stops, read-more, stops-more}
use Rattle.aging_commands.proofs.hash_lines.read_hashes.Goals as goal

pub overflow_add-number : goal.overflow_add-number
overflow_add-number c =
    let input = c.args.input.now in
    let places = c.deref-start-items.result.now in
    let texts = ap length
    (ap (map (part_of input)) c.deref-start-items.ensures.value ∙ c.in_ok-places.ensures.texts) in
    omega (
      arith,
      texts,
      length-map places (part_of input),
      length-map (lines_of input) (λ (line : Line). line.text),
      lines-counted input,
      c.lines.invariant.counted,
    )

pub lines-preserved : goal.lines-preserved
lines-preserved c =
    let input = c.args.input.now in
    let places = c.deref-start-items.result.now in
    let index = c.lines.start-index in
    let whose = c.args.whose in
    let good = subst (λ n. line_refusal whose c.args.tables.now (n + 1)
    (part_of input (slice_index_or places index (0, 0))) ≡ None)
    c.lines.invariant.counted c.in_ok-hash.ensures.refused in
    record {
      read = read-more whose input places index _ _ _ c.lines-test.true c.lines.invariant.read
          (c.in_ok-push_hash.ensures {u = tt}) c.in_ok-hash.ensures.read;
      good = good-more whose input places index c.args.tables.now _ c.lines-test.true
          c.lines.invariant.good good;
      counted = ap (λ n. n + 1) c.lines.invariant.counted;
    }

pub returns-in_err-hash-clause-refused : goal.returns-in_err-hash-clause-refused
returns-in_err-hash-clause-refused c =
    let input = c.args.input.now in
    let places = c.deref-start-items.result.now in
    let index = c.lines.start-index in
    let fault = c.in_err-hash.field-0.0 in
    let text = part_of input (slice_index_or places index (0, 0)) in
    let whose = c.args.whose in
    let files = c.args.tables.now in
    let bad : StopsBy {X = NewHash} (line_refusal whose files (index + 1) text) (Err fault) =
    subst (λ n. StopsBy {X = NewHash} (line_refusal whose files (n + 1) text) (Err fault))
    c.lines.invariant.counted c.in_err-hash.ensures.refused in
    handed-stops _ c.from_residual-in_err-hash.result fault c.from_residual-in_err-hash.ensures.1
    (stops-more whose input places index files _ fault c.lines-test.true
    (bad-by-text whose 1 files (lines_of input) ∙ c.lines.invariant.good) bad)

pub returns-clause-refused : goal.returns-clause-refused
returns-clause-refused c =
    let input = c.args.input.now in
    let places = c.deref-start-items.result.now in
    let index = c.lines.start-index in
    bad-by-text c.args.whose 1 c.args.tables.now (lines_of input) ∙ c.lines.invariant.good
    ∙ ap (λ ps. bad_text_from c.args.whose (index + 1) c.args.tables.now (map (part_of input) ps))
    (drop_all index places (omega arith))
