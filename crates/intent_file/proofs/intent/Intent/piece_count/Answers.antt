use Rattle.std.proofs.Common.{◌∙◌, ◌+◌, ap, sym, List, length, arith}
use Rattle.std.specs.List.{sum_by}
use Rattle.std.proofs.lemmas.List.{take_all}
use Rattle.acct_text.specs.Bytes.{Bytes}
use Rattle.acct_outside.specs.Pieces.{piece_count}
use Rattle.intent_file.specs.Intent.{NewTable, header_of, is_allowed}
use Rattle.intent_file.specs.Pieces.{intent_lines}
use Rattle.intent_file.proofs.PieceLemmas.{few-lines, pieces-counted}
use Rattle.intent_file.proofs.intent.Intent.piece_count.Goals as goal

pub overflow_add-count : goal.overflow_add-count
overflow_add-count c =
    let few = few-lines c.args.self.now (ap is_allowed (sym c.self.view_is) ∙ c.self.invariant.0) in
    let items = ap length (c.deref-line-items.ensures.value
    ∙ (c.self.invariant.1 ∙ ap intent_lines c.self.view_is)) in
    let within = c.loop-line-test.true in
    let more = c.piece_count-count.ensures.few in
    let count = c.loop-line.invariant.1 in
    let lines = few.0 in
    omega (arith, items, within, more, count, lines)

pub loop-table-init : goal.loop-table-init
loop-table-init c =
    let few = few-lines c.args.self.now (ap is_allowed (sym c.self.view_is) ∙ c.self.invariant.0) in
    let items = ap length (c.deref-line-items.ensures.value
    ∙ (c.self.invariant.1 ∙ ap intent_lines c.self.view_is)) in
    let past = c.loop-line-test.false in
    let end = c.loop-line.auto.line-index-end in
    let count = c.loop-line.invariant.1 in
    let lines = few.0 in
    let all = c.loop-line.invariant.0 ∙ ap (λ (some : List Bytes). sum_by piece_count some)
    (take_all c.loop-line.line-index (intent_lines c.args.self.now)
    (omega (arith, items, past))) in
    (omega (arith, all), omega (arith, items, end, count, lines))

pub overflow_add-count-in-loop-table : goal.overflow_add-count-in-loop-table
overflow_add-count-in-loop-table c =
    let few = few-lines c.args.self.now (ap is_allowed (sym c.self.view_is) ∙ c.self.invariant.0) in
    let items = ap length (c.deref-table-items.ensures.value
    ∙ ap (λ intent. intent.tables) c.self.view_is) in
    let within = c.loop-table-test.true in
    let more = c.piece_count-count-in-loop-table.ensures.few in
    let count = c.loop-table.invariant.1 in
    let tables = few.1 in
    omega (arith, items, within, more, count, tables)

pub returns : goal.returns
returns c =
    let intent = c.args.self.now in
    let items = ap length (c.deref-table-items.ensures.value
    ∙ ap (λ intent. intent.tables) c.self.view_is) in
    let past = c.loop-table-test.false in
    c.loop-table.invariant.0
    ∙ (ap (λ (tables : List NewTable). sum_by piece_count (intent_lines intent)
    + sum_by (λ new. piece_count new.bytes) tables)
    (take_all c.loop-table.table-index intent.tables (omega (arith, items, past)))
    ∙ sym (pieces-counted (header_of intent.version intent.number intent.tables) intent.tables))
