use Rattle.std.proofs.Common.{◌∙◌, ◌+◌, sym, ap, [], ◌∷◌, List, length, drop, slice_get, arith, length-drop}
use Rattle.std.specs.List.{flat_map}
use Rattle.std.specs.Option.{option_copied}
use Rattle.std.specs.Slice.Iter.{iter_rest}
use Rattle.acct_text.specs.Bytes.{Bytes}
use Rattle.acct_outside.specs.Pieces.{pieces_of}
use Rattle.intent_file.specs.Intent.{header_of}
use Rattle.intent_file.specs.Pieces.{intent_lines, in_turn}
use Rattle.intent_file.proofs.PieceLemmas.{piece-found, piece-passed, turn-start, turn-end, last-piece, lines-length}
use Rattle.intent_file.proofs.intent.Intent.piece.Goals as goal

pub tables-init : goal.tables-init
tables-init c =
    let intent = c.args.self.now in
    let rest = c.iter-lines.ensures.rest ∙ (c.deref.ensures.value
    ∙ (c.self.invariant.1 ∙ ap intent_lines c.self.view_is)) in (
      ap (λ (lines : List Bytes). slice_get (flat_map pieces_of (in_turn lines intent.tables))
          c.args.place) rest,
      ap length rest ∙ lines-length (header_of intent.version intent.number intent.tables)
          intent.tables,
    )

pub returns-in-Ok : goal.returns-in-Ok
returns-in-Ok c =
    let intent = c.args.self.now in
    let items = c.deref-table-items.ensures.value ∙ ap (λ i. i.tables) c.self.view_is in
    let steps = c.in_ok-line.ensures.steps in
    let more : List Bytes = in_turn (iter_rest c.next.new.self)
    (drop (c.tables.table-index + 1) intent.tables) in
    let start = turn-start (iter_rest c.tables.lines) (iter_rest c.next.new.self) intent.tables
    c.deref-table-items.result.now c.tables.place c.tables.table-index c.in_ok-line.line.now
    c.table-item.result _ items steps c.tables-test.true c.table-item.is c.tables.invariant.0 in
    sym (piece-found c.in_ok-line.line.now (c.table-item.result.bytes ∷ more) c.tables.place
    c.in-Ok.piece.now
    (ap (λ (text : Bytes). slice_get (pieces_of text) c.tables.place) (sym c.as_slice.ensures)
    ∙ c.in-Ok.ensures.piece))
    ∙ start

pub returns-in-Ok-piece_or_rest : goal.returns-in-Ok-piece_or_rest
returns-in-Ok-piece_or_rest c =
    let intent = c.args.self.now in
    let items = c.deref-table-items.ensures.value ∙ ap (λ i. i.tables) c.self.view_is in
    let steps = c.in_ok-line.ensures.steps in
    let more : List Bytes = in_turn (iter_rest c.next.new.self)
    (drop (c.tables.table-index + 1) intent.tables) in
    let start = turn-start (iter_rest c.tables.lines) (iter_rest c.next.new.self) intent.tables
    c.deref-table-items.result.now c.tables.place c.tables.table-index c.in_ok-line.line.now
    c.table-item.result _ items steps c.tables-test.true c.table-item.is c.tables.invariant.0 in
    let passed = piece-passed c.in_ok-line.line.now (c.table-item.result.bytes ∷ more)
    c.tables.place c.in-Err.rest
    (c.in-Err.ensures.rest ∙ ap (λ (text : Bytes). length (pieces_of text) + c.in-Err.rest)
    c.as_slice.ensures) in
    sym (piece-found c.table-item.result.bytes more c.in-Err.rest c.in-Ok-piece_or_rest.piece.now
    (ap (λ (text : Bytes). slice_get (pieces_of text) c.in-Err.rest)
    (sym c.as_slice-in-tables.ensures)
    ∙ c.in-Ok-piece_or_rest.ensures.piece))
    ∙ (sym passed ∙ start)

pub tables-preserved : goal.tables-preserved
tables-preserved c =
    let intent = c.args.self.now in
    let items = c.deref-table-items.ensures.value ∙ ap (λ i. i.tables) c.self.view_is in
    let steps = c.in_ok-line.ensures.steps in
    let more : List Bytes = in_turn (iter_rest c.next.new.self)
    (drop (c.tables.table-index + 1) intent.tables) in
    let start = turn-start (iter_rest c.tables.lines) (iter_rest c.next.new.self) intent.tables
    c.deref-table-items.result.now c.tables.place c.tables.table-index c.in_ok-line.line.now
    c.table-item.result _ items steps c.tables-test.true c.table-item.is c.tables.invariant.0 in
    let passed = piece-passed c.in_ok-line.line.now (c.table-item.result.bytes ∷ more)
    c.tables.place c.in-Err.rest
    (c.in-Err.ensures.rest ∙ ap (λ (text : Bytes). length (pieces_of text) + c.in-Err.rest)
    c.as_slice.ensures) in
    let behind = piece-passed c.table-item.result.bytes more c.in-Err.rest
    c.in-Err-piece_or_rest.rest
    (c.in-Err-piece_or_rest.ensures.rest
    ∙ ap (λ (text : Bytes). length (pieces_of text) + c.in-Err-piece_or_rest.rest)
    c.as_slice-in-tables.ensures) in
    let size = ap length items in
    let within = c.tables-test.true in
    let lines = ap length steps in
    let even = c.tables.invariant.1 in
    let old = length-drop c.tables.table-index intent.tables in
    let new = length-drop (c.tables.table-index + 1) intent.tables in
    (sym behind ∙ (sym passed ∙ start), omega (arith, size, within, lines, even, old, new))

pub returns : goal.returns
returns c =
    let intent = c.args.self.now in
    let items = c.deref-table-items.ensures.value ∙ ap (λ i. i.tables) c.self.view_is in
    let size = ap length items in
    let past = c.tables-test.false in
    let steps = c.in_ok-end.ensures.steps in
    let end = turn-end (iter_rest c.tables.lines) intent.tables c.tables.table-index
    c.in_ok-end.end.now c.tables.invariant.1 (omega (arith, size, past))
    (iter_rest c.next-2.new.self) steps in
    ap option_copied c.ok.ensures.value
    ∙ (last-piece c.as_slice-2.result.now c.tables.place c.piece_or_rest-2.result
    c.piece_or_rest-2.ensures.piece c.piece_or_rest-2.ensures.rest
    ∙ (ap (λ (text : Bytes). slice_get (flat_map pieces_of (text ∷ [])) c.tables.place)
    c.as_slice-2.ensures
    ∙ (ap (λ (texts : List Bytes). slice_get (flat_map pieces_of texts) c.tables.place) (sym end)
    ∙ c.tables.invariant.0)))
