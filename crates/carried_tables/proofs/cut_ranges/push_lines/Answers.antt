use Rattle.std.proofs.Common.{◌∙◌, ◌++◌, ap, sym, append_assoc, arith, take}
use Rattle.std.specs.Prelude.{flat_map}
use Rattle.std.proofs.lemmas.List.{take_all}
use Rattle.acct_text.specs.Lines.{line_bytes}
use Rattle.account_model.specs.declared.records.SubidRecord.{SubidRecord}
use Rattle.account_model.specs.Edits.{printed_line}
use Rattle.account_model.specs.Records.{subid_format}
use Rattle.carried_tables.proofs.RangeCuts.{bytes-of, flat-more}
use Rattle.carried_tables.proofs.cut_ranges.push_lines.Goals as goal

pub pieces-preserved : goal.pieces-preserved
pieces-preserved c =
    let bytes = λ (range : SubidRecord). line_bytes (printed_line subid_format range) in
    let ranges = c.args.ranges.now in
    let index = c.pieces.range-index in
    let made = flat_map bytes (take index ranges) in
    let more = bytes c.range-item.result in
    c.in_ok-push_line.ensures ∙ ap (λ front. front ++ more) c.pieces.invariant
    ∙ append_assoc c.args.made.now made more
    ∙ ap (λ back. c.args.made.now ++ back)
    (sym (flat-more bytes ranges index c.range-item.result (omega arith) c.range-item.is))

pub returns : goal.returns
returns c =
    let bytes = λ (range : SubidRecord). line_bytes (printed_line subid_format range) in
    let ranges = c.args.ranges.now in
    c.pieces.invariant
    ∙ ap (λ back. c.args.made.now ++ back)
    (ap (flat_map bytes) (take_all c.pieces.range-index ranges (omega arith))
    ∙ bytes-of (printed_line subid_format) ranges)
