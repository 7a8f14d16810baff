use Rattle.std.proofs.Common.{◌∙◌, ◌++◌, ap, sym, append_assoc, arith, take}
use Rattle.std.specs.Prelude.{flat_map}
use Rattle.account_model.specs.Records.{subid_format}
use Rattle.account_model.specs.Written.{IsWritten}
use Rattle.line_edits.specs.SubidChanges.{subid_becomes}
use Rattle.carried_tables.proofs.RangeCuts.{flat-more, item-at}
use Rattle.carried_tables.proofs.cut_ranges.push_changed.Goals as goal

pub push_becoming-requires : goal.push_becoming-requires
push_becoming-requires c =
    item-at (IsWritten subid_format) c.args.ranges.now c.pieces.range-index c.range-item.result
    c.requires (omega arith) c.range-item.is

pub pieces-preserved : goal.pieces-preserved
pieces-preserved c =
    let ranges = c.args.ranges.now in
    let index = c.pieces.range-index in
    let made = flat_map (subid_becomes c.args.change.now) (take index ranges) in
    let more = subid_becomes c.args.change.now c.range-item.result in
    c.in_ok-push_becoming.ensures ∙ ap (λ front. front ++ more) c.pieces.invariant
    ∙ append_assoc c.args.left.now.items made more
    ∙ ap (λ back. c.args.left.now.items ++ back)
    (sym (flat-more (subid_becomes c.args.change.now) ranges index c.range-item.result (omega arith)
    c.range-item.is))
