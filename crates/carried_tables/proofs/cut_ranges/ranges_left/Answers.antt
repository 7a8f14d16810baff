use Rattle.std.proofs.Common.{◌≡◌, ◌∙◌, ◌+◌, [], drop, map, sym, ap, subst, arith}
use Rattle.std.specs.List.{AllByRecursion}
use Rattle.std.proofs.Math.ListN.{drop_of_length-le}
use Rattle.account_model.specs.Edits.{edited_by, printed_line}
use Rattle.account_model.specs.RecordEdits.{IsWrittenEdit, records_edited}
use Rattle.account_model.specs.Records.{subid_format}
use Rattle.account_model.specs.Written.{IsWritten}
use Rattle.account_model.proofs.SameLaws.{subid-tells}
use Rattle.line_edits.specs.SeenEdits.{seen_edit, seen_edits}
use Rattle.line_edits.specs.SubidChanges.{subid_becomes}
use Rattle.line_edits.proofs.EditLists.{edit-at, seen-from}
use Rattle.carried_tables.specs.RangeRemovals.{MakesRecords}
use Rattle.carried_tables.proofs.RangeCuts.{printed-edited, written-edited}
use Rattle.carried_tables.proofs.cut_ranges.ranges_left.Goals as goal

pub ranges_after-requires-clause-records : goal.ranges_after-requires-clause-records
ranges_after-requires-clause-records c =
    edit-at subid_becomes MakesRecords c.args.edits.now c.edits.edit-index c.edit-item.result
    c.requires.records (omega arith) c.edit-item.is

pub edits-preserved : goal.edits-preserved
edits-preserved c =
    let edits = c.args.edits.now in
    let index = c.edits.edit-index in
    let edit = c.edit-item.result in
    let seen = seen_edit subid_becomes edit in
    let ranges = c.edits.ranges.items in
    let made : c.in_ok-ranges.ranges.items ≡ records_edited subid_format ranges seen =
    c.in_ok-ranges.ensures
    ∙ ap (λ items. records_edited subid_format items seen) c.deref.ensures.value
    in
    let makes =
    edit-at subid_becomes MakesRecords edits index edit c.requires.records (omega arith)
    c.edit-item.is in
    let written =
    edit-at subid_becomes (IsWrittenEdit subid_format) edits index edit c.requires.written
    (omega arith) c.edit-item.is in
    record {
      made =
          ap (edited_by subid_format (seen_edits subid_becomes (drop (index + 1) edits)))
          (ap (map (printed_line subid_format)) made
          ∙ sym (printed-edited subid_format ranges seen subid-tells makes
          c.edits.invariant.written))
          ∙ sym (ap (λ left. edited_by subid_format left (map (printed_line subid_format) ranges))
          (seen-from subid_becomes edits index edit (omega arith) c.edit-item.is))
          ∙ c.edits.invariant.made;
      written = subst (AllByRecursion (IsWritten subid_format)) (sym made)
          (written-edited subid_format ranges seen makes written c.edits.invariant.written);
    }

pub returns : goal.returns
returns c =
    let edits = c.args.edits.now in
    let none : drop c.edits.edit-index edits ≡ [] = drop_of_length-le edits (omega arith) in
    ap (λ left. edited_by subid_format (seen_edits subid_becomes left)
    (map (printed_line subid_format) c.edits.ranges.items)) (sym none)
    ∙ c.edits.invariant.made
