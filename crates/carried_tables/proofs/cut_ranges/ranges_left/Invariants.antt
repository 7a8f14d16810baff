use Rattle.std.proofs.Common.{◌≡◌, ◌∷◌, [], drop, map}
use Rattle.std.specs.List.{AllByRecursion}
use Rattle.account_model.specs.Edits.{edited_by, printed_line}
use Rattle.account_model.specs.Records.{subid_format}
use Rattle.account_model.specs.Written.{IsWritten}
use Rattle.line_edits.specs.SeenEdits.{seen_edits}
use Rattle.line_edits.specs.SubidChanges.{subid_becomes}
use Rattle.carried_tables.proofs.cut_ranges.ranges_left.Given as goal

-- the edits left make of the lines of these ranges what all make of the first line
abbrev pub invariant-edits : goal.invariant-edits
invariant-edits l = record {
  made : edited_by subid_format (seen_edits subid_becomes (drop l.edit-index l.edits))
      (map (printed_line subid_format) l.ranges.items)
      ≡ edited_by subid_format (seen_edits subid_becomes l.edits)
      (printed_line subid_format l.fn.range ∷ []);
  written : AllByRecursion (IsWritten subid_format) l.ranges.items;
}
