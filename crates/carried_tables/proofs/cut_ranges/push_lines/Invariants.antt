use Rattle.std.proofs.Common.{◌≡◌, ◌++◌, take}
use Rattle.std.specs.Prelude.{flat_map}
use Rattle.acct_text.specs.Lines.{line_bytes}
use Rattle.account_model.specs.declared.records.SubidRecord.{SubidRecord}
use Rattle.account_model.specs.Edits.{printed_line}
use Rattle.account_model.specs.Records.{subid_format}
use Rattle.carried_tables.proofs.cut_ranges.push_lines.Given as goal

-- the lines of the ranges so far are added
abbrev pub invariant-pieces : goal.invariant-pieces
invariant-pieces l =
    let bytes = λ (range : SubidRecord). line_bytes (printed_line subid_format range) in
    l.made ≡ l.initial.made ++ flat_map bytes (take l.range-index l.ranges)
