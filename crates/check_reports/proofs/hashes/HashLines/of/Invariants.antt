use Rattle.std.proofs.Common.{◌≡◌, drop, length, take}
use Rattle.account_model.specs.Records.{shadow_format}
use Rattle.acct_tables.specs.NameIndex.{TellsOf, line_names, told}
use Rattle.account_model.specs.Tables.{table_lines}
use Rattle.check_reports.proofs.hashes.HashLines.of.Given as goal

-- the names are those of the lines so far, and the others are left
abbrev pub invariant-lines : goal.invariant-lines
invariant-lines l = record {
  so_far : l.left ≡ drop l.place (table_lines l.file);
  tells : TellsOf (line_names shadow_format (take l.place (table_lines l.file))) (told l.names);
}

abbrev pub decreases-lines : goal.decreases-lines
decreases-lines l = length l.left
