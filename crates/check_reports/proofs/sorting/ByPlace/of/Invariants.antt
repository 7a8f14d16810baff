use Rattle.std.proofs.Common.{length}
use Rattle.account_model.specs.Format.{records_of}
use Rattle.account_model.specs.Tables.{table_lines}
use Rattle.check_reports.specs.Sorted.{IsOrderOf}
use Rattle.check_reports.proofs.RecordWalk.{HaveTaken}
use Rattle.check_reports.proofs.sorting.ByPlace.of.Given as goal

-- the order is that of the records so far
abbrev pub invariant-lines : goal.invariant-lines
invariant-lines g l =
    let format = g.M.TableRecord.format in
    record {
      taken : HaveTaken (table_lines l.main) l.left;
      so_far : IsOrderOf format (records_of format taken.done) l.order;
    }

abbrev pub decreases-lines : goal.decreases-lines
decreases-lines g l = length l.left
