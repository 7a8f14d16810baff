use Rattle.std.proofs.Common.{◌∙◌, ap, refl, sym, subst}
use Rattle.std.specs.Prelude.{IfSome}
use Rattle.account_model.specs.Records.{subid_format}
use Rattle.account_model.specs.FreeRange.{free_range}
use Rattle.subid_ranges.specs.RangeNumbers.{AreNumbersOf}
use Rattle.account_model.specs.Tables.{table_lines}
use Rattle.acct_tables.proofs.FileLemmas.{records-in}
use Rattle.carried_tables.specs.RangeNumbers.{AreNumbersIn}
use Rattle.carried_tables.proofs.range_table.RangeTable.free_gap.Goals as goal

-- the numbers are those of the file's ranges
pub returns-in-Some : goal.returns-in-Some
returns-in-Some c =
    let file = c.self.inside.table in
    c.free_gap.ensures (table_lines file)
    (subst (λ ranges. AreNumbersOf ranges c.in-Some.numbers)
    (sym (records-in subid_format (table_lines file) file refl))
    (subst (λ found. IfSome found (AreNumbersIn file)) c.in-Some.is
    c.self.invariant))
    ∙ ap (free_range c.args.min c.args.max c.args.count)
    (records-in subid_format (table_lines file) c.args.self.now (ap table_lines c.self.view_is))
