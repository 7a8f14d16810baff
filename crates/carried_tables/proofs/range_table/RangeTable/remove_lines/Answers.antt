use Rattle.std.specs.Prelude.{None}
use Rattle.carried_tables.proofs.OwnerLemmas.{removal-written}
use Rattle.carried_tables.proofs.range_table.RangeTable.remove_lines.Goals as goal

-- the removal prints nothing new
pub edit_lines-requires-clause-written : goal.edit_lines-requires-clause-written
edit_lines-requires-clause-written c = (removal-written c.args.owner None, tt)
