use Rattle.std.proofs.Common.{◌≡◌, true, sym, subst}
use Rattle.std.specs.Prelude.{IfSome}
use Rattle.std.specs.List.{AllByRecursion}
use Rattle.account_model.specs.Ids.{is_used}
use Rattle.acct_tables.specs.KeyPlaces.{told_places}
use Rattle.acct_text.specs.Lines.{lines_of}
use Rattle.acct_text.proofs.LinesLaws.{lines_of-are}
use Rattle.acct_tables.specs.Cells.{ArePlaced, cells_from}
use Rattle.acct_tables.proofs.PlacedCells.{ascend-placed, lines-ascend}
use Rattle.table.specs.TableCells.{IsSound, IsKeyed}
use Rattle.table.proofs.KeptCells.{start-sound}
use Rattle.table.proofs.ReachLemmas.{there-all}
use Rattle.table.proofs.keyed_cells.KeyedCells.of.Goals as goal

-- any record may be anywhere
pub invariant_of-result : goal.invariant_of-result
invariant_of-result g c =
    let told = told_places c.untold.result in
    record {
      sound = subst (AllByRecursion IsSound) (sym c.of.ensures) (start-sound c.args.text);
      placed = subst ArePlaced (sym c.of.ensures)
          (ascend-placed 0 (cells_from 0 (lines_of c.args.text))
          (lines-ascend 0 (lines_of c.args.text) (lines_of-are c.args.text).ended));
      told_of = there-all g.R.TableRecord.format (IsKeyed g.R.KeyedRecord.keys told) c.of.result
          (λ place r key has. subst (λ found. IfSome found (λ places. is_used places place ≡ true))
          (sym (c.untold.ensures key)) tt);
    }
