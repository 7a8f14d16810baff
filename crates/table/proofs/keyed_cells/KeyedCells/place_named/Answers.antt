use Rattle.std.proofs.Common.{◌∙◌, ap, sym}
use Rattle.std.specs.Prelude.{find, option_map}
use Rattle.account_model.specs.Format.{is_named}
use Rattle.table.specs.TableCells.{cells_there, has_named_in}
use Rattle.table.proofs.PutRecords.{first-reached, has-by}
use Rattle.table.proofs.keyed_cells.KeyedCells.place_named.Goals as goal

-- the first cell with a record of the name is reached
pub returns-clause-first : goal.returns-clause-first
returns-clause-first g c =
    c.first_named_of.ensures
    ∙ ap (option_map (λ cell. cell.place))
    (ap (λ places. find (has_named_in g.R.TableRecord.format c.args.name.now)
    (cells_there c.args.self.now places)) c.as_slice.ensures.value
    ∙ first-reached g.R.TableRecord.format (is_named g.R.TableRecord.format c.args.name.now)
    c.args.self.now
    c.in_ok-places.places.items c.in_ok-places.ensures)

-- and told by its place
pub returns-clause-has : goal.returns-clause-has
returns-clause-has g c =
    sym (has-by g.R.TableRecord.format c.args.name.now c.args.self.now c.first_named_of.result
    (returns-clause-first g c))
