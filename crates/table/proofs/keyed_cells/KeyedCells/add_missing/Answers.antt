use Rattle.std.proofs.Common.{◌≡◌, ◌∙◌, true, false, sym, ap}
use Rattle.std.specs.Prelude.{if◌then◌else◌}
use Rattle.std.proofs.lemmas.Result.{on_ok_weaker}
use Rattle.account_model.specs.Edits.{with_line}
use Rattle.account_model.specs.Format.{has_named, records_of}
use Rattle.acct_tables.specs.Cells.{lines_now}
use Rattle.table.proofs.keyed_cells.KeyedCells.add_missing.Goals as goal

-- a record has the name
pub returns-then-has : goal.returns-then-has
returns-then-has g c =
    let format = g.R.TableRecord.format in
    let item = c.args.item.now in
    let lines = lines_now c.args.self.now in
    let named : has_named format (format.name item) (records_of format lines) ≡ true =
    ap (λ name. has_named format name (records_of format lines)) (sym c.name.ensures)
    ∙ sym c.has.ensures ∙ c.if-has.true in
    sym (ap (λ is. if is then lines else with_line (format.print item) lines) named)

-- none has
pub returns : goal.returns
returns g c =
    let format = g.R.TableRecord.format in
    let item = c.args.item.now in
    let lines = lines_now c.args.self.now in
    let named : has_named format (format.name item) (records_of format lines) ≡ false =
    ap (λ name. has_named format name (records_of format lines)) (sym c.name.ensures)
    ∙ sym c.has.ensures ∙ c.if-has.false in
    on_ok_weaker c.add.result
    (λ made. made ∙ sym (ap (λ is. if is then lines
    else with_line (format.print item) lines) named))
    c.add.ensures
