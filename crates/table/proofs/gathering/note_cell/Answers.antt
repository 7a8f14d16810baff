use Rattle.std.proofs.Common.{◌∙◌, refl, sym, ap, subst}
use Rattle.std.specs.List.{AllByRecursion}
use Rattle.acct_tables.specs.KeyPlaces.{has_key, told_places}
use Rattle.table.specs.Keys.{keys_in}
use Rattle.table.specs.TableCells.{HoldsOf, IsKeyed}
use Rattle.table.proofs.gathering.note_cell.Goals as goal

-- the text that is taken is told of
pub texts-preserved : goal.texts-preserved
texts-preserved g c = record {
  widens = λ key place told.
      c.note_line.ensures.kept key place (c.texts.invariant.widens key place told);
  told = λ after widens left.
      c.texts.invariant.told after
      (λ key place told. widens key place (c.note_line.ensures.kept key place told))
      (subst (AllByRecursion (HoldsOf g.R.TableRecord.format
      (IsKeyed g.R.KeyedRecord.keys after c.args.cell.place)))
      (sym c.in-Some.ensures.taken) (
        (λ r reads key has.
            widens key c.args.cell.place (c.note_line.ensures.noted key c.args.cell.place
            (ap (λ found. has_key key (keys_in g.R.KeyedRecord.keys found)) reads ∙ has) refl)),
        left,
      ));
}

-- no text is left
pub returns-clause-told : goal.returns-clause-told
returns-clause-told g c =
    c.texts.invariant.told (told_places c.texts.keys) (λ key place told. told)
    (subst (AllByRecursion (HoldsOf g.R.TableRecord.format
    (IsKeyed g.R.KeyedRecord.keys (told_places c.texts.keys) c.args.cell.place)))
    (sym c.in_default.ensures.taken) tt)
