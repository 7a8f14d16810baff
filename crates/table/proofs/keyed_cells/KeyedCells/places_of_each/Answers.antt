use Rattle.std.proofs.Common.{◌≡◌, ◌∙◌, ◌+◌, [], ◌∷◌, ◌++◌, map, take, ap, sym, subst}
use Rattle.std.specs.Prelude.{nat_eq}
use Rattle.std.specs.Vec.{vec_items}
use Rattle.std.specs.List.{AllByRecursion}
use Rattle.std.proofs.lemmas.List.{map_more, take_all}
use Rattle.std.proofs.lemmas.List.Filters.{dedup_is}
use Rattle.account_model.specs.Format.{is_named}
use Rattle.account_model.specs.Text.{is_listed}
use Rattle.acct_tables.specs.Cells.{ArePlaced}
use Rattle.table.specs.TableCells.{IsSound, Reaches, ReachesNames}
use Rattle.table.proofs.ReachedNames.{names-more, names-sorted}
use Rattle.table.proofs.keyed_cells.KeyedCells.places_of_each.Goals as goal

-- those of the next name are behind the others
pub names-preserved : goal.names-preserved
names-preserved g c =
    let format = g.R.TableRecord.format in
    let cells = c.args.self.now in
    let names = c.args.names.now in
    let index = c.names.name-index in
    let name = c.name-item.result in
    let before = map vec_items (take index names) in
    let places = c.names.places.items in
    let found = c.in_ok-found.found.items in
    let listed : map vec_items (take (index + 1) names) ≡ before ++ vec_items name ∷ [] =
    map_more vec_items names index name c.names-test.true
    ∙ ap (λ item. before ++ vec_items item ∷ []) (sym c.name-item.is) in
    let both : c.extend_from_slice.new.self.items ≡ places ++ found =
    c.in_ok-extend_from_slice.ensures.items ∙ ap (λ more. places ++ more) c.deref.ensures.value in
    subst (λ listed. ReachesNames format listed cells c.extend_from_slice.new.self.items)
    (sym listed)
    (subst (ReachesNames format (before ++ vec_items name ∷ []) cells) (sym both)
    (names-more format cells before (vec_items name) places found c.names.invariant
    (subst (λ name. Reaches format (is_named format name) cells found) c.as_slice.ensures.value
    c.in_ok-found.ensures)))

-- sorted and each once they reach the same
pub returns : goal.returns
returns g c =
    let format = g.R.TableRecord.format in
    let cells = c.args.self.now in
    let names = c.args.names.now in
    let index = c.names.name-index in
    let places = c.names.places.items in
    subst (Reaches format (λ r. is_listed (format.name r) (map vec_items names)) cells)
    (sym (dedup_is nat_eq _ _ c.dedup.ensures.filtered))
    (names-sorted format cells (map vec_items names) places c.sort_unstable.new.self.items
    (subst (λ taken. ReachesNames format (map vec_items taken) cells places)
    (take_all index names c.names-test.false) c.names.invariant)
    c.sort_unstable.ensures.permutation c.sort_unstable.ensures.sorted
    (subst (AllByRecursion IsSound) c.self.view_is c.self.invariant.sound)
    (subst ArePlaced c.self.view_is c.self.invariant.placed))
