use Rattle.std.proofs.Common.{◌∙◌, sym, ap, subst}
use Rattle.std.specs.Prelude.{Some, nat_eq}
use Rattle.std.proofs.lemmas.List.Filters.{dedup_is}
use Rattle.acct_tables.specs.KeyPlaces.{ArePlacesOf, listed_places, told_places}
use Rattle.acct_tables.proofs.FoundPlaces.{found-places}
use Rattle.acct_tables.proofs.key_places.KeyPlaces.places.Goals as goal

-- the places of the list, in their order
pub returns : goal.returns
returns c =
    let told = told_places c.args.self.now in
    let noted = c.in_ok-places.places.items in
    let sorted = c.sort_unstable.new.self.items in
    let same = c.in_ok-places.ensures {u = tt}
    ∙ ap (λ index. listed_places index.1 c.in-Some.list) c.self.view_is in
    subst (ArePlacesOf told c.args.key)
    (sym (dedup_is nat_eq _ _ c.dedup.ensures.filtered))
    (found-places told c.args.key noted sorted (c.in-Some.ensures.told ∙ ap Some (sym same))
    c.sort_unstable.ensures.permutation c.sort_unstable.ensures.sorted)
