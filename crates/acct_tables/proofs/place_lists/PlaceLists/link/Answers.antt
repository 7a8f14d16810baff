use Rattle.std.proofs.Common.{◌≡◌, ℕ, [], ◌∷◌, ◌-◌, ◌+◌, ◌<◌, ◌≤◌, List, get_or, length, reverse, arith, ap, sym, subst}
use Rattle.std.proofs.lemmas.List.{length-reverse}
use Rattle.acct_tables.specs.KeyPlaces.{AreLinked, listed_places}
use Rattle.acct_tables.specs.declared.place_lists.Link.{Link}
use Rattle.acct_tables.proofs.PlaceLists.{listed-from, listed-none}
use Rattle.acct_tables.proofs.place_lists.PlaceLists.link.Goals as goal

-- the list of 0 is empty
pub returns-then-number-eq0-clause-list : goal.returns-then-number-eq0-clause-list
returns-then-number-eq0-clause-list c =
    subst (λ number. listed_places c.args.self.now number ≡ []) (sym c.if-number-eq0.true)
    (listed-none c.args.self.now)

-- and another begins with its link
from-link :
    (links : List Link) (seen : List Link) (number : ℕ) (link : Link)
    → reverse links ≡ seen
    → number ≤ length seen
    → (number ≡ 0 → ⊥)
    → link ≡ get_or links (number - 1) link
    → AreLinked (reverse links)
    → (listed_places seen number ≡ link.place ∷ listed_places seen link.older)
    × (link.older < number)
from-link links seen number link is inside some here linked =
    let count = ap length is in
    let index = number - 1 in
    let within : index < length links =
    omega (arith, inside, count, length-reverse links, some) in
    let counted : ◌≡◌ {A = ℕ} number (index + 1) = omega (arith, some) in
    subst (λ links. (listed_places links number ≡ link.place ∷ listed_places links link.older)
    × (link.older < number)) is
    (listed-from links index link within number counted (sym here) linked)

pub returns-clause-list : goal.returns-clause-list
returns-clause-list c =
    (from-link c.self.inside.links.items c.args.self.now c.args.number c.index.result.now
    c.self.view_is c.requires c.if-number-eq0.false c.index.ensures c.self.invariant.0).0

pub returns-clause-older : goal.returns-clause-older
returns-clause-older c =
    (from-link c.self.inside.links.items c.args.self.now c.args.number c.index.result.now
    c.self.view_is c.requires c.if-number-eq0.false c.index.ensures c.self.invariant.0).1
