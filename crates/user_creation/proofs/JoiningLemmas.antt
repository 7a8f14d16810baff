-- Claim: scripts in the order of a list, from a place on, are that of the item there, and those of the
-- items behind it (`order-on`). Way: edits behind one another are in one order (`followed-assoc`).
use Rattle.std.proofs.Common.{◌≡◌, ℕ, ◌+◌, ◌<◌, List, ◌∷◌, length, drop, get_or, sym, ap, ◌∙◌}
use Rattle.std.specs.Prelude.{map}
use Rattle.std.proofs.lemmas.List.{drop_more}
use Rattle.account_model.specs.Tables.{Script, followed_by, in_order}
use Rattle.account_model.proofs.ScriptLaws.{followed-assoc}

-- one item on
pub order-on :
    {X : Type 0} (f : X → Script) (items : List X) (place : ℕ) (item : X) (old new all : Script)
    → place < length items
    → item ≡ get_or items place item
    → new ≡ followed_by old (f item)
    → followed_by old (in_order (map f (drop place items))) ≡ all
    → followed_by new (in_order (map f (drop (place + 1) items))) ≡ all
order-on f items place item old new all inside is also before =
    let behind = drop (place + 1) items in
    ap (λ script. followed_by script (in_order (map f behind))) also
    ∙ followed-assoc old (f item) (in_order (map f behind))
    ∙ ap (λ left. followed_by old (in_order (map f left)))
    (ap (λ first. first ∷ behind) is ∙ sym (drop_more items place item inside))
    ∙ before
