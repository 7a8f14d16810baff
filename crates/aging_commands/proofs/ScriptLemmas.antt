-- Claim: edits that come behind others one after another are those in order (`three-also`,
-- `order-more`). Way: by the laws of scripts that follow one another.
use Rattle.std.proofs.Common.{◌≡◌, ◌∙◌, ◌<◌, ℕ, ◌+◌, List, [], ◌∷◌, length, map, take, get_or, sym, ap, add-one}
use Rattle.std.proofs.Math.Seq.{take-suc}
use Rattle.std.proofs.lemmas.List.{map-append}
use Rattle.account_model.specs.Tables.{Script, followed_by, in_order}
use Rattle.account_model.proofs.ScriptLaws.{followed-assoc, followed-none, order-push}

-- three scripts, one behind the other
pub three-also :
    (a b c before with_a with_b after : Script)
    → with_a ≡ followed_by before a
    → with_b ≡ followed_by with_a b
    → after ≡ followed_by with_b c
    → after ≡ followed_by before (in_order (a ∷ b ∷ c ∷ []))
three-also a b c before with_a with_b after is_a is_b is_c =
    is_c
    ∙ ap (λ s. followed_by s c) (is_b ∙ ap (λ s. followed_by s b) is_a)
    ∙ followed-assoc (followed_by before a) b c
    ∙ followed-assoc before a (followed_by b c)
    ∙ ap (λ s. followed_by before (followed_by a (followed_by b s))) (sym (followed-none c))

-- the script of one element more of a list
pub order-more :
    {X : Type 0} (f : X → Script) (xs : List X) (index : ℕ) (default : X) (before after : Script)
    → index < length xs
    → before ≡ in_order (map f (take index xs))
    → after ≡ followed_by before (f (get_or xs index default))
    → after ≡ in_order (map f (take (index + 1) xs))
order-more f xs index default before after inside so_far more =
    let element = get_or xs index default in
    more ∙ ap (λ s. followed_by s (f element)) so_far
    ∙ sym (order-push (map f (take index xs)) (f element))
    ∙ ap in_order (sym (map-append f (take index xs) (element ∷ [])))
    ∙ ap (λ taken. in_order (map f taken)) (rw add-one (sym (take-suc xs index default inside)))
