-- The front that a source gives, and what it leaves.
use Rattle.std.proofs.Common.{◌≡◌, ℕ, zero, suc, ◌+◌, ◌-◌, ◌<◌, List, [], ◌∷◌, ◌++◌, length, take, drop, refl, sym, ◌∙◌, ap, arith}
use Rattle.std.proofs.lemmas.List.{drop-drop, take_all, length-drop}

-- a list is its front and the rest behind it
front-rest :
    (room : ℕ) (list : List ℕ)
    → list ≡ take room list ++ drop (length (take room list)) list
front-rest zero list = refl
front-rest (suc room) [] = refl
front-rest (suc room) (byte ∷ list) = ap (λ (l : List ℕ). byte ∷ l) (front-rest room list)

-- a front is empty only where nothing is left, if there is room
front-empty : (room : ℕ) (list : List ℕ) → 0 < room → take room list ≡ [] → list ≡ []
front-empty zero list above none = absurd (omega arith)
front-empty (suc room) [] above none = refl
front-empty (suc room) (byte ∷ list) above none = absurd cc

-- the rest of a text is as long as it is
whole_rest : (text : List ℕ) (taken : ℕ)
    → take (length text - taken) (drop taken text) ≡ drop taken text
whole_rest text taken =
    take_all (length text - taken) (drop taken text) (omega (arith, length-drop taken text))

-- What a take says: what was left is the piece with what is left behind it, and an empty piece is
-- the end where there was room. The piece is the front of the rest.
pub takes-front : (text rest piece : List ℕ) (taken room : ℕ)
    → rest ≡ text
    → piece ≡ take room (take (length rest - taken) (drop taken rest))
    → (drop taken text ≡ piece ++ drop (taken + length piece) text)
    × (0 < room → piece ≡ [] → drop taken text ≡ [])
takes-front text rest piece taken room same is =
    let front : piece ≡ take room (drop taken text) =
    is ∙ ap (λ (t : List ℕ). take room (take (length t - taken) (drop taken t))) same
    ∙ ap (take room) (whole_rest text taken) in (
      front-rest room (drop taken text)
          ∙ ap (λ (p : List ℕ). p ++ drop (length p) (drop taken text)) (sym front)
          ∙ ap (λ (l : List ℕ). piece ++ l) (drop-drop (length piece) taken text),
      λ above none. front-empty room (drop taken text) above (sym front ∙ none),
    )
