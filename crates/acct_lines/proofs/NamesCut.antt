-- Claim: a name is listed where it is the first piece of a list (`listed-here`) or among those
-- behind it (`listed-behind`). Way: a name is among pieces where it is the first or among the others.
use Rattle.std.proofs.Common.{◌≡◌, ℕ, Bool, true, false, List, ◌∷◌, [], ◌++◌, refl, append_assoc, ap, sym, ◌∙◌}
use Rattle.std.proofs.lemmas.List.{append-nil}
use Rattle.std.specs.Prelude.{◌||◌, bytes_eq}
use Rattle.account_model.specs.Text.{is_listed, nonempty}

-- a piece that is pushed where it isn't empty moves from the pieces to the names
pub pushed-piece :
    (names new : List (List ℕ)) (piece : List ℕ) (pieces : List (List ℕ))
    → new ≡ names ++ nonempty (piece ∷ [])
    → new ++ nonempty pieces ≡ names ++ nonempty (piece ∷ pieces)
pushed-piece names new [] pieces push = rw push (rw append-nil refl)
pushed-piece names new (byte ∷ piece) pieces push =
    rw push (append_assoc names ((byte ∷ piece) ∷ []) (nonempty pieces))

-- nothing more
or-false : (b : Bool) → (b || false) ≡ b
or-false true = refl
or-false false = refl

-- a name is among the pieces where it is the first or among the others
pub listed-first :
    (name piece : List ℕ) (pieces : List (List ℕ))
    → is_listed name (nonempty (piece ∷ pieces))
    ≡ (is_listed name (nonempty (piece ∷ [])) || is_listed name (nonempty pieces))
listed-first name [] pieces = refl
listed-first name (byte ∷ piece) pieces =
    ap (λ first. first || is_listed name (nonempty pieces))
    (sym (or-false (bytes_eq name (byte ∷ piece))))

-- it is the first
pub listed-here :
    (name piece : List ℕ) (pieces : List (List ℕ))
    → is_listed name (nonempty (piece ∷ [])) ≡ true
    → is_listed name (nonempty (piece ∷ pieces)) ≡ true
listed-here name piece pieces here =
    listed-first name piece pieces
    ∙ ap (λ first. first || is_listed name (nonempty pieces)) here

-- it is among the others, if anywhere
pub listed-behind :
    (name piece : List ℕ) (pieces : List (List ℕ))
    → is_listed name (nonempty (piece ∷ [])) ≡ false
    → is_listed name (nonempty pieces) ≡ is_listed name (nonempty (piece ∷ pieces))
listed-behind name piece pieces other =
    sym (listed-first name piece pieces
    ∙ ap (λ first. first || is_listed name (nonempty pieces)) other)
