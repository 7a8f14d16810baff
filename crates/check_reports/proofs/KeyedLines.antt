-- Claim: lines stay where no text is left for them (`placed-none`), and behind the last line all
-- texts are placed (`placed-end`).
use Rattle.std.proofs.Common.{◌≡◌, ◌∙◌, ℕ, List, [], ◌∷◌, ◌++◌, refl, sym, ap, append-nil, append_assoc}
use Rattle.std.specs.Prelude.{None, slice_get}
use Rattle.acct_text.specs.Lines.{Line, file_bytes, line_bytes}
use Rattle.account_model.specs.Edits.{Keyed, in_places}
use Rattle.account_model.specs.Format.{Format}

-- without texts all lines stay
none-placed :
    {R : Type 0} (format : Format R) (lines : List Line) → in_places format [] lines ≡ lines
none-placed format [] = refl
none-placed format (line ∷ rest) = refl

-- so the next line stays where no text is left
pub placed-none :
    {R : Type 0} (format : Format R) (line : Line) (rest : List Line) (made new : List ℕ)
    (all : List Keyed)
    → all ≡ []
    → new ≡ made ++ line_bytes line
    → new ++ file_bytes (in_places format all rest)
    ≡ made ++ file_bytes (in_places format all (line ∷ rest))
placed-none format line rest made new all none pushed =
    ap (λ all. new ++ file_bytes (in_places format all rest)) none
    ∙ ap (λ lines. new ++ file_bytes lines) (none-placed format rest)
    ∙ ap (λ front. front ++ file_bytes rest) pushed
    ∙ append_assoc made (line_bytes line) (file_bytes rest)
    ∙ ap (λ all. made ++ file_bytes (in_places format all (line ∷ rest))) (sym none)

-- behind the last line all are placed
pub placed-end :
    {R : Type 0} (format : Format R) (texts : List Keyed) (left : List Line) (made total : List ℕ)
    → left ≡ []
    → made ++ file_bytes (in_places format texts left) ≡ total
    → made ≡ total
placed-end format texts left made total none so_far =
    sym (append-nil made)
    ∙ ap (λ lines. made ++ file_bytes (in_places format texts lines)) (sym none)
    ∙ so_far

-- a list without a first has nothing
pub none-found : {X : Type 0} (xs : List X) → None ≡ slice_get xs 0 → xs ≡ []
none-found [] is = refl
none-found (x ∷ xs) is = absurd cc
