-- Claim: a text without one byte at its end is its stem where it ends with that byte
-- (`without_last-same`), and else the text (`without_last-other`). Way: by recursion on the stem.
use Rattle.std.proofs.Common.{◌≡◌, ℕ, true, false, List, [], ◌∷◌, ◌++◌, refl, ap}
use Rattle.std.specs.Prelude.{◌==◌}
use Rattle.account_model.specs.Text.{without_last}

-- the last byte goes where it is the one
pub without_last-same :
    (byte last : ℕ) (stem : List ℕ)
    → (last == byte) ≡ true
    → without_last byte (stem ++ last ∷ []) ≡ stem
without_last-same byte last [] same = rw same refl
without_last-same byte last (first ∷ []) same = rw same refl
without_last-same byte last (first ∷ second ∷ stem) same =
    ap (λ rest. first ∷ rest) (without_last-same byte last (second ∷ stem) same)

-- any other stays
pub without_last-other :
    (byte last : ℕ) (stem : List ℕ)
    → (last == byte) ≡ false
    → without_last byte (stem ++ last ∷ []) ≡ stem ++ last ∷ []
without_last-other byte last [] other = rw other refl
without_last-other byte last (first ∷ []) other = rw other refl
without_last-other byte last (first ∷ second ∷ stem) other =
    ap (λ rest. first ∷ rest) (without_last-other byte last (second ∷ stem) other)
