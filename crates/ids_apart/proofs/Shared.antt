-- Where an ID isn't shared: `-o` isn't given, or names another ID (`unshared`).
use Rattle.std.proofs.Common.{◌≡◌, ℕ, Bool, true, false, ◌&&◌, sym, ◌∙◌, refl}
use Rattle.std.specs.Prelude.{◌==◌}
use Rattle.std.proofs.lemmas.Bool.{eq-eqb, true≢false}

-- the ID that is given isn't shared, so `-o` isn't given
pub unshared :
    (with_o : Bool) (given id : ℕ)
    → given ≡ id
    → (with_o && (given == id)) ≡ false
    → with_o ≡ false
unshared true given id same shares = absurd (true≢false (sym (eq-eqb given id same) ∙ shares))
unshared false given id same shares = refl
