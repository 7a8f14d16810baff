-- Where a tool doesn't refuse, each of its refusals is none (`all-none`), also those behind others (`behind-none`).
use Rattle.std.proofs.Common.{◌≡◌, List, [], ◌∷◌, ◌++◌, refl}
use Rattle.std.specs.Prelude.{Option, Some, None, option_map}
use Rattle.std.specs.List.{AllByRecursion}
use Rattle.account_model.specs.Text.{first_some}
use Rattle.account_model.proofs.DeedLaws.{first-none}

-- each is none
pub all-none :
    {X : Type 0} (os : List (Option X))
    → first_some os ≡ None
    → AllByRecursion (λ o. o ≡ None) os
all-none [] none = tt
all-none (o ∷ os) none = let parts = first-none o os none in (parts.0, all-none os parts.1)

-- and so are those behind others
pub behind-none :
    {X : Type 0} (before os : List (Option X))
    → first_some (before ++ os) ≡ None
    → AllByRecursion (λ o. o ≡ None) os
behind-none [] os none = all-none os none
behind-none (o ∷ before) os none = behind-none before os (first-none o (before ++ os) none).1

-- nothing is made of what isn't there
pub map-none : {X Y : Type 0} (f : X → Y) (o : Option X) → option_map f o ≡ None → o ≡ None
map-none f None e = refl
map-none f (Some x) e = cc
