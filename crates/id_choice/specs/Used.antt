-- What the contracts of `UsedIds` say: a set of IDs is told by its members, and by no order
-- (useradd(8), groupadd(8)).
use Rattle.std.specs.Prelude.{◌≡◌, ℕ, List, Option, Some, None, if◌then◌else◌}
use Rattle.account_model.specs.declared.settings.Kind.{Kind}
use Rattle.account_model.specs.Ids.{IsGreatest, IsLeast, is_used, chosen_id}

-- the used IDs are exactly those of the list, in any order and any number of times
abbrev pub AreThoseOf : List ℕ → List ℕ → Type 0
AreThoseOf used ids = (id : ℕ) → is_used used id ≡ is_used ids id

-- the value is what each list of exactly the used IDs tells
abbrev pub GivesByUsed : {X : Type 0} → List ℕ → (List ℕ → X) → X → Type 0
GivesByUsed used told value = (ids : List ℕ) → AreThoseOf used ids → value ≡ told ids

-- the preferred ID where it isn't used, and else the choice from the range (useradd(8), `-U`: the
-- user's group takes the UID as its GID where it can)
abbrev pub id_for : Option ℕ → Kind → Option (ℕ × ℕ) → List ℕ → Option ℕ
id_for None kind range used = chosen_id kind range used
id_for (Some id) kind range used =
    if is_used used id then chosen_id kind range used else Some id

-- the least of a set, or none where it is empty
abbrev pub FindsLeast : (ℕ → Type 0) → Option ℕ → Type 0
FindsLeast Member None = (id : ℕ) → Member id → ⊥
FindsLeast Member (Some id) = IsLeast Member id

-- and the greatest
abbrev pub FindsGreatest : (ℕ → Type 0) → Option ℕ → Type 0
FindsGreatest Member None = (id : ℕ) → Member id → ⊥
FindsGreatest Member (Some id) = IsGreatest Member id
