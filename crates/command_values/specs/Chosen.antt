-- The settings of a command, and the ID that it chooses by them (login.defs(5); useradd(8), `-K`).
use Rattle.std.specs.Prelude.{◌≡◌, ℕ, List, Option}
use Rattle.account_model.specs.declared.settings.Kind.{Kind}
use Rattle.account_model.specs.declared.settings.IdSort.{IdSort}
use Rattle.account_model.specs.Settings.{Setting, range}
use Rattle.account_model.specs.Ids.{chosen_id}
use Rattle.login_defs.specs.declared.defs.Defs.{Defs}
use Rattle.login_defs.specs.Held.{HasSettings}
use Rattle.id_choice.specs.Used.{AreThoseOf}

-- the new hold what f makes of the settings that the old hold
abbrev pub AddsSettings : (List Setting → List Setting) → Defs → Defs → Type 0
AddsSettings f old new =
    (settings : List Setting) → HasSettings old settings → HasSettings new (f settings)

-- the ID is the choice from the range of its sort and kind, whichever way settings and used IDs are
-- listed
abbrev pub GivesId : IdSort → Kind → Defs → List ℕ → Option ℕ → Type 0
GivesId sort kind defs used id =
    (settings : List Setting) (ids : List ℕ) → HasSettings defs settings → AreThoseOf used ids
    → id ≡ chosen_id kind (range sort kind settings) ids
