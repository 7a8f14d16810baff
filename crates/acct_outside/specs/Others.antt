-- Which event of another session a folder admits next, and histories with such events.
use Rattle.std.specs.Prelude.{◌≡◌, ◌∷◌}
use Rattle.acct_outside.specs.Tokens.{Token}
use Rattle.acct_outside.specs.History.{Event, History}

-- which event of another session may come next after a history
abbrev pub Admission : Type 1
Admission = History → Event → Type 0

-- no event of the session is admitted next
abbrev pub AdmitsNoneOf : Admission → History → Token → Type 0
AdmitsNoneOf admits history token = (e : Event) → admits history e → e.token ≡ token → ⊥

-- the newer history is the older one with admitted events of others after it
pub data ByOthers (admits : Admission) (old : History) : History → Type 0 where
  none_came : ByOthers admits old old
  one_came : (e : Event) (new : History)
      → ByOthers admits old new → admits new e → ByOthers admits old (e ∷ new)

-- the newer history is the older one with admitted events of others, and then the own event
pub record ByOthersThen (admits : Admission) (old : History) (own : Event) (new : History)
    : Type 0 where
  pub between : History
  pub others : ByOthers admits old between
  pub last : new ≡ own ∷ between
