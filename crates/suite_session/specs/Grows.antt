-- Which events a history has got since an earlier moment: those of others, and those of one session.
use Rattle.std.specs.Prelude.{◌≡◌, ◌∷◌, ℕ, suc, Option}
use Rattle.acct_outside.specs.Tokens.{Token}
use Rattle.acct_outside.specs.History.{Event, History}
use Rattle.acct_outside.specs.Others.{Admission}
use Rattle.acct_outside.specs.Moment.{Past}
use Rattle.acct_outside.specs.Contract.{WhereTold}
use Rattle.suite_rules.specs.Standing.{standing}
use Rattle.suite_session.specs.Writing.{WritesDue}

-- The newer history is the older one with new events after it. Each was admitted from others at its
-- place or is the session's own; of its own there are at most so many, and what each writes is due.
pub data Grows (admits : Admission) (token : Token) (old : History) : ℕ → History → Type 0 where
  none_new : (most : ℕ) → Grows admits token old most old
  others_new : (most : ℕ) (event : Event) (new : History)
      → Grows admits token old most new → admits new event
      → Grows admits token old most (event ∷ new)
  own_new : (most : ℕ) (event : Event) (new : History)
      → Grows admits token old most new → event.token ≡ token
      → WritesDue (standing token new) event.call
      → Grows admits token old (suc most) (event ∷ new)

-- so it is where the folder tells its history
abbrev pub Grew : Admission → Token → ℕ → Option Past → Option Past → Type 0
Grew admits token most before now =
    WhereTold before now (λ first old new. Grows admits token old most new)
