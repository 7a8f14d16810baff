-- Claim: events of other sessions leave a session's life and standing (`own-standing`). Way: both
-- are folded over the history, and an event that isn't the session's is passed over in both folds.
use Rattle.std.proofs.Common.{◌≡◌, refl, ap, Bool, true, false, cond, [], ◌∷◌}
use Rattle.acct_outside.specs.Tokens.{Token}
use Rattle.acct_outside.specs.History.{Event, History, is_of, own_events}
use Rattle.acct_outside.specs.Life.{Life, life, life_step}
use Rattle.suite_rules.specs.Standing.{Standing, standing, standing_step}
use Rattle.suite_rules.specs.Laws.{OwnStanding}

module _ (token : Token) (event : Event) (history : History) where
  -- one event more, of the session or not, for a life
  life-along : life token history ≡ life token (own_events token history) →
      (own : Bool) → is_of token event ≡ own →
      cond own (life_step event.call event.result (life token history)) (life token history)
      ≡ life token (cond own (event ∷ own_events token history) (own_events token history))
  life-along same true is =
      rw is (ap (λ (before : Life). life_step event.call event.result before) same)
  life-along same false is = same

  -- one event more, of the session or not, for a standing
  standing-along : standing token history ≡ standing token (own_events token history) →
      (own : Bool) → is_of token event ≡ own →
      cond own (standing_step event.call event.result (standing token history))
      (standing token history)
      ≡ standing token (cond own (event ∷ own_events token history) (own_events token history))
  standing-along same true is =
      rw is (ap (λ (before : Standing). standing_step event.call event.result before) same)
  standing-along same false is = same

-- the life is that of the own events
same-life : (token : Token) (history : History) →
    life token history ≡ life token (own_events token history)
same-life token [] = refl
same-life token (event ∷ history) =
    life-along token event history (same-life token history) (is_of token event) refl

-- the standing is that of the own events
same-standing : (token : Token) (history : History) →
    standing token history ≡ standing token (own_events token history)
same-standing token [] = refl
same-standing token (event ∷ history) =
    standing-along token event history (same-standing token history) (is_of token event) refl

-- the law
pub own-standing : OwnStanding
own-standing = record { same_life = same-life; same_standing = same-standing }
