-- Claim: what a keeper knows and what it has staged take their own step with each of its calls
-- (`knows-next`, `staged-next`). Way: both are parts that a keeper alone changes, and it is one.
use Rattle.std.proofs.Common.{◌≡◌, ap, ℕ}
use Rattle.acct_outside.specs.Calls.{Call, Answer, CallResult}
use Rattle.suite_rules.specs.OwnLock.{OwnLock, lock_kept, own_step}
use Rattle.suite_rules.specs.Knowledge.{knows_nothing, knows_step}
use Rattle.suite_rules.specs.Standing.{Standing, standing_step, keeper_part, staged_step, nothing_staged}

-- what a keeper knows takes its step
pub knows-next : (call : Call) (result : CallResult (Answer call)) (stood : Standing) (number : ℕ) →
    stood.own ≡ lock_kept number →
    (standing_step call result stood).knows ≡ knows_step stood.staged call result stood.knows
knows-next call result stood number keeps = ap (λ (before : OwnLock).
    keeper_part before (own_step call result stood.own) knows_nothing
    (knows_step stood.staged call result stood.knows) stood.knows) keeps

-- what a keeper has staged takes its step
pub staged-next : (call : Call) (result : CallResult (Answer call)) (stood : Standing)
    (number : ℕ) →
    stood.own ≡ lock_kept number →
    (standing_step call result stood).staged ≡ staged_step call result stood.staged
staged-next call result stood number keeps = ap (λ (before : OwnLock).
    keeper_part before (own_step call result stood.own) nothing_staged
    (staged_step call result stood.staged) stood.staged) keeps
