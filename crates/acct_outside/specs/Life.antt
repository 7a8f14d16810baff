-- The life of a token: which session runs, and which calls it may still make.
use Rattle.std.specs.Prelude.{Bool, true, false, if◌then◌else◌, [], ◌∷◌}
use Rattle.acct_outside.specs.Tokens.{Token}
use Rattle.acct_outside.specs.Calls.{Call, Answer, CallResult, begins, answers, done, failed, died}
use Rattle.acct_outside.specs.History.{History, is_of}

-- no begin gave the token; its session runs; it runs and one of its calls failed; it has answered
-- or died
pub data Life : Type 0 where
  unbegun : Life
  running : Life
  faulted : Life
  ended : Life

-- the life of a session that runs, after one of its calls
abbrev pub life_after_call : (call : Call) → CallResult (Answer call) → Life → Life
life_after_call (answers status) _ life = ended
life_after_call _ (done answer) life = life
life_after_call _ (failed effect) life = faulted
life_after_call _ (died effect) life = ended

-- a life begins with a begin that gave the token
abbrev pub life_from_begin : (call : Call) → CallResult (Answer call) → Life
life_from_begin (begins command) (done answer) = running
life_from_begin _ _ = unbegun

-- a life after a call of its session
abbrev pub life_step : (call : Call) → CallResult (Answer call) → Life → Life
life_step call result unbegun = life_from_begin call result
life_step call result ended = ended
life_step call result life = life_after_call call result life

-- the life of the token after the history
abbrev pub life : Token → History → Life
life token [] = unbegun
life token (e ∷ history) =
    if is_of token e then life_step e.call e.result (life token history) else life token history

-- the session runs in such a life
abbrev pub runs_in : Life → Bool
runs_in running = true
runs_in faulted = true
runs_in _ = false

-- the session runs: from its begin until it has answered or died
abbrev pub is_running : Token → History → Bool
is_running token history = runs_in (life token history)

-- the call may come next in such a life: first the begin, and only the answer once a call failed
abbrev pub MayCall : Life → Call → Type 0
MayCall unbegun (begins command) = Unit {0}
MayCall running (begins command) = ⊥
MayCall running _ = Unit {0}
MayCall faulted (answers status) = Unit {0}
MayCall _ _ = ⊥
