-- What the death of a session in its next call leaves, in a folder in memory (docs/ARCHITECTURE.md, "The
-- session").
use Rattle.std.specs.Prelude.{◌≡◌, false}
use Rattle.acct_outside.specs.declared.CommitStage.TheVariants.{Before}
use Rattle.memory_folder.specs.declared.Effect.{Effect as CallEffect}
use Rattle.acct_outside.specs.Calls.{Call, died}
use Rattle.memory_folder.specs.Events.{actual_effect, effect_in}
use Rattle.acct_outside.specs.Life.{is_running}
use Rattle.memory_folder.specs.Logged.{folder_after, with_event}
use Rattle.acct_outside.specs.Moment.{Past}
use Rattle.acct_outside.specs.Tokens.{Token}
use Rattle.suite_session.specs.declared.session.Phase.{Phase}
use Rattle.suite_session.specs.declared.session.Phase.TheVariants.{Waiting, Begun, Unbegun}
use Rattle.suite_session.specs.Answers.{memory_answer}
use Rattle.suite_session.specs.NextCall.{state_call}

-- the session of the token died within the call, which had this effect as far as it can have had it, and
-- runs no more
pub record DiedIn (before now : Past) (token : Token) (call : Call) (effect : CallEffect)
    : Type 0 where
  pub told : now ≡ with_event (record {
    token = token;
    call = call;
    result = died (actual_effect (folder_after before) call (effect_in effect));
  }) before
  pub ended : is_running token now.history ≡ false

-- A session that had begun died within its next call. One that hadn't has no event, and is as one that
-- found no memory for its begin. Where no call was left, nothing is changed.
abbrev pub SessionDies : Past → Past → CallEffect → Phase → Phase → Type 0
SessionDies before now effect (Waiting asked) new =
    (new ≡ Unbegun asked.request.tool (memory_answer Before)) × (now ≡ before)
SessionDies before now effect (Begun runner state) new =
    (new ≡ Begun runner state) × DiedIn before now runner.token (state_call state) effect
SessionDies before now effect old new = (new ≡ old) × (now ≡ before)
