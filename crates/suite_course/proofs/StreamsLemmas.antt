-- Claims: that there is no memory has a text to put (`memory_message_some`), and a stream that failed had
-- one (`serves-failed`, `serves-texted`).
-- Way: the line begins with the name of who speaks; and the last stream that was called is the one.
use Rattle.std.proofs.Common.{◌≡◌, ◌≢◌, ◌⊎◌, inl, inr, refl, [], Option, Some, None, Result, Err}
use Rattle.acct_outside.specs.declared.streams.SinkFault.{SinkFault}
use Rattle.acct_outside.specs.declared.streams.SinkFault.TheVariants.{Failed}
use Rattle.acct_outside.specs.declared.CommitStage.{CommitStage}
use Rattle.account_model.specs.declared.tool.Tool.{Tool}
use Rattle.account_model.specs.declared.tool.Tool.TheVariants.{Useradd}
use Rattle.suite_answers.specs.declared.answer.Answer.{Answer}
use Rattle.suite_answers.specs.Reasons.{memory_message}
use Rattle.suite_course.specs.Streams.{FailsAt, Serves, Streams, text_of}

-- the first claim
pub memory_message_some : (tool : Option Tool) (stage : CommitStage) →
    memory_message tool stage ≡ [] → ⊥
memory_message_some None stage is = absurd (cc is)
memory_message_some (Some Useradd) stage is = absurd (cc is)
memory_message_some tool stage is = absurd (cc is)

module _ (tool : Option Tool) (answer : Answer) (before now : Streams) where
  -- where the streams failed, one of them did that was to take a text
  pub serves-failed : Serves tool answer before now (Err Failed) →
      FailsAt answer.out before.out_faults now.out_faults
      ⊎ FailsAt (text_of tool answer) before.err_faults now.err_faults
  serves-failed (inl stops) = inl (stops.output.failed refl)
  serves-failed (inr goes) = inr (goes.message.failed refl)

  -- where one didn't take its text whole, there was one
  pub serves-texted : (put : Result (Unit {0}) SinkFault) → Serves tool answer before now put →
      (fault : SinkFault) → put ≡ Err fault → (answer.out ≢ []) ⊎ (text_of tool answer ≢ [])
  serves-texted put (inl stops) fault is = inl (stops.output.texted fault is)
  serves-texted put (inr goes) fault is = inr (goes.message.texted fault is)
