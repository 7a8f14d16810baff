use Rattle.std.proofs.Common.{◌≡◌, take}
use Rattle.account_model.specs.Messages.{messages}
use Rattle.tool_answers.proofs.message.messages.Given as goal

-- the lines so far are those of the notices so far
abbrev pub invariant-loop-notice : goal.invariant-loop-notice
invariant-loop-notice l = l.err ≡ messages l.tool (take l.notice-index l.notice-items)
