-- Claim: a session's answer that it changed its files has status 0 (`changed-succeeds`). Way: it is
-- its tool's answer on some files, and that has status 0 where it is a change (`changes-succeed`).
use Rattle.std.proofs.Common.{◌≡◌, refl, sym, ◌∙◌, Option}
use Rattle.acct_text.specs.declared.files.Files.{Files}
use Rattle.acct_text.specs.Bytes.{Bytes}
use Rattle.account_model.specs.Answer.{TableTooLarge, AnswerCause, Unusable, Changed}
use Rattle.suite_answers.specs.declared.cause.Cause.TheVariants.{Changed as IsChanged}
use Rattle.suite_answers.specs.declared.answer.Answer.{Answer}
use Rattle.suite_answers.proofs.ChangeLemmas.{changes-succeed}
use Rattle.suite_session.specs.Runner.{Question}
use Rattle.suite_session.specs.Answers.{answer_on, cause_of_answer, IsAnswerOn}

module _ (asked : Question) (files : Files) (defs : Option Bytes) where
  -- the tool's answer with this cause, where that tells of a change
  by-cause : (cause : AnswerCause) → (answer_on asked files defs).cause ≡ cause →
      cause_of_answer cause ≡ IsChanged → (answer_on asked files defs).status ≡ 0
  by-cause (Changed new) is same =
      changes-succeed asked.request asked.command.input asked.command.day files defs new is
  by-cause (Unusable (TableTooLarge table)) is same = absurd (cc)
  by-cause cause is same = absurd (cc)

  -- the claim
  pub changed-succeeds : (answer : Answer) → IsAnswerOn asked files defs answer →
      answer.outcome.cause ≡ IsChanged → answer.outcome.status ≡ 0
  changed-succeeds answer is changed = is.has_status
      ∙ by-cause (answer_on asked files defs).cause refl (sym is.has_cause ∙ changed)
