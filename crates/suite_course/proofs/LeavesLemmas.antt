-- Claim: a session that answered, and was alone since a moment, leaves its lock alone and free, no intent
-- where its tool decided, and backups of what it changed; and a report the folder as it was
-- (`leaves-alone`).
-- Way: what it has left by its own events (`HasLeft`, `WroteDue`) is so in the folder, as nobody
-- else touched that (AloneLocks, AloneBackups, AloneStaging).
use Rattle.std.proofs.Common.{◌≡◌, inl, inr, refl, sym, ap, subst, ◌∙◌, [], ◌∷◌, ℕ, true, false, Option, Some, None}
use Rattle.acct_outside.specs.declared.CommitStage.TheVariants.{Before}
use Rattle.acct_outside.specs.declared.Name.TheVariants.{Table, Defs}
use Rattle.acct_outside.specs.Tokens.{Token}
use Rattle.acct_outside.specs.Folder.{Folder}
use Rattle.acct_outside.specs.History.{History}
use Rattle.acct_outside.specs.Moment.{Past}
use Rattle.account_model.specs.Request.{is_report}
use Rattle.suite_rules.specs.Deeds.{SuiteDeeds}
use Rattle.suite_rules.specs.OwnLock.{kept_number}
use Rattle.suite_rules.specs.Standing.{standing}
use Rattle.suite_rules.specs.Committed.{Commitment, commitment_of}
use Rattle.suite_rules.specs.Lawful.{Lawful}
use Rattle.suite_rules.proofs.Once.{committed-once}
use Rattle.suite_answers.specs.declared.cause.Which.TheVariants.{File}
use Rattle.suite_answers.specs.declared.cause.Cause.{Cause}
use Rattle.suite_answers.specs.declared.cause.Cause.TheVariants.{Changed, Same, Refused, RefusedLine, NoTable, BadSetting, TooLarge, DiskFault, OutputFault, Memory}
use Rattle.suite_answers.specs.declared.answer.Answer.{Answer}
use Rattle.suite_answers.specs.Reasons.{stage_of}
use Rattle.suite_session.specs.Runner.{Question}
use Rattle.suite_session.specs.Writing.{WroteDue}
use Rattle.suite_session.specs.Deeds.{AreOfTools}
use Rattle.suite_session.specs.Reports.{RunsFree}
use Rattle.suite_session.specs.Staging.{HasMovedAll}
use Rattle.suite_session.specs.Stands.{HasLeft, IsDecided, IsStopped}
use Rattle.suite_session.specs.Telling.{DropsNothing, Covers}
use Rattle.suite_session.proofs.FreeLemmas.{free-uncalled}
use Rattle.suite_course.specs.Alone.{IsAlone, LeavesFolder}
use Rattle.suite_course.specs.Shows.{IsShownAt}
use Rattle.suite_course.proofs.AloneLocks.{alone-lock, alone-intent-none}
use Rattle.suite_course.proofs.AloneBackups.{alone-backups}
use Rattle.suite_course.proofs.AloneStaging.{HasCome, alone-staging}
use Rattle.suite_course.proofs.ReportLemmas.{folder-stays}

-- a tool's answer isn't stopped
decided-quiet : (cause : Cause) → IsDecided cause → IsStopped cause → ⊥
decided-quiet Changed decided stopped = stopped
decided-quiet Same decided stopped = stopped
decided-quiet (Refused refusal) decided stopped = stopped
decided-quiet (RefusedLine line refusal) decided stopped = stopped
decided-quiet (NoTable table) decided stopped = stopped
decided-quiet (BadSetting line) decided stopped = stopped
decided-quiet (TooLarge (File (Table table))) decided stopped = stopped
decided-quiet (TooLarge (File Defs)) decided stopped = stopped
decided-quiet cause decided stopped = absurd decided

-- what tells a fault of the folder, or what comes later, was stopped
stops-later : (cause : Cause) → Covers cause (DiskFault Before) → IsStopped cause
stops-later cause (inl is) = subst IsStopped (sym is) tt
stops-later (DiskFault stage) (inr later) = tt
stops-later (OutputFault stage) (inr later) = tt
stops-later (Memory stage) (inr later) = tt
stops-later cause (inr later) = absurd later

module _ (deeds : SuiteDeeds) (asked : Question) (first : Folder) (past : Past) (token : Token)
    (given : Answer) (lawful : Lawful deeds first past.history) where
  -- a command that is no report, with an answer of its tool, kept a lock
  was-keeper : is_report asked.request ≡ false → (cause : Cause) → IsDecided cause →
      (standing token past.history).commit ≡ stage_of cause →
      IsShownAt deeds asked first past.history token given cause →
      (number : ℕ) × (kept_number (standing token past.history).own ≡ Some number)
  was-keeper no_report Changed decided commits shown =
      cases (kept_number (standing token past.history).own) refl
    where
      cases : (kept : Option ℕ) → kept_number (standing token past.history).own ≡ kept →
          (number : ℕ) × (kept_number (standing token past.history).own ≡ Some number)
      cases (Some number) is = (number, is)
      cases None none =
          let one : Commitment = record {
            token = token;
            number = shown.number;
            command = asked.command;
          } in
          let wrong : one ∷ [] ≡ [] = sym shown.once
          ∙ (committed-once.one deeds first past.history lawful token commits
          ∙ ap (λ (kept : Option ℕ).
          commitment_of token kept (standing token past.history).command) none) in
          absurd (cc wrong)
  was-keeper no_report Same decided commits shown =
      (shown.number, shown.has_number.keeper no_report)
  was-keeper no_report (Refused refusal) decided commits shown =
      (shown.number, shown.has_number.keeper no_report)
  was-keeper no_report (RefusedLine line refusal) decided commits shown =
      (shown.number, shown.has_number.keeper no_report)
  was-keeper no_report (NoTable table) decided commits shown =
      (shown.number, shown.has_number.keeper no_report)
  was-keeper no_report (BadSetting line) decided commits shown =
      (shown.number, shown.has_number.keeper no_report)
  was-keeper no_report (TooLarge (File (Table table))) decided commits shown =
      (shown.number, shown.has_number.keeper no_report)
  was-keeper no_report (TooLarge (File Defs)) decided commits shown =
      (shown.number, shown.has_number.keeper no_report)
  was-keeper no_report cause decided commits shown = absurd decided

  -- the claim
  pub leaves-alone : AreOfTools deeds → (old : History) → IsAlone token old past.history →
      (cause : Cause) → (standing token past.history).commit ≡ stage_of cause →
      IsShownAt deeds asked first past.history token given cause →
      ((IsStopped cause → ⊥) → HasLeft token cause past) → WroteDue token past.history →
      (is_report asked.request ≡ true → RunsFree token past.history) →
      DropsNothing token cause past.history → HasCome token past.history →
      ((IsStopped cause → ⊥) → HasMovedAll (standing token past.history)) →
      LeavesFolder asked first old past.history token cause
  leaves-alone ours old alone cause commits shown left wrote free drops come moved = record {
    report = λ is. folder-stays deeds first past.history lawful asked token
        (free-uncalled token past.history (free is).free) old alone;
    lock = λ quiet number kept. alone-lock deeds first token old past.history alone lawful number
        ((left quiet).freed number kept);
    staging = λ quiet. alone-staging deeds first token old past.history alone lawful
        (λ fails. quiet (stops-later cause
        (drops [] past.history refl (DiskFault Before) tt fails).0)) come (moved quiet);
    intent = λ no_report decided.
        let kept = was-keeper no_report cause decided commits shown in
        let leaves = left (decided-quiet cause decided) in
        alone-intent-none deeds first token old past.history alone lawful kept.0
        (leaves.freed kept.0 kept.1) (leaves.clean kept decided);
    backups = λ is. alone-backups deeds ours first past.history lawful token old alone
        (commits ∙ ap stage_of is) wrote;
  }
