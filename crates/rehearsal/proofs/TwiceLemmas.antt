-- Claim: after a change by `groupadd -P R -g 1500 staff` where there are no accounts, what decides
-- `groupadd -P R -g 1500 other` is that the GID is in use (`second-refused`).
-- Way: each is one step of the account model, whose answers on these files are computed (`first-answer`,
-- `second-answer`). A folder whose passwd and group are empty has no accounts (`begins-empty`).
use Rattle.std.proofs.Common.{◌≡◌, refl, sym, ap, ap₂, subst, ◌∙◌, ◌∷◌, [], ◌++◌, ℕ, Bool, false, inl, inr, Option, Some, None, Result, Ok, Err, true≢false}
use Rattle.std.specs.Prelude.{codes, unwrap_or}
use Rattle.std.specs.Fmt.{digits}
use Rattle.acct_text.specs.Bytes.{Bytes, newline}
use Rattle.acct_text.specs.declared.files.Files.{Files}
use Rattle.acct_outside.specs.Folder.{IsFolder}
use Rattle.acct_outside.specs.declared.Name.TheVariants.{Intent}
use Rattle.acct_outside.specs.History.{History, after}
use Rattle.memory_folder.specs.Store.{folder_with}
use Rattle.acct_outside.specs.Moment.{Past}
use Rattle.account_model.specs.declared.refusal.Refusal.TheVariants.{GidInUse}
use Rattle.account_model.specs.declared.word_fault.WordFault.{WordFault}
use Rattle.account_model.specs.Request.{Request, is_report}
use Rattle.account_model.specs.Words.{Asks, fault, is_batch, request_of}
use Rattle.account_model.specs.Answer.{Answer, Changed, Refused, answer, deed, new_files}
use Rattle.account_model.proofs.SeenLemmas.{sees-all}
use Rattle.account_model.proofs.AsksLaws.{asks_iff_read, request_or_fault}
use Rattle.account_model.proofs.DeedLaws.{faultless-deed}
use Rattle.suite_rules.specs.Deeds.{SuiteDeeds}
use Rattle.suite_rules.specs.Lawful.{Lawful, starts}
use Rattle.suite_answers.specs.declared.cause.Cause.TheVariants.{Changed as IsChanged}
use Rattle.suite_answers.specs.declared.cause.Outcome.{Outcome}
use Rattle.suite_session.specs.Answers.{cause_of_answer}
use Rattle.suite_session.specs.Deeds.{AreOfTools}
use Rattle.suite_session.specs.Stands.{IsDecided}
use Rattle.rehearsal.specs.Alone.{IsLawful, IsSomeStep, files_at, defs_at}
use Rattle.rehearsal.specs.Twice.{HasNoAccounts, empty_tables, files_with_groups, gid_in_use, group_words}

-- ---- The answers

-- what the words answer on these files without login.defs, where they ask for something
abbrev answer_to : Result Request WordFault → Bytes → ℕ → Files → Option Answer
answer_to read input day files = elim read [
  | Err fault ↦ None
  | Ok request ↦ Some (answer request input day files None)
]

-- staff is the one group
abbrev staff_alone : Files
staff_alone = files_with_groups (codes "staff:!:1500:" ++ newline ∷ [])

-- the first answer, by computing
first-answer : (input : Bytes) (day : ℕ) →
    answer_to (request_of (group_words (codes "staff"))) input day (files_with_groups [])
    ≡ Some (record { cause = Changed staff_alone; status = 0; output = []; error = [] })
unfolding digits
first-answer input day = refl

-- the second, by computing
second-answer : (input : Bytes) (day : ℕ) →
    answer_to (request_of (group_words (codes "other"))) input day staff_alone
    ≡ Some (record {
      cause = Refused (GidInUse 1500);
      status = 4;
      output = [];
      error = codes "groupadd: GID 1500 is in use" ++ newline ∷ [];
    })
unfolding digits
second-answer input day = refl

-- ---- What is asked for

-- words without a fault ask for something
asked-by : (name : Bytes) → fault (group_words name) ≡ None →
    (request : Request) × Asks (group_words name) request
asked-by name none = elim (request_or_fault (group_words name)) [
  | inl asked ↦ asked
  | inr found ↦ absurd (let wrong : None ≡ Some found.0 = sym none ∙ found.1 in cc)
]

-- what is stated of the answer to words holds of the answer to their request
answer-of : (name : Bytes) (request : Request) → Asks (group_words name) request →
    (input : Bytes) (day : ℕ) (files : Files) (given : Answer) →
    answer_to (request_of (group_words name)) input day files ≡ Some given →
    answer request input day files None ≡ given
answer-of name request asks input day files given is =
    let read = (asks_iff_read (group_words name) request).0 asks in
    let same : Some (answer request input day files None) ≡ Some given =
    ap (λ (one : Result Request WordFault). answer_to one input day files) (sym read) ∙ is in
    cc

-- whether what is asked for is a batch
abbrev asks_batch : Result Request WordFault → Bool
asks_batch (Ok request) = is_batch request.tool
asks_batch (Err fault) = false

-- the first request is none
no-batch : (request : Request) → Asks (group_words (codes "staff")) request →
    is_batch request.tool ≡ false
unfolding digits
no-batch request asks =
    ap asks_batch (sym ((asks_iff_read (group_words (codes "staff")) request).0 asks))

-- so its deed is what its answer changes
first-deed : (request : Request) → Asks (group_words (codes "staff")) request →
    (input : Bytes) (day : ℕ) (files : Files) (defs : Option Bytes) →
    deed request input day files defs ≡ new_files (answer request input day files defs).cause
first-deed request asks input day files defs = faultless-deed request input day files defs
    (λ batch. absurd (true≢false (sym batch ∙ no-batch request asks)))

-- whether what is asked for is a report
abbrev asks_report : Result Request WordFault → Bool
asks_report (Ok request) = is_report request
asks_report (Err fault) = false

-- the second request is none
no-report : (request : Request) → Asks (group_words (codes "other")) request →
    is_report request ≡ false
unfolding digits
no-report request asks =
    ap asks_report (sym ((asks_iff_read (group_words (codes "other")) request).0 asks))

-- ---- The two steps

module _ (start between end : Past) (none : HasNoAccounts start) where
  -- the answer of a step is that on these files, where they are settled before and no login.defs stands
  step-answer : (request : Request) (old : Past) (files : Files) → files_at old ≡ files →
      defs_at old ≡ None → (input : Bytes) (day : ℕ) →
      answer request input day (files_at old) (defs_at old) ≡ answer request input day files None
  step-answer request old files is settings input day = ap₂ (λ (one : Files) (defs : Option Bytes).
      answer request input day one defs) is settings

  -- after the first step staff is the one group
  staff-stands : (request : Request) (outcome : Outcome) →
      Asks (group_words (codes "staff")) request → IsSomeStep request start between outcome →
      files_at between ≡ staff_alone
  staff-stands request outcome asks (input, day, step) =
      step.files
      ∙ ap (λ (made : Option Files). unwrap_or made (files_at start))
      (first-deed request asks input day (files_at start) (defs_at start))
      ∙ ap (λ (given : Answer). unwrap_or (new_files given.cause) (files_at start))
      (step-answer request start (files_with_groups []) none.files none.settings input day
      ∙ answer-of (codes "staff") request asks input day (files_with_groups []) _
      (first-answer input day))

  -- so the second is refused
  refused-then : (request : Request) (outcome : Outcome) →
      Asks (group_words (codes "other")) request → files_at between ≡ staff_alone →
      defs_at between ≡ None → IsSomeStep request between end outcome → outcome ≡ gid_in_use
  refused-then request outcome asks files settings (input, day, step) =
      let seen = ap (λ (one : Files). answer request input day one (defs_at between))
      (sees-all request (no-report request asks) (files_at between)) in
      let given = seen ∙ step-answer request between staff_alone files settings input day
      ∙ answer-of (codes "other") request asks input day staff_alone _
      (second-answer input day) in
      let cause = step.cause ∙ ap (λ (one : Answer). cause_of_answer one.cause) given in
      let status = step.status ∙ ap (λ (one : Answer). one.status) given in
      λ i. record { status = status i; cause = cause i }

  -- the claim
  pub second-refused : (first second : Outcome) →
      ((request : Request) → Asks (group_words (codes "staff")) request → IsDecided first.cause →
      IsSomeStep request start between first) →
      ((request : Request) → Asks (group_words (codes "other")) request → IsDecided second.cause →
      IsSomeStep request between end second) →
      first.cause ≡ IsChanged → IsDecided second.cause → second ≡ gid_in_use
  second-refused first second one other changed decided =
      let staff = asked-by (codes "staff") refl in
      let others = asked-by (codes "other") refl in
      let step = one staff.0 staff.1 (subst IsDecided (sym changed) tt) in
      refused-then others.0 second others.1 (staff-stands staff.0 first staff.1 step)
      (step.2.settings ∙ none.settings) (other others.0 others.1 decided)

-- ---- Where they begin

-- a folder of which nothing was told yet has a lawful history
pub starts-lawfully : (deeds : SuiteDeeds) (ours : AreOfTools deeds) (past : Past) →
    past.history ≡ [] → IsFolder past.first → IsLawful past
starts-lawfully deeds ours past is folder = (
  deeds,
  ours,
  subst (λ (history : History). Lawful deeds past.first history) (sym is) (starts folder),
)

-- a folder in which passwd and group are empty has no accounts
pub begins-empty : (deeds : SuiteDeeds) (ours : AreOfTools deeds) (past : Past) →
    past ≡ record { first = folder_with empty_tables; history = [] } → IsFolder past.first →
    HasNoAccounts past
begins-empty deeds ours past is folder = record {
  lawful = starts-lawfully deeds ours past (ap (λ (one : Past). one.history) is) folder;
  files = ap files_at is;
  settings = ap defs_at is;
  intent = ap (λ (one : Past). (after one.first one.history).file Intent) is;
}
