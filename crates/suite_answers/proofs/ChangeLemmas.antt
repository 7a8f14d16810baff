-- Claim: an answer that is a change has status 0 (`changes-succeed`). Way: what a tool does has
-- status 0, or edits nothing (`plain` of `LawfulTool`); without edits all files stay, which is no change. What the
-- lines of a batch write has status 0 (`batch-zero`).
use Rattle.std.proofs.Common.{◌≡◌, inl, inr, refl, sym, ap, ◌∙◌, ℕ, Bool, true, false, List, []}
use Rattle.std.specs.Prelude.{◌∷◌, ⊤, Result, Option, Some, None, unwrap_or, if◌then◌else◌, Ok, Err}
use Rattle.std.proofs.lemmas.Bool.{true≢false}
use Rattle.std.proofs.lemmas.Slice.Eq.{bytes_eq-Decides}
use Rattle.acct_text.specs.Bytes.{Bytes}
use Rattle.acct_text.specs.Contents.{same_content}
use Rattle.acct_text.specs.declared.files.Files.{Files}
use Rattle.account_model.specs.declared.plan_form.PlanForm.{PlanForm}
use Rattle.account_model.specs.declared.tool.Tool.{Tool}
use Rattle.account_model.specs.declared.tool.Tool.TheVariants.{Batch}
use Rattle.account_model.specs.declared.refusal.Refusal.{Refusal}
use Rattle.account_model.specs.Text.{first_some}
use Rattle.account_model.specs.Settings.{Setting, settings_of}
use Rattle.account_model.specs.BatchLines.{LineRequest, line_requests}
use Rattle.account_model.specs.Request.{Request}
use Rattle.account_model.specs.Words.{is_batch}
use Rattle.account_model.specs.Tables.{Script, files_after}
use Rattle.account_model.specs.Action.{Action, Made, made_by, outcome_of, multiple_entries}
use Rattle.account_model.specs.Batch.{LineRefusal, Written, batch, before_others, ensures, line_outcome, with_rest, written_by}
use Rattle.account_model.specs.Change.{action_of}
use Rattle.account_model.specs.Answer.{Answer, AnswerCause, FileProblem, Same, Changed, new_problem, files_problem, files_eq, answer_lines, answer_outcome, answer_asked, answer_under, command_answer, planned_cause, succeeding, unusable}
use Rattle.account_model.proofs.LawfulTools.{IsPlain}
use Rattle.account_model.proofs.NoEdits.{files-stay}
use Rattle.account_model.proofs.ToolLaws.{meaning}
use Rattle.suite_answers.specs.Changes.{ChangesSucceed}

-- ---- Files that stay

-- a table is the same as itself
same-table : (content : Option Bytes) → same_content content content ≡ true
same-table None = refl
same-table (Some bytes) = (bytes_eq-Decides bytes bytes).1 refl

-- and so are all files
pub same-files : (files : Files) → files_eq files files ≡ true
same-files files = simp same-table refl

-- ---- The answer

-- an answer that is a change has this status
abbrev Succeeds : Answer → Type 0
Succeeds given = (new : Files) → given.cause ≡ Changed new → given.status ≡ 0

-- what a tool made, by its problem and whether it is the same
made-succeeds : (tool : Tool) (action : Action) (old : Files) (problem : Option FileProblem)
    (same : Bool) → IsPlain action → files_eq old (files_after action.script old) ≡ same →
    Succeeds (elim problem as (λ one. Answer) [
      | Some one ↦ unusable tool one
      | None ↦ succeeding (if same then Same else Changed (files_after action.script old))
          (written_by tool (made_by action old))
    ])
made-succeeds tool action old (Some problem) same plain is new changed = absurd (cc)
made-succeeds tool action old None true plain is new changed = absurd (cc)
made-succeeds tool action old None false (inl zero) is new changed = zero
made-succeeds tool action old None false (inr none) is new changed =
    absurd (true≢false (sym (same-files old)
    ∙ (ap (λ (files : Files). files_eq old files)
    (sym (ap (λ (script : Script). files_after script old) none ∙ files-stay old)) ∙ is)))

-- a tool's outcome, by its refusal and multiple entries
outcome-succeeds : (tool : Tool) (action : Action) (old : Files)
    (refusal multiple : Option Refusal) → IsPlain action →
    Succeeds (answer_outcome tool old (elim refusal [
      | Some one ↦ Err one
      | None ↦ elim multiple [ Some one ↦ Err one | None ↦ Ok (made_by action old) ]
    ]))
outcome-succeeds tool action old (Some refusal) multiple plain new changed = absurd (cc)
outcome-succeeds tool action old None (Some refusal) plain new changed = absurd (cc)
outcome-succeeds tool action old None None plain new changed =
    made-succeeds tool action old (new_problem (files_after action.script old))
    (files_eq old (files_after action.script old)) plain refl new changed

-- ---- The lines of a batch

-- what is written has status 0, where nothing refuses
abbrev IsZero : Result Written LineRefusal → Type 0
IsZero (Err refused) = ⊤
IsZero (Ok written) = written.status ≡ 0

-- so it is of a line and of those behind it
before-zero : (first : Written) (others : Result Written LineRefusal) → IsZero others →
    IsZero (before_others first others)
before-zero first (Err refused) zero = tt
before-zero first (Ok others) zero = zero

rest-zero : (line : LineRequest) (outcome : Result Made Refusal)
    (rest : Files → Result Written LineRefusal) → ((files : Files) → IsZero (rest files)) →
    IsZero (with_rest line outcome rest)
rest-zero line (Err refusal) rest zero = tt
rest-zero line (Ok made) rest zero =
    before-zero (written_by line.request.tool made) (rest made.files) (zero made.files)

-- and of all lines
batch-zero : (ensuring : Bool) (lines : List LineRequest) (day : ℕ) (settings : List Setting)
    (files : Files) → IsZero (batch ensuring lines day settings files)
batch-zero ensuring [] day settings files = refl
batch-zero ensuring (line ∷ rest) day settings files = rest-zero line
    (line_outcome ensuring line.request day settings files) (batch ensuring rest day settings)
    (batch-zero ensuring rest day settings)

-- the answer to them, by what they write and its problem
written-succeeds : (old : Files) (written : Written) (problem : Option FileProblem) (same : Bool) →
    written.status ≡ 0 →
    Succeeds (elim problem as (λ one. Answer) [
      | Some one ↦ unusable Batch one
      | None ↦ succeeding (if same then Same else Changed written.files) written
    ])
written-succeeds old written (Some problem) same zero new changed = absurd (cc)
written-succeeds old written None true zero new changed = zero
written-succeeds old written None false zero new changed = zero

lines-succeed : (old : Files) (lines : Result Written LineRefusal) → IsZero lines →
    Succeeds (answer_lines old lines)
lines-succeed old (Err refused) zero new changed = absurd (cc)
lines-succeed old (Ok written) zero new changed =
    written-succeeds old written (new_problem written.files) (files_eq old written.files) zero new
    changed

-- ---- The law

-- an answer on files that can be used, by whether it is to a batch
under-succeeds : (request : Request) (input : Bytes) (day : ℕ) (old : Files)
    (settings : List Setting) (lines : Bool) →
    Succeeds (if lines
    then answer_lines old (batch (ensures request) (line_requests input) day settings old)
    else answer_outcome request.tool old
    (outcome_of (action_of request input day old settings) old))
under-succeeds request input day old settings true new changed =
    lines-succeed old (batch (ensures request) (line_requests input) day settings old)
    (batch-zero (ensures request) (line_requests input) day settings old) new changed
under-succeeds request input day old settings false new changed =
    outcome-succeeds request.tool (action_of request input day old settings) old
    (first_some (action_of request input day old settings).refusals)
    (multiple_entries (action_of request input day old settings).script old)
    (meaning request.tool request input day old settings).plain new changed

-- an answer, by the problem of the files
answer-succeeds : (request : Request) (input : Bytes) (day : ℕ) (old : Files)
    (settings : List Setting) (problem : Option FileProblem) →
    Succeeds (elim problem as (λ one. Answer) [
      | Some one ↦ unusable request.tool one
      | None ↦ answer_under request input day old settings
    ])
answer-succeeds request input day old settings (Some problem) new changed = absurd (cc)
answer-succeeds request input day old settings None new changed =
    under-succeeds request input day old settings (is_batch request.tool) new changed

-- a plan changes nothing
never-changes : (cause : AnswerCause) (new : Files) → planned_cause cause ≡ Changed new → ⊥
never-changes (Changed files) new changed = cc changed
never-changes cause new changed = cc changed

-- so an answer that is a change has status 0 as it is asked for
asked-succeeds : (plan : Option PlanForm) (old : Files) (made : Answer) → Succeeds made →
    Succeeds (answer_asked plan old made)
asked-succeeds None old made succeeds new changed = succeeds new changed
asked-succeeds (Some form) old made succeeds new changed =
    absurd (never-changes made.cause new changed)

-- the law
pub changes-succeed : ChangesSucceed
changes-succeed request input day old defs =
    asked-succeeds request.plan old (command_answer request input day old defs)
    (answer-succeeds request input day old (settings_of (unwrap_or defs [])) (files_problem old defs))
