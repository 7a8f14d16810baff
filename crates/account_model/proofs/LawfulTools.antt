-- What each tool keeps to (`LawfulTool`), for all proofs that go over tools. A tool has its value beside its scripts, and
-- `ToolLaws` has all values. One that neither reports nor sorts shows its script alone (`quiet-act`).
use Rattle.std.proofs.Common.{◌≡◌, ◌⊎◌, inl, ℕ, Bool, true, false, List, refl, sym, ◌∙◌, true≢false}
use Rattle.std.specs.Prelude.{None, if◌then◌else◌}
use Rattle.acct_text.specs.declared.files.Files.{Files}
use Rattle.account_model.specs.declared.tool.Tool.{Tool}
use Rattle.account_model.specs.declared.tool.Tool.TheVariants.{Useradd, Usermod, Groupadd, Groupmod}
use Rattle.account_model.specs.Text.{first_some}
use Rattle.account_model.specs.Settings.{Setting}
use Rattle.account_model.specs.Tables.{no_edits}
use Rattle.account_model.specs.Request.{Request, reports}
use Rattle.account_model.specs.Rows.{row_of}
use Rattle.account_model.specs.Words.{broken_rule, is_for_lines}
use Rattle.account_model.specs.Action.{Action}
use Rattle.account_model.specs.Change.{action_by}
use Rattle.account_model.specs.DeedLines.{sorts_by}
use Rattle.account_model.specs.NamedLines.{named_by}
use Rattle.account_model.proofs.LawfulScripts.{IsLawful}

-- the tools that give IDs to users, groups or ranges
abbrev pub gives_ids : Tool → Bool
gives_ids Useradd = true
gives_ids Usermod = true
gives_ids Groupadd = true
gives_ids Groupmod = true
gives_ids tool = false

-- what is done has status 0, or edits nothing
abbrev pub IsPlain : Action → Type 0
IsPlain action = (action.status ≡ 0) ⊎ (action.script ≡ no_edits)

-- what the tool keeps to for a request with its input and the day, on these files under these settings
pub record LawfulAct (tool : Tool) (request : Request) (input : List ℕ) (day : ℕ) (files : Files)
    (settings : List Setting) : Type 0 where
  -- its script is lawful, where it doesn't refuse
  pub script : first_some (action_by tool request input day files settings).refusals ≡ None
      → IsLawful day (gives_ids tool) (sorts_by tool request) (named_by tool request input files)
      (action_by tool request input day files settings).script
  -- what it does is plain
  pub plain : IsPlain (action_by tool request input day files settings)
  -- a report edits nothing
  pub report : broken_rule tool request.options ≡ None → reports (row_of tool).reporting request ≡ true
      → (action_by tool request input day files settings).script ≡ no_edits
  -- a line of a batch sorts nothing
  pub line : is_for_lines tool ≡ true → sorts_by tool request ≡ false

-- what it keeps to, whatever it is asked
abbrev pub LawfulTool : Tool → Type 0
LawfulTool tool = (request : Request) (input : List ℕ) (day : ℕ) (files : Files)
    (settings : List Setting) → LawfulAct tool request input day files settings

-- one that has status 0, neither reports nor sorts, and whose script is lawful
pub quiet-act :
    {tool : Tool} {request : Request} {input : List ℕ} {day : ℕ} {files : Files}
    {settings : List Setting}
    → (action_by tool request input day files settings).status ≡ 0
    → reports (row_of tool).reporting request ≡ false
    → sorts_by tool request ≡ false
    → (first_some (action_by tool request input day files settings).refusals ≡ None
    → IsLawful day (gives_ids tool) (sorts_by tool request) (named_by tool request input files)
    (action_by tool request input day files settings).script)
    → LawfulAct tool request input day files settings
quiet-act zero silent unsorted script = record {
  script = script;
  plain = inl zero;
  report = λ rules is. absurd (true≢false (sym is ∙ silent));
  line = λ may. unsorted;
}

-- what is so by either way of a choice
pub by-choice :
    (Is : Action → Type 0) (test : Bool) (one other : Action)
    → (test ≡ true → Is one)
    → (test ≡ false → Is other)
    → Is (if test then one else other)
by-choice Is true one other is also = is refl
by-choice Is false one other is also = also refl
