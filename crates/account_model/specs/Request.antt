-- What a command asks for: a tool, its options without `-P`, and its operands. Options are named by
-- a text of one letter, such as `codes "g"`.
use Rattle.std.specs.Prelude.{ℕ, Bool, true, false, ◌||◌, List, [], ◌∷◌, ◌==◌, filter, filter_map, is_some, find, Option, None, slice_index}
use Rattle.account_model.specs.declared.given.Given.{Given}
use Rattle.account_model.specs.declared.plan_form.PlanForm.{PlanForm}
use Rattle.account_model.specs.declared.tool.Tool.{Tool}
use Rattle.account_model.specs.Rows.{Reporting, always, never, row_of, where_given}
use Rattle.account_model.specs.Text.{last_of}

-- a command: the tool, the folder whose `etc` it works on, the options in the order in which they
-- were given, and the user or group that it is about (the synopsis of each manual page); and how it is
-- planned, where it isn't to be carried out
pub record Request : Type 0 where
  pub tool : Tool
  pub prefix : List ℕ
  pub options : List Given
  pub operands : List (List ℕ)
  pub plan : Option PlanForm

-- the command that is carried out, or planned
abbrev pub carried_out : Request → Request
carried_out request = record request { plan = None }

-- the options of a letter
abbrev pub options_of : List ℕ → Request → List Given
options_of letter request = filter (λ given. given.letter == slice_index letter 0) request.options

-- whether an option is given
abbrev pub has_option : List ℕ → Request → Bool
has_option letter request =
    is_some (find (λ given. given.letter == slice_index letter 0) request.options)

-- each value of an option, in order, for an option of which each counts (useradd(8), `-K`)
abbrev pub values_of : List ℕ → Request → List (List ℕ)
values_of letter request = filter_map (λ given. given.value) (options_of letter request)

-- the value of a letter among options; of a repeated one the last counts
abbrev pub last_value : ℕ → List Given → Option (List ℕ)
last_value letter options =
    last_of (filter_map (λ given. given.value) (filter (λ given. given.letter == letter) options))

-- the value of an option of the command
abbrev pub value_of : List ℕ → Request → Option (List ℕ)
value_of letter request = last_value (slice_index letter 0) request.options

-- the operand: a name, and nothing for a tool that takes none
abbrev pub operand : Request → List ℕ
operand request = elim request.operands [ [] ↦ [] | name ∷ rest ↦ name ]

-- the command only shows what stands: `pwck -r`, `grpck -r`, `getsubids`, `chage -l`, `passwd -S` and
-- `groupmems -l` (pwck(8), grpck(8), getsubids(1), chage(1), passwd(1), groupmems(8))
abbrev pub reports : Reporting → Request → Bool
reports never request = false
reports (where_given letter tables) request = has_option letter request
reports (always letter tables others) request = true

-- it is such a command, or a plan
abbrev pub is_report : Request → Bool
is_report request = is_some request.plan || reports (row_of request.tool).reporting request
