-- The words of a plan: `plan`, how it tells, and the words of the command that it plans, which are read as
-- a list of their own. No manual page has plans.
use Rattle.std.specs.Prelude.{if◌then◌else◌, List, [], ◌∷◌, bytes_eq, codes, Option, Some, None, is_some, unwrap_or}
use Rattle.account_model.specs.declared.plan_form.PlanForm.{PlanForm}
use Rattle.account_model.specs.declared.plan_form.PlanForm.TheVariants.{Sizes, Diff, Json}
use Rattle.account_model.specs.Options.{Word}

-- how a plan tells by the word behind `plan`, where that says it
abbrev pub form_named : Word → Option PlanForm
form_named word =
    if bytes_eq word (codes "--diff") then Some Diff else
    if bytes_eq word (codes "--json") then Some Json else None

-- how it tells by the words behind `plan`
abbrev pub form_in : List Word → PlanForm
form_in [] = Sizes
form_in (word ∷ words) = unwrap_or (form_named word) Sizes

-- the words behind the form
abbrev pub behind_form : List Word → List Word
behind_form [] = []
behind_form (word ∷ words) = if is_some (form_named word) then words else word ∷ words

-- how words are planned, where they ask for a plan
abbrev pub plan_of : List Word → Option PlanForm
plan_of [] = None
plan_of (word ∷ words) = if bytes_eq word (codes "plan") then Some (form_in words) else None

-- the words of the command that is carried out or planned
abbrev pub command_words : List Word → List Word
command_words [] = []
command_words (word ∷ words) =
    if bytes_eq word (codes "plan") then behind_form words else word ∷ words
