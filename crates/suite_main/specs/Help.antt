-- Which words ask for a text of main itself, before the suite reads them (docs/DECISIONS.md, "The
-- folder").
use Rattle.std.specs.Prelude.{◌≡◌, ◌⊎◌, List, [], ◌∷◌, codes}
use Rattle.account_model.specs.declared.tool.Tool.{Tool}
use Rattle.account_model.specs.Words.{tool_name}
use Rattle.account_model.specs.Options.{Word}

-- the words ask for the list of the tools
abbrev pub AskForTools : List Word → Type 0
AskForTools words =
    (words ≡ codes "--help" ∷ []) ⊎ (words ≡ codes "-h" ∷ []) ⊎ (words ≡ codes "help" ∷ [])

-- the words ask for the text of a tool: they are its name with one of two options
abbrev pub AskAbout : List Word → Tool → Type 0
AskAbout words tool = (words ≡ tool_name tool ∷ codes "--help" ∷ [])
    ⊎ (words ≡ tool_name tool ∷ codes "-h" ∷ [])

-- the words ask for the text of plans
abbrev pub AskAboutPlans : List Word → Type 0
AskAboutPlans words = (words ≡ codes "plan" ∷ codes "--help" ∷ [])
    ⊎ (words ≡ codes "plan" ∷ codes "-h" ∷ [])
