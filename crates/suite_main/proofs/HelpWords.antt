-- Claim: where an option behind a word asks for help, the words ask about the tool that the word
-- names, and about no other (`asked-named`), and ask neither for a rehearsal (`no-rehearsal`) nor about
-- plans (`no-plans`).
--
-- Way: the word names a tool exactly where it is the tool's name, so the words are the name with
-- that option exactly where the tool is the one that was found.
use Rattle.std.proofs.Common.{◌≡◌, ◌⊎◌, ◌↔◌, ◌∙◌, ap, refl, sym, inl, inr, List, [], ◌∷◌, Option, Some, None, codes}
use Rattle.account_model.specs.declared.tool.Tool.{Tool}
use Rattle.account_model.specs.Words.{tool_name, tool_named}
use Rattle.account_model.specs.Options.{Word}
use Rattle.account_model.proofs.AsksLaws.{tool_of_its_name, name_of_its_tool}
use Rattle.rehearsal.specs.Asked.{BeginsRehearsal}
use Rattle.suite_main.specs.Help.{AskAbout, AskAboutPlans}

-- no words begin with a tool's name and with a word that names no tool
two-names :
    (words : List Word) (tool : Tool) (rest : List Word) (word : Word) (others : List Word)
    → tool_named word ≡ None
    → words ≡ tool_name tool ∷ rest
    → words ≡ word ∷ others
    → ⊥
two-names words tool rest word others unnamed named begins =
    let same : tool_name tool ≡ word = cc (named, begins) in
    let none : Some tool ≡ None =
    sym (tool_of_its_name tool) ∙ (ap tool_named same ∙ unnamed) in cc

-- words that ask about a tool begin with its name
begins-named :
    (words : List Word) (tool : Tool)
    → AskAbout words tool
    → (rest : List Word) × (words ≡ tool_name tool ∷ rest)
begins-named words tool (inl long) = (codes "--help" ∷ [], long)
begins-named words tool (inr short) = (codes "-h" ∷ [], short)

-- so they begin no rehearsal
pub no-rehearsal :
    (words : List Word) (tool : Tool)
    → AskAbout words tool
    → BeginsRehearsal words
    → ⊥
no-rehearsal words tool asks begins =
    let named = begins-named words tool asks in
    two-names words tool named.0 (codes "rehearse") begins.0 refl named.1 begins.1

-- and don't ask about plans
pub no-plans : (words : List Word) (tool : Tool) → AskAbout words tool → AskAboutPlans words → ⊥
no-plans words tool asks plans =
    let named = begins-named words tool asks in
    elim plans [
      | inl long ↦
          two-names words tool named.0 (codes "plan") (codes "--help" ∷ []) refl named.1 long
      | inr short ↦
          two-names words tool named.0 (codes "plan") (codes "-h" ∷ []) refl named.1 short
    ]

module _ (words : List Word) (name : Word) (options : List Word)
    (cut : words ≡ name ∷ options)
    (asks : (options ≡ codes "--help" ∷ []) ⊎ (options ≡ codes "-h" ∷ [])) where
  -- the tool that the name names is asked about
  pub named-is-asked : (tool : Tool) → tool_named name ≡ Some tool → AskAbout words tool
  named-is-asked tool named =
      let is_name = cut ∙ ap (λ first. first ∷ options) (name_of_its_tool name tool named) in
      elim asks [
        | inl long ↦ inl (is_name ∙ ap (λ rest. tool_name tool ∷ rest) long)
        | inr short ↦ inr (is_name ∙ ap (λ rest. tool_name tool ∷ rest) short)
      ]

  -- words that begin with a tool's name begin with a name of this tool
  pub first-names :
      (tool : Tool) (rest : List Word) → words ≡ tool_name tool ∷ rest → tool_named name ≡ Some tool
  first-names tool rest begins =
      let same : name ≡ tool_name tool = cc in ap tool_named same ∙ tool_of_its_name tool

  -- the tool that is asked about is the one that the name names
  pub asked-is-named : (tool : Tool) → AskAbout words tool → tool_named name ≡ Some tool
  asked-is-named tool (inl long) = first-names tool (codes "--help" ∷ []) long
  asked-is-named tool (inr short) = first-names tool (codes "-h" ∷ []) short

  pub asked-named :
      (found : Option Tool)
      → found ≡ tool_named name
      → (tool : Tool)
      → (found ≡ Some tool) ↔ AskAbout words tool
  asked-named found is_named tool = (
    (λ is_found. named-is-asked tool (sym is_named ∙ is_found)),
    (λ is_asked. is_named ∙ asked-is-named tool is_asked),
  )
