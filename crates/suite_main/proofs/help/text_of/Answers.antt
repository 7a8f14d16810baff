-- Claim: the text at the tool's number is that of the tool. Way: the texts are those of the tools,
-- one by one (`at-place`), and a tool's number is its place among them.
use Rattle.std.proofs.Common.{rules, ◌≡◌, true, Bool, ℕ, zero, suc, List, [], ◌∷◌, map, slice_index_or, slice_get, Some, Bor}
use Rattle.std.specs.Cmp.{first_so, second_so}
use lib.Pointwise.{pointwise}
use Rattle.account_model.specs.declared.tool.Tool.{Tool}
use Rattle.account_model.specs.Words.{tools}
use Rattle.suite_main.specs.HelpTexts.{helps_with}
use Rattle.suite_main.proofs.help.text_of.Goals as goal

-- what holds of two lists one by one holds at each place
at-place :
    (holds : Tool → List ℕ → Bool) (named : List Tool) (texts : List (Bor (List ℕ)))
    (place : ℕ) (tool : Tool) (none : Bor (List ℕ))
    → pointwise holds named (map (λ text. text.now) texts) ≡ true
    → slice_get named place ≡ Some tool
    → holds tool (slice_index_or texts place none).now ≡ true
at-place holds [] texts place tool none hold is = absurd (cc)
at-place holds (first ∷ named) [] place tool none hold is = absurd (cc)
at-place holds (first ∷ named) (text ∷ texts) zero tool none hold is =
    grind (rules, first_so)
at-place holds (first ∷ named) (text ∷ texts) (suc place) tool none hold is =
    at-place holds named texts place tool none (second_so _ _ hold) is

pub returns : goal.returns
returns c =
    at-place helps_with tools c.texts.result _ c.args.tool _ c.texts.ensures (search rules)
