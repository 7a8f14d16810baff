-- Claim: what words ask for keeps the row of its tool (`asks-keeps_row`). Way: each way to spell an
-- option tells its row of the tool's table, by its letter or by its long name, and no two rows of a
-- tool have one letter (`letters-apart`). The rows of the folder count for nothing among options
-- without it.
use Rattle.std.proofs.Common.{◌≡◌, ℕ, Bool, true, false, ◌==◌, List, [], ◌∷◌, refl, sym, subst, ◌∙◌, inl, inr, eq-eqb}
use Rattle.std.specs.Prelude.{◌||◌, Some, find, is_some}
use Rattle.std.specs.List.{AllByRecursion, list_any}
use Rattle.std.proofs.lemmas.Bool.{cases_Bool, eqb-true}
use Rattle.account_model.specs.declared.given.Given.{Given}
use Rattle.account_model.specs.declared.tool.Tool.{Tool}
use Rattle.account_model.specs.declared.tool.Tool.TheVariants.{Useradd}
use Rattle.account_model.specs.Options.{Word, OptionForm}
use Rattle.account_model.specs.ToolOptions.{prefix_letter, root_letter, is_prefix, option_forms, own_options}
use Rattle.account_model.specs.Request.{Request}
use Rattle.account_model.specs.Spelling.{form_of_letter, HasLetter, HasName, Spelled, nothing, end_of_options, operand, letter_flag, letter_bundle, letter_with_value, letter_then_value, name_flag, name_with_value, name_then_value}
use Rattle.account_model.specs.Words.{Asks, without_prefix}
use Rattle.account_model.proofs.SpelledIsRead.{both_false}
use Rattle.command_values.specs.Options.{IsOfTable, KeepsRow}

-- ---- One row for each letter

-- two options of a table have one letter
abbrev has_twice : List OptionForm → Bool
has_twice [] = false
has_twice (form ∷ forms) =
    list_any (λ other. other.letter == form.letter) forms || has_twice forms

-- no two options of a tool do; the last line stands for each other tool
letters-apart : (tool : Tool) → has_twice (option_forms tool) ≡ false
letters-apart Useradd = refl
letters-apart tool = refl

-- what is another than a letter has that as another
apart-turned : (first second : ℕ) → (first == second) ≡ false → (second == first) ≡ false
apart-turned first second other = elim (cases_Bool (second == first)) [
  | inl same ↦
      let turned : first ≡ second = sym (eqb-true second first same) in
      let wrong : false ≡ true = sym other ∙ eq-eqb first second turned in absurd (cc)
  | inr different ↦ different
]

-- what none passes isn't passed by the one that is found
fails-found :
    {X : Type 0} (test other : X → Bool) (xs : List X) (x : X)
    → list_any other xs ≡ false
    → find test xs ≡ Some x
    → other x ≡ false
fails-found test other [] x none found = absurd cc
fails-found test other (first ∷ rest) x none found =
    let fails = both_false (other first) (list_any other rest) none in
    elim (cases_Bool (test first)) [
      | inl passes ↦
          let same : Some first ≡ Some x = rw passes at found in
          let is : first ≡ x = cc in subst (λ one. other one ≡ false) is fails.0
      | inr passes_not ↦ fails-found test other rest x fails.1 (rw passes_not at found)
    ]

-- the row that is found is the only one of its letter
only-row :
    (table : List OptionForm) (test : OptionForm → Bool) (form : OptionForm)
    → has_twice table ≡ false
    → find test table ≡ Some form
    → form_of_letter table form.letter ≡ Some form
only-row [] test form apart found = absurd cc
only-row (first ∷ rest) test form apart found =
    let has_first : OptionForm → Bool = λ other. other.letter == first.letter in
    let parts = both_false (list_any has_first rest) (has_twice rest) apart in
    elim (cases_Bool (test first)) [
      | inl passes ↦
          let same : Some first ≡ Some form = rw passes at found in
          let is : first ≡ form = cc in
          let own = eq-eqb first.letter first.letter refl in
          subst (λ (one : OptionForm). form_of_letter (first ∷ rest) one.letter ≡ Some one) is
          (rw own refl)
      | inr passes_not ↦
          let later : find test rest ≡ Some form = rw passes_not at found in
          let other = fails-found test has_first rest form parts.0 later in
          rw (apart-turned form.letter first.letter other)
          (only-row rest test form parts.1 later)
    ]

module _ (table : List OptionForm) (apart : has_twice table ≡ false) where
  -- an option by its long name is one by its letter
  letter-of_name :
      (name : Word) (letter : ℕ) (takes_value : Bool)
      → HasName table name letter takes_value
      → HasLetter table letter takes_value
  letter-of_name name letter takes_value has = record {
    form = has.form;
    found = subst (λ letter. form_of_letter table letter ≡ Some has.form) has.letter_is
        (only-row table _ has.form apart has.found);
    value = has.value;
  }

  -- the options that words spell are those of the table
  spelled-of_table :
      (words : List Word) (options : List Given) (operands : List Word)
      → Spelled table words options operands
      → AllByRecursion (IsOfTable table) options
  spelled-of_table _ _ _ nothing = tt
  spelled-of_table _ _ _ end_of_options = tt
  spelled-of_table _ _ _ (operand is rest) = spelled-of_table _ _ _ rest
  spelled-of_table _ _ _ (letter_flag has rest) = (has, spelled-of_table _ _ _ rest)
  spelled-of_table _ _ _ (letter_bundle has next rest) = (has, spelled-of_table _ _ _ rest)
  spelled-of_table _ _ _ (letter_with_value has rest) = (has, spelled-of_table _ _ _ rest)
  spelled-of_table _ _ _ (letter_then_value has rest) = (has, spelled-of_table _ _ _ rest)
  spelled-of_table _ _ _ (name_flag has rest) =
      (letter-of_name _ _ _ has, spelled-of_table _ _ _ rest)
  spelled-of_table _ _ _ (name_with_value name is has rest) =
      (letter-of_name _ _ _ has, spelled-of_table _ _ _ rest)
  spelled-of_table _ _ _ (name_then_value has rest) =
      (letter-of_name _ _ _ has, spelled-of_table _ _ _ rest)

-- ---- The options but the prefix

-- another letter than those of the folder is one of the tool's own
own-letter :
    (tool : Tool) (letter : ℕ) (takes_value : Bool)
    → is_prefix tool letter ≡ false
    → HasLetter (option_forms tool) letter takes_value
    → HasLetter (own_options tool) letter takes_value
own-letter tool letter takes_value other has =
    let apart = both_false (letter == prefix_letter) (letter == root_letter tool) other in
    let no_prefix = apart-turned letter prefix_letter apart.0 in
    let no_root = apart-turned letter (root_letter tool) apart.1 in
    record { form = has.form; found = rw (no_prefix, no_root) at has.found; value = has.value }

-- the options but the prefix are the tool's own
own-options :
    (tool : Tool) (options : List Given)
    → AllByRecursion (IsOfTable (option_forms tool)) options
    → AllByRecursion (IsOfTable (own_options tool)) (without_prefix tool options)
own-options tool [] all = tt
own-options tool (option ∷ options) all = elim (cases_Bool (is_prefix tool option.letter)) [
  | inl prefix ↦ rw prefix (own-options tool options all.1)
  | inr other ↦ rw other (
    own-letter tool option.letter (is_some option.value) other all.0,
    own-options tool options all.1,
  )
]

-- what words ask for keeps the row of its tool
pub asks-keeps_row :
    (words : List Word) (request : Request) → Asks words request → KeepsRow request
asks-keeps_row words request whole =
    let tool = request.tool in
    let asks = whole.command in
    let all =
    spelled-of_table (option_forms tool) (letters-apart tool) asks.arguments asks.given
    request.operands asks.spelled in
    record {
      options = subst (AllByRecursion (IsOfTable (own_options tool))) (sym asks.options)
          (own-options tool asks.given all);
      enough = asks.enough;
      few = asks.few;
      rules = asks.rules;
    }
