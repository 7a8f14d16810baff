-- Claim: words ask for a request exactly where that request is read of them (`asks_iff_read`), and
-- every list of words asks for one request or has one fault (`one_request`, `request_or_fault`).
-- The same holds of the words of a line of a batch (`asks_as_iff_read` and its likes); a plan's words ask for what
-- those behind `plan` ask for (`behind_is_asked`).
-- Way: each condition of `AsksAs` is one step of `request_as`. What is asked for passes each step
-- (`asked_is_read`). What is read has passed each: the limits, the tool, the spelling, the prefix,
-- the operands and the rules, in this order (`read_is_asked`).
use Rattle.std.proofs.Common.{◌≡◌, ◌↔◌, ◌⊎◌, ◌==◌, ℕ, ◌≤◌, ◌<◌, true, false, Bool, cond, List, [], ◌∷◌, length, find, Option, Some, None, Result, Ok, Err, refl, ap, sym, subst, ◌∙◌, arith, inl, inr}
use Rattle.std.specs.Prelude.{nat_lt, bytes_eq}
use Rattle.std.proofs.lemmas.Bool.{cases_Bool, ltb-false, false_from_ne_true, ltb-true}
use Rattle.std.proofs.lemmas.Slice.Eq.{bytes_eq-Decides}
use Rattle.account_model.specs.declared.words_of.WordsOf.{WordsOf}
use Rattle.account_model.specs.declared.words_of.WordsOf.TheVariants.{Command, Line}
use Rattle.account_model.specs.declared.tool.Tool.{Tool}
use Rattle.account_model.specs.declared.tool.Tool.TheVariants.{Useradd}
use Rattle.account_model.specs.declared.word_fault.WordFault.{WordFault}
use Rattle.account_model.specs.declared.word_fault.WordFault.TheVariants.{TooFew}
use Rattle.account_model.specs.declared.given.Given.{Given}
use Rattle.account_model.specs.Request.{Request, carried_out}
use Rattle.account_model.specs.Words.{tool_name, tools, tool_named, may_name, tool_for, past_limit, without_prefix, prefix_value, broken_rule, IsPrefix, AsksAs, Asks, request_by_rules, prefix_for, request_with, request_of_arguments, request_of_tool, request_within_limits, request_by_limit, planned_so, request_as, request_of, fault_as, fault}
use Rattle.account_model.specs.PlanWords.{command_words, plan_of}
use Rattle.account_model.specs.Options.{Word, OptionForm, with_value}
use Rattle.account_model.specs.ToolOptions.{root_form, option_forms, own_options, options_for, operands_of, most_operands}
use Rattle.account_model.specs.Text.{hyphen}
use Rattle.account_model.specs.Spelling.{Spelled, Arguments, form_of_letter, has_long_name, form_of_name, read_arguments}
use Rattle.account_model.proofs.SpelledIsRead.{IsTable, spelled_is_read}
use Rattle.account_model.proofs.ReadIsSpelled.{IsReading, read_is_spelled}

-- ---- The tools and their tables

-- no tool has an option `-` or an option with an empty long name; the last line stands for each other tool
pub is_table : (tool : Tool) → IsTable (option_forms tool)
is_table Useradd = record { letters = refl; names = refl }
is_table tool = record { letters = refl; names = refl }

-- a table without its first option is one too
pub table-behind :
    (form : OptionForm) (table : List OptionForm) → IsTable (form ∷ table) → IsTable table
table-behind form table is = record { letters = letters; names = names }
  where
    letters : form_of_letter table hyphen ≡ None
    letters = elim (cases_Bool (form.letter == hyphen)) [
      | inl same ↦ let wrong : Some form ≡ None = rw same at is.letters in absurd (cc)
      | inr other ↦ rw other at is.letters
    ]

    names : form_of_name table [] ≡ None
    names = elim (cases_Bool (has_long_name [] form)) [
      | inl same ↦ let wrong : Some form ≡ None = rw same at is.names in absurd (cc)
      | inr other ↦ rw other at is.names
    ]

-- so the options of a line make a table as well
pub is_table_for : (whose : WordsOf) (tool : Tool) → IsTable (options_for whose tool)
is_table_for Command tool = is_table tool
is_table_for Line tool =
    table-behind (root_form tool) (own_options tool)
    (table-behind (with_value "P" "prefix" []) (root_form tool ∷ own_options tool) (is_table tool))

-- a tool's name names it
pub tool_of_its_name : (tool : Tool) → tool_named (tool_name tool) ≡ Some tool
tool_of_its_name Useradd = refl
tool_of_its_name tool = refl

-- what is found passes the test
pub found_passes :
    {X : Type 0} (test : X → Bool) (xs : List X) (x : X)
    → find test xs ≡ Some x
    → test x ≡ true
found_passes test [] x found = cc
found_passes test (y ∷ ys) x found = elim (cases_Bool (test y)) [
  | inl passes ↦
      let same : Some y ≡ Some x = rw passes at found in
      let e : y ≡ x = cc in sym (ap test e) ∙ passes
  | inr fails ↦
      let later : find test ys ≡ Some x = rw fails at found in found_passes test ys x later
]

-- a word that names a tool is its name
pub name_of_its_tool :
    (name : Word) (tool : Tool) → tool_named name ≡ Some tool → name ≡ tool_name tool
name_of_its_tool name tool found =
    let same = found_passes (λ tool. bytes_eq (tool_name tool) name) tools tool found in
    sym ((bytes_eq-Decides (tool_name tool) name).0 same)

-- the name of a tool that such words may name
pub tool_for_its_name :
    (whose : WordsOf) (tool : Tool)
    → may_name whose tool ≡ true
    → tool_for whose (tool_name tool) ≡ Some tool
tool_for_its_name whose tool may =
    ap (λ named. elim named [
      | None ↦ None
      | Some tool ↦ cond (may_name whose tool) (Some tool) None
    ]) (tool_of_its_name tool)
    ∙ ap (λ may. cond may (Some tool) None) may

-- a word that names a tool that such words may name
pub named_for :
    (whose : WordsOf) (name : Word) (tool : Tool)
    → tool_for whose name ≡ Some tool
    → (name ≡ tool_name tool) × (may_name whose tool ≡ true)
named_for whose name tool found = by (tool_named name) refl found
  where
    by :
        (named : Option Tool)
        → tool_named name ≡ named
        → elim named [ None ↦ None | Some tool ↦ cond (may_name whose tool) (Some tool) None ]
        ≡ Some tool
        → (name ≡ tool_name tool) × (may_name whose tool ≡ true)
    by None is wrong = absurd (cc)
    by (Some other) is same = elim (cases_Bool (may_name whose other)) [
      | inl may ↦
          let equal : Some other ≡ Some tool = rw may at same in
          let e : other ≡ tool = cc in
          (name_of_its_tool name tool (is ∙ equal), subst (λ t. may_name whose t ≡ true) e may)
      | inr not_so ↦ let wrong : None ≡ Some tool = rw not_so at same in absurd (cc)
    ]

-- ---- What is asked for is read

-- a prefix by its condition
pub prefix_is_read :
    (whose : WordsOf) (tool : Tool) (given : List Given) (prefix : Word)
    → IsPrefix whose tool given prefix
    → prefix_for whose (prefix_value tool given) ≡ Ok prefix
prefix_is_read Command tool given [] is = absurd (is.1 refl)
prefix_is_read Command tool given (c ∷ prefix) is = ap (prefix_for Command) is.0
prefix_is_read Line tool given prefix is = ap Ok (sym is)

-- a request that is carried out
abbrev pub tool_request : Tool → Word → List Given → List Word → Request
tool_request tool prefix options operands = record {
  tool = tool;
  prefix = prefix;
  options = options;
  operands = operands;
  plan = None;
}

-- the request of a prefix, as many operands as the tool takes, and options that break no rule
pub asked_with :
    (tool : Tool) (options : List Given) (operands : List Word) (prefix : Word)
    → operands_of tool ≤ length operands
    → broken_rule tool options ≡ None
    → request_with tool options operands (Ok prefix)
    ≡ Ok (tool_request tool prefix options operands)
asked_with tool options operands prefix enough_operands rules =
    let request = tool_request tool prefix options operands in
    let few = nat_lt (length operands) (operands_of tool) in
    let enough : few ≡ false = false_from_ne_true few
    (λ less.
    let below : length operands < operands_of tool =
    ltb-true (length operands) (operands_of tool) less in omega arith) in
    ap (λ b. cond b (Err TooFew) (request_by_rules (broken_rule tool options) request)) enough
    ∙ ap (λ broken. request_by_rules broken request) rules

-- each step of the reading is passed
pub asked_is_read :
    (whose : WordsOf) (words : List Word) (request : Request)
    → AsksAs whose words request
    → request_as whose words ≡ Ok request
asked_is_read whose words request asks =
    let tool = request.tool in
    let operands = request.operands in
    let table = is_table_for whose tool in
    let read = spelled_is_read asks.spelled table (most_operands tool) 1 asks.few in
    ap (λ limit. request_by_limit whose limit words) asks.limits
    ∙ ap (request_within_limits whose) asks.tool
    ∙ ap (λ named. request_of_tool whose named asks.arguments)
    (tool_for_its_name whose tool asks.may_name)
    ∙ ap (request_of_arguments whose tool) read
    ∙ ap (request_with tool (without_prefix tool asks.given) operands)
    (prefix_is_read whose tool asks.given request.prefix asks.prefix)
    ∙ ap (λ options. request_with tool options operands (Ok request.prefix)) (sym asks.options)
    ∙ asked_with tool request.options operands request.prefix asks.enough asks.rules
    ∙ ap (λ plan. Ok (record request { plan = plan })) (sym asks.plan)

-- ---- What is read is asked for

-- what is spelled behind the name of a tool, within the limits
pub record IsSpelt (whose : WordsOf) (words : List Word) (tool : Tool) (given : List Given)
    (operands : List Word) : Type 0 where
  pub limits : past_limit words ≡ None
  pub arguments : List Word
  pub named : words ≡ tool_name tool ∷ arguments
  pub may_name : may_name whose tool ≡ true
  pub spelled : Spelled (options_for whose tool) arguments given operands

-- a prefix that is read has its condition
pub prefix_is_so :
    (whose : WordsOf) (tool : Tool) (given : List Given) (prefix : Word) (value : Option Word)
    → prefix_value tool given ≡ value
    → prefix_for whose value ≡ Ok prefix
    → IsPrefix whose tool given prefix
prefix_is_so Command tool given prefix None last read = absurd (cc)
prefix_is_so Command tool given prefix (Some []) last read = absurd (cc)
prefix_is_so Command tool given prefix (Some (c ∷ value)) last read =
    let same : c ∷ value ≡ prefix = cc in (last ∙ ap Some same, λ empty. cc)
prefix_is_so Line tool given prefix value last read = cc

-- with a prefix and the operands, what is read is asked for where no rule is broken
pub rules_are_kept :
    (whose : WordsOf) (words : List Word) (tool : Tool) (given : List Given)
    (operands : List Word) (prefix : Word) (request : Request)
    → IsSpelt whose words tool given operands
    → operands_of tool ≤ length operands
    → length operands ≤ most_operands tool
    → IsPrefix whose tool given prefix
    → (broken : Option ℕ)
    → broken_rule tool (without_prefix tool given) ≡ broken
    → request_by_rules broken (tool_request tool prefix (without_prefix tool given) operands)
    ≡ Ok request
    → AsksAs whose words request
rules_are_kept whose words tool given operands prefix request is enough few stands (Some number)
    rules read = absurd (cc)
rules_are_kept whose words tool given operands prefix request is enough few stands None rules
    read =
    let same : tool_request tool prefix (without_prefix tool given) operands ≡ request = cc in
    subst (AsksAs whose words) same (record {
      limits = is.limits;
      arguments = is.arguments;
      tool = is.named;
      may_name = is.may_name;
      given = given;
      spelled = is.spelled;
      prefix = stands;
      enough = enough;
      few = few;
      options = refl;
      rules = rules;
      plan = refl;
    })

-- with at most the operands that the tool takes, what is read is asked for
pub prefix_is_kept :
    (whose : WordsOf) (words : List Word) (tool : Tool) (given : List Given)
    (operands : List Word) (request : Request)
    → IsSpelt whose words tool given operands
    → length operands ≤ most_operands tool
    → (prefix : Result Word WordFault)
    → prefix_for whose (prefix_value tool given) ≡ prefix
    → request_with tool (without_prefix tool given) operands prefix ≡ Ok request
    → AsksAs whose words request
prefix_is_kept whose words tool given operands request is fits (Err fault) found read =
    absurd (cc)
prefix_is_kept whose words tool given operands request is fits (Ok prefix) found read =
    elim (cases_Bool (nat_lt (length operands) (operands_of tool))) [
      | inl less ↦ absurd (few_operands less)
      | inr enough ↦
          rules_are_kept whose words tool given operands prefix request is (many enough) fits
          (prefix_is_so whose tool given prefix (prefix_value tool given) refl found)
          (broken_rule tool (without_prefix tool given)) refl (rw enough at read)
    ]
  where
    few_operands : nat_lt (length operands) (operands_of tool) ≡ true → ⊥
    few_operands less = let wrong : Err TooFew ≡ Ok request = rw less at read in cc

    many : nat_lt (length operands) (operands_of tool) ≡ false → operands_of tool ≤ length operands
    many enough = ltb-false (length operands) (operands_of tool) enough

-- what the words behind the name give
pub arguments_are_kept :
    (whose : WordsOf) (words arguments : List Word) (tool : Tool) (request : Request)
    → past_limit words ≡ None
    → words ≡ tool_name tool ∷ arguments
    → may_name whose tool ≡ true
    → (read : Result Arguments WordFault)
    → IsReading (options_for whose tool) arguments (most_operands tool) read
    → request_of_arguments whose tool read ≡ Ok request
    → AsksAs whose words request
arguments_are_kept whose words arguments tool request limits named may (Ok found) reads read =
    prefix_is_kept whose words tool found.0 found.1 request
    (record {
      limits = limits;
      arguments = arguments;
      named = named;
      may_name = may;
      spelled = reads.0;
    })
    reads.1 (prefix_for whose (prefix_value tool found.0)) refl read
arguments_are_kept whose words arguments tool request limits named may (Err fault) reads read =
    absurd (cc)

-- what word 0 names
pub tool_is_kept :
    (whose : WordsOf) (name : Word) (arguments : List Word) (request : Request)
    → past_limit (name ∷ arguments) ≡ None
    → (tool : Option Tool)
    → tool_for whose name ≡ tool
    → request_of_tool whose tool arguments ≡ Ok request
    → AsksAs whose (name ∷ arguments) request
tool_is_kept whose name arguments request limits None found read = absurd (cc)
tool_is_kept whose name arguments request limits (Some tool) found read =
    let named = named_for whose name tool found in
    let table = options_for whose tool in
    arguments_are_kept whose (name ∷ arguments) arguments tool request limits
    (ap (λ word. word ∷ arguments) named.0) named.1
    (read_arguments table None (most_operands tool) 1 arguments)
    (read_is_spelled table (is_table_for whose tool) arguments (most_operands tool) 1) read

-- words within the limits
pub words_are_kept :
    (whose : WordsOf) (words : List Word) (request : Request)
    → past_limit words ≡ None
    → request_within_limits whose words ≡ Ok request
    → AsksAs whose words request
words_are_kept whose [] request limits read = absurd (cc)
words_are_kept whose (name ∷ arguments) request limits read =
    tool_is_kept whose name arguments request limits (tool_for whose name) refl read

-- words by the first that passes a limit
pub limits_are_kept :
    (whose : WordsOf) (words : List Word) (request : Request) (limit : Option ℕ)
    → past_limit words ≡ limit
    → request_by_limit whose limit words ≡ Ok request
    → AsksAs whose words request
limits_are_kept whose words request (Some place) limits read = absurd (cc)
limits_are_kept whose words request None limits read =
    words_are_kept whose words request limits read

-- each step that is passed is a condition
pub read_is_asked :
    (whose : WordsOf) (words : List Word) (request : Request)
    → request_as whose words ≡ Ok request
    → AsksAs whose words request
read_is_asked whose words request read =
    limits_are_kept whose words request (past_limit words) refl read

-- ---- One request or one fault

module _ (whose : WordsOf) where
  -- the words ask for a request exactly where it is read of them
  pub asks_as_iff_read :
      (words : List Word) (request : Request)
      → AsksAs whose words request ↔ (request_as whose words ≡ Ok request)
  asks_as_iff_read words request =
      (asked_is_read whose words request, read_is_asked whose words request)

  -- words ask for at most one request
  pub one_request_as :
      (words : List Word) (first second : Request)
      → AsksAs whose words first
      → AsksAs whose words second
      → first ≡ second
  one_request_as words first second asks_first asks_second =
      let read_first : request_as whose words ≡ Ok first =
      asked_is_read whose words first asks_first in
      let read_second : request_as whose words ≡ Ok second =
      asked_is_read whose words second asks_second in cc

  -- the fault of what was read
  abbrev pub fault_of : Result Request WordFault → Option WordFault
  fault_of (Ok request) = None
  fault_of (Err first) = Some first

  -- the fault of words is that of their reading
  pub fault_is :
      (words : List Word) (read : Result Request WordFault)
      → request_as whose words ≡ read
      → fault_as whose words ≡ fault_of read
  fault_is words (Ok request) same =
      ap (λ read. elim read [ Ok request ↦ None | Err found ↦ Some found ]) same
  fault_is words (Err first) same =
      ap (λ read. elim read [ Ok request ↦ None | Err found ↦ Some found ]) same

  -- words that ask for a request have no fault
  pub asks_as_no_fault :
      (words : List Word) (request : Request)
      → AsksAs whose words request
      → fault_as whose words ≡ None
  asks_as_no_fault words request asks =
      fault_is words (Ok request) (asked_is_read whose words request asks)

  -- what was read is a request or a fault
  pub request_or_fault_of :
      (words : List Word) (read : Result Request WordFault)
      → request_as whose words ≡ read
      → ((request : Request) × AsksAs whose words request)
      ⊎ ((first : WordFault) × (fault_as whose words ≡ Some first))
  request_or_fault_of words (Ok request) same =
      inl (request, read_is_asked whose words request same)
  request_or_fault_of words (Err first) same = inr (first, fault_is words (Err first) same)

  -- every list of words asks for a request or has a fault
  pub request_or_fault_as :
      (words : List Word)
      → ((request : Request) × AsksAs whose words request)
      ⊎ ((first : WordFault) × (fault_as whose words ≡ Some first))
  request_or_fault_as words = request_or_fault_of words (request_as whose words) refl

-- ---- The words of a command

-- what is asked for is read of the words behind `plan`, and then planned
asks_is_read :
    (words : List Word) (request : Request) → Asks words request → request_of words ≡ Ok request
asks_is_read words request asks =
    ap (planned_so (plan_of words))
    (asked_is_read Command (command_words words) (carried_out request) asks.command)
    ∙ ap (λ plan. Ok (record request { plan = plan })) (sym asks.plan)

-- what the words behind `plan` ask for is asked for as it is planned
behind_is_asked :
    (words : List Word) (behind : Request)
    → AsksAs Command (command_words words) behind
    → Asks words (record behind { plan = plan_of words })
behind_is_asked words behind asks = record {
  command = subst (AsksAs Command (command_words words))
      (ap (λ plan. record behind { plan = plan }) asks.plan) asks;
  plan = refl;
}

-- and so is what is read of them
planned_is_asked :
    (words : List Word) (request : Request) (read : Result Request WordFault)
    → request_as Command (command_words words) ≡ read
    → planned_so (plan_of words) read ≡ Ok request
    → Asks words request
planned_is_asked words request (Err fault) is read = absurd (cc)
planned_is_asked words request (Ok behind) is read =
    let same : record behind { plan = plan_of words } ≡ request = cc in
    subst (Asks words) same (behind_is_asked words behind
    (read_is_asked Command (command_words words) behind is))

-- the words ask for a request exactly where it is read of them
pub asks_iff_read :
    (words : List Word) (request : Request) → Asks words request ↔ (request_of words ≡ Ok request)
asks_iff_read words request = (
  asks_is_read words request,
  planned_is_asked words request (request_as Command (command_words words)) refl,
)

-- words ask for at most one request
pub one_request :
    (words : List Word) (first second : Request)
    → Asks words first
    → Asks words second
    → first ≡ second
one_request words first second asks_first asks_second =
    let read_first : request_of words ≡ Ok first = asks_is_read words first asks_first in
    let read_second : request_of words ≡ Ok second = asks_is_read words second asks_second in cc

-- words that ask for a request have no fault
pub asks_no_fault :
    (words : List Word) (request : Request) → Asks words request → fault words ≡ None
asks_no_fault words request asks =
    asks_as_no_fault Command (command_words words) (carried_out request) asks.command

-- every list of words asks for a request or has a fault
pub request_or_fault :
    (words : List Word)
    → ((request : Request) × Asks words request)
    ⊎ ((first : WordFault) × (fault words ≡ Some first))
request_or_fault words = elim (request_or_fault_as Command (command_words words)) [
  | inl (behind, asks) ↦
      inl (record behind { plan = plan_of words }, behind_is_asked words behind asks)
  | inr faulty ↦ inr faulty
]
