use Rattle.std.proofs.Common.{◌≡◌, ◌∙◌, ap, sym, true≢false, inl, inr, refl, List, Option, Some, None, Result, Ok, Err}
use Rattle.account_model.specs.declared.plan_form.PlanForm.{PlanForm}
use Rattle.account_model.specs.declared.word_fault.WordFault.{WordFault}
use Rattle.account_model.specs.declared.words_of.WordsOf.TheVariants.{Command}
use Rattle.account_model.specs.PlanWords.{command_words, plan_of}
use Rattle.account_model.specs.Options.{Word}
use Rattle.account_model.specs.Request.{Request}
use Rattle.account_model.specs.Words.{fault, planned_so, request_as}
use Rattle.account_model.proofs.AsksLaws.{asks_iff_read}
use Rattle.option_words.specs.Parsed.{request_in}
use Rattle.suite_main.specs.Input.{asked_file, named_file, operand_file}
use Rattle.suite_main.proofs.input.named_file.Goals.{in-Memory, in_default}
use Rattle.suite_main.proofs.input.named_file.Goals as goal

-- the file is that of the request that the words ask for
pub returns-in-Ok : goal.returns-in-Ok
returns-in-Ok c =
    let words = c.args.words.now in
    let parsed = c.in-Ok.parsed in
    let is : named_file words ≡ operand_file parsed.tool parsed.operands =
    ap asked_file ((asks_iff_read words (request_in parsed)).0 c.in-Ok.ensures.request) in
    rw is c.operand_file.ensures

-- words with a fault name no file
no-file : (plan : Option PlanForm) (read : Result Request WordFault) (found : WordFault) →
    elim read [ Ok request ↦ None | Err first ↦ Some first ] ≡ Some found →
    asked_file (planned_so plan read) ≡ None
no-file plan (Ok request) found is = absurd (cc is)
no-file plan (Err first) found is = refl

names-none : (words : List Word) (found : WordFault) → fault words ≡ Some found →
    named_file words ≡ None
names-none words found =
    no-file (plan_of words) (request_as Command (command_words words)) found

pub returns-in-Err-2 : goal.returns-in-Err-2
returns-in-Err-2 c = elim c.match-matches.branch [
  | in-Memory w ↦ absurd (true≢false (sym w.matches-is ∙ c.if-matches.false))
  | in_default w ↦ elim c.in-Err.ensures.first_fault [
    | inl is ↦ sym (names-none c.args.words.now c.in-Err.fault is)
    | inr memory ↦ absurd (w.in_default.not-Memory memory)
  ]
]
