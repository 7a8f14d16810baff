use Rattle.std.proofs.Common.{◌≡◌, ◌∙◌, Err, List, Ok, ap, inl, inr, subst, sym}
use Rattle.std.specs.Prelude.{None, Result, Some}
use Rattle.acct_text.proofs.NumberLaws.{some-inj}
use Rattle.account_model.specs.declared.word_fault.WordFault.{WordFault}
use Rattle.account_model.specs.declared.words_of.WordsOf.TheVariants.{Line as OfLine}
use Rattle.account_model.specs.BatchLines.{line_asking}
use Rattle.account_model.specs.Options.{Word}
use Rattle.account_model.specs.Request.{Request}
use Rattle.account_model.specs.Words.{AsksLine, fault_line, request_as}
use Rattle.account_model.proofs.AsksLaws.{asked_is_read}
use Rattle.option_words.specs.Parsed.{request_in}
use Rattle.option_words.proofs.batch.line_asking.Goals as goal

-- what is read of words whose first fault is this
fault-read :
    (read : Result Request WordFault) (found : WordFault)
    → elim read [ Ok request ↦ None | Err first ↦ Some first ] ≡ Some found
    → read ≡ Err found
fault-read (Ok request) found is = cc
fault-read (Err first) found is = ap Err (some-inj is)

pub returns-in-Ok : goal.returns-in-Ok
returns-in-Ok c =
    let words = c.args.words.items in
    let request = request_in c.in-Ok.parsed in
    sym (ap (line_asking c.args.number words) (asked_is_read OfLine words request
    (subst (λ (words : List Word). AsksLine words request) c.as_slice.ensures.value
    c.in-Ok.ensures.request)))

pub returns-in_ok-fault-in-Err : goal.returns-in_ok-fault-in-Err
returns-in_ok-fault-in-Err c =
    let words = c.args.words.items in
    let found = c.in_ok-fault-in-Err.fault in
    let told = c.in_ok-fault-in-Err.ensures in
    elim c.in-Err.ensures.first_fault [
      | inl first ↦
          let is : fault_line words ≡ Some found =
          subst (λ (ws : List Word). fault_line ws ≡ Some found) c.as_slice.ensures.value
          (first ∙ ap Some (sym told.0)) in
          sym (ap (line_asking c.args.number words)
          (fault-read (request_as OfLine words) found is))
      | inr memory ↦ absurd (told.1 memory)
    ]
