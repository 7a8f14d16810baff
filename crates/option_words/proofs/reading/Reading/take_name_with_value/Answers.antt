use Rattle.std.proofs.Common.{◌≡◌, ◌∙◌, suc, ap, sym, Err, Bool, true}
use Rattle.std.specs.Prelude.{if◌then◌else◌}
use Rattle.account_model.specs.declared.word_fault.WordFault.TheVariants.{UnexpectedValue}
use Rattle.account_model.specs.Options.{as_value}
use Rattle.account_model.specs.Spelling.{WordReading, complete}
use Rattle.account_model.specs.SeenRows.{form_of}
use Rattle.option_words.specs.Reading.{after_option, options_of_word, outcome_of}
use Rattle.option_words.proofs.ReadingLemmas.{complete-leads}
use Rattle.option_words.proofs.reading.Reading.take_name_with_value.Goals as goal

pub returns-then-takes_value : goal.returns-then-takes_value
returns-then-takes_value c =
    let reading = c.args.self.now in
    let place = c.args.place in
    let value = c.args.value.now in
    let letter = (form_of c.args.form).letter in
    let takes : (form_of c.args.form).takes_value ≡ true =
    sym c.takes_value.ensures ∙ c.if-takes_value.true in
    let when : Bool → WordReading =
    λ takes. if takes then complete (as_value letter value) else Err UnexpectedValue in
    λ words.
    ap (λ takes. options_of_word reading place (when takes) words) takes
    ∙ complete-leads reading place (as_value letter value) c.requires words
    ∙ ap (λ letter. outcome_of (after_option reading (as_value letter value)) (suc place) words)
    (sym c.letter.ensures)
    ∙ ap (λ new. outcome_of new (suc place) words) (sym (c.in_ok-give_value.ensures {u = tt}))
