use Rattle.std.proofs.Common.{◌∙◌, suc, ap, sym}
use Rattle.account_model.specs.Options.{as_value}
use Rattle.option_words.specs.Reading.{options_of_word, outcome_of}
use Rattle.option_words.proofs.ReadingLemmas.{OnOk-from, complete-leads, value_behind-some}
use Rattle.option_words.proofs.reading.Reading.take_value_behind.Goals as goal

pub returns : goal.returns
returns c =
    let reading = c.args.self.now in
    let letter = c.args.letter in
    let behind = c.args.behind.now in
    let complete = value_behind-some letter behind (sym c.is_empty.ensures ∙ c.if-is_empty.false) in
    OnOk-from c.give_value.result (λ same place words.
    ap (λ options. options_of_word reading place options words) complete
    ∙ complete-leads reading place (as_value letter behind) c.requires words
    ∙ ap (λ new. outcome_of new (suc place) words) (sym same)) c.give_value.ensures
