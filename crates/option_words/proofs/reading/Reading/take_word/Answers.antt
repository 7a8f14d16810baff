use Rattle.std.proofs.Common.{◌∷◌, ◌∙◌, suc, ap}
use Rattle.account_model.specs.Spelling.{long_reading, letters_reading}
use Rattle.option_words.specs.Meanings.{meaning_in}
use Rattle.option_words.specs.Reading.{forms_of, outcome_of, options_of_word}
use Rattle.option_words.proofs.ReadingLemmas.{ReadsOn-before, operand-reads, outcome_of-options}
use Rattle.option_words.proofs.reading.Reading.take_word.Goals as goal

pub returns-in-Operand : goal.returns-in-Operand
returns-in-Operand c =
    let reading = c.args.self.now in
    let table = forms_of reading in
    operand-reads reading c.take_operand.new.self c.args.place c.args.word.now c.take_operand.result
    c.requires (c.meaning_of.ensures table ∙ ap (meaning_in table) c.in-Operand.is)
    c.take_operand.ensures.taken c.take_operand.ensures.fault

pub returns-in-LongName : goal.returns-in-LongName
returns-in-LongName c =
    let reading = c.args.self.now in
    let place = c.args.place in
    let word = c.args.word.now in
    let table = forms_of reading in
    let options = long_reading table c.in-LongName.text.now in
    ReadsOn-before (λ words. outcome_of reading place (word ∷ words))
    (options_of_word reading place options) c.take_long.new.self (suc place) c.take_long.result
    (outcome_of-options reading place word options c.requires
    (c.meaning_of.ensures table ∙ ap (meaning_in table) c.in-LongName.is)) c.take_long.ensures

pub returns-in-Letters : goal.returns-in-Letters
returns-in-Letters c =
    let reading = c.args.self.now in
    let place = c.args.place in
    let word = c.args.word.now in
    let table = forms_of reading in
    let options = letters_reading table c.in-Letters.letters.now in
    ReadsOn-before (λ words. outcome_of reading place (word ∷ words))
    (options_of_word reading place options) c.take_letters.new.self (suc place)
    c.take_letters.result
    (outcome_of-options reading place word options c.requires
    (c.meaning_of.ensures table ∙ ap (meaning_in table) c.in-Letters.is)) c.take_letters.ensures
