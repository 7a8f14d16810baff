use Rattle.std.proofs.Common.{◌∙◌, suc, ap, inr, Some, option_map}
use Rattle.std.specs.Option.{option_copied}
use Rattle.account_model.specs.Spelling.{name_reading_with, long_reading}
use Rattle.account_model.specs.SeenRows.{form_of}
use Rattle.option_words.specs.Reading.{forms_of, options_of_word}
use Rattle.option_words.proofs.ReadingLemmas.{ReadsOn-before, named_reading, named_reading-none, long_reading-found}
use Rattle.option_words.proofs.reading.Reading.take_long.Goals as goal

pub returns-in_default : goal.returns-in_default
returns-in_default c =
    let reading = c.args.self.now in
    let option = c.cut_at_equals-option in
    let value = option_copied option.result.value in
    let read =
    long_reading-found (forms_of reading) c.args.text.now option.result.name.now value
    (option_map form_of c.form_of_name.result) option.ensures.name option.ensures.value
    c.form_of_name.ensures in
    inr (λ words. ap (λ options. options_of_word reading c.args.place options words)
    (read ∙ ap (λ form. named_reading (option_map form_of form) value) c.in_default.is
    ∙ named_reading-none value))

pub returns-in-Some-value : goal.returns-in-Some-value
returns-in-Some-value c =
    let reading = c.args.self.now in
    let place = c.args.place in
    let text = c.args.text.now in
    let option = c.cut_at_equals-option in
    let value = option_copied option.result.value in
    let form = form_of c.in-Some.form in
    let read =
    long_reading-found (forms_of reading) text option.result.name.now value
    (option_map form_of c.form_of_name.result) option.ensures.name option.ensures.value
    c.form_of_name.ensures
    ∙ ap (λ form. named_reading (option_map form_of form) value) c.in-Some.is
    ∙ ap (λ value. named_reading (Some form) (option_copied value)) c.in-Some-value.is in
    ReadsOn-before (options_of_word reading place (long_reading (forms_of reading) text))
    (options_of_word reading place (name_reading_with c.in-Some-value.value.now (Some form)))
    c.take_name_with_value.new.self (suc place) c.take_name_with_value.result
    (λ words. ap (λ options. options_of_word reading place options words) read)
    c.take_name_with_value.ensures

pub returns-in_ok-take_name-in-None : goal.returns-in_ok-take_name-in-None
returns-in_ok-take_name-in-None c =
    let reading = c.args.self.now in
    let place = c.args.place in
    let option = c.cut_at_equals-option in
    let value = option_copied option.result.value in
    let form = form_of c.in-Some.form in
    let read =
    long_reading-found (forms_of reading) c.args.text.now option.result.name.now value
    (option_map form_of c.form_of_name.result) option.ensures.name option.ensures.value
    c.form_of_name.ensures
    ∙ ap (λ form. named_reading (option_map form_of form) value) c.in-Some.is
    ∙ ap (λ value. named_reading (Some form) (option_copied value)) c.in-None.is in
    λ words. ap (λ options. options_of_word reading place options words) read
    ∙ c.in_ok-take_name-in-None.ensures {u = tt} place words
