use Rattle.std.proofs.Common.{◌∙◌, ap, sym, inr, None, true, false, option_map}
use Rattle.std.proofs.lemmas.List.{nil_from_length}
use Rattle.account_model.specs.Spelling.{letters_reading}
use Rattle.account_model.specs.SeenRows.{form_of}
use Rattle.option_words.specs.Reading.{forms_of, options_of_word}
use Rattle.option_words.proofs.ReadingLemmas.{letters_reading-cons, letters_reading-form, options_of_word-flag, options_of_word-nothing}
use Rattle.option_words.proofs.reading.Reading.take_letters.Goals as goal

pub returns-in_default-form_of_letter : goal.returns-in_default-form_of_letter
returns-in_default-form_of_letter c =
    let reading = c.letters.self in
    let read =
    letters_reading-cons (forms_of reading) c.letters.letters.now c.in-Some.letter.now
    c.in-Some.behind.now None (c.in-Some.ensures {u = tt}).cases.0
    (sym (ap (option_map form_of) c.in_default-form_of_letter.is) ∙ c.form_of_letter.ensures) in
    inr (λ words. c.letters.invariant.outcome words
    ∙ ap (λ options. options_of_word reading c.args.place options words) read)

pub returns-then-takes_value : goal.returns-then-takes_value
returns-then-takes_value c =
    let reading = c.letters.self in
    let read =
    letters_reading-form (forms_of reading) c.letters.letters.now c.in-Some.letter.now
    c.in-Some.behind.now (form_of c.in-Some-form_of_letter.form) true
    (c.in-Some.ensures {u = tt}).cases.0
    (sym (ap (option_map form_of) c.in-Some-form_of_letter.is) ∙ c.form_of_letter.ensures)
    (sym c.takes_value.ensures ∙ c.if-takes_value.true) in
    λ words. c.letters.invariant.outcome words
    ∙ ap (λ options. options_of_word reading c.args.place options words) read
    ∙ c.in_ok-take_value_behind.ensures {u = tt} c.args.place words

pub letters-preserved : goal.letters-preserved
letters-preserved c =
    let reading = c.letters.self in
    let place = c.args.place in
    let letter = c.in-Some.letter.now in
    let behind = c.in-Some.behind.now in
    let read =
    letters_reading-form (forms_of reading) c.letters.letters.now letter behind
    (form_of c.in-Some-form_of_letter.form) false (c.in-Some.ensures {u = tt}).cases.0
    (sym (ap (option_map form_of) c.in-Some-form_of_letter.is) ∙ c.form_of_letter.ensures)
    (sym c.takes_value.ensures ∙ c.if-takes_value.false) in
    let kept = sym (c.in_ok-give.ensures {u = tt}) in
    record {
      any = sym (ap (λ reading. reading.expects) kept) ∙ c.letters.invariant.any;
      outcome = λ words. c.letters.invariant.outcome words
          ∙ ap (λ options. options_of_word reading place options words) read
          ∙ options_of_word-flag reading place words letter
          (letters_reading (forms_of reading) behind)
          ∙ ap
          (λ reading.
          options_of_word reading place (letters_reading (forms_of reading) behind) words)
          kept;
    }

pub returns : goal.returns
returns c = λ words. c.letters.invariant.outcome words
    ∙ ap (λ letters. options_of_word c.letters.self c.args.place
    (letters_reading (forms_of c.letters.self) letters) words)
    (nil_from_length c.letters.letters.now (c.in_default.ensures {u = tt}).cases)
    ∙ options_of_word-nothing c.letters.self c.args.place words c.letters.invariant.any
