use Rattle.std.proofs.Common.{◌∙◌, suc, ap, sym}
use Rattle.option_words.specs.Reading.{outcome_of}
use Rattle.option_words.proofs.ReadingLemmas.{outcome_of-value}
use Rattle.option_words.proofs.reading.Reading.take.Goals as goal

pub returns-in_ok-give_value-in-ValueOf : goal.returns-in_ok-give_value-in-ValueOf
returns-in_ok-give_value-in-ValueOf c = λ words.
    outcome_of-value c.args.self.now c.args.place c.in-ValueOf.letter c.args.word.now
    c.in-ValueOf.is words
    ∙ ap (λ new. outcome_of new (suc c.args.place) words)
    (sym (c.in_ok-give_value-in-ValueOf.ensures {u = tt}))
