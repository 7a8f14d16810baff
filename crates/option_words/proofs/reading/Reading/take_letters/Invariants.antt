use Rattle.std.proofs.Common.{◌≡◌, List, length}
use Rattle.account_model.specs.Options.{Word}
use Rattle.account_model.specs.Spelling.{letters_reading}
use Rattle.option_words.specs.declared.reading.Expects.TheVariants.{AnyWord}
use Rattle.option_words.specs.Reading.{options_of_word, forms_of}
use Rattle.option_words.proofs.reading.Reading.take_letters.Given as goal

-- what was read and the letters that are left come to what the whole bundle does
abbrev pub invariant-letters : goal.invariant-letters
invariant-letters l = record {
  any : l.self.expects ≡ AnyWord;
  outcome : (words : List Word)
      → options_of_word l.fn.self l.fn.place (letters_reading (forms_of l.fn.self) l.fn.letters)
      words
      ≡ options_of_word l.self l.fn.place (letters_reading (forms_of l.self) l.letters) words;
}

abbrev pub decreases-letters : goal.decreases-letters
decreases-letters l = length l.letters
