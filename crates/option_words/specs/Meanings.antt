-- What a word is, as src/meaning tells it and as the spelling of words has it (getopt_long(3)).
use Rattle.std.specs.Prelude.{List}
use Rattle.option_words.specs.declared.meaning.Meaning.{Meaning as Told}
use Rattle.option_words.specs.declared.meaning.Meaning.TheVariants.{Operand, EndOfOptions, LongName, Letters}
use Rattle.account_model.specs.Options.{OptionForm}
use Rattle.account_model.specs.Spelling.{Meaning, is_an_operand, ends_options, has_options, long_reading, letters_reading}

-- what a word is by a table of options
abbrev pub meaning_in : List OptionForm → Told → Meaning
meaning_in table Operand = is_an_operand
meaning_in table EndOfOptions = ends_options
meaning_in table (LongName text) = has_options (long_reading table text.now)
meaning_in table (Letters letters) = has_options (letters_reading table letters.now)
