use Rattle.std.proofs.Common.{◌≡◌, suc, drop, Some}
use Rattle.account_model.specs.Words.{request_of_tool}
use Rattle.option_words.specs.Reading.{outcome_of}
use Rattle.option_words.proofs.reading.read_arguments.Given as goal

-- what was read and the words that are left come to what all words do
abbrev pub invariant-words : goal.invariant-words
invariant-words l =
    outcome_of l.reading (suc l.place) (drop l.place l.words)
    ≡ request_of_tool l.fn.whose (Some l.fn.tool) l.fn.words
