use Rattle.acct_text.proofs.NumberLaws.{number-found, number-is}
use Rattle.acct_text.proofs.laws.one_number.Goals as goal

-- the number of a text is the found one, and the found one is the number of the text
pub returns : goal.returns
returns c = λ bound text number. (number-found bound text number, number-is bound text number)
