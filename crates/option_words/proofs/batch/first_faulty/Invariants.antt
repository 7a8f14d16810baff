use Rattle.std.proofs.Common.{◌≡◌, length, map}
use Rattle.account_model.specs.Text.{first_some}
use Rattle.account_model.specs.BatchLines.{faulty_line, first_faulty}
use Rattle.option_words.proofs.batch.first_faulty.Given as goal

-- the first faulty line is among those that are left
abbrev pub invariant-lines : goal.invariant-lines
invariant-lines l = first_some (map faulty_line l.lines) ≡ first_faulty l.input

abbrev pub decreases-lines : goal.decreases-lines
decreases-lines l = length l.lines
