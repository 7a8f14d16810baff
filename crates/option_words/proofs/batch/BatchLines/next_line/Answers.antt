use Rattle.std.proofs.Common.{◌∙◌, sym}
use Rattle.account_model.specs.LineWords.{split_line}
use Rattle.option_words.proofs.BatchLemmas.{line-for-lines}
use Rattle.option_words.proofs.batch.BatchLines.next_line.Goals as goal

pub returns-in-Some-clause-for_lines : goal.returns-in-Some-clause-for_lines
returns-in-Some-clause-for_lines c =
    line-for-lines c.lines.self-inside.number (split_line c.first_line-line.result.before.now)
    c.in-Some.read (sym c.in-Some.is ∙ c.in_ok-read.ensures)
