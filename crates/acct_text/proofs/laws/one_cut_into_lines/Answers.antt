use Rattle.std.proofs.Common.{subst}
use Rattle.acct_text.specs.Lines.{AreLines}
use Rattle.acct_text.proofs.LinesLaws.{lines_of-are, lines_of-only}
use Rattle.acct_text.proofs.laws.one_cut_into_lines.Goals as goal

-- lines of the file are the found ones, and these are lines of the file
pub returns : goal.returns
returns c =
    λ bytes lines.
    (lines_of-only bytes lines, λ found. subst (AreLines bytes) found (lines_of-are bytes))
