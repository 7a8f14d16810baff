use Rattle.std.proofs.Common.{◌∙◌, sym, ap}
use Rattle.acct_text.specs.Lines.{file_bytes}
use Rattle.acct_text.proofs.LinesLaws.{lines_of-are}
use Rattle.acct_tables.proofs.lines.Lines.bytes.Goals as goal

pub returns-clause-bytes : goal.returns-clause-bytes
returns-clause-bytes c =
    sym (lines_of-are c.self.inside.left.now).joined ∙ ap file_bytes c.self.view_is

pub returns-clause-lines : goal.returns-clause-lines
returns-clause-lines c = c.self.view_is
