use Rattle.std.proofs.Common.{ap, ◌∙◌, sym, Some}
use Rattle.account_model.proofs.FormatLaws.{gshadow-is_format}
use Rattle.acct_lines.proofs.gshadow.GshadowRecordTableRecord.read.Goals as goal

pub returns-clause-reads : goal.returns-clause-reads
returns-clause-reads c = c.in_ok-read.ensures ∙ ap Some (sym c.in_ok-copied.ensures)

pub returns-clause-written : goal.returns-clause-written
returns-clause-written c =
    λ one_line. gshadow-is_format.written _ _ one_line (returns-clause-reads c)
