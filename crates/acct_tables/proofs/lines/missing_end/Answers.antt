use Rattle.std.proofs.Common.{◌∙◌, ap}
use Rattle.acct_tables.specs.SeenLines.{end_for}
use Rattle.acct_tables.proofs.LinesAhead.{last-tells}
use Rattle.acct_tables.proofs.lines.missing_end.Goals as goal

pub returns-in-Some : goal.returns-in-Some
returns-in-Some c =
    c.end_behind.ensures ∙ ap end_for c.in-Some.ensures.value ∙ last-tells c.args.text.now

pub returns-in-None : goal.returns-in-None
returns-in-None c = ap end_for c.in-None.ensures.value ∙ last-tells c.args.text.now
