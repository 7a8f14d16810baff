use Rattle.std.proofs.Common.{sym}
use Rattle.acct_text.specs.Bytes.{colon}
use Rattle.acct_text.proofs.CutOnce.{cut-before, cut-behind, cut-has, uncut-has}
use Rattle.aging_commands.proofs.hash_lines.cut_at_colon.Goals as goal

pub returns-in_err-cut : goal.returns-in_err-cut
returns-in_err-cut c =
    rw c.from_residual.ensures (uncut-has colon c.args.line.now c.in_err-cut.ensures.cut)

pub returns : goal.returns
returns c =
    let line = c.args.line.now in
    let name = c.in_ok-cut.cut.before.now in
    let hash = c.in_ok-cut.cut.behind.now in
    let cut = c.in_ok-cut.ensures.cut in (
      cut-has colon line name hash cut,
      λ i. record {
        name = sym (cut-before colon line name hash cut) i;
        hash = sym (cut-behind colon line name hash cut) i;
      },
    )
