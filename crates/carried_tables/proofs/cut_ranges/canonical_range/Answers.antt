use Rattle.std.proofs.Common.{◌∙◌, sym, subst}
use Rattle.std.specs.Prelude.{IfSome}
use Rattle.account_model.specs.Records.{subid_format}
use Rattle.account_model.specs.Written.{IsWritten}
use Rattle.acct_tables.specs.SeenLines.{seen_line}
use Rattle.carried_tables.proofs.RangeCuts.{line-of, same-texts}
use Rattle.carried_tables.proofs.cut_ranges.canonical_range.Goals as goal

pub returns : goal.returns
returns c = record {
  written = subst (λ found. IfSome found (IsWritten subid_format)) c.in-Some.is
      (c.in_ok-range.ensures.written c.requires);
  printed = line-of (seen_line c.args.line.now) (subid_format.print c.in-Some.range)
      (sym (same-texts c.as_slice.result.now c.args.line.now.text.now c.ne.result c.ne.ensures
      c.if-ne.false) ∙ c.as_slice.ensures ∙ c.in_ok-text.ensures) c.if-not-line.false;
}
