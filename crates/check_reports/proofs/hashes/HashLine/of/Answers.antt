use Rattle.std.proofs.Common.{◌∙◌, ap, sym}
use Rattle.std.specs.Prelude.{option_map}
use Rattle.check_reports.specs.Hashes.{seen_hash}
use Rattle.check_reports.proofs.HashLemmas.{hash-kept}
use Rattle.check_reports.proofs.hashes.HashLine.of.Goals as goal

pub invariant_of-result : goal.invariant_of-result
invariant_of-result c = record {
  of_text = hash-kept c.args.text.now c.read.result c.read.ensures
      ∙ ap (option_map seen_hash) (sym c.ok.ensures.value);
}
