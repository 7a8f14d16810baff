use Rattle.std.proofs.Common.{◌∙◌, subst}
use Rattle.std.proofs.lemmas.Result.{IfOk-weaker}
use Rattle.account_model.specs.Records.{subid_format}
use Rattle.subid_ranges.specs.RangeNumbers.{AreNumbersOf}
use Rattle.table.proofs.TableLemmas.{seen-records}
use Rattle.carried_tables.proofs.range_numbers.known_or_gathered.Goals as goal

-- the text is that of the file
pub returns-in_ok-seen-in-None : goal.returns-in_ok-seen-in-None
returns-in_ok-seen-in-None c =
    IfOk-weaker c.of.result _ _ (λ numbers are.
    subst (λ ranges. AreNumbersOf ranges numbers)
    (seen-records subid_format c.args.table.now c.as_slice-in-None.result.now
    (c.as_slice-in-None.ensures ∙ c.in_ok-seen-in-None.ensures)) are)
    c.of.ensures
