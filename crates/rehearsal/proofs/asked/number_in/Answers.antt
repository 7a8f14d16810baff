use Rattle.std.proofs.Common.{◌∙◌, ap}
use Rattle.std.specs.Result.{result_ok}
use Rattle.acct_text.specs.Numbers.{number_fault, number_within}
use Rattle.rehearsal.proofs.AskedLemmas.{ok-within}
use Rattle.rehearsal.proofs.asked.number_in.Goals as goal

pub returns : goal.returns
returns c =
    let text = c.as_slice.result.now in
    c.ok.ensures.value
    ∙ (ap result_ok c.read_decimal.ensures
    ∙ (ok-within (number_within c.args.bound text) (number_fault text)
    ∙ ap (number_within c.args.bound) c.as_slice.ensures))
