use Rattle.std.proofs.Common.{refl, [], ◌∷◌, sym, ◌∙◌}
use Rattle.account_model.specs.Records.{read_count, read_id}
use Rattle.acct_lines.proofs.FirstFault.{all_read, line-fault, was-read}
use Rattle.acct_lines.proofs.SubidFields.{subid-bad, subid-read}
use Rattle.acct_lines.proofs.Read.{told-first}
use Rattle.acct_lines.proofs.Taken.{◌before◌, AreTakenOf, are-taken, no_more}
use Rattle.acct_lines.proofs.subid.SubidLine.read.Goals as goal
use Rattle.acct_lines.proofs.subid.SubidLine.read.Goals.{After-end-reading}

-- the line has the three fields that were taken, or another number of them
taken : (c : After-end-reading) → AreTakenOf 3 c.args.line.now (c.take-owner.result.now
    ∷ c.take-first.result.now ∷ c.take-count.result.now ∷ []) c.end-reading.result.fault
taken c =
    are-taken c.args.line.now c.end-reading.result.fault (c.take-owner.ensures
    before c.take-first.ensures before c.take-count.ensures before no_more) c.end-reading.ensures

pub returns : goal.returns
returns c =
    subid-read c.args.line.now _ _ (taken (goal.at.returns c).After-end-reading)
    c.id-first.ensures c.count-count.ensures c.in_ok-finish.ensures refl
    (sym c.is_bad_range.ensures ∙ c.if-is_bad_range.false)

pub returns-in_err-finish : goal.returns-in_err-finish
returns-in_err-finish c = told-first _ _ _ _ c.from_residual.ensures.1
    (line-fault _ (taken (goal.at.returns-in_err-finish c).After-end-reading)
    (was-read read_id c.id-first.ensures (was-read read_count c.count-count.ensures all_read))
    c.in_err-finish.ensures)

pub returns-then-is_bad_range : goal.returns-then-is_bad_range
returns-then-is_bad_range c =
    let taken = taken (goal.at.returns-then-is_bad_range c).After-end-reading in
    line-fault _ taken (was-read read_id c.id-first.ensures
    (was-read read_count c.count-count.ensures all_read)) c.in_ok-finish.ensures
    ∙ subid-bad c.args.line.now _ _ taken c.id-first.ensures
    c.count-count.ensures c.in_ok-finish.ensures
    (sym c.is_bad_range.ensures ∙ c.if-is_bad_range.true)
