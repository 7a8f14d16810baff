use Rattle.std.proofs.Common.{refl, [], ◌∷◌}
use Rattle.account_model.specs.Records.{read_days}
use Rattle.acct_lines.proofs.FirstFault.{all_read, line-fault, was-read}
use Rattle.acct_lines.proofs.ShadowFields.{shadow-read}
use Rattle.acct_lines.proofs.Read.{told-first}
use Rattle.acct_lines.proofs.Taken.{◌before◌, AreTakenOf, are-taken, no_more}
use Rattle.acct_lines.proofs.shadow.ShadowLine.read.Goals as goal
use Rattle.acct_lines.proofs.shadow.ShadowLine.read.Goals.{After-end-reading}

-- the line has the nine fields that were taken, or another number of them
taken : (c : After-end-reading) → AreTakenOf 9 c.args.line.now (c.take-name.result.now
    ∷ c.take-hash.result.now ∷ c.take-last_change.result.now ∷ c.take-minimum.result.now
    ∷ c.take-maximum.result.now ∷ c.take-warning.result.now ∷ c.take-inactive.result.now
    ∷ c.take-expiration.result.now ∷ c.take-rest.result.now ∷ []) c.end-reading.result.fault
taken c =
    are-taken c.args.line.now c.end-reading.result.fault (c.take-name.ensures
    before c.take-hash.ensures before c.take-last_change.ensures before c.take-minimum.ensures
    before c.take-maximum.ensures before c.take-warning.ensures before c.take-inactive.ensures
    before c.take-expiration.ensures before c.take-rest.ensures before no_more)
    c.end-reading.ensures

pub returns : goal.returns
returns c =
    shadow-read c.args.line.now _ _ (taken (goal.at.returns c).After-end-reading)
    c.days-last_change.ensures c.days-minimum.ensures c.days-maximum.ensures c.days-warning.ensures
    c.days-inactive.ensures c.days-expiration.ensures c.in_ok-finish.ensures refl refl refl

pub returns-in_err-finish : goal.returns-in_err-finish
returns-in_err-finish c = told-first _ _ _ _ c.from_residual.ensures.1
    (line-fault _ (taken (goal.at.returns-in_err-finish c).After-end-reading)
    (was-read read_days c.days-last_change.ensures (was-read read_days c.days-minimum.ensures
    (was-read read_days c.days-maximum.ensures (was-read read_days c.days-warning.ensures
    (was-read read_days c.days-inactive.ensures (was-read read_days c.days-expiration.ensures
    all_read))))))
    c.in_err-finish.ensures)
