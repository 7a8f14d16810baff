use Rattle.std.proofs.Common.{refl, [], ◌∷◌}
use Rattle.account_model.specs.Records.{read_id}
use Rattle.acct_lines.proofs.FirstFault.{all_read, line-fault, was-read}
use Rattle.acct_lines.proofs.PasswdFields.{passwd-read}
use Rattle.acct_lines.proofs.Read.{told-first}
use Rattle.acct_lines.proofs.Taken.{◌before◌, AreTakenOf, are-taken, no_more}
use Rattle.acct_lines.proofs.passwd.PasswdLine.read.Goals as goal
use Rattle.acct_lines.proofs.passwd.PasswdLine.read.Goals.{After-end-reading}

-- the line has the seven fields that were taken, or another number of them
taken : (c : After-end-reading) → AreTakenOf 7 c.args.line.now (c.take-name.result.now
    ∷ c.take-password.result.now ∷ c.take-uid.result.now ∷ c.take-gid.result.now
    ∷ c.take-comment.result.now ∷ c.take-home.result.now ∷ c.take-shell.result.now ∷ [])
    c.end-reading.result.fault
taken c =
    are-taken c.args.line.now c.end-reading.result.fault (c.take-name.ensures
    before c.take-password.ensures before c.take-uid.ensures before c.take-gid.ensures
    before c.take-comment.ensures before c.take-home.ensures before c.take-shell.ensures
    before no_more) c.end-reading.ensures

pub returns : goal.returns
returns c =
    passwd-read c.args.line.now _ _ (taken (goal.at.returns c).After-end-reading)
    c.id-uid.ensures c.id-gid.ensures c.in_ok-finish.ensures refl refl refl refl refl

pub returns-in_err-finish : goal.returns-in_err-finish
returns-in_err-finish c = told-first _ _ _ _ c.from_residual.ensures.1
    (line-fault _ (taken (goal.at.returns-in_err-finish c).After-end-reading)
    (was-read read_id c.id-uid.ensures (was-read read_id c.id-gid.ensures all_read))
    c.in_err-finish.ensures)
