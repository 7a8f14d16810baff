-- Claim: a call that gave no answer was refused, whichever it is (`refused`).
use Rattle.std.proofs.Common.{◌≡◌, refl, Err}
use Rattle.acct_outside.specs.declared.FolderFault.{FolderFault}
use Rattle.acct_outside.specs.Calls.{Call, lists}
use Rattle.acct_outside.specs.Journal.{reply_of, was_refused}

-- a call that gave no answer
pub refused : (call : Call) (fault : FolderFault) → reply_of call (Err fault) ≡ was_refused
refused lists fault = refl
refused call fault = refl
