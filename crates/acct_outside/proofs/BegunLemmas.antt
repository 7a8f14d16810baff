-- Claim: a session runs after the begin that gave its token (`begun-running`). Way: its begin is the last
-- event, and it had none before.
use Rattle.std.proofs.Common.{◌≡◌, ◌∙◌, ap, Ok}
use Rattle.std.specs.Prelude.{bytes_eq}
use Rattle.std.proofs.lemmas.Bool.{cond-true}
use Rattle.acct_outside.specs.Tokens.{Token}
use Rattle.acct_outside.specs.Folder.{Folder}
use Rattle.acct_outside.specs.Calls.{Command, begins, done}
use Rattle.acct_outside.specs.History.{History}
use Rattle.acct_outside.specs.Life.{Life, running, life, life_step}
use Rattle.acct_outside.specs.Others.{Admission}
use Rattle.acct_outside.specs.Contract.{TellsBegin}
use Rattle.acct_outside.proofs.TokenLemmas.{bytes_eq-self}

-- the claim
pub begun-running : (admits : Admission) (command : Command) (token : Token) (first : Folder)
    (old new : History)
    → TellsBegin admits command (Ok token) first old new
    → life token new ≡ running
begun-running admits command token first old new tells =
    let event = tells.0 in
    let between = event.others_then.between in
    ap (life token) event.others_then.last
    ∙ cond-true {A = Life} (bytes_eq token token)
    (life_step (begins command) (done tt) (life token between)) (life token between)
    (bytes_eq-self token)
    ∙ ap (life_step (begins command) (done tt)) (event.given.1)
