-- What the tools' answers have in common (account_model/specs/Answer).
use Rattle.std.specs.Prelude.{◌≡◌, ℕ, Option}
use Rattle.acct_text.specs.Bytes.{Bytes}
use Rattle.acct_text.specs.declared.files.Files.{Files}
use Rattle.account_model.specs.Request.{Request}
use Rattle.account_model.specs.Answer.{Changed, answer}

-- An answer that is a change has status 0, by the "EXIT VALUES" of each tool's page: another status
-- tells why nothing changed, or what a report found, and a report edits nothing.
abbrev pub ChangesSucceed : Type 0
ChangesSucceed = (request : Request) (input : Bytes) (day : ℕ) (old : Files) (defs : Option Bytes)
    (new : Files) → (answer request input day old defs).cause ≡ Changed new →
    (answer request input day old defs).status ≡ 0
