-- The committed commands of a history, and the files that they make one after another.
use Rattle.std.specs.Prelude.{ℕ, ◌<◌, nat_lt, List, [], ◌∷◌, ◌++◌, filter, Option, Some, unwrap_or, bytes_eq}
use Rattle.acct_text.specs.Bytes.{Bytes}
use Rattle.acct_text.specs.Contents.{Contents}
use Rattle.acct_outside.specs.declared.Name.TheVariants.{Intent}
use Rattle.acct_outside.specs.Tokens.{Token}
use Rattle.acct_outside.specs.Folder.{Folder, settings_file}
use Rattle.acct_outside.specs.Calls.{Command, Call, Effect, renames, happened, effect_of}
use Rattle.acct_outside.specs.History.{History}
use Rattle.suite_rules.specs.Deeds.{SuiteDeeds}
use Rattle.suite_rules.specs.OwnLock.{made_number}
use Rattle.suite_rules.specs.Standing.{Standing, standing}
use Rattle.suite_rules.specs.Settled.{settled}

-- a committed command: its session, the number of the lock that this made, and what it was asked
pub record Commitment : Type 0 where
  pub token : Token
  pub number : ℕ
  pub command : Command

-- the commitment of a session; one that commits lawfully has made a lock and has a command
abbrev pub commitment_of : Token → Option ℕ → Option Command → List Commitment
commitment_of token (Some number) (Some command) =
    record { token = token; number = number; command = command } ∷ []
commitment_of token _ _ = []

-- a rename to the intent commits its session where it happened, whether done, failed or died
abbrev pub commits : Token → Call → Effect → Standing → List Commitment
commits token (renames from Intent) happened standing =
    commitment_of token (made_number standing.own) standing.command
commits token _ _ standing = []

-- the committed commands, in order of events
abbrev pub committed : History → List Commitment
committed [] = []
committed (event ∷ history) =
    committed history
    ++ commits event.token event.call (effect_of event.call event.result)
    (standing event.token history)

-- those of one session
abbrev pub commitments_of : Token → List Commitment → List Commitment
commitments_of token list = filter (λ one. bytes_eq one.token token) list

-- each number is below the next
abbrev pub Rises : List Commitment → Type 0
Rises [] = Unit {0}
Rises (one ∷ []) = Unit {0}
Rises (one ∷ next ∷ list) = (one.number < next.number) × Rises (next ∷ list)

-- the place of a keeper of this number: the commands that were committed under lower numbers
abbrev pub place : ℕ → List Commitment → List Commitment
place number list = filter (λ one. nat_lt one.number number) list

-- the files after one command; one without a deed changes nothing
abbrev pub after_deed : SuiteDeeds → Option Bytes → Contents → Command → Contents
after_deed deeds defs files command = unwrap_or (deeds.deed command files defs) files

-- the files after the commands, one after another
abbrev pub fold_deeds : SuiteDeeds → Option Bytes → Contents → List Commitment → Contents
fold_deeds deeds defs files [] = files
fold_deeds deeds defs files (one ∷ list) =
    fold_deeds deeds defs (after_deed deeds defs files one.command) list

-- the first folder's settled files as changed by the commands, under its login.defs
abbrev pub folded : SuiteDeeds → Folder → List Commitment → Contents
folded deeds first list = fold_deeds deeds (settings_file first) (settled first) list
