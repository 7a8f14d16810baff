-- When nothing stands in the way of a command: the greatest lock lets it pass, and an intent that stands
-- reads (docs/ARCHITECTURE.md, "Taking over").
use Rattle.std.specs.Prelude.{◌≡◌, ◌⊎◌, ⊤, ◌<◌, Some}
use Rattle.acct_text.specs.Bytes.{Bytes}
use Rattle.acct_outside.specs.declared.Name.TheVariants.{Intent, Lock}
use Rattle.acct_outside.specs.declared.Verdict.TheVariants.{Alive}
use Rattle.acct_outside.specs.Names.{greatest_lock}
use Rattle.acct_outside.specs.Tokens.{Token, free_text}
use Rattle.acct_outside.specs.Folder.{Folder, top}
use Rattle.acct_outside.specs.Calls.{asks}
use Rattle.acct_outside.specs.History.{History}
use Rattle.intent_file.specs.Intent.{Intended, ReadsIntent}
use Rattle.lock_steps.specs.LockText.{IsHeldBy}
use Rattle.suite_session.specs.Causes.{Met}

-- the session was never told that the other one is alive: whenever it asked, that one was dead
abbrev pub NeverToldAlive : Token → Token → History → Type 0
NeverToldAlive token other history = Met token (asks other) Alive (λ stood. ⊤) history → ⊥

-- a lock with this text lets the session pass: it is free, or held by a session that it finds dead
abbrev pub LetsPass : Token → History → Bytes → Type 0
LetsPass token history text = (text ≡ free_text)
    ⊎ ((holder : Token) × IsHeldBy text holder × NeverToldAlive token holder history)

-- The greatest lock of the folder, where there is one, lets the session pass, and doesn't have the last
-- number; and the intent, where one stands, reads.
pub record StandsOpen (folder : Folder) (token : Token) (history : History) : Type 0 where
  pub lock : (text : Bytes) → folder.file (Lock (top folder)) ≡ Some text →
      LetsPass token history text
  pub not_last : top folder < greatest_lock
  pub intent : (bytes : Bytes) → folder.file Intent ≡ Some bytes →
      (intent : Intended) × ReadsIntent bytes intent
