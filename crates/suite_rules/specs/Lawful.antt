-- Lawful histories: each event keeps the rules after the events before it, and has a result that
-- the folder gives there.
use Rattle.std.specs.Prelude.{[], ◌∷◌}
use Rattle.acct_outside.specs.Tokens.{Token}
use Rattle.acct_outside.specs.Folder.{Folder, IsFolder}
use Rattle.acct_outside.specs.Calls.{Call, Answer, CallResult, begins, failed, died}
use Rattle.acct_outside.specs.History.{Event, History}
use Rattle.acct_outside.specs.Life.{life}
use Rattle.acct_outside.specs.Gives.{Gives}
use Rattle.suite_rules.specs.Deeds.{SuiteDeeds}
use Rattle.suite_rules.specs.Standing.{standing}
use Rattle.suite_rules.specs.Rules.{KeepsRules}

-- the rules allow the call after the history; they don't speak of a begin that gave no token
abbrev pub KeepsRulesOrNone : SuiteDeeds → History → Token →
    (call : Call) → CallResult (Answer call) → Type 0
KeepsRulesOrNone deeds history token (begins command) (failed effect) = Unit {0}
KeepsRulesOrNone deeds history token (begins command) (died effect) = Unit {0}
KeepsRulesOrNone deeds history token call result =
    KeepsRules deeds (life token history) (standing token history) call

-- the event may come next after the history
pub record IsNext (deeds : SuiteDeeds) (first : Folder) (history : History)
    (event : Event) : Type 0 where
  pub keeps : KeepsRulesOrNone deeds history event.token event.call event.result
  pub gives : Gives first history event

-- the history is lawful from this first folder
pub data Lawful (deeds : SuiteDeeds) (first : Folder) : History → Type 0 where
  starts : IsFolder first → Lawful deeds first []
  goes_on : (event : Event) (history : History) → Lawful deeds first history →
      IsNext deeds first history event → Lawful deeds first (event ∷ history)
