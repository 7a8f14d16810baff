-- What the suite is asked to do to the six files, by whatever tools. The laws know no line format:
-- they hold for all such deeds.
use Rattle.std.specs.Prelude.{◌≡◌, Bool, Option, Some}
use Rattle.acct_text.specs.Bytes.{Bytes}
use Rattle.acct_text.specs.Contents.{Contents, IsChange}
use Rattle.acct_outside.specs.Calls.{Command}

-- what a suite of tools does with a command on the six files and login.defs
pub record SuiteDeeds : Type 0 where
  -- the new files, where its answer there is Changed
  pub deed : Command → Contents → Option Bytes → Option Contents
  -- its answer there has status 0 and isn't Changed
  pub answers_same : Command → Contents → Option Bytes → Bool
  -- so does its answer as a report, on what it reads of them
  pub shows_same : Command → Contents → Option Bytes → Bool
  -- new files change a table, make none stand or go, and keep each limit
  pub makes_changes : (command : Command) (files : Contents) (defs : Option Bytes)
      (new : Contents) → deed command files defs ≡ Some new → IsChange files new
