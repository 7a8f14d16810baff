-- Sessions in one folder in memory, which are turned call by call in any order.
use Rattle.std.specs.Prelude.{◌≡◌}
use Rattle.acct_text.specs.declared.Tab.{Tab}
use Rattle.memory_folder.specs.declared.memory.MemoryFolder.{MemoryFolder}
use Rattle.acct_outside.specs.History.{after}
use Rattle.acct_outside.specs.Moment.{Past}
use Rattle.memory_folder.specs.Memory.{moment_of, past_of}
use Rattle.suite_rules.specs.Deeds.{SuiteDeeds}
use Rattle.suite_rules.specs.Settled.{settled}
use Rattle.suite_rules.specs.Committed.{committed, folded}
use Rattle.suite_session.specs.declared.session.Phase.{Phase}
use Rattle.suite_session.specs.Belongs.{AreTwo, Belongs}
use Rattle.suite_session.specs.Deeds.{AreOfTools}
use Rattle.suite_course.specs.Turned.{KeepsPromises}
use Rattle.rehearsal.specs.Alone.{IsLawful}

-- two sessions belong to a folder together, whose history is lawful: no token is of both
pub record BelongTogether (folder : MemoryFolder) (one other : Phase) : Type 0 where
  pub lawful : IsLawful (past_of folder)
  pub one_belongs : Belongs (moment_of folder) one
  pub other_belongs : Belongs (moment_of folder) other
  pub apart : AreTwo one other

-- between two moments of the folder a session was turned: each other one that belonged to the folder
-- together with it does so still
abbrev pub StayTogether : MemoryFolder → MemoryFolder → Phase → Phase → Type 0
StayTogether before now old new = (other : Phase) → BelongTogether before old other →
    BelongTogether now new other

-- the settled files are those of the first moment as the committed commands of the tools changed them,
-- in the order of their locks
abbrev pub IsFoldOfCommitted : Past → Type 0
IsFoldOfCommitted past = (deeds : SuiteDeeds) × AreOfTools deeds × ((table : Tab) →
    settled (after past.first past.history) table
    ≡ folded deeds past.first (committed past.history) table)

-- for the deeds of the tools, the session has what the top call promises of one that answered
abbrev pub HasPromised : Past → Phase → Type 0
HasPromised past session =
    (deeds : SuiteDeeds) × AreOfTools deeds × KeepsPromises deeds past session
