use Rattle.std.proofs.Common.{Result, Ok, Err}
use Rattle.acct_outside.specs.declared.Name.{Name}
use Rattle.acct_outside.specs.declared.FolderFault.{FolderFault}
use Rattle.acct_outside.specs.declared.Call.TheVariants.{Rename}
use Rattle.memory_folder.specs.declared.memory.MemoryFolder.{MemoryFolder}
use Rattle.acct_outside.specs.Tokens.{Token}
use Rattle.acct_outside.specs.Calls.{renames}
use Rattle.memory_folder.specs.Plan.{planned_effect}
use Rattle.memory_folder.specs.Logged.{folder_after}
use Rattle.memory_folder.specs.Memory.{FailsAsPlanned, TellsAct, TellsIn, call_count, past_of, fault_plan}
use Rattle.memory_folder.proofs.ToldLemmas.{told_done, gives_after, source-stands}
use Rattle.memory_folder.proofs.memory_calls.MemoryFolderFolder.rename.Goals as goal

-- a rename tells its event
tells_rename : (old new : MemoryFolder) (by : Token) (from to : Name)
    (result : Result (Unit {0}) FolderFault)
    → FailsAsPlanned old new by (renames from to) result
    → TellsAct old new by (Rename from to) result
    → TellsIn old new by (renames from to) result
tells_rename old new by from to (Ok unit) planned is =
    told_done (past_of old) (past_of new) by (renames from to) (gives_after by (renames from to))
    tt is
    (source-stands ((folder_after (past_of old)).file from)
    (planned_effect (call_count new) (fault_plan new)) planned)
tells_rename old new by from to (Err fault) planned is = is

pub returns-clause-told : goal.returns-clause-told
returns-clause-told c =
    tells_rename (record c.args.self.now { mishaps = c.count.new.self }) c.act.new.self
    c.args.by.now c.args.from c.args.to c.act.result c.act.ensures.planned c.act.ensures.told
