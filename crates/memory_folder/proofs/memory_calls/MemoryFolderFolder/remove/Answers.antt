use Rattle.std.proofs.Common.{Result, Ok, Err}
use Rattle.acct_outside.specs.Tokens.{Token}
use Rattle.acct_outside.specs.Calls.{removes}
use Rattle.memory_folder.specs.Memory.{past_of, TellsAct, TellsIn}
use Rattle.memory_folder.proofs.ToldLemmas.{told_done, gives_after}
use Rattle.acct_outside.specs.declared.Name.{Name}
use Rattle.acct_outside.specs.declared.FolderFault.{FolderFault}
use Rattle.acct_outside.specs.declared.Call.TheVariants.{Remove}
use Rattle.memory_folder.specs.declared.memory.MemoryFolder.{MemoryFolder}
use Rattle.memory_folder.proofs.memory_calls.MemoryFolderFolder.remove.Goals as goal

-- a removal tells its event
tells_remove : (old new : MemoryFolder) (by : Token) (name : Name)
    (result : Result (Unit {0}) FolderFault)
    → TellsAct old new by (Remove name) result
    → TellsIn old new by (removes name) result
tells_remove old new by name (Ok unit) is =
    told_done (past_of old) (past_of new) by (removes name) (gives_after by (removes name)) tt is tt
tells_remove old new by name (Err fault) is = is

pub returns-clause-told : goal.returns-clause-told
returns-clause-told c =
    tells_remove (record c.args.self.now { mishaps = c.count.new.self }) c.act.new.self
    c.args.by.now c.args.name c.act.result c.act.ensures.told
