use Rattle.std.proofs.Common.{refl, subst, Result, Ok, Err}
use Rattle.acct_text.specs.Bytes.{Bytes}
use Rattle.acct_outside.specs.declared.Name.{Name}
use Rattle.acct_outside.specs.declared.FolderFault.{FolderFault}
use Rattle.acct_outside.specs.declared.Call.TheVariants.{Append}
use Rattle.memory_folder.specs.declared.memory.MemoryFolder.{MemoryFolder}
use Rattle.acct_outside.specs.Tokens.{Token}
use Rattle.acct_outside.specs.Calls.{appends}
use Rattle.memory_folder.specs.Plan.{planned_effect}
use Rattle.memory_folder.specs.Logged.{folder_after}
use Rattle.memory_folder.specs.Memory.{FailsAsPlanned, TellsAct, TellsIn, call_count, past_of, fault_plan}
use Rattle.memory_folder.proofs.ToldLemmas.{told_want, told_done, gives_after, source-stands}
use Rattle.memory_folder.proofs.memory_calls.MemoryFolderFolder.append.Goals as goal

-- an append tells its event
tells_append : (old new : MemoryFolder) (by : Token) (name : Name) (piece : Bytes)
    (result : Result (Unit {0}) FolderFault)
    → FailsAsPlanned old new by (appends name piece) result
    → TellsAct old new by (Append name piece) result
    → TellsIn old new by (appends name piece) result
tells_append old new by name piece (Ok unit) planned is =
    told_done (past_of old) (past_of new) by (appends name piece)
    (gives_after by (appends name piece)) tt is
    (source-stands ((folder_after (past_of old)).file name)
    (planned_effect (call_count new) (fault_plan new)) planned)
tells_append old new by name piece (Err fault) planned is = is

pub returns-in_err-of-clause-told : goal.returns-in_err-of-clause-told
returns-in_err-of-clause-told c =
    let past = past_of c.args.self.now in
    let call = appends c.args.name c.args.piece.now in
    told_want past past c.args.by.now call (gives_after c.args.by.now call) (λ r. r) refl
    c.from_residual.result c.from_residual.ensures refl

pub returns-clause-told : goal.returns-clause-told
returns-clause-told c =
    let old = record c.args.self.now { mishaps = c.count.new.self } in
    subst
    (λ (piece : Bytes). TellsIn old c.act.new.self c.args.by.now (appends c.args.name piece)
    c.act.result)
    c.in_ok-of.ensures
    (tells_append old c.act.new.self c.args.by.now c.args.name c.in_ok-of.field-0 c.act.result
    c.act.ensures.planned c.act.ensures.told)
