use Rattle.std.proofs.Common.{refl, subst, Result, Ok, Err}
use Rattle.acct_outside.specs.Tokens.{Token}
use Rattle.acct_outside.specs.Calls.{writes}
use Rattle.memory_folder.specs.Memory.{past_of, TellsAct, TellsIn}
use Rattle.memory_folder.proofs.ToldLemmas.{told_want, told_done, gives_after}
use Rattle.acct_text.specs.Bytes.{Bytes}
use Rattle.acct_outside.specs.declared.Name.{Name}
use Rattle.acct_outside.specs.declared.FolderFault.{FolderFault}
use Rattle.acct_outside.specs.declared.Call.TheVariants.{Write}
use Rattle.memory_folder.specs.declared.memory.MemoryFolder.{MemoryFolder}
use Rattle.memory_folder.proofs.memory_calls.MemoryFolderFolder.write.Goals as goal

-- a write tells its event
tells_write : (old new : MemoryFolder) (by : Token) (name : Name) (piece : Bytes)
    (result : Result (Unit {0}) FolderFault)
    → TellsAct old new by (Write name piece) result
    → TellsIn old new by (writes name piece) result
tells_write old new by name piece (Ok unit) is =
    told_done (past_of old) (past_of new) by (writes name piece)
    (gives_after by (writes name piece)) tt is tt
tells_write old new by name piece (Err fault) is = is

pub returns-in_err-of-clause-told : goal.returns-in_err-of-clause-told
returns-in_err-of-clause-told c =
    let past = past_of c.args.self.now in
    let call = writes c.args.name c.args.piece.now in
    told_want past past c.args.by.now call (gives_after c.args.by.now call) (λ r. r) refl
    c.from_residual.result c.from_residual.ensures refl

pub returns-clause-told : goal.returns-clause-told
returns-clause-told c =
    let old = record c.args.self.now { mishaps = c.count.new.self } in
    subst
    (λ (piece : Bytes). TellsIn old c.act.new.self c.args.by.now (writes c.args.name piece)
    c.act.result)
    c.in_ok-of.ensures
    (tells_write old c.act.new.self c.args.by.now c.args.name c.in_ok-of.field-0 c.act.result
    c.act.ensures.told)
