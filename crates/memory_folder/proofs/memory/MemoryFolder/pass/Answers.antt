use Rattle.std.proofs.Common.{refl}
use Rattle.acct_outside.specs.NamedCalls.{call_of}
use Rattle.memory_folder.specs.Memory.{past_of}
use Rattle.memory_folder.proofs.ToldLemmas.{told_memory, gives_after}
use Rattle.memory_folder.proofs.memory.MemoryFolder.pass.Goals as goal

pub returns-in-Err-clause-told : goal.returns-in-Err-clause-told
returns-in-Err-clause-told c =
    let past = past_of c.args.self.now in
    let call = call_of c.args.call in
    told_memory past past c.args.by.now call (gives_after c.args.by.now call) refl
