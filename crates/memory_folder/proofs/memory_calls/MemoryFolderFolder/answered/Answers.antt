use Rattle.acct_outside.specs.Calls.{answers}
use Rattle.memory_folder.specs.Logged.{past_in}
use Rattle.memory_folder.specs.Memory.{past_of}
use Rattle.memory_folder.proofs.ToldLemmas.{told_done, gives_after}
use Rattle.memory_folder.proofs.memory_calls.MemoryFolderFolder.answered.Goals as goal

pub returns-clause-told : goal.returns-clause-told
returns-clause-told c =
    let by = c.args.by.now in
    let call = answers c.args.status in
    told_done (past_of c.args.self.now) (past_in c.answer.new.self) by call (gives_after by call)
    tt c.answer.ensures tt
