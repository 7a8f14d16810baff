use Rattle.std.proofs.Common.{◌∙◌, ap}
use Rattle.memory_folder.specs.Memory.{past_of}
use Rattle.memory_folder.proofs.ToldLemmas.{act_want}
use Rattle.memory_folder.proofs.memory.MemoryFolder.act.Goals as goal

pub returns-in_err-record-clause-told : goal.returns-in_err-record-clause-told
returns-in_err-record-clause-told c =
    act_want c.args.self.now (record c.pass.new.self { log = c.record.new.self }) c.args.by.now
    c.args.call c.from_residual-in_err-record.result c.from_residual-in_err-record.ensures
    (c.in_err-record.ensures.err ∙ ap past_of c.in_ok-call.ensures.same)
