use Rattle.std.proofs.Common.{◌∙◌, ap, refl}
use Rattle.acct_outside.specs.Calls.{lists}
use Rattle.acct_outside.specs.Moment.{Past}
use Rattle.acct_outside.specs.Contract.{locks_result}
use Rattle.memory_folder.specs.Logged.{past_in, with_event, folder_after}
use Rattle.memory_folder.specs.Memory.{past_of}
use Rattle.memory_folder.specs.Events.{done_event}
use Rattle.memory_folder.proofs.ToldLemmas.{told_want, told_done, gives_after}
use Rattle.memory_folder.proofs.memory_calls.MemoryFolderFolder.locks.Goals as goal

pub returns-in_err-numbers-clause-told : goal.returns-in_err-numbers-clause-told
returns-in_err-numbers-clause-told c =
    told_want (past_of c.args.self.now) (past_in c.list.new.self) c.args.by.now lists
    (gives_after c.args.by.now lists) locks_result refl
    c.from_residual-in_err-numbers.result c.from_residual-in_err-numbers.ensures
    (c.in_err-numbers.ensures.err ∙ ap past_of c.in_ok-pass.ensures.same)

pub returns-clause-told : goal.returns-clause-told
returns-clause-told c =
    let by = c.args.by.now in
    let numbers = c.in_ok-numbers.numbers.items in
    let same = ap past_of c.in_ok-pass.ensures.same in
    told_done (past_of c.args.self.now) (past_in c.list.new.self) by lists (gives_after by lists)
    numbers
    (c.in_ok-numbers.ensures.ok ∙ ap (with_event (done_event by lists numbers)) same)
    (c.in_ok-numbers.ensures.value ∙ ap (λ (past : Past). (folder_after past).locks) same)
