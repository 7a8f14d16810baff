use Rattle.std.proofs.Common.{◌∙◌, ap, refl, subst}
use Rattle.acct_outside.specs.Calls.{creates}
use Rattle.memory_folder.specs.Logged.{past_in, with_event, folder_after}
use Rattle.memory_folder.specs.Memory.{past_of}
use Rattle.memory_folder.specs.Events.{call_event}
use Rattle.memory_folder.proofs.ToldLemmas.{told_want, told_done, gives_after}
use Rattle.acct_outside.specs.Folder.{Folder}
use Rattle.acct_outside.specs.Gives.{GivesCreated}
use Rattle.acct_outside.specs.declared.Call.{Call as FolderCall}
use Rattle.acct_outside.specs.declared.Call.TheVariants.{Create}
use Rattle.memory_folder.specs.declared.event.Outcome.TheVariants.{Done}
use Rattle.memory_folder.specs.declared.event.Answer.TheVariants.{Created as Made}
use Rattle.memory_folder.proofs.memory_calls.MemoryFolderFolder.create.Goals as goal

pub returns-in_err-record-clause-told : goal.returns-in_err-record-clause-told
returns-in_err-record-clause-told c =
    let call = creates c.args.number in
    told_want (past_of c.args.self.now) (past_in c.record.new.self) c.args.by.now call
    (gives_after c.args.by.now call) (λ r. r) refl
    c.from_residual-in_err-record.result c.from_residual-in_err-record.ensures
    (c.in_err-record.ensures.err ∙ ap past_of c.in_ok-call.ensures.same)

pub returns-clause-told : goal.returns-clause-told
returns-clause-told c =
    let by = c.args.by.now in
    let number = c.args.number in
    let created = c.created-created.result in
    let same = ap past_of c.in_ok-call.ensures.same in
    told_done (past_of c.args.self.now) (past_in c.record.new.self) by (creates number)
    (gives_after by (creates number)) created
    (c.in_ok-record.ensures.ok
    ∙ ap (λ (call : FolderCall). with_event (call_event by call (Done (Made created)))
    (past_of c.pass.new.self)) c.in_ok-call.ensures.kept
    ∙ ap (with_event (call_event by (Create number) (Done (Made created)))) same)
    (subst (λ (folder : Folder). GivesCreated folder number created)
    (c.pass.new.self.log.stands ∙ ap folder_after same) c.created-created.ensures)
