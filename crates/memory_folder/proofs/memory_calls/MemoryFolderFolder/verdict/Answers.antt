use Rattle.std.proofs.Common.{◌≡◌, ◌∙◌, ap, refl, subst, false}
use Rattle.acct_outside.specs.Calls.{asks}
use Rattle.acct_outside.specs.Moment.{Past}
use Rattle.memory_folder.specs.Logged.{past_in, with_event}
use Rattle.memory_folder.specs.Memory.{past_of}
use Rattle.memory_folder.specs.Events.{call_event}
use Rattle.memory_folder.proofs.ToldLemmas.{told_want, told_done, gives_after, verdict_given}
use Rattle.acct_outside.specs.Life.{is_running}
use Rattle.acct_outside.specs.declared.Call.{Call as FolderCall}
use Rattle.acct_outside.specs.declared.Call.TheVariants.{Verdict as Ask}
use Rattle.memory_folder.specs.declared.event.Outcome.TheVariants.{Done}
use Rattle.memory_folder.specs.declared.event.Answer.TheVariants.{Verdict as Judged}
use Rattle.memory_folder.proofs.memory_calls.MemoryFolderFolder.verdict.Goals as goal

pub returns-in_err-copy-clause-told : goal.returns-in_err-copy-clause-told
returns-in_err-copy-clause-told c =
    let past = past_of c.args.self.now in
    let call = asks c.args.token.now in
    told_want past past c.args.by.now call (gives_after c.args.by.now call) (λ r. r) refl
    c.from_residual.result c.from_residual.ensures refl

pub returns-in_err-record-clause-told : goal.returns-in_err-record-clause-told
returns-in_err-record-clause-told c =
    let call = asks c.args.token.now in
    told_want (past_of c.args.self.now) (past_in c.record.new.self) c.args.by.now call
    (gives_after c.args.by.now call) (λ r. r) refl
    c.from_residual-in_err-record.result c.from_residual-in_err-record.ensures
    (c.in_err-record.ensures.err ∙ ap past_of c.in_ok-call.ensures.same)

pub returns-clause-told : goal.returns-clause-told
returns-clause-told c =
    let by = c.args.by.now in
    let token = c.args.token.now in
    let verdict = c.judge-verdict.result in
    let same = ap past_of c.in_ok-call.ensures.same in
    let asked : c.in_ok-call.call ≡ Ask token =
    c.in_ok-call.ensures.kept ∙ ap Ask c.in_ok-copy.ensures in
    told_done (past_of c.args.self.now) (past_in c.record.new.self) by (asks token)
    (gives_after by (asks token)) verdict
    (c.in_ok-record.ensures.ok
    ∙ ap (λ (call : FolderCall). with_event (call_event by call (Done (Judged verdict)))
    (past_of c.pass.new.self)) asked
    ∙ ap (with_event (call_event by (Ask token) (Done (Judged verdict)))) same)
    (verdict_given (past_of c.args.self.now).history token verdict
    (λ dead. subst (λ (past : Past). is_running token past.history ≡ false) same
    ((c.judge-verdict.ensures.0 dead).0)))
