use Rattle.std.proofs.Common.{◌≡◌, sym, ◌∙◌, ap, subst}
use Rattle.acct_outside.specs.Folder.{Folder}
use Rattle.acct_outside.specs.Calls.{Effect, failed}
use Rattle.acct_outside.specs.History.{after}
use Rattle.acct_outside.specs.Gives.{GivesResult}
use Rattle.acct_outside.specs.NamedCalls.{call_of}
use Rattle.memory_folder.specs.Events.{actual_effect, effect_in}
use Rattle.memory_folder.specs.Logged.{past_in}
use Rattle.memory_folder.specs.Memory.{past_of}
use Rattle.memory_folder.proofs.EventLemmas.{failed-given}
use Rattle.memory_folder.proofs.ToldLemmas.{told_failed, told_memory, gives_after}
use Rattle.memory_folder.proofs.memory.MemoryFolder.fail.Goals as goal

pub returns-in-Ok-clause-told : goal.returns-in-Ok-clause-told
returns-in-Ok-clause-told c =
    let old = past_of c.args.self.now in
    let by = c.args.by.now in
    let call = call_of c.args.call in
    let folder = after old.first old.history in
    let actual : effect_in c.actual-effect.result
    ≡ actual_effect folder call (effect_in c.args.effect) =
    c.actual-effect.ensures
    ∙ ap (λ (f : Folder). actual_effect f call (effect_in c.args.effect))
    c.args.self.now.log.stands in
    told_failed old (past_in c.record.new.self) by call (gives_after by call)
    (effect_in c.actual-effect.result) c.in-Ok.ensures.ok
    (subst (λ (e : Effect). GivesResult folder old.history by call (failed e)) (sym actual)
    (failed-given folder old.history by c.args.call c.requires (effect_in c.args.effect)))

pub returns-in-Err-clause-told : goal.returns-in-Err-clause-told
returns-in-Err-clause-told c =
    told_memory (past_of c.args.self.now) (past_in c.record.new.self) c.args.by.now
    (call_of c.args.call) (gives_after c.args.by.now (call_of c.args.call)) c.in-Err.ensures.err
