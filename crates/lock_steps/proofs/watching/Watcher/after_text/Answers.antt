use Rattle.std.proofs.Common.{◌∙◌, sym}
use Rattle.lock_steps.specs.declared.gathered.IntentFound.TheVariants.{Damaged, Listed}
use Rattle.lock_steps.proofs.WatchingLemmas.{bytes-shown, listed-damaged, listed-read}
use Rattle.lock_steps.proofs.watching.Watcher.after_text.Goals as goal

pub returns-in-Ok-clause-shown : goal.returns-in-Ok-clause-shown
returns-in-Ok-clause-shown c =
    let text = c.args.text.now in
    let reads_it = c.in-Ok.ensures.read in
    bytes-shown c.args.self c.args.wanted.now text Listed c.into_tables.result.items c.begin.result
    (c.in-Ok.intent, reads_it)
    (listed-read text c.in-Ok.intent reads_it ∙ sym c.into_tables.ensures)
    c.begin.ensures.begun c.begin.ensures.failed

pub returns-in-Err-Part-clause-shown : goal.returns-in-Err-Part-clause-shown
returns-in-Err-Part-clause-shown c =
    let text = c.args.text.now in
    let part = c.in-Err-Part.part in
    let fault = rw c.in-Err-Part.field-0-is at c.in-Err-Part.ensures.damaged in
    bytes-shown c.args.self c.args.wanted.now text (Damaged part) c.new.result.items c.begin-in-Err-Part.result fault
    (listed-damaged text part fault ∙ sym c.new.ensures.items)
    c.begin-in-Err-Part.ensures.begun c.begin-in-Err-Part.ensures.failed
