use Rattle.std.proofs.Common.{◌++◌, refl}
use Rattle.std.specs.Prelude.{codes, Ok, Err}
use Rattle.suite_answers.specs.Reasons.{stage_text}
use Rattle.suite_answers.proofs.FrontLemmas.{told-front, told-then, told-first}
use Rattle.suite_answers.proofs.PushLemmas.{ending, error-is, memory-pieces}
use Rattle.suite_answers.proofs.memory.put_memory_text.Goals as goal

pub returns-in_err-put-clause-holds : goal.returns-in_err-put-clause-holds
returns-in_err-put-clause-holds g c =
    let fault = c.in_err-put.field-0.0 in
    let name = c.speaker.result.now in
    rw (
      memory-pieces c.args.tool c.args.stage name (stage_text c.args.stage) c.speaker.ensures refl,
      error-is c.from_residual.result fault c.from_residual.ensures.1,
    )
    (told-first _ _ name _ fault (told-front _ _ name (Err fault) c.in_err-put.ensures.holds))

pub returns-in_err-put-2-clause-holds : goal.returns-in_err-put-2-clause-holds
returns-in_err-put-2-clause-holds g c =
    let fault = c.in_err-put-2.field-0.0 in
    let name = c.speaker.result.now in
    let words = stage_text c.args.stage in
    let start = codes ": " in
    rw (
      memory-pieces c.args.tool c.args.stage name words c.speaker.ensures refl,
      error-is c.from_residual-in_err-put-2.result fault c.from_residual-in_err-put-2.ensures.1,
    )
    (told-then _ _ _ name (start ++ (words ++ ending)) (Err fault)
    (told-front _ _ name (Ok tt) c.in_ok-put.ensures.holds)
    (told-first _ _ start (words ++ ending) fault
    (told-front _ _ start (Err fault) c.in_err-put-2.ensures.holds)))

pub returns-in_err-put-3-clause-holds : goal.returns-in_err-put-3-clause-holds
returns-in_err-put-3-clause-holds g c =
    let fault = c.in_err-put-3.field-0.0 in
    let name = c.speaker.result.now in
    let words = c.stage_text.result.now in
    let start = codes ": " in
    rw (
      memory-pieces c.args.tool c.args.stage name words c.speaker.ensures c.stage_text.ensures,
      error-is c.from_residual-in_err-put-3.result fault c.from_residual-in_err-put-3.ensures.1,
    )
    (told-then _ _ _ name (start ++ (words ++ ending)) (Err fault)
    (told-front _ _ name (Ok tt) c.in_ok-put.ensures.holds)
    (told-then _ _ _ start (words ++ ending) (Err fault)
    (told-front _ _ start (Ok tt) c.in_ok-put-2.ensures.holds)
    (told-first _ _ words ending fault
    (told-front _ _ words (Err fault) c.in_err-put-3.ensures.holds))))

pub returns-clause-holds : goal.returns-clause-holds
returns-clause-holds g c =
    let result = c.put-4.result in
    let name = c.speaker.result.now in
    let words = c.stage_text.result.now in
    let start = codes ": " in
    rw (memory-pieces c.args.tool c.args.stage name words c.speaker.ensures c.stage_text.ensures)
    (told-then _ _ _ name (start ++ (words ++ ending)) result
    (told-front _ _ name (Ok tt) c.in_ok-put.ensures.holds)
    (told-then _ _ _ start (words ++ ending) result
    (told-front _ _ start (Ok tt) c.in_ok-put-2.ensures.holds)
    (told-then _ _ _ words ending result
    (told-front _ _ words (Ok tt) c.in_ok-put-3.ensures.holds)
    (told-front _ _ ending result c.put-4.ensures.holds))))
