use Rattle.std.proofs.Common.{◌∙◌, ◌++◌, refl, sym, ap, append-nil}
use Rattle.std.proofs.lemmas.Bool.{eq-eqb, ne_eqb}
use Rattle.std.proofs.lemmas.Result.{on_ok_weaker}
use Rattle.acct_text.specs.Bytes.{newline}
use Rattle.check_reports.proofs.GrownLemmas.{ended-by}
use Rattle.check_reports.proofs.making.push_missing_end.Goals as goal

pub returns-then-last-eq10 : goal.returns-then-last-eq10
returns-then-last-eq10 c =
    let text = c.args.text.now in
    let last = c.in-Some.last.now in
    sym (append-nil text)
    ∙ ap (λ end. text ++ end)
    (sym (ended-by text c.as_slice.result.now last c.as_slice.ensures c.in-Some.ensures.value
    ∙ (rw (eq-eqb last newline c.if-last-eq10.true) refl)))

pub returns : goal.returns
returns c =
    let text = c.args.text.now in
    let last = c.in-Some.last.now in
    on_ok_weaker c.push.result
    (λ pushed. pushed ∙ ap (λ end. text ++ end)
    (sym (ended-by text c.as_slice.result.now last c.as_slice.ensures c.in-Some.ensures.value
    ∙ (rw (ne_eqb last newline c.if-last-eq10.false) refl))))
    c.push.ensures.ok
