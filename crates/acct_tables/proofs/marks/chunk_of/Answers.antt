use Rattle.std.proofs.Common.{◌≡◌, ◌++◌, ◌∷◌, ◌∙◌, ◌-◌, length, ap, sym, take, drop, append_assoc, take-append-drop, arith}
use Rattle.std.proofs.lemmas.List.{length-drop, take_all}
use Rattle.acct_text.specs.Bytes.{newline}
use Rattle.acct_text.proofs.CutOnce.{cut-whole}
use Rattle.acct_tables.proofs.FrontLines.{front-all, front-chunk}
use Rattle.acct_tables.proofs.marks.chunk_of.Goals as goal

pub returns-then-text-size-clause-front : goal.returns-then-text-size-clause-front
returns-then-text-size-clause-front c = front-all c.args.text.now

pub returns-in-Some-clause-front : goal.returns-in-Some-clause-front
returns-in-Some-clause-front c =
    let text = c.args.text.now in
    let size = c.args.size in
    let before = c.in-Some.cut.before.now in
    let behind = c.in-Some.cut.behind.now in
    let left : length (drop size text) ≡ length text - size = length-drop size text in
    let all : take (length text - size) (drop size text) ≡ drop size text =
    take_all (length text - size) (drop size text) (omega (arith, left)) in
    front-chunk text (take size text ++ before) behind
    (sym (take-append-drop size text)
    ∙ ap (λ rest. take size text ++ rest)
    (sym all ∙ cut-whole newline _ before behind c.in-Some.ensures.cut)
    ∙ sym (append_assoc (take size text) before (newline ∷ behind)))

pub returns-in-None-clause-front : goal.returns-in-None-clause-front
returns-in-None-clause-front c = front-all c.args.text.now
