use Rattle.std.proofs.Common.{◌≡◌, ◌<◌, ◌+◌, ◌-◌, ℕ, List, ◌∷◌, length, length-drop, take, drop, ap, sym, ◌∙◌, arith}
use Rattle.std.proofs.lemmas.List.{take_all}
use Rattle.acct_text.specs.Pieces.{cut_at}
use Rattle.acct_text.proofs.CutOnce.{cut-at_none, cut-at_first}
use Rattle.acct_text.proofs.cuts.cut_once.Goals as goal

-- as many bytes as stand behind a place are all that stand there
all-behind :
    (text : List ℕ) (end : ℕ)
    → take (length text - (end + 1)) (drop (end + 1) text) ≡ drop (end + 1) text
all-behind text end =
    let rest = drop (end + 1) text in
    take_all (length text - (end + 1)) rest (omega (arith, length-drop (end + 1) text))

pub returns-in-Some-clause-cut : goal.returns-in-Some-clause-cut
returns-in-Some-clause-cut c =
    let text = c.args.text.now in
    let end = c.in-Some.end in
    let left = all-behind text end in
    cut-at_first c.args.separator text end c.in-Some.ensures
    ∙ ap (λ rest. take end text ∷ cut_at c.args.separator rest) (sym left)

pub returns-in-Some-clause-shorter : goal.returns-in-Some-clause-shorter
returns-in-Some-clause-shorter c =
    let text = c.args.text.now in
    let end = c.in-Some.end in
    let inside : end < length text = c.in-Some.ensures.0.high in
    let left = all-behind text end in
    omega (arith, ap length left, length-drop (end + 1) text)

pub returns-in-None-clause-cut : goal.returns-in-None-clause-cut
returns-in-None-clause-cut c = cut-at_none c.args.separator c.args.text.now c.in-None.ensures
