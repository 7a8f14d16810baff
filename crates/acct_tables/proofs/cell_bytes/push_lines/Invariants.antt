use Rattle.std.proofs.Common.{◌≡◌, ℕ, ◌++◌, List, length, map}
use Rattle.acct_text.specs.Lines.{Line, file_bytes}
use Rattle.acct_tables.proofs.cell_bytes.push_lines.Given as goal

-- what was added, with the lines of the texts left, is all
abbrev pub invariant-texts : goal.invariant-texts
invariant-texts l =
    let line : List ℕ → Line = λ text. record { text = text; ended = l.ended } in
    l.text ++ file_bytes (map line l.left) ≡ l.initial.text ++ file_bytes (map line l.initial.left)

abbrev pub decreases-texts : goal.decreases-texts
decreases-texts l = length l.left
