use Rattle.std.proofs.Common.{◌∙◌, arith, sym, ap}
use Rattle.acct_text.specs.Lines.{lines_of}
use Rattle.acct_tables.proofs.MarkLemmas.{all-behind}
use Rattle.acct_tables.proofs.BegunLines.{beyond-none, taken-found, unbegun-none}
use Rattle.acct_tables.proofs.line_at.line_at.Goals as goal

pub returns-then-place-text : goal.returns-then-place-text
returns-then-place-text c = beyond-none c.args.text.now c.args.place (omega arith)

pub returns-then-begins_line : goal.returns-then-begins_line
returns-then-begins_line c =
    let text = c.args.text.now in
    let place = c.args.place in
    taken-found text place c.take.result c.of.result c.take.new.self (omega arith)
    (sym c.begins_line.ensures ∙ c.if-begins_line.true)
    (c.of.ensures ∙ ap lines_of (all-behind text place))
    c.take.ensures.taken

pub returns-else-begins_line : goal.returns-else-begins_line
returns-else-begins_line c =
    unbegun-none c.args.text.now c.args.place (sym c.begins_line.ensures ∙ c.if-begins_line.false)
