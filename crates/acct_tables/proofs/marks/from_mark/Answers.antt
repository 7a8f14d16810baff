use Rattle.std.proofs.Common.{length, ◌+◌, [], sym, arith, append-nil}
use Rattle.acct_tables.proofs.MarkLemmas.{from-line, from-none, without-before}
use Rattle.acct_tables.proofs.marks.from_mark.Goals as goal

pub returns-in_default : goal.returns-in_default
returns-in_default c =
    let text = c.args.text.now in
    from-none c.args.mark.now text
    (without-before c.args.mark.now text text [] (length text + 1) (sym (append-nil text))
    (omega arith) c.in_default.ensures)

pub returns-in-Some-memrchr : goal.returns-in-Some-memrchr
returns-in-Some-memrchr c =
    from-line c.args.mark.now c.args.text.now c.in-Some.place c.in-Some-memrchr.end
    c.in-Some.ensures c.in-Some-memrchr.ensures
