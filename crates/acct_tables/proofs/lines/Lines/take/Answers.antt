use Rattle.std.proofs.Common.{◌∙◌, sym}
use Rattle.acct_tables.proofs.LinesAhead.{first-lacks, last-cut, line-cut, no-lines}
use Rattle.acct_tables.proofs.lines.Lines.take.Goals as goal

pub returns-then-is_empty : goal.returns-then-is_empty
returns-then-is_empty c =
    let text = c.self.inside.left.now in
    record {
      taken = sym c.self.view_is ∙ no-lines text (sym c.is_empty.ensures ∙ c.if-is_empty.true);
      over = λ none. none;
      one_line = tt;
    }

pub returns-in-Some-clause-taken : goal.returns-in-Some-clause-taken
returns-in-Some-clause-taken c =
    let cut = c.in-Some.cut in
    sym c.self.view_is
    ∙ line-cut c.self.inside.left.now cut.before.now cut.behind.now c.in-Some.ensures.cut

pub returns-in-Some-clause-over : goal.returns-in-Some-clause-over
returns-in-Some-clause-over c = λ none.
    let cut = c.in-Some.cut in
    let some = sym (line-cut c.self.inside.left.now cut.before.now cut.behind.now
    c.in-Some.ensures.cut)
    ∙ c.self.view_is ∙ none in
    absurd cc

pub returns-in-Some-clause-one_line : goal.returns-in-Some-clause-one_line
returns-in-Some-clause-one_line c =
    let cut = c.in-Some.cut in
    let text = c.self.inside.left.now in
    first-lacks text _ _ (line-cut text cut.before.now cut.behind.now c.in-Some.ensures.cut)

pub returns-in-None-clause-taken : goal.returns-in-None-clause-taken
returns-in-None-clause-taken c =
    let text = c.self.inside.left.now in
    sym c.self.view_is
    ∙ last-cut text c.in-None.ensures.cut (sym c.is_empty.ensures ∙ c.if-is_empty.false)

pub returns-in-None-clause-one_line : goal.returns-in-None-clause-one_line
returns-in-None-clause-one_line c =
    let text = c.self.inside.left.now in
    first-lacks text _ _
    (last-cut text c.in-None.ensures.cut (sym c.is_empty.ensures ∙ c.if-is_empty.false))
