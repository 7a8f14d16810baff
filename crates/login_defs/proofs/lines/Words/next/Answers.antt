use Rattle.std.proofs.Common.{◌<◌, ◌∙◌, sym, length, arith}
use Rattle.std.proofs.lemmas.Bool.Decides.{nat_tests}
use Rattle.login_defs.proofs.WordLaws.{next-word}
use Rattle.login_defs.proofs.lines.Words.next.Goals as goal

pub returns : goal.returns
returns c =
    let text = c.without_blanks-text.result.now in
    let some : 0 < length text = grind (arith, nat_tests) in
    sym c.self.view_is ∙ sym c.without_blanks-text.ensures.words
    ∙ next-word text c.split_at.result.0.now c.split_at.result.1.now c.word_end.result some
    c.without_blanks-text.ensures.stops c.word_end.ensures.end c.split_at.ensures.front
    c.split_at.ensures.back
