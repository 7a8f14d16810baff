use Rattle.std.proofs.Common.{◌≤◌, ◌∙◌, sym, ap, subst, length}
use Rattle.std.specs.Prelude.{unwrap_or}
use Rattle.login_defs.proofs.WordLaws.{is_space, first-or-end, end-within}
use Rattle.login_defs.proofs.lines.word_end.Goals as goal

pub returns-clause-end : goal.returns-clause-end
returns-clause-end c =
    c.unwrap_or.ensures
    ∙ ap (λ place. unwrap_or place (length c.args.text.now)) c.first_blank.ensures
    ∙ first-or-end is_space c.args.text.now

pub returns-clause-within : goal.returns-clause-within
returns-clause-within c =
    subst (λ end. end ≤ length c.args.text.now) (sym (returns-clause-end c))
    (end-within is_space c.args.text.now)
