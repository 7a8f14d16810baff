use Rattle.std.proofs.Common.{◌∙◌, ◌≤◌, List, ap, arith, subst, sym}
use Rattle.account_model.specs.Options.{Word}
use Rattle.rehearsal.specs.declared.course.Reached.{Reached}
use Rattle.rehearsal.specs.Commands.{words_of}
use Rattle.rehearsal.specs.Course.{after_words}
use Rattle.rehearsal.specs.Images.{AllStand}
use Rattle.rehearsal.proofs.CourseLemmas.{reached-changed, reached-next, reached-stands}
use Rattle.rehearsal.proofs.course.course_of.Goals as goal

pub after_words-requires-clause-tables : goal.after_words-requires-clause-tables
after_words-requires-clause-tables c = subst (λ (one : Reached). AllStand one.files)
    (sym c.commands.invariant) (reached-stands c.args.asked.seed c.commands.place)

pub after_words-requires-clause-changed : goal.after_words-requires-clause-changed
after_words-requires-clause-changed c =
    let within = subst (λ (one : Reached). one.changed ≤ c.commands.place)
    (sym c.commands.invariant) (reached-changed c.args.asked.seed c.commands.place) in
    omega arith

pub commands-preserved : goal.commands-preserved
commands-preserved c =
    reached-next c.args.asked.seed c.commands.place c.commands.state c.in_ok-state.state
    c.commands.invariant
    (c.in_ok-state.ensures ∙ ap (λ (words : List Word). after_words words c.commands.state)
    (c.as_slice.ensures.value ∙ (c.in_ok-words.ensures ∙ ap words_of c.at.ensures)))
