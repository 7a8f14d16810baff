use Rattle.std.proofs.Common.{refl, subst, Option}
use Rattle.std.specs.Prelude.{IsSome}
use Rattle.suite_answers.specs.declared.answer.Answer.{Answer}
use Rattle.suite_session.specs.Belongs.{Belongs}
use Rattle.suite_session.proofs.SessionTurns.{steps-to, turn-fewer}
use Rattle.suite_session.proofs.StreamLemmas.{going-led, goes-on, none-given}
use Rattle.suite_session.proofs.turning.turned.Goals as goal

-- a state that doesn't answer has a turn left, and stands as no stream changed it
pub go_on-next-requires : goal.go_on-next-requires
go_on-next-requires g c =
    let before = g.F.Folder.moment c.args.folder.now in
    record {
      going = goes-on c.in-Begun.state c.in_default.not-Answering;
      stands = (going-led before c.in-Begun.runner c.in-Begun.state c.in_default.not-Answering
          (subst (Belongs before) c.in-Begun.is c.requires)).stands;
    }

pub returns-in_default : goal.returns-in_default
returns-in_default g c =
    let before = g.F.Folder.moment c.args.folder.now in
    let now = g.F.Folder.moment c.go_on-next.new.folder in
    let runner = c.in-Begun.runner in
    let state = c.in-Begun.state in
    let apart = c.in_default.not-Answering in
    rw c.in-Begun.is (record {
      turns = (
        refl,
        steps-to before now runner state c.go_on-next.result
            (going-led before runner state apart (subst (Belongs before) c.in-Begun.is c.requires))
            c.go_on-next.ensures,
        c.go_on-next.ensures.counts,
      );
      nearer = λ going. turn-fewer now.told now.journal runner state c.go_on-next.result
          c.go_on-next.ensures.counts;
      ends = λ some. subst (λ (given : Option Answer). IsSome given) (none-given state apart) some;
    })
