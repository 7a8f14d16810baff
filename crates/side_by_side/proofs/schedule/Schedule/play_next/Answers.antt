use Rattle.std.proofs.Common.{◌≡◌, ◌∙◌, List, ap, drop, subst}
use Rattle.std.specs.Prelude.{OnOk}
use Rattle.std.specs.Global.{Vec}
use Rattle.side_by_side.specs.declared.step.Step.{Step}
use Rattle.side_by_side.specs.Lists.{lists_behind, next_list}
use Rattle.side_by_side.specs.Scenes.{scene}
use Rattle.side_by_side.specs.Steps.{TakesFront, TakesSteps}
use Rattle.side_by_side.proofs.schedule.Schedule.play_next.Goals as goal

pub returns-clause-played : goal.returns-clause-played
returns-clause-played g c = λ journal. record {
  left = subst
      (λ (lists : List (Vec Step)). drop c.place_behind-self.result lists
      ≡ lists_behind (drop c.args.self.now.taken lists)) c.deref.ensures.value
      c.place_behind-self.ensures;
  front = subst
      (λ (steps : List Step). TakesFront steps (scene c.args.folder.now c.args.sessions.now.items)
      (scene c.play.new.folder c.play.new.sessions.items))
      (c.list_at.ensures
      ∙ ap (λ (lists : List (Vec Step)). next_list (drop c.args.self.now.taken lists))
      c.deref-2.ensures.value) c.play.ensures.front;
  advances = c.play.ensures.advances;
  take_part = c.play.ensures.take_part;
}

pub returns-clause-whole : goal.returns-clause-whole
returns-clause-whole g c = subst
    (λ (steps : List Step). OnOk c.play.result
    (TakesSteps steps (scene c.args.folder.now c.args.sessions.now.items)
    (scene c.play.new.folder c.play.new.sessions.items)))
    (c.list_at.ensures
    ∙ ap (λ (lists : List (Vec Step)). next_list (drop c.args.self.now.taken lists))
    c.deref-2.ensures.value) c.play.ensures.whole
