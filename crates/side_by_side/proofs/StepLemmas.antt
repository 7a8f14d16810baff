-- Claims: steps that are taken leave all sessions taking part, and the scene advances (`steps-lead`); and
-- a loop over them takes all, or where there was no memory a front (`taken-more`, `taken-all`,
-- `taken-front`).
-- Way: each step is an act of one session, or none.
use Rattle.std.proofs.Common.{◌≡◌, refl, sym, ap, subst, ◌∙◌, ℕ, ◌<◌, Bool, true, false, List, [], ◌∷◌, ◌++◌, length, get_or, take, drop, ◌+◌, ◌≤◌, Option, Some, None, inl, take-append-drop}
use Rattle.std.specs.Prelude.{MatchBool, slice_get}
use Rattle.std.proofs.lemmas.List.{take_all, take_more}
use Rattle.std.proofs.lemmas.Option.{get_or_from_slice_get, slice_get_within}
use Rattle.memory_folder.specs.declared.memory.MemoryFolder.{MemoryFolder}
use Rattle.suite_session.specs.declared.session.Phase.{Phase}
use Rattle.suite_session.specs.Belongs.{AreTwo}
use Rattle.suite_session.specs.Session.{token_of}
use Rattle.side_by_side.specs.declared.step.Step.{Step}
use Rattle.side_by_side.specs.declared.step.Step.TheVariants.{Turn, Die}
use Rattle.side_by_side.specs.Places.{place_of}
use Rattle.side_by_side.specs.Scenes.{Scene, TakePart, TakesPart, Telling, has_ended, scene}
use Rattle.side_by_side.specs.Steps.{Acts, ActsAmong, Goes, StaysAside, TakesAt, TakesFront, MovesBy, TakesSteps}
use Rattle.side_by_side.specs.Advances.{Advances}
use Rattle.side_by_side.proofs.ActLemmas.{Does, death-does, death-takes-part, does-nothing, other-stays, turn-does}
use Rattle.side_by_side.proofs.SceneLemmas.{acted-advances, acted-part, advances-none, advances-then}

-- ---- One session

-- what a session does, whether it takes part still, and that the others do
record ActsWell (before now : Telling) (old new : Phase) : Type 0 where
  does : Does before now old new
  takes_part : TakesPart now new
  others : (other : Phase) → AreTwo old other → TakesPart before other →
      TakesPart now other × AreTwo new other

module _ (before now : Telling) (old new : Phase) (part : TakesPart before old) where
  -- one that has ended stays aside
  aside-well : StaysAside before now old new → ActsWell before now old new
  aside-well aside = record {
    does = does-nothing before now old new (ap (λ (told : Telling). told.past) aside.told)
        (ap (λ (told : Telling). told.faults) aside.told) (ap token_of aside.session);
    takes_part = subst (TakesPart now) (sym aside.session)
        (subst (λ (told : Telling). TakesPart told old) (sym aside.told) part);
    others = λ other apart takes. (
      subst (λ (told : Telling). TakesPart told other) (sym aside.told) takes,
      λ token has also. apart token (sym (ap token_of aside.session) ∙ has) also,
    );
  }

  -- another takes the step
  goes-well : (step : Step) → has_ended before old ≡ false → Goes step before now old new →
      ActsWell before now old new
  goes-well (Turn place) going goes =
      let does = turn-does before now old new goes.turns in record {
        does = does;
        takes_part = inl goes.belongs;
        others = other-stays before now old new does goes.others;
      }
  goes-well (Die place effect) going goes =
      let does = death-does before now effect old new goes in record {
        does = does;
        takes_part = death-takes-part before now effect old new going part goes;
        others = other-stays before now old new does goes.others;
      }

  -- whichever it is
  acts-well : (step : Step) → Acts step before now old new → ActsWell before now old new
  acts-well step = by-ended (has_ended before old) refl
    where
      by-ended : (over : Bool) → has_ended before old ≡ over →
          MatchBool over (StaysAside before now old new) (Goes step before now old new) →
          ActsWell before now old new
      by-ended true is acts = aside-well acts
      by-ended false is acts = goes-well step is acts

-- ---- A step

-- all take part still, and the scene advances
pub record Leads (before now : Scene) : Type 0 where
  pub part : TakePart now
  pub advances : Advances before now

-- nothing leads so
leads-none : (here now : Scene) → now ≡ here → TakePart here → Leads here now
leads-none here now same part = record {
  part = subst TakePart (sym same) part;
  advances = subst (Advances here) (sym same) (advances-none here);
}

module _ (before : Scene) (part : TakePart before) (step : Step) (now : Scene) where
  -- the session at the place acts
  among-leads : (old : Phase) → slice_get before.sessions (place_of step) ≡ Some old →
      ActsAmong step before now old → Leads before now
  among-leads old is acts =
      let low = slice_get_within before.sessions (place_of step) old is in
      let at : (d : Phase) → get_or before.sessions (place_of step) d ≡ old =
      λ d. get_or_from_slice_get before.sessions (place_of step) old d is in
      let own : TakesPart before.told old =
      subst (TakesPart before.told) (at old) (part.each (place_of step) old low) in
      let well = acts-well before.told now.told old acts.new own step acts.acts in record {
        part = acted-part before now (place_of step) old acts.new low at acts.sessions well.does
            part well.takes_part well.others;
        advances = acted-advances before now (place_of step) old acts.new low at acts.sessions
            well.does;
      }

  -- a step leads so
  step-leads : MovesBy step before now → Leads before now
  step-leads = by-found (slice_get before.sessions (place_of step)) refl
    where
      by-found : (found : Option Phase) → slice_get before.sessions (place_of step) ≡ found →
          TakesAt step before now found → Leads before now
      by-found None is takes = leads-none before now takes part
      by-found (Some old) is takes = among-leads old is takes

-- ---- Steps

-- the first claim
pub steps-lead : (steps : List Step) (before now : Scene) → TakePart before →
    TakesSteps steps before now → Leads before now
steps-lead [] before now part same = leads-none before now same part
steps-lead (step ∷ steps) before now part takes =
    let between = scene takes.0 takes.1 in
    let first = step-leads before part step between takes.2 in
    let rest = steps-lead steps between now first.part takes.3 in record {
      part = rest.part;
      advances = advances-then before between now first.advances rest.advances;
    }

-- the second claim
pub step-more : (steps : List Step) (step : Step) (before between : Scene) (folder : MemoryFolder)
    (sessions : List Phase) → TakesSteps steps before between →
    MovesBy step between (scene folder sessions) →
    TakesSteps (steps ++ step ∷ []) before (scene folder sessions)
step-more [] step before between folder sessions same takes = (
  folder,
  sessions,
  subst (λ (here : Scene). MovesBy step here (scene folder sessions)) same takes,
  refl,
)
step-more (first ∷ steps) step before between folder sessions taken takes = (
  taken.0,
  taken.1,
  taken.2,
  step-more steps step (scene taken.0 taken.1) between folder sessions taken.3 takes,
)

-- ---- A loop over steps

-- one more of them
pub taken-more : (steps : List Step) (place : ℕ) (before between : Scene) (folder : MemoryFolder)
    (sessions : List Phase) (step : Step) → place < length steps →
    step ≡ get_or steps place step → TakesSteps (take place steps) before between →
    MovesBy step between (scene folder sessions) →
    TakesSteps (take (place + 1) steps) before (scene folder sessions)
taken-more steps place before between folder sessions step within is taken takes =
    subst (λ (done : List Step). TakesSteps done before (scene folder sessions))
    (ap (λ (one : Step). take place steps ++ one ∷ []) is ∙ sym (take_more steps place step within))
    (step-more (take place steps) step before between folder sessions taken takes)

module _ (steps : List Step) (place : ℕ) (before now : Scene) where
  -- a front of them
  pub taken-front : (same : Scene) → now ≡ same → TakesSteps (take place steps) before same →
      TakesFront steps before now
  taken-front same is taken = record {
    done = take place steps;
    left = drop place steps;
    split = sym (take-append-drop place steps);
    taken = subst (TakesSteps (take place steps) before) (sym is) taken;
  }

  -- all of them
  pub taken-all : length steps ≤ place → TakesSteps (take place steps) before now →
      TakesSteps steps before now
  taken-all most = subst (λ (done : List Step). TakesSteps done before now)
      (take_all place steps most)
