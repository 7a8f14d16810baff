-- Claim: each session that belonged to the folder does so after steps, or died in one of them, and had at
-- the moment before what the top call promises (`dies-promising`).
-- Way: the steps are taken one after another; each leaves the history lawful and longer. The session that
-- acts in a step turns, and belongs, or dies, and belonged before; each other stays as it was.
use Rattle.std.proofs.Common.{◌≡◌, inl, inr, refl, sym, ap, subst, ◌∙◌, ℕ, ◌<◌, Bool, true, false, List, [], ◌∷◌, ◌++◌, length, get_or, Option, Some, None}
use Rattle.std.specs.Prelude.{MatchBool, slice_get}
use Rattle.std.proofs.lemmas.Bool.{cases_eq}
use Rattle.std.proofs.lemmas.Grind.{get_or-set_at}
use Rattle.std.proofs.lemmas.List.{append_assoc, get_or-set_other, length-set}
use Rattle.std.proofs.lemmas.Option.{get_or_from_slice_get, slice_get_within}
use Rattle.memory_folder.specs.declared.Effect.{Effect as CallEffect}
use Rattle.memory_folder.specs.declared.memory.MemoryFolder.{MemoryFolder}
use Rattle.acct_outside.specs.History.{History}
use Rattle.memory_folder.specs.Memory.{moment_of}
use Rattle.acct_outside.specs.Others.{Admission, ByOthers, none_came, one_came}
use Rattle.suite_rules.specs.Deeds.{SuiteDeeds}
use Rattle.suite_session.specs.declared.session.Phase.{Phase}
use Rattle.suite_session.specs.declared.session.Phase.TheVariants.{Waiting, Begun, Over, Unbegun}
use Rattle.suite_session.specs.Belongs.{AreTwo, Belongs}
use Rattle.suite_session.specs.Deeds.{AreOfTools}
use Rattle.suite_session.specs.Turning.{KeepsOthers}
use Rattle.suite_course.specs.Turned.{AnswersKeepPromises, KeepsPromises}
use Rattle.side_by_side.specs.declared.step.Step.{Step}
use Rattle.side_by_side.specs.declared.step.Step.TheVariants.{Turn, Die}
use Rattle.side_by_side.specs.Places.{place_of}
use Rattle.side_by_side.specs.Scenes.{HasDied, Scene, TakePart, Telling, has_ended, moment_in, scene, telling}
use Rattle.side_by_side.specs.Steps.{Acts, ActsAmong, Dies, Goes, StaysAside, TakesAt, TakesFront, MovesBy, TakesSteps}
use Rattle.side_by_side.proofs.ActLemmas.{death-takes-part, telling-same}
use Rattle.side_by_side.proofs.SceneLemmas.{apart-at}
use Rattle.side_by_side.proofs.StepLemmas.{Leads, steps-lead}
use Rattle.schedule_clients.specs.Lawfully.{BelongsOrDied, DiedPromising, DiesPromising, EachBelongsOrDied, IsLawfulFor}
use Rattle.schedule_clients.proofs.LawfulLemmas.{lawful-on}

-- ---- A longer history

-- the history is longer by some events, from the same first moment
record Longer (before now : Telling) : Type 0 where
  first : now.past.first ≡ before.past.first
  more : History
  since : now.past.history ≡ more ++ before.past.history

-- events of others make it longer
grown : (admits : Admission) (old new : History) → ByOthers admits old new →
    (more : History) × (new ≡ more ++ old)
grown admits old _ none_came = ([], refl)
grown admits old _ (one_came event new came admitted) =
    let rest = grown admits old new came in
    (event ∷ rest.0, ap (λ (history : History). event ∷ history) rest.1)

module _ (deeds : SuiteDeeds) (are : AreOfTools deeds) where
  -- a death stays one
  died-on : (before now : Telling) (session : Phase) → Longer before now →
      DiedPromising deeds before session → DiedPromising deeds now session
  died-on before now session longer died = record {
    runner = died.runner;
    state = died.state;
    is = died.is;
    past = died.past;
    lawful = died.lawful;
    promised = died.promised;
    effect = died.effect;
    dead = died.dead;
    died = died.died;
    first = longer.first ∙ died.first;
    later = longer.more ++ died.later;
    since = longer.since ∙ ap (λ (history : History). longer.more ++ history) died.since
        ∙ sym (append_assoc longer.more died.later died.dead.history);
  }

  -- ---- One step

  module _ (before now : Telling) (old new : Phase) (lawful : IsLawfulFor deeds before.past)
      (keeps : (session : Phase) → Belongs (moment_in before) session →
      KeepsPromises deeds before.past session) (longer : Longer before now) where
    -- one that stays aside is as it was
    aside-is : StaysAside before now old new → BelongsOrDied deeds before old →
        BelongsOrDied deeds now new
    aside-is aside was = subst (BelongsOrDied deeds now) (sym aside.session)
        (subst (λ (told : Telling). BelongsOrDied deeds told old) (sym aside.told) was)

    -- where nothing came, it is as it was
    same-is : (session : Phase) → now.past ≡ before.past → now.faults ≡ before.faults →
        now.journal ≡ before.journal → new ≡ session → BelongsOrDied deeds before session →
        BelongsOrDied deeds now new
    same-is session past faults journal is was = subst (BelongsOrDied deeds now) (sym is)
        (subst (λ (told : Telling). BelongsOrDied deeds told session)
        (telling-same before now past faults journal) was)

    -- one that belonged and dies has promised so
    dies-is : (effect : CallEffect) (dying : Phase) → has_ended before dying ≡ false →
        Dies before now effect dying new → BelongsOrDied deeds before dying →
        BelongsOrDied deeds now new
    dies-is effect (Waiting asked) going dies was = elim (death-takes-part before now effect
        (Waiting asked) new going (inl tt) dies) [
          | inl belongs ↦ inl belongs
          | inr dead ↦ absurd (subst (HasDied now) dies.dies.0 dead)
        ]
    dies-is effect (Begun runner state) going dies (inl belongs) =
        inr (subst (DiedPromising deeds now) (sym dies.dies.0) (record {
          runner = runner;
          state = state;
          is = refl;
          past = before.past;
          lawful = lawful;
          promised = keeps (Begun runner state) belongs;
          effect = effect;
          dead = now.past;
          died = dies.dies.1;
          first = refl;
          later = [];
          since = refl;
        }))
    dies-is effect (Begun runner state) going dies (inr died) =
        inr (subst (DiedPromising deeds now) (sym dies.dies.0)
        (died-on before now (Begun runner state) longer died))
    dies-is effect (Over runner answer) going dies was =
        same-is (Over runner answer) dies.dies.1 dies.faults dies.journal dies.dies.0 was
    dies-is effect (Unbegun tool answer) going dies was =
        same-is (Unbegun tool answer) dies.dies.1 dies.faults dies.journal dies.dies.0 was

    -- whatever it does
    own-is : (step : Step) → Acts step before now old new → BelongsOrDied deeds before old →
        BelongsOrDied deeds now new
    own-is step = by-ended (has_ended before old) refl
      where
        goes-is : (one : Step) → has_ended before old ≡ false → Goes one before now old new →
            BelongsOrDied deeds before old → BelongsOrDied deeds now new
        goes-is (Turn place) going goes was = inl goes.belongs
        goes-is (Die place effect) going goes was = dies-is effect old going goes was

        by-ended : (over : Bool) → has_ended before old ≡ over →
            MatchBool over (StaysAside before now old new) (Goes step before now old new) →
            BelongsOrDied deeds before old → BelongsOrDied deeds now new
        by-ended true is acts was = aside-is acts was
        by-ended false is acts was = goes-is step is acts was

    -- another that belonged does so
    kept-is : (other : Phase) → AreTwo old other →
        KeepsOthers (moment_in before) (moment_in now) old new → BelongsOrDied deeds before other →
        BelongsOrDied deeds now other
    kept-is other apart others (inl belongs) = inl ((others other belongs apart).belongs)
    kept-is other apart others (inr died) = inr (died-on before now other longer died)

    -- whatever the session does
    other-is : (step : Step) (other : Phase) → AreTwo old other → Acts step before now old new →
        BelongsOrDied deeds before other → BelongsOrDied deeds now other
    other-is step other apart = by-ended (has_ended before old)
      where
        goes-is : (one : Step) → Goes one before now old new →
            BelongsOrDied deeds before other → BelongsOrDied deeds now other
        goes-is (Turn place) goes = kept-is other apart goes.others
        goes-is (Die place effect) goes = kept-is other apart goes.others

        by-ended : (over : Bool) →
            MatchBool over (StaysAside before now old new) (Goes step before now old new) →
            BelongsOrDied deeds before other → BelongsOrDied deeds now other
        by-ended true acts was =
            subst (λ (told : Telling). BelongsOrDied deeds told other) (sym acts.told) was
        by-ended false acts was = goes-is step acts was

  module _ (step : Step) (before now : Scene) (part : TakePart before)
      (lawful : IsLawfulFor deeds before.told.past)
      (keeps : (session : Phase) → Belongs (moment_in before.told) session →
      KeepsPromises deeds before.told.past session) (longer : Longer before.told now.told) where
    -- the session at the place acts
    among-is : (old : Phase) → slice_get before.sessions (place_of step) ≡ Some old →
        ActsAmong step before now old → EachBelongsOrDied deeds before now
    among-is old found acts =
        let place = place_of step in
        let low = slice_get_within before.sessions place old found in
        let at : (d : Phase) → get_or before.sessions place d ≡ old =
        λ d. get_or_from_slice_get before.sessions place old d found in record {
          as_many = ap length acts.sessions ∙ length-set before.sessions place acts.new;
          each = λ k d within was. elim (cases_eq k place) [
            | inl here ↦ subst (BelongsOrDied deeds now.told)
                (sym (ap (λ (sessions : List Phase). get_or sessions k d) acts.sessions
                ∙ get_or-set_at before.sessions place k acts.new d here low))
                (own-is before.told now.told old acts.new lawful keeps longer step acts.acts
                (subst (BelongsOrDied deeds before.told)
                (ap (λ (n : ℕ). get_or before.sessions n d) here ∙ at d) was))
            | inr other ↦ subst (BelongsOrDied deeds now.told)
                (sym (ap (λ (sessions : List Phase). get_or sessions k d) acts.sessions
                ∙ get_or-set_other before.sessions place k acts.new d other))
                (other-is before.told now.told old acts.new lawful keeps longer step
                (get_or before.sessions k d)
                (subst (λ (session : Phase). AreTwo session (get_or before.sessions k d)) (at d)
                (apart-at before.sessions part.apart k place d within low other))
                acts.acts was)
          ];
        }

    -- a step
    step-is : MovesBy step before now → EachBelongsOrDied deeds before now
    step-is = by-found (slice_get before.sessions (place_of step)) refl
      where
        by-found : (found : Option Phase) → slice_get before.sessions (place_of step) ≡ found →
            TakesAt step before now found → EachBelongsOrDied deeds before now
        by-found None is takes = subst (EachBelongsOrDied deeds before) (sym takes) (record {
          as_many = refl;
          each = λ k d within was. was;
        })
        by-found (Some old) is takes = among-is old is takes

  -- ---- Steps

  -- what advances has a longer history
  longer-on : (before now : Scene) → Leads before now → Longer before.told now.told
  longer-on before now leads =
      let more = grown _ before.told.past.history now.told.past.history leads.advances.came in
      record { first = leads.advances.first; more = more.0; since = more.1 }

  -- one after another
  steps-are : AnswersKeepPromises moment_of → (steps : List Step) (folder : MemoryFolder)
      (sessions : List Phase) (now : Scene) → TakePart (scene folder sessions) →
      IsLawfulFor deeds (telling folder).past → TakesSteps steps (scene folder sessions) now →
      EachBelongsOrDied deeds (scene folder sessions) now
  steps-are law [] folder sessions now part lawful same =
      subst (EachBelongsOrDied deeds (scene folder sessions)) (sym same) (record {
        as_many = refl;
        each = λ k d within was. was;
      })
  steps-are law (step ∷ steps) folder sessions now part lawful takes =
      let before = scene folder sessions in
      let between = scene takes.0 takes.1 in
      let leads = steps-lead (step ∷ []) before between part (takes.0, takes.1, takes.2, refl) in
      let first = step-is step before between part lawful
      (λ session belongs. law deeds are folder session belongs lawful)
      (longer-on before between leads) takes.2 in
      let rest = steps-are law steps takes.0 takes.1 now leads.part
      (lawful-on deeds are before between leads.advances lawful) takes.3 in record {
        as_many = rest.as_many ∙ first.as_many;
        each = λ k d within was. rest.each k d
            (subst (λ (n : ℕ). k < n) (sym first.as_many) within) (first.each k d within was);
      }

-- the claim
pub dies-promising : AnswersKeepPromises moment_of → (steps : List Step) (folder : MemoryFolder)
    (sessions : List Phase) (now : Scene) → TakePart (scene folder sessions) →
    TakesFront steps (scene folder sessions) now → DiesPromising (scene folder sessions) now
dies-promising law steps folder sessions now part front deeds are lawful =
    steps-are deeds are law front.done folder sessions now part lawful front.taken
