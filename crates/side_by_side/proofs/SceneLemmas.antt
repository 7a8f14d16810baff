-- Claim: where one session of a scene acts, and each other takes part still with another token, all take
-- part (`acted-part`), and the scene advances (`acted-advances`); and advances follow one another
-- (`advances-then`).
-- Way: a list with one element put is looked at by its places.
use Rattle.std.proofs.Common.{◌≡◌, ◌≢◌, inl, inr, refl, sym, ap, subst, ◌∙◌, ℕ, ◌<◌, ◌∷◌, true, List, length, get_or, Some, true≢false, arith}
use Rattle.std.specs.Prelude.{All, AllPairs, slice_set}
use Rattle.std.proofs.lemmas.List.{get_or-set_other, length-set}
use Rattle.std.proofs.lemmas.Bool.{cases_Bool, cases_eq, cases_order, cond-false, cond-true}
use Rattle.std.proofs.lemmas.Grind.{get_or-set_at}
use Rattle.acct_outside.specs.Tokens.{Token}
use Rattle.acct_outside.specs.Folder.{Folder}
use Rattle.acct_outside.specs.History.{Event, History, is_of}
use Rattle.acct_outside.specs.Calls.{Answer, Call, CallResult, answers, done}
use Rattle.acct_outside.specs.Life.{Life, unbegun, running, faulted, life, life_step}
use Rattle.acct_outside.specs.Contract.{has_begun, was_begun}
use Rattle.acct_outside.specs.Others.{Admission, ByOthers, none_came, one_came}
use Rattle.suite_session.specs.declared.session.Phase.{Phase}
use Rattle.suite_session.specs.Belongs.{AreTwo}
use Rattle.suite_session.specs.Session.{token_of}
use Rattle.side_by_side.specs.Scenes.{Scene, TakePart, TakesPart}
use Rattle.side_by_side.specs.Advances.{Advances, IsOutsider, KeepsLawful, by_sessions}
use Rattle.side_by_side.proofs.ActLemmas.{Does}

-- ---- A list with one element put

module _ (sessions : List Phase) (place : ℕ) (new : Phase) (low : place < length sessions) where
  -- what holds of the new one and of each other holds of all
  put-all : (P : Phase → Type 0) → P new →
      ((k : ℕ) (d : Phase) → k < length sessions → k ≢ place → P (get_or sessions k d)) →
      All P (slice_set sessions place new)
  put-all P one rest k d within = elim (cases_eq k place) [
    | inl here ↦ subst P (sym (get_or-set_at sessions place k new d here low)) one
    | inr other ↦ subst P (sym (get_or-set_other sessions place k new d other))
        (rest k d (subst (λ (n : ℕ). k < n) (length-set sessions place new) within) other)
  ]

  -- what is apart from the new one and was apart is so
  put-apart : AllPairs AreTwo sessions →
      ((k : ℕ) (d : Phase) → k < length sessions → k ≢ place → AreTwo new (get_or sessions k d)) →
      AllPairs AreTwo (slice_set sessions place new)
  put-apart apart differs i j d less within = elim (cases_eq i place) [
    | inl first ↦ elim (cases_eq j place) [
      | inl second ↦ absurd (omega (arith, first, second, less))
      | inr other ↦ λ token has also. differs j d inside other token
          (sym (ap token_of (get_or-set_at sessions place i new d first low)) ∙ has)
          (sym (ap token_of (get_or-set_other sessions place j new d other)) ∙ also)
    ]
    | inr other ↦ elim (cases_eq j place) [
      | inl second ↦ λ token has also. differs i d (omega (arith, less, inside)) other token
          (sym (ap token_of (get_or-set_at sessions place j new d second low)) ∙ also)
          (sym (ap token_of (get_or-set_other sessions place i new d other)) ∙ has)
      | inr neither ↦ λ token has also. apart i j d less inside token
          (sym (ap token_of (get_or-set_other sessions place i new d other)) ∙ has)
          (sym (ap token_of (get_or-set_other sessions place j new d neither)) ∙ also)
    ]
  ]
    where
      inside : j < length sessions
      inside = subst (λ (n : ℕ). j < n) (length-set sessions place new) within

-- each of two places apart holds another session
pub apart-at : (sessions : List Phase) → AllPairs AreTwo sessions → (k place : ℕ) (d : Phase) →
    k < length sessions → place < length sessions → k ≢ place →
    AreTwo (get_or sessions place d) (get_or sessions k d)
apart-at sessions apart k place d within low other = elim (cases_order k place) [
  | inl same ↦ absurd (other same)
  | inr (inl less) ↦ λ token has also. apart k place d less low token also has
  | inr (inr more) ↦ apart place k d more within
]

-- ---- What has begun

-- a life that began stays begun
begun-step : (call : Call) (result : CallResult (Answer call)) (before : Life) →
    was_begun before ≡ true → was_begun (life_step call result before) ≡ true
begun-step call result unbegun is = absurd (true≢false (sym is))
begun-step (answers status) result running is = refl
begun-step _ (done answer) running is = refl
begun-step (answers status) result faulted is = refl
begun-step _ (done answer) faulted is = refl
begun-step call result before is = refl

-- so does a session after an event
pub begun-event : (token : Token) (event : Event) (history : History) →
    has_begun token history ≡ true →
    has_begun token (event ∷ history) ≡ true
begun-event token event history begun = elim (cases_Bool (is_of token event)) [
  | inl own ↦ ap was_begun (cond-true {A = Life} (is_of token event)
      (life_step event.call event.result (life token history)) (life token history) own)
      ∙ begun-step event.call event.result (life token history) begun
  | inr other ↦ ap was_begun (cond-false {A = Life} (is_of token event)
      (life_step event.call event.result (life token history)) (life token history) other) ∙ begun
]

-- and after events of others
pub begun-others : (admits : Admission) (token : Token) (old new : History) →
    ByOthers admits old new →
    has_begun token old ≡ true → has_begun token new ≡ true
begun-others admits token old _ none_came begun = begun
begun-others admits token old _ (one_came event new came admitted) begun =
    begun-event token event new (begun-others admits token old new came begun)

-- ---- Where one session acts

module _ (before now : Scene) (place : ℕ) (old new : Phase) (low : place < length before.sessions)
    (at : (d : Phase) → get_or before.sessions place d ≡ old)
    (is : now.sessions ≡ slice_set before.sessions place new)
    (does : Does before.told now.told old new) where
  -- no event or one came
  acted-came : ByOthers (by_sessions before) before.told.past.history now.told.past.history
  acted-came = elim does.came [
    | inl same ↦ subst (λ (history : History). ByOthers (by_sessions before)
        before.told.past.history history)
        (sym same) none_came
    | inr one ↦ subst (λ (history : History). ByOthers (by_sessions before)
        before.told.past.history history)
        (sym one.1) (one_came one.0 before.told.past.history none_came (
          one.2,
          λ outsider. one.3 one.0.token outsider.begun
              (subst (λ (session : Phase). token_of session ≢ Some one.0.token) (at old)
              (outsider.stranger place old low)) refl,
        ))
  ]

  -- an outsider stays one
  acted-outsider : (token : Token) → IsOutsider before token → IsOutsider now token
  acted-outsider token outsider = record {
    begun = record {
      named = outsider.begun.named;
      begun = begun-others (by_sessions before) token before.told.past.history
          now.told.past.history acted-came outsider.begun.begun;
    };
    stranger = subst (All (λ session. token_of session ≢ Some token)) (sym is)
        (put-all before.sessions place new low (λ session. token_of session ≢ Some token)
        (does.keeps_apart token outsider.begun
        (subst (λ (session : Phase). token_of session ≢ Some token) (at old)
        (outsider.stranger place old low)))
        (λ k d within other. outsider.stranger k d within));
  }

  -- the second claim
  pub acted-advances : Advances before now
  acted-advances = record {
    first = does.first;
    came = acted-came;
    outsiders = acted-outsider;
    never_falls = does.never_falls;
  }

  -- the first claim
  pub acted-part : TakePart before → TakesPart now.told new →
      ((other : Phase) → AreTwo old other → TakesPart before.told other →
      TakesPart now.told other × AreTwo new other) →
      TakePart now
  acted-part part takes stays = record {
    each = subst (All (TakesPart now.told)) (sym is)
        (put-all before.sessions place new low (TakesPart now.told) takes
        (λ k d within other. (rest k d within other).0));
    apart = subst (AllPairs AreTwo) (sym is)
        (put-apart before.sessions place new low part.apart
        (λ k d within other. (rest k d within other).1));
  }
    where
      rest : (k : ℕ) (d : Phase) → k < length before.sessions → k ≢ place →
          TakesPart now.told (get_or before.sessions k d)
          × AreTwo new (get_or before.sessions k d)
      rest k d within other = stays (get_or before.sessions k d)
          (subst (λ (session : Phase). AreTwo session (get_or before.sessions k d)) (at d)
          (apart-at before.sessions part.apart k place d within low other))
          (part.each k d within)

-- ---- One after another

-- what is admitted of less is admitted of more, and comes after what came
pub came-then : (admits fewer : Admission) (start old new : History) → ByOthers admits start old →
    ((history : History) (event : Event) → fewer history event → admits history event) →
    ByOthers fewer old new → ByOthers admits start new
came-then admits fewer start old _ came narrows none_came = came
came-then admits fewer start old _ came narrows (one_came event new others admitted) =
    one_came event new (came-then admits fewer start old new came narrows others)
    (narrows new event admitted)

-- a scene that advances admits no more
pub advances-narrow : (before now : Scene) → Advances before now →
    (history : History) (event : Event) →
    by_sessions now history event → by_sessions before history event
advances-narrow before now advances history event admitted = (
  subst (λ (first : Folder). KeepsLawful first history event) advances.first admitted.0,
  λ outsider. admitted.1 (advances.outsiders event.token outsider),
)

-- nothing is an advance
pub advances-none : (here : Scene) → Advances here here
advances-none here = record {
  first = refl;
  came = none_came;
  outsiders = λ token outsider. outsider;
  never_falls = omega arith;
}

-- the third claim
pub advances-then : (before between now : Scene) → Advances before between → Advances between now →
    Advances before now
advances-then before between now first second = record {
  first = second.first ∙ first.first;
  came = came-then (by_sessions before) (by_sessions between) before.told.past.history
      between.told.past.history now.told.past.history first.came
      (advances-narrow before between first) second.came;
  outsiders = λ token outsider. second.outsiders token (first.outsiders token outsider);
  never_falls =
      let once = first.never_falls in let again = second.never_falls in omega (arith, once, again);
}
