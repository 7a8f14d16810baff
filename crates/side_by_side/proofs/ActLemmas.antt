-- Claim: what one session does as it takes a step (`turn-does`, `death-does`): at most one event comes,
-- which is lawful, and of no other session that has begun; the session takes part still, and each other
-- that did, with another token (`other-stays`).
-- Way: the history grows by at most one event of the session's token (`grown-one`); that token is new or
-- its own. A session that died has an ended life, which no event of others changes.
use Rattle.std.proofs.Common.{◌≡◌, ◌≢◌, ◌⊎◌, inl, inr, refl, sym, ap, subst, ◌∙◌, ℕ, ◌≤◌, List, ◌∷◌, [], length, true, false, not, Some, None, Ok, true≢false, arith}
use Rattle.std.specs.Prelude.{bytes_eq}
use Rattle.std.proofs.lemmas.Bool.{cases_Bool, cond-true, cond-false, not-false}
use Rattle.memory_folder.specs.declared.Effect.{Effect as CallEffect}
use Rattle.acct_outside.specs.declared.CommitStage.TheVariants.{Before}
use Rattle.acct_outside.specs.declared.FolderFault.TheVariants.{Memory as NoMemory}
use Rattle.acct_outside.specs.Tokens.{IsToken, Token}
use Rattle.acct_outside.specs.Calls.{Call, Effect, answers, died}
use Rattle.acct_outside.specs.History.{Event, History, is_of, own_events}
use Rattle.acct_outside.specs.Life.{Life, unbegun, running, ended, life, life_step, runs_in, is_running}
use Rattle.memory_folder.specs.Logged.{with_event}
use Rattle.acct_outside.specs.Journal.{Entry}
use Rattle.acct_outside.specs.Moment.{Past}
use Rattle.memory_folder.specs.Memory.{no_others}
use Rattle.acct_outside.specs.Contract.{has_begun, was_begun}
use Rattle.acct_outside.proofs.TokenLemmas.{bytes_eq-self, bytes_eq-true, unbegun-without}
use Rattle.suite_rules.specs.Lawful.{Lawful}
use Rattle.suite_session.specs.declared.session.Phase.{Phase}
use Rattle.suite_session.specs.declared.session.Phase.TheVariants.{Waiting, Begun, Over, Unbegun}
use Rattle.suite_session.specs.Runner.{Runner}
use Rattle.suite_session.specs.Answers.{memory_answer}
use Rattle.suite_session.specs.Belongs.{AreTwo, Belongs}
use Rattle.suite_session.specs.Grows.{Grows, none_new, others_new, own_new}
use Rattle.suite_session.specs.Session.{token_of}
use Rattle.suite_session.specs.Stands.{StaysOurs}
use Rattle.suite_session.specs.Turning.{KeepsOthers, SessionTurns}
use Rattle.side_by_side.specs.Scenes.{HasBegun, HasDied, IsOver, TakesPart, Telling, has_ended, moment_in}
use Rattle.side_by_side.specs.Steps.{Dies}
use Rattle.side_by_side.specs.Advances.{KeepsLawful}

-- ---- One event at most

-- no event of the session makes no new one
grown-none : (token : Token) (old new : History) (most : ℕ) → most ≡ 0 →
    Grows no_others token old most new → new ≡ old
grown-none token old _ most none (none_new _) = refl
grown-none token old _ most none (others_new _ event new grown admitted) = absurd admitted
grown-none token old _ _ none (own_new most event new grown is backs) = absurd (cc none)

-- one at most makes one or none
grown-one : (token : Token) (old new : History) (most : ℕ) → most ≡ 1 →
    Grows no_others token old most new →
    (new ≡ old) ⊎ ((event : Event) × (new ≡ event ∷ old) × (event.token ≡ token))
grown-one token old _ most one (none_new _) = inl refl
grown-one token old _ most one (others_new _ event new grown admitted) = absurd admitted
grown-one token old _ _ one (own_new most event new grown is backs) = inr (
  event,
  ap (λ (history : History). event ∷ history)
      (grown-none token old new most (let none : most ≡ 0 = omega (arith, one) in none) grown),
  is,
)

-- a session that has begun has a life
pub began-life : (token : Token) (history : History) → own_events token history ≡ [] →
    has_begun token history ≡ true → ⊥
began-life token history none begun =
    true≢false (sym begun ∙ ap was_begun (unbegun-without token history none))

-- an event of another leaves a life
pub life-stays : (token : Token) (event : Event) (history : History) → event.token ≢ token →
    life token (event ∷ history) ≡ life token history
life-stays token event history other = elim (cases_Bool (is_of token event)) [
  | inl own ↦ absurd (other (bytes_eq-true event.token token own))
  | inr not ↦ cond-false {A = Life} (is_of token event)
      (life_step event.call event.result (life token history)) (life token history) not
]

-- ---- What an act leaves

-- The session took a step: no event came, or this one, lawfully; and it is of no session of another token
-- that had begun. It has a token that none of these has.
pub record Does (before now : Telling) (old new : Phase) : Type 0 where
  pub first : now.past.first ≡ before.past.first
  pub came : (now.past.history ≡ before.past.history)
      ⊎ ((event : Event) × (now.past.history ≡ event ∷ before.past.history)
      × KeepsLawful before.past.first before.past.history event
      × ((token : Token) → HasBegun before.past token → token_of old ≢ Some token →
      event.token ≢ token))
  pub keeps_apart : (token : Token) → HasBegun before.past token → token_of old ≢ Some token →
      token_of new ≢ Some token
  pub never_falls : before.faults ≤ now.faults

module _ (before now : Telling) where
  -- what stays ours keeps an event lawful
  keeps-lawful : (event : Event) → now.past.history ≡ event ∷ before.past.history →
      StaysOurs (moment_in before) (moment_in now) →
      KeepsLawful before.past.first before.past.history event
  keeps-lawful event is stays deeds are lawful =
      subst (λ (history : History). Lawful deeds before.past.first history) is
      ((stays deeds are).1 (λ history one was admitted. absurd admitted) lawful)

  -- an act of a session of this token, which is of no other that had begun
  does-by : (old new : Phase) (token : Token) →
      now.past.first ≡ before.past.first →
      Grows no_others token before.past.history 1 now.past.history →
      StaysOurs (moment_in before) (moment_in now) →
      before.faults ≤ now.faults →
      ((other : Token) → HasBegun before.past other → token_of old ≢ Some other → token ≢ other) →
      ((other : Token) → HasBegun before.past other → token_of old ≢ Some other →
      token_of new ≢ Some other) →
      Does before now old new
  does-by old new token first grown stays faults differs keeps = record {
    first = first;
    came = elim (grown-one token before.past.history now.past.history 1 refl grown) [
      | inl same ↦ inl same
      | inr one ↦ inr (
        one.0,
        one.1,
        keeps-lawful one.0 one.1 stays,
        λ other begun apart is. differs other begun apart (sym one.2 ∙ is),
      )
    ];
    keeps_apart = keeps;
    never_falls = faults;
  }

  -- nothing came
  pub does-nothing : (old new : Phase) → now.past ≡ before.past → now.faults ≡ before.faults →
      token_of new ≡ token_of old → Does before now old new
  does-nothing old new same faults is = record {
    first = ap (λ (past : Past). past.first) same;
    came = inl (ap (λ (past : Past). past.history) same);
    keeps_apart = λ token begun apart has. apart (sym is ∙ has);
    never_falls = subst (λ (count : ℕ). before.faults ≤ count) (sym faults) (omega arith);
  }

  -- a runner's token differs from that of another
  own-differs : (token other : Token) → Some token ≢ Some other → token ≢ other
  own-differs token other apart same = apart (ap (λ (one : Token). Some one) same)

  -- the first claim, of a turn
  pub turn-does : (old new : Phase) → SessionTurns (moment_in before) (moment_in now) old new →
      Does before now old new
  turn-does (Waiting asked) (Begun runner state) turns =
      let new_token : (other : Token) → HasBegun before.past other → None ≢ Some other →
      runner.token ≢ other =
      λ other begun apart same. began-life other before.past.history
      (subst (λ (one : Token). own_events one before.past.history ≡ []) same turns.2)
      begun.begun in
      does-by (Waiting asked) (Begun runner state) runner.token turns.1.turns.grew.0
      turns.1.turns.grew.1 turns.1.turns.lawful turns.1.turns.never_falls new_token
      (λ other begun apart has. new_token other begun apart
      (let same : runner.token ≡ other = cc has in same))
  turn-does (Waiting asked) (Unbegun tool answer) turns =
      does-by (Waiting asked) (Unbegun tool answer) [] turns.1.grew.0 turns.1.grew.1 turns.1.lawful
      turns.1.never_falls (λ other begun apart same. begun.named (sym same))
      (λ other begun apart has. apart has)
  turn-does (Begun runner state) (Begun same next) turns =
      does-by (Begun runner state) (Begun same next) runner.token turns.1.turns.grew.0
      turns.1.turns.grew.1 turns.1.turns.lawful turns.1.turns.never_falls
      (λ other begun. own-differs runner.token other)
      (λ other begun apart has. apart (ap (λ (one : Runner). Some one.token) (sym turns.0) ∙ has))
  turn-does (Begun runner state) (Over same answer) turns =
      does-by (Begun runner state) (Over same answer) runner.token turns.2.grew.0
      turns.2.grew.1 turns.2.lawful turns.2.never_falls
      (λ other begun. own-differs runner.token other)
      (λ other begun apart has. apart (ap (λ (one : Runner). Some one.token) (sym turns.0) ∙ has))
  turn-does (Over runner answer) (Over same given) turns =
      does-nothing (Over runner answer) (Over same given)
      (let is : now.past ≡ before.past = cc turns.2.told in is) turns.2.faults
      (ap (λ (one : Runner). Some one.token) turns.0)
  turn-does (Unbegun tool answer) (Unbegun kept same) turns =
      does-nothing (Unbegun tool answer) (Unbegun kept same)
      (let is : now.past ≡ before.past = cc turns.2.told in is) turns.2.faults refl
  turn-does old new turns = absurd turns

-- ---- A death

-- a folder of this history, count and journal
abbrev telling_of : Past → ℕ → List Entry → Telling
telling_of past faults journal = record { past = past; faults = faults; journal = journal }

-- what tells the same is the same
pub telling-same : (before now : Telling) → now.past ≡ before.past → now.faults ≡ before.faults →
    now.journal ≡ before.journal → before ≡ now
telling-same before now past faults journal =
    ap (λ (one : Past). telling_of one before.faults before.journal) (sym past)
    ∙ (ap (λ (count : ℕ). telling_of now.past count before.journal) (sym faults)
    ∙ ap (λ (entries : List Entry). telling_of now.past now.faults entries) (sym journal))

-- a token isn't empty
pub token-named : (token : Token) → IsToken token → token ≢ []
token-named token is none =
    let least = is.not_empty in
    let same : length token ≡ 0 = ap length none in omega (arith, least, same)

-- a session that runs has ended once it died
death-ended : (token : Token) (call : Call) (effect : Effect) (history : History) →
    is_running token history ≡ true →
    life token (record { token = token; call = call; result = died effect } ∷ history) ≡ ended
death-ended token call effect history runs =
    cond-true {A = Life} (bytes_eq token token)
    (life_step call (died effect) (life token history)) (life token history) (bytes_eq-self token)
    ∙ by-life call (life token history) runs
  where
    by-life : (call : Call) (before : Life) → runs_in before ≡ true →
        life_step call (died effect) before ≡ ended
    by-life (answers status) running is = refl
    by-life call unbegun is = absurd (true≢false (sym is))
    by-life call ended is = absurd (true≢false (sym is))
    by-life call before is = refl

module _ (before now : Telling) where
  module _ (token : Token) (call : Call) (effect : Effect) where
    -- the event of the death
    abbrev death : Event
    death = record { token = token; call = call; result = died effect }

    -- a death is one event of its session
    one-dies : (old new : Phase) → now.past ≡ with_event death before.past →
        StaysOurs (moment_in before) (moment_in now) → now.faults ≡ before.faults →
        token_of old ≡ Some token → token_of new ≡ Some token → Does before now old new
    one-dies old new told stays faults was is =
        let last : now.past.history ≡ death ∷ before.past.history =
        ap (λ (past : Past). past.history) told in record {
          first = ap (λ (past : Past). past.first) told;
          came = inr (
            death,
            last,
            keeps-lawful before now death last stays,
            λ other begun apart same. apart (was ∙ ap (λ (one : Token). Some one) same),
          );
          keeps_apart = λ other begun apart has. apart (was ∙ sym is ∙ has);
          never_falls = subst (λ (count : ℕ). before.faults ≤ count) (sym faults) (omega arith);
        }

    -- and ends its life
    one-ended : now.past ≡ with_event death before.past →
        is_running token before.past.history ≡ true → life token now.past.history ≡ ended
    one-ended told runs = ap (λ (past : Past). life token past.history) told
        ∙ death-ended token call effect before.past.history runs

  -- the first claim, of a death
  pub death-does : (effect : CallEffect) (old new : Phase) → Dies before now effect old new →
      Does before now old new
  death-does effect (Begun runner state) new is =
      one-dies runner.token _ _ (Begun runner state) new is.dies.1.told is.lawful is.faults refl
      (ap token_of is.dies.0)
  death-does effect old new is =
      does-nothing before now old new is.dies.1 is.faults (ap token_of is.dies.0)

  -- where nothing came, a session takes part still
  same-takes : (session new : Phase) → now.past ≡ before.past → now.faults ≡ before.faults →
      now.journal ≡ before.journal → new ≡ session → TakesPart before session → TakesPart now new
  same-takes session new past faults journal is part =
      subst (TakesPart now) (sym is)
      (subst (λ (told : Telling). TakesPart told session)
      (telling-same before now past faults journal) part)

  -- what died runs no more, and else the session is as it was
  pub death-takes-part : (effect : CallEffect) (old new : Phase) → has_ended before old ≡ false →
      TakesPart before old → Dies before now effect old new → TakesPart now new
  death-takes-part effect (Waiting asked) new going part is =
      inl (subst (Belongs (moment_in now)) (sym is.dies.0) (record {
        given = memory_answer Before;
        put = Ok tt;
        left = refl;
        texted = λ fault wrong. absurd (cc wrong);
        fault = NoMemory;
        tells = inr refl;
      }))
  death-takes-part effect (Begun runner state) new going (inl belongs) is =
      inr (subst (HasDied now) (sym is.dies.0) (record {
        named = token-named runner.token belongs.led.came.named;
        ended = one-ended runner.token _ _ is.dies.1.told
            (not-false (is_running runner.token before.past.history) going);
      }))
  death-takes-part effect (Begun runner state) new going (inr dead) is =
      absurd (true≢false (sym (not-false (is_running runner.token before.past.history) going)
      ∙ ap runs_in dead.ended))
  death-takes-part effect (Over runner answer) new going part is =
      same-takes (Over runner answer) new is.dies.1 is.faults is.journal is.dies.0 part
  death-takes-part effect (Unbegun tool answer) new going part is =
      same-takes (Unbegun tool answer) new is.dies.1 is.faults is.journal is.dies.0 part

-- ---- The others

-- a life that ended began
ended-begun : (past : Past) (token : Token) → IsOver past token → HasBegun past token
ended-begun past token has = record { named = has.named; begun = ap was_begun has.ended }

module _ (before now : Telling) (old new : Phase) (does : Does before now old new) where
  -- an ended life stays so
  ended-stays : (token : Token) → token_of old ≢ Some token → IsOver before.past token →
      IsOver now.past token
  ended-stays token apart has = record {
    named = has.named;
    ended = elim does.came [
      | inl same ↦ ap (life token) same ∙ has.ended
      | inr one ↦ ap (life token) one.1
          ∙ life-stays token one.0 before.past.history
          (one.3 token (ended-begun before.past token has) apart) ∙ has.ended
    ];
  }

  -- one that dead did so
  died-stays : (other : Phase) → AreTwo old other → HasDied before other →
      HasDied now other × AreTwo new other
  died-stays (Begun runner state) apart dead =
      let own_apart : token_of old ≢ Some runner.token =
      λ has. apart runner.token has refl in (
        ended-stays runner.token own_apart dead,
        λ token is also. does.keeps_apart runner.token
            (ended-begun before.past runner.token dead) own_apart (is ∙ sym also),
      )
  died-stays other apart dead = absurd dead

  -- the second claim
  pub other-stays : KeepsOthers (moment_in before) (moment_in now) old new → (other : Phase) →
      AreTwo old other → TakesPart before other → TakesPart now other × AreTwo new other
  other-stays others other apart (inl belongs) =
      let kept = others other belongs apart in (inl kept.belongs, kept.apart)
  other-stays others other apart (inr dead) =
      let stays = died-stays other apart dead in (inr stays.0, stays.1)
