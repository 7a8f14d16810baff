-- Claims: a state that doesn't answer has a call left before that (`goes-on`), and is none that the streams left, so
-- the session's events lead to it (`going-led`); and where the streams left an answer, the session had
-- one to give (`left-given`).
-- Way: by the state; a fault of a stream changes an answer alone.
use Rattle.std.proofs.Common.{◌≡◌, ◌<◌, refl, sym, ap, subst, ◌∙◌, Some, None, IfSome, Result, Ok, Err, arith}
use Rattle.acct_outside.specs.declared.streams.SinkFault.{SinkFault}
use Rattle.suite_answers.specs.declared.answer.Answer.{Answer}
use Rattle.suite_session.specs.declared.state.State.{State}
use Rattle.suite_session.specs.declared.state.State.TheVariants.{Answering}
use Rattle.suite_session.specs.Runner.{Runner}
use Rattle.acct_outside.specs.Moment.{Moment}
use Rattle.suite_session.specs.Answers.{after_fault, after_streams}
use Rattle.suite_session.specs.Left.{calls_left}
use Rattle.suite_session.specs.Belongs.{CameTo, IsLedTo, IsOnItsWay}
use Rattle.suite_session.specs.Session.{HasText, HasTextIn, given_in, state_after, state_failed}
use Rattle.suite_session.specs.Stands.{MayGive}

-- the state gives no answer
abbrev pub IsNoAnswer : State → Type 0
IsNoAnswer state = (answer : Answer) → state ≡ Answering answer → ⊥

-- the first claim
pub goes-on : (state : State) → IsNoAnswer state → 1 < calls_left state
goes-on (Answering answer) apart = absurd (apart answer refl)
goes-on state apart = omega arith

-- so it has none
pub none-given : (state : State) → IsNoAnswer state → given_in state ≡ None
none-given (Answering answer) apart = absurd (apart answer refl)
none-given state apart = refl

module _ (now : Moment) (runner : Runner) where
  -- a state that is no answer is that before the fault
  failed-same : (fault : SinkFault) (state own : State) → given_in state ≡ None →
      state ≡ state_failed fault own → own ≡ state
  failed-same fault state (Answering answer) none is =
      let has : given_in state ≡ Some (after_fault fault answer) = ap given_in is in
      let wrong : None ≡ Some (after_fault fault answer) = sym none ∙ has in absurd (cc)
  failed-same fault state own none is = sym is

  left-same : (state : State) → IsNoAnswer state → (way : IsOnItsWay now runner state) →
      way.own ≡ state
  left-same state apart way = by-put way.put way.left
    where
      by-put : (put : Result (Unit {0}) SinkFault) → state ≡ state_after put way.own →
          way.own ≡ state
      by-put (Ok unit) is = sym is
      by-put (Err fault) is = failed-same fault state way.own (none-given state apart) is

  -- the second claim
  pub going-led : (state : State) → IsNoAnswer state → IsOnItsWay now runner state →
      IsLedTo now runner state
  going-led state apart way = subst (IsLedTo now runner) (left-same state apart way) way.led

  -- which answer it had to give
  pub record Had (answer : Answer) : Type 0 where
    pub given : Answer
    pub put : Result (Unit {0}) SinkFault
    pub may : MayGive now runner given
    pub came : IfSome now.told (CameTo runner (Answering given))
    pub left : answer ≡ after_streams put given
    pub texted : (fault : SinkFault) → put ≡ Err fault → HasText given

  failed-given : (fault : SinkFault) (answer : Answer) (own : State) → IsLedTo now runner own →
      Answering answer ≡ state_failed fault own → HasTextIn own → Had answer
  failed-given fault answer (Answering given) led is text = record {
    given = given;
    put = Err fault;
    may = led.stands;
    came = led.came;
    left = (let same : answer ≡ after_fault fault given = cc is in same);
    texted = λ last failed. text;
  }
  failed-given fault answer own led is text = absurd (cc is)

  -- the third claim
  pub left-given : (answer : Answer) → IsOnItsWay now runner (Answering answer) → Had answer
  left-given answer way = by-put way.put way.left way.texted
    where
      by-put : (put : Result (Unit {0}) SinkFault) → Answering answer ≡ state_after put way.own →
          ((fault : SinkFault) → put ≡ Err fault → HasTextIn way.own) → Had answer
      by-put (Ok unit) is texted =
          let led = subst (IsLedTo now runner) (sym is) way.led in
          record {
            given = answer;
            put = Ok tt;
            may = led.stands;
            came = led.came;
            left = λ i. answer;
            texted = λ last failed. absurd (cc failed);
          }
      by-put (Err fault) is texted =
          failed-given fault answer way.own way.led is (texted fault refl)
