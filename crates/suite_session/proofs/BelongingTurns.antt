-- Claims: a session belongs to a folder still after its own turn (`turned-belongs`), and after the turn of
-- another session, whose token is another one still (`others-kept`).
-- Way: a turn's own event is of another session, as a new token is one without events, and a session has
-- some (`turn-apart`); so all that came is of others (`turn-came`).
use Rattle.std.proofs.Common.{◌≡◌, refl, sym, ap, subst, ◌∙◌, ℕ, [], Option, Some, None, IfSome, Ok}
use Rattle.acct_outside.specs.Tokens.{Token}
use Rattle.acct_outside.specs.History.{History, own_events}
use Rattle.acct_outside.specs.Moment.{Past, Moment, Narrows}
use Rattle.acct_outside.specs.Others.{Admission, ByOthers, none_came, one_came}
use Rattle.acct_outside.specs.Contract.{NeverAdmits, WhereTold}
use Rattle.account_model.specs.declared.tool.Tool.{Tool}
use Rattle.suite_answers.specs.declared.answer.Answer.{Answer}
use Rattle.suite_session.specs.declared.state.State.{State}
use Rattle.suite_session.specs.declared.state.State.TheVariants.{Answering}
use Rattle.suite_session.specs.declared.session.Phase.{Phase}
use Rattle.suite_session.specs.declared.session.Phase.TheVariants.{Waiting, Begun, Over, Unbegun}
use Rattle.suite_session.specs.Runner.{Runner}
use Rattle.suite_session.specs.Belongs.{AreTwo, Belongs, HasGiven, HasNoToken, IsLedTo, IsOnItsWay, OthersCame, of_others}
use Rattle.suite_session.specs.Grows.{Grows, none_new, others_new, own_new, Grew}
use Rattle.suite_session.specs.Session.{token_of}
use Rattle.suite_session.specs.Stands.{TurnsTo}
use Rattle.suite_session.specs.Turning.{GaveLeft, IsNew, KeepsOthers, SessionTurns, Stays}
use Rattle.suite_session.proofs.BelongsLemmas.{Present, belonging-stays, given-stays, present, told-both, without-token}
use Rattle.suite_session.proofs.GrowsLemmas.{grew-nothing}
use Rattle.suite_session.proofs.MetLemmas.{told-as}
use Rattle.suite_session.proofs.StreamLemmas.{left-given}

-- ---- After its own turn

-- a session that a turn led to its state is on its way
led-on : (now : Moment) (runner : Runner) (state : State) → IsLedTo now runner state →
    IsOnItsWay now runner state
led-on now runner state led = record {
  own = state;
  led = led;
  put = Ok tt;
  left = refl;
  texted = λ fault failed. absurd (cc failed);
}

-- where the folder tells what it told, no event came
stays-came : (before now : Moment) (token : Token) → Stays before now → OthersCame before now token
stays-came before now token stays = record {
  came = subst (λ (told : Option Past). WhereTold before.told told
      (λ first old new. ByOthers (of_others token) old new)) (sym stays.told) (nothing before.told);
  narrows = stays.narrows;
}
  where
    nothing : (was : Option Past) →
        WhereTold was was (λ first old new. ByOthers (of_others token) old new)
    nothing None = tt
    nothing (Some was) = (refl, none_came)

-- a session that answered has given what it had to give
answered-given : (before now : Moment) (runner : Runner) (answer : Answer) →
    IsOnItsWay before runner (Answering answer) →
    TurnsTo before now runner.token 1 (GaveLeft before now runner answer) ⊥ →
    HasGiven now runner answer
answered-given before now runner answer way turns =
    let had = left-given before runner answer way in
    let gave = turns.stands had.given had.put had.may had.came had.left in
    record {
      given = had.given;
      put = had.put;
      left = had.left;
      texted = had.texted;
      says = gave.says;
      own = own-now before.told now.told turns.grew
          (told-as before.told (λ past runs. runs.own) had.may.may_answer);
      ended = told-as now.told (λ past answered. answered.ended) gave.answered;
    }
  where
    own-now : (was told : Option Past) → Grew before.admits runner.token 1 was told →
        IfSome was (λ past. NeverAdmits before.admits runner.token) →
        IfSome told (λ past. NeverAdmits now.admits runner.token)
    own-now (Some was) (Some past) grew own = λ history event admitted.
        own history event (turns.narrows history event admitted)
    own-now None (Some past) grew own = absurd grew
    own-now was told grew own = tt

-- the first claim
pub turned-belongs : (before now : Moment) (old new : Phase) → Belongs before old →
    SessionTurns before now old new → Belongs now new
turned-belongs before now (Waiting asked) (Begun runner state) belongs turns =
    led-on now runner state turns.1.turns.stands
turned-belongs before now (Begun runner state) (Begun same next) belongs turns =
    subst (λ (one : Runner). IsOnItsWay now one next) (sym turns.0)
    (led-on now runner next turns.1.turns.stands)
turned-belongs before now (Begun runner state) (Over same answer) belongs turns =
    subst (λ (one : Runner). HasGiven now one answer) (sym turns.0)
    (answered-given before now runner answer
    (subst (λ (one : State). IsOnItsWay before runner one) turns.1 belongs) turns.2)
turned-belongs before now (Over runner answer) (Over same given) belongs turns =
    subst (λ (one : Runner). HasGiven now one given) (sym turns.0)
    (subst (λ (one : Answer). HasGiven now runner one) (sym turns.1)
    (given-stays before now runner (stays-came before now runner.token turns.2) answer belongs))
turned-belongs before now old (Waiting asked) belongs turns = tt
turned-belongs before now (Waiting asked) (Unbegun tool answer) belongs turns =
    subst (λ (one : Tool). HasNoToken one answer) (sym turns.0)
    (without-token asked before now answer turns.1.stands)
turned-belongs before now (Unbegun tool answer) (Unbegun same given) belongs turns =
    subst (λ (one : Tool). HasNoToken one given) (sym turns.0)
    (subst (HasNoToken tool) (sym turns.1) belongs)
turned-belongs before now old new belongs turns = absurd turns

-- ---- After another session's turn

-- the token of the events of a turn; none where its begin gave none, and where it made no call
abbrev turn_token : Phase → Phase → Token
turn_token (Begun runner state) new = runner.token
turn_token (Waiting asked) (Begun runner state) = runner.token
turn_token old new = []

-- what a turn leaves of the folder for others
record Left (before now : Moment) (token : Token) : Type 0 where
  pub most : ℕ
  pub grew : Grew before.admits token most before.told now.told
  pub narrows : Narrows before.admits now.admits

-- where the folder tells what it told, that is nothing new
stays-left : (before now : Moment) → Stays before now → Left before now []
stays-left before now stays = record {
  most = 0;
  grew = subst (λ (told : Option Past). Grew before.admits [] 0 before.told told) (sym stays.told)
      (grew-nothing before.admits [] before.told);
  narrows = stays.narrows;
}

-- a turn leaves events of its session alone, after admitted ones
turn-leaves : (before now : Moment) (old new : Phase) → SessionTurns before now old new →
    Left before now (turn_token old new)
turn-leaves before now (Waiting asked) (Begun runner state) turns =
    record { most = 1; grew = turns.1.turns.grew; narrows = turns.1.turns.narrows }
turn-leaves before now (Waiting asked) (Unbegun tool answer) turns =
    record { most = 1; grew = turns.1.grew; narrows = turns.1.narrows }
turn-leaves before now (Begun runner state) (Begun same next) turns =
    record { most = 1; grew = turns.1.turns.grew; narrows = turns.1.turns.narrows }
turn-leaves before now (Begun runner state) (Over same answer) turns =
    record { most = 1; grew = turns.2.grew; narrows = turns.2.narrows }
turn-leaves before now (Over runner answer) (Over same given) turns =
    stays-left before now turns.2
turn-leaves before now (Unbegun tool answer) (Unbegun same given) turns =
    stays-left before now turns.2
turn-leaves before now old new turns = absurd turns

-- these are of others than a session that the folder admits no event of, and whose token is another
grown-others : (admits : Admission) (token other : Token) → NeverAdmits admits other →
    (token ≡ other → ⊥) → (old : History) (most : ℕ) (new : History) →
    Grows admits token old most new → ByOthers (of_others other) old new
grown-others admits token other own apart old most _ (none_new _) = none_came
grown-others admits token other own apart old most _ (others_new _ event new grown admitted) =
    one_came event new (grown-others admits token other own apart old most new grown)
    (λ is. own new event admitted is)
grown-others admits token other own apart old _ _ (own_new most event new grown is backs) =
    one_came event new (grown-others admits token other own apart old most new grown)
    (λ also. apart (sym is ∙ also))

module _ (before now : Moment) (old new : Phase) (turns : SessionTurns before now old new)
    (other : Phase) (belongs : Belongs before other) (apart : AreTwo old other) where
  -- the token of the turn isn't the other session's
  turn-apart : (token : Token) → token_of other ≡ Some token →
      IfSome before.told (λ past. turn_token old new ≡ token → ⊥)
  turn-apart token is = by-phase old new turns apart
    where
      here : IfSome before.told (Present before.admits token)
      here = present before other belongs token is

      -- an empty token isn't
      by-name : IfSome before.told (λ past. [] ≡ token → ⊥)
      by-name = told-as before.told (λ past one. one.named) here

      by-phase : (was next : Phase) → SessionTurns before now was next → AreTwo was other →
          IfSome before.told (λ past. turn_token was next ≡ token → ⊥)
      by-phase (Waiting asked) (Begun runner state) turned differ =
          told-both before.told (λ past one fresh same. one.some
          (subst (λ (name : Token). own_events name past.history ≡ []) same fresh)) here turned.2
      by-phase (Begun runner state) next turned differ =
          told-as before.told (λ past one same. differ token
          (ap (λ (name : Token). Some name) same) is) here
      by-phase was next turned differ = by-name

  -- so its events are of others
  turn-came : (token : Token) → token_of other ≡ Some token → OthersCame before now token
  turn-came token is = record {
    came = by-told before.told now.told leaves.grew
        (told-as before.told (λ past one. one.own) (present before other belongs token is))
        (turn-apart token is);
    narrows = leaves.narrows;
  }
    where
      leaves : Left before now (turn_token old new)
      leaves = turn-leaves before now old new turns

      by-told : (was told : Option Past) →
          Grew before.admits (turn_token old new) leaves.most was told →
          IfSome was (λ past. NeverAdmits before.admits token) →
          IfSome was (λ past. turn_token old new ≡ token → ⊥) →
          WhereTold was told (λ first older newer. ByOthers (of_others token) older newer)
      by-told None None grew own differ = tt
      by-told (Some was) (Some past) grew own differ = (
        grew.0,
        grown-others before.admits (turn_token old new) token own differ was.history leaves.most
            past.history grew.1,
      )
      by-told was told grew own differ = absurd grew

  -- the session that was turned has another token than it still
  still-apart : IfSome before.told (λ past. AreTwo new other)
  still-apart = by-told before.told refl
    where
      here : (past : Past) → before.told ≡ Some past → (token : Token) →
          token_of other ≡ Some token → Present before.admits token past
      here past is token its =
          subst (λ (told : Option Past). IfSome told (Present before.admits token))
          is (present before other belongs token its)

      by-phase : (past : Past) → before.told ≡ Some past → (was next : Phase) →
          SessionTurns before now was next → AreTwo was other → AreTwo next other
      by-phase past is (Waiting asked) (Begun runner state) turned differ token mine its =
          let same : runner.token ≡ token = cc mine in
          (here past is token its).some
          (subst (λ (name : Token). own_events name past.history ≡ []) same
          (subst (λ (told : Option Past). IsNew told runner.token) is turned.2))
      by-phase past is (Begun runner state) (Begun same next) turned differ token mine its =
          differ token (ap (λ (one : Runner). Some one.token) (sym turned.0) ∙ mine) its
      by-phase past is (Begun runner state) (Over same answer) turned differ token mine its =
          differ token (ap (λ (one : Runner). Some one.token) (sym turned.0) ∙ mine) its
      by-phase past is (Over runner answer) (Over same given) turned differ token mine its =
          differ token (ap (λ (one : Runner). Some one.token) (sym turned.0) ∙ mine) its
      by-phase past is was (Waiting asked) turned differ token mine its =
          absurd (let wrong : None ≡ Some token = mine in cc)
      by-phase past is was (Unbegun tool answer) turned differ token mine its =
          absurd (let wrong : None ≡ Some token = mine in cc)
      by-phase past is was next turned differ token mine its = absurd turned

      by-told : (told : Option Past) → before.told ≡ told → IfSome told (λ past. AreTwo new other)
      by-told None is = tt
      by-told (Some past) is = by-phase past is old new turns apart

-- the second claim
pub others-kept : (before now : Moment) (old new : Phase) → SessionTurns before now old new →
    KeepsOthers before now old new
others-kept before now old new turns other belongs apart = record {
  belongs = belonging-stays before now other belongs (came other belongs apart);
  apart = still-apart before now old new turns other belongs apart;
}
  where
    came : (one : Phase) → Belongs before one → AreTwo old one →
        IfSome (token_of one) (OthersCame before now)
    came (Waiting asked) is differ = tt
    came (Unbegun tool answer) is differ = tt
    came (Begun runner state) is differ = turn-came before now old new turns (Begun runner state) is
        differ runner.token refl
    came (Over runner answer) is differ = turn-came before now old new turns (Over runner answer) is
        differ runner.token refl
