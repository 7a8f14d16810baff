-- Claims: a session belongs to a folder still after events of others (`belonging-stays`), and where a
-- stream failed that was to take its answer (`output-stays`).
-- Way: what it says of itself is found from its own events (`others-leave`), and a history only grows. A
-- session with a token has events, and its token isn't empty (`present`).
use Rattle.std.proofs.Common.{◌≡◌, refl, sym, ap, subst, ◌∙◌, ℕ, [], length, Option, Some, None, IfSome, Result, Ok, Err, true≢false, arith}
use Rattle.acct_outside.specs.declared.streams.SinkFault.{SinkFault}
use Rattle.acct_outside.specs.declared.streams.SinkFault.TheVariants.{Failed, Memory as NoMemory}
use Rattle.acct_outside.specs.Tokens.{Token, IsToken}
use Rattle.acct_outside.specs.History.{History, own_events}
use Rattle.acct_outside.specs.Life.{life, runs_in}
use Rattle.acct_outside.specs.Moment.{Past, Moment}
use Rattle.acct_outside.specs.Others.{Admission, ByOthers}
use Rattle.acct_outside.specs.Contract.{NeverAdmits, MayAnswer, RunsIn, WhereTold}
use Rattle.acct_outside.specs.declared.CommitStage.{CommitStage}
use Rattle.suite_rules.specs.OwnLock.{kept_number}
use Rattle.suite_rules.specs.Standing.{Standing}
use Rattle.suite_rules.specs.Steps.{StandsIn}
use Rattle.suite_rules.proofs.Own.{own-standing}
use Rattle.suite_rules.proofs.StepLemmas.{may-answer-now}
use Rattle.suite_answers.specs.declared.answer.Answer.{Answer}
use Rattle.suite_session.specs.declared.state.State.{State}
use Rattle.suite_session.specs.declared.state.State.TheVariants.{Reading, Asking, Claiming, Withdrawing, Moving, BackingUp, Committing, Installing, Unlocking, Freeing, Watching, Gathering, Answering}
use Rattle.suite_session.specs.declared.session.Phase.{Phase}
use Rattle.suite_session.specs.declared.session.Phase.TheVariants.{Waiting, Begun, Over, Unbegun}
use Rattle.suite_session.specs.Runner.{Question, Runner}
use Rattle.suite_session.specs.Moment.{Runs, At}
use Rattle.suite_session.specs.Answers.{after_fault, after_streams}
use Rattle.suite_session.specs.Belongs.{Belongs, BelongingStays, CameTo, HasEnded, HasGiven, HasNoToken, IsOnItsWay, OthersCame, StagesAs, of_others}
use Rattle.suite_session.specs.Due.{IsDue}
use Rattle.suite_session.specs.Reports.{AnswersShown}
use Rattle.suite_session.specs.Session.{HasText, HasTextIn, IsToPut, output_failed, state_after, state_failed, token_of}
use Rattle.suite_session.specs.Staging.{HasMovedAll}
use Rattle.suite_session.specs.Stands.{HasToGive, HasLeft, KnowsDecided, StandsAs}
use Rattle.suite_session.specs.Telling.{IsToTell, Covers}
use Rattle.suite_session.specs.Turning.{IsUnbegun}
use Rattle.suite_session.proofs.BoundLemmas.{wrote-still, called-still, others-leave, others-never, within-still}
use Rattle.suite_session.proofs.DueLemmas.{shown-stays}
use Rattle.suite_session.proofs.GrowsLemmas.{others-extend}
use Rattle.suite_session.proofs.LeavingLemmas.{clean-same, left-same}
use Rattle.suite_session.proofs.LooksLemmas.{looked-still, once-still}
use Rattle.suite_session.proofs.MetLemmas.{told-as}
use Rattle.suite_session.proofs.FreeLemmas.{free-still, ran-still}
use Rattle.suite_session.proofs.TellingLemmas.{tells-others}

-- ---- A session that belongs

module _ (now : Moment) (runner : Runner) where
  -- wherever it stands it runs, and the folder admits no event of it
  runs-so : (Holds : Standing → Type 0) → StandsIn now runner.token Holds →
      MayAnswer now runner.token
  runs-so Holds = may-answer-now now.admits runner.token Holds now.told

  -- so it does in each state
  pub state-runs : (state : State) → StandsAs now runner state → MayAnswer now runner.token
  state-runs (Reading seen) stands = runs-so _ stands.2
  state-runs (Withdrawing loser) stands = runs-so _ stands.2
  state-runs (Moving moving) stands = runs-so _ stands.2
  state-runs (BackingUp walker answer) stands = runs-so _ stands.stands
  state-runs (Committing change answer) stands = runs-so _ stands.stands
  state-runs (Installing walker answer) stands = runs-so _ stands.stands
  state-runs (Unlocking keeper answer) stands = runs-so _ stands.stands
  state-runs (Freeing freeing answer) stands = runs-so _ stands.stands
  state-runs (Answering answer) stands = stands.may_answer
  state-runs state stands = runs-so _ stands.1

-- the folder admits no event of it
pub state-own : (now : Moment) (runner : Runner) (state : State) → StandsAs now runner state →
    IfSome now.told (λ past. NeverAdmits now.admits runner.token)
state-own now runner state stands =
    told-as now.told (λ past runs. runs.own) (state-runs now runner state stands)

-- what follows from two facts follows where they are told
pub told-both : {P Q R : Past → Type 0} (told : Option Past) →
    ((past : Past) → P past → Q past → R past) →
    IfSome told P → IfSome told Q → IfSome told R
told-both None leads first second = tt
told-both (Some past) leads first second = leads past first second

-- a session has events, a token that isn't empty, and none of its events is admitted
pub record Present (admits : Admission) (token : Token) (past : Past) : Type 0 where
  pub own : NeverAdmits admits token
  pub some : own_events token past.history ≡ [] → ⊥
  pub named : [] ≡ token → ⊥

-- a token isn't empty
token-some : (token : Token) → IsToken token → [] ≡ token → ⊥
token-some token named is =
    let least = named.not_empty in
    let none : 0 ≡ length token = ap length is in omega (arith, least, none)

-- one that runs has events
runs-some : (admits : Admission) (token : Token) (past : Past) → RunsIn admits token past →
    own_events token past.history ≡ [] → ⊥
runs-some admits token past runs none =
    true≢false (sym runs.runs ∙ ap runs_in (own-standing.same_life token past.history
    ∙ ap (λ (own : History). life token own) none))

-- so it is with each session that has a token
pub present : (now : Moment) (session : Phase) → Belongs now session → (token : Token) →
    token_of session ≡ Some token → IfSome now.told (Present now.admits token)
present now (Begun runner state) belongs token is =
    let same : runner.token ≡ token = cc is in
    subst (λ (one : Token). IfSome now.told (Present now.admits one)) same
    (told-both now.told (λ past runs came. record {
      own = runs.own;
      some = runs-some now.admits runner.token past runs;
      named = token-some runner.token came.named;
    })
    (state-runs now runner belongs.own belongs.led.stands) belongs.led.came)
present now (Over runner answer) belongs token is =
    let same : runner.token ≡ token = cc is in
    subst (λ (one : Token). IfSome now.told (Present now.admits one)) same
    (told-both now.told (λ past own ended. record {
      own = own;
      some = λ none. absurd (cc (sym ended.last ∙ none));
      named = token-some runner.token ended.named;
    })
    belongs.own belongs.ended)
present now (Waiting asked) belongs token is =
    absurd (let wrong : None ≡ Some token = is in cc)
present now (Unbegun tool answer) belongs token is =
    absurd (let wrong : None ≡ Some token = is in cc)

-- ---- A begin without a token

-- a begin that gave no token is told by its answer
pub without-token : (asked : Question) (before now : Moment) (answer : Answer) →
    IsUnbegun asked before now answer → HasNoToken asked.request.tool answer
without-token asked before now answer unbegun = record {
  given = answer;
  put = Ok tt;
  left = refl;
  texted = λ fault failed. absurd (cc failed);
  fault = unbegun.fault;
  tells = unbegun.tells;
}

-- ---- After events of others

module _ (before now : Moment) (runner : Runner) (others : OthersCame before now runner.token) where
  -- events of others came, where the folder tells its history
  abbrev Came : Option Past → Option Past → Type 0
  Came was told = WhereTold was told (λ first old new. ByOthers (of_others runner.token) old new)

  -- what stays after such events stays where they are told
  told-stays : {P Q : Past → Type 0} (was told : Option Past) → ((one past : Past) →
      ByOthers (of_others runner.token) one.history past.history → P one → Q past) →
      Came was told → IfSome was P → IfSome told Q
  told-stays None None leads came holds = tt
  told-stays (Some was) (Some past) leads came holds = leads was past came.1 holds
  told-stays was told leads came holds = absurd came

  -- the folder admits no event of it later either
  still-own : NeverAdmits before.admits runner.token → NeverAdmits now.admits runner.token
  still-own own history event admitted = own history event (others.narrows history event admitted)

  -- it stands at the next moment as it did
  at-stays : (commit : CommitStage) (Holds : Standing → Type 0) → At before runner commit Holds →
      At now runner commit Holds
  at-stays commit Holds =
      told-stays before.told now.told (λ was past came stands. let stay = others-leave runner.token
      was.history past.history came in
      record {
        runs = stay.same_life ∙ stands.runs;
        own = still-own stands.own;
        holds = subst (Runs runner commit Holds) (sym stay.same_standing) stands.holds;
      }) others.came

  -- and may answer still
  answer-stays : MayAnswer before runner.token → MayAnswer now runner.token
  answer-stays = told-stays before.told now.told (λ was past came may. record {
    runs = ap runs_in (others-leave runner.token was.history past.history came).same_life
        ∙ may.runs;
    own = still-own may.own;
  }) others.came

  module _ (answer : Answer) where
    -- an answer that is due stays due
    due-still : (was past : Past) → ByOthers (of_others runner.token) was.history past.history →
        IsDue runner answer was → IsDue runner answer past
    due-still was past came due =
        let stay = others-leave runner.token was.history past.history came in
        let longer = others-extend (of_others runner.token) was.history past.history came in
        record {
          asked = ap (λ (stood : Standing). stood.command) stay.same_standing ∙ due.asked;
          commits = ap (λ (stood : Standing). stood.commit) stay.same_standing ∙ due.commits;
          shown = shown-stays runner answer was.history past.history longer.0 longer.1
              (ap (λ (stood : Standing). kept_number stood.own) stay.same_standing)
              (ap (λ (stood : Standing). stood.knows) stay.same_standing)
              (subst (AnswersShown runner answer) (sym stay.same_standing))
              answer.outcome.cause due.shown;
        }

    -- it has its answer to give still
    gives-still : HasToGive before runner answer → HasToGive now runner answer
    gives-still gives = record {
      says = gives.says;
      due = told-stays before.told now.told due-still others.came gives.due;
    }

    -- it knows still that no intent stands
    clean-still : IfSome before.told (KnowsDecided runner.token answer.outcome.cause) →
        IfSome now.told (KnowsDecided runner.token answer.outcome.cause)
    clean-still = told-stays before.told now.told (λ was past came.
        clean-same runner.token answer.outcome.cause was past
        (ap (λ (stood : Standing). stood.knows)
        (others-leave runner.token was.history past.history came).same_standing)) others.came

    -- and has left what it had
    left-still : (was past : Past) → ByOthers (of_others runner.token) was.history past.history →
        HasLeft runner.token answer.outcome.cause was →
        HasLeft runner.token answer.outcome.cause past
    left-still was past came =
        let stay = others-leave runner.token was.history past.history came in
        left-same runner.token answer.outcome.cause was past
        (ap (λ (stood : Standing). stood.own) stay.same_standing)
        (ap (λ (stood : Standing). stood.listing) stay.same_standing)
        (ap (λ (stood : Standing). stood.knows) stay.same_standing)

  -- so it stands still, in each state
  state-stays : (state : State) → StandsAs before runner state → StandsAs now runner state
  state-stays (Reading seen) stands = (stands.0, stands.1, at-stays _ _ stands.2, stands.3)
  state-stays (Asking asking) stands = (stands.0, at-stays _ _ stands.1, stands.2)
  state-stays (Claiming judged) stands = (stands.0, at-stays _ _ stands.1, stands.2)
  state-stays (Withdrawing loser) stands = (stands.0, stands.1, at-stays _ _ stands.2)
  state-stays (Moving moving) stands = (stands.0, stands.1, at-stays _ _ stands.2)
  state-stays (BackingUp walker answer) stands = record {
    same = stands.same;
    stands = at-stays _ _ stands.stands;
    of_change = stands.of_change;
  }
  state-stays (Committing change answer) stands = record {
    same = stands.same;
    stands = at-stays _ _ stands.stands;
    of_change = stands.of_change;
  }
  state-stays (Installing walker answer) stands = record {
    same = stands.same;
    stands = at-stays _ _ stands.stands;
    changed = stands.changed;
    gives = gives-still answer stands.gives;
  }
  state-stays (Unlocking keeper answer) stands = record {
    same = stands.same;
    stands = at-stays _ _ stands.stands;
    clean = clean-still answer stands.clean;
    quiet = stands.quiet;
    gives = gives-still answer stands.gives;
  }
  state-stays (Freeing freeing answer) stands = record {
    same = stands.same;
    stands = at-stays _ _ stands.stands;
    clean = clean-still answer stands.clean;
    quiet = stands.quiet;
    gives = gives-still answer stands.gives;
  }
  state-stays (Watching watcher) stands = (stands.0, at-stays _ _ stands.1, stands.2)
  state-stays (Gathering reading) stands =
      (stands.0, at-stays _ _ stands.1, stands.2, stands.3)
  state-stays (Answering answer) stands = record {
    may_answer = answer-stays stands.may_answer;
    gives = gives-still answer stands.gives;
    left = λ goes_on. told-stays before.told now.told (left-still answer) others.came
        (stands.left goes_on);
  }
  state-stays state stands = (stands.0, at-stays _ _ stands.1)

  -- it came to its state as before
  came-still : (state : State) (was past : Past) →
      ByOthers (of_others runner.token) was.history past.history → CameTo runner state was →
      CameTo runner state past
  came-still state was past came way = record {
    named = way.named;
    remembers = tells-others (IsToTell state) runner.token (of_others runner.token)
        (others-never runner.token) was.history past.history came way.remembers;
    called = called-still runner.token was.history past.history came state way.called;
    looked = looked-still runner.token state was.history past.history
        (others-leave runner.token was.history past.history came).same_events way.looked;
    wrote = wrote-still runner.token was.history past.history came way.wrote;
    staged = subst (StagesAs state)
        (sym (others-leave runner.token was.history past.history came).same_standing) way.staged;
    free = λ report. free-still runner.token was.history past.history came state (way.free report);
  }

  -- and has ended as it had
  ended-still : (given : Answer) (status : ℕ) (was past : Past) →
      ByOthers (of_others runner.token) was.history past.history →
      HasEnded runner given status was → HasEnded runner given status past
  ended-still given status was past came ended = record {
    named = ended.named;
    before = ended.before;
    last = (others-leave runner.token was.history past.history came).same_events ∙ ended.last;
    due = due-still given was past came ended.due;
    drops_nothing = tells-others (Covers given.outcome.cause) runner.token (of_others runner.token)
        (others-never runner.token) was.history past.history came ended.drops_nothing;
    left = λ goes_on. left-still given was past came (ended.left goes_on);
    moved = λ goes_on. subst HasMovedAll
        (sym (others-leave runner.token was.history past.history came).same_standing)
        (ended.moved goes_on);
    within = within-still runner.token was.history past.history came ended.within;
    looked = once-still runner.token was.history past.history
        (others-leave runner.token was.history past.history came).same_events ended.looked;
    wrote = wrote-still runner.token was.history past.history came ended.wrote;
    free = λ report. ran-still runner.token was.history past.history came (ended.free report);
  }

  -- on its way
  way-stays : (state : State) → IsOnItsWay before runner state → IsOnItsWay now runner state
  way-stays state way = record {
    own = way.own;
    led = record {
      stands = state-stays way.own way.led.stands;
      came = told-stays before.told now.told (came-still way.own) others.came way.led.came;
    };
    put = way.put;
    left = way.left;
    texted = way.texted;
  }

  -- and once it has answered
  pub given-stays : (answer : Answer) → HasGiven before runner answer → HasGiven now runner answer
  given-stays answer gave = record {
    given = gave.given;
    put = gave.put;
    left = gave.left;
    texted = gave.texted;
    says = gave.says;
    own = told-stays before.told now.told (λ was past came. still-own) others.came gave.own;
    ended = told-stays before.told now.told (ended-still gave.given answer.outcome.status)
        others.came gave.ended;
  }

-- the first claim
pub belonging-stays : (before now : Moment) (session : Phase) → Belongs before session →
    IfSome (token_of session) (OthersCame before now) → Belongs now session
belonging-stays before now (Waiting asked) belongs came = tt
belonging-stays before now (Unbegun tool answer) belongs came = belongs
belonging-stays before now (Begun runner state) belongs came =
    way-stays before now runner came state belongs
belonging-stays before now (Over runner answer) belongs came =
    given-stays before now runner came answer belongs

-- ---- After a fault of a stream

-- the last fault of a stream is what is left
failed-twice : (fault first : SinkFault) (own : State) →
    state_failed fault (state_failed first own) ≡ state_failed fault own
failed-twice fault Failed (Answering answer) = refl
failed-twice fault NoMemory (Answering answer) = refl
failed-twice fault first own = refl

-- so whatever the streams met before, the last fault leaves the same state
failed-after : (fault : SinkFault) (put : Result (Unit {0}) SinkFault) (own : State) →
    state_failed fault (state_after put own) ≡ state_failed fault own
failed-after fault (Ok unit) own = refl
failed-after fault (Err first) own = failed-twice fault first own

-- so of an answer alone
answer-twice : (fault first : SinkFault) (given : Answer) →
    after_fault fault (after_fault first given) ≡ after_fault fault given
answer-twice fault Failed given = refl
answer-twice fault NoMemory given = refl

-- and the same answer
answer-after : (fault : SinkFault) (put : Result (Unit {0}) SinkFault) (given : Answer) →
    after_fault fault (after_streams put given) ≡ after_fault fault given
answer-after fault (Ok unit) given = refl
answer-after fault (Err first) given = answer-twice fault first given

-- a text that is left to take was there before the streams
own-text : (put : Result (Unit {0}) SinkFault) (own state : State) → state ≡ state_after put own →
    ((fault : SinkFault) → put ≡ Err fault → HasTextIn own) → HasTextIn state → HasTextIn own
own-text (Ok unit) own state left texted has = subst HasTextIn left has
own-text (Err first) own state left texted has = texted first refl

-- and so was the text of an answer
given-text : (put : Result (Unit {0}) SinkFault) (given answer : Answer) →
    answer ≡ after_streams put given →
    ((fault : SinkFault) → put ≡ Err fault → HasText given) → HasText answer → HasText given
given-text (Ok unit) given answer left texted has = subst (λ (one : Answer). HasText one) left has
given-text (Err first) given answer left texted has = texted first refl

-- the second claim
pub output-stays : (now : Moment) (fault : SinkFault) (session : Phase) → IsToPut session →
    Belongs now session → Belongs now (output_failed fault session)
output-stays now fault (Begun runner state) to_put belongs = record {
  own = belongs.own;
  led = belongs.led;
  put = Err fault;
  left = ap (state_failed fault) belongs.left ∙ failed-after fault belongs.put belongs.own;
  texted = λ last failed.
      own-text belongs.put belongs.own state belongs.left belongs.texted to_put;
}
output-stays now fault (Over runner answer) to_put belongs = belongs
output-stays now fault (Waiting asked) to_put belongs = tt
output-stays now fault (Unbegun tool answer) to_put belongs = record {
  given = belongs.given;
  put = Err fault;
  left = ap (after_fault fault) belongs.left ∙ answer-after fault belongs.put belongs.given;
  texted = λ last failed.
      given-text belongs.put belongs.given answer belongs.left belongs.texted to_put;
  fault = belongs.fault;
  tells = belongs.tells;
}

-- the law, for the moments of whatever folder
pub belonging-law : {F : Type 0} (moment : F → Moment) → BelongingStays moment
belonging-law moment = record {
  others = λ before now session belongs came.
      belonging-stays (moment before) (moment now) session belongs came;
  output = λ now fault session to_put belongs.
      output-stays (moment now) fault session to_put belongs;
}
