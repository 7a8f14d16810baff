-- Claim: what a session knows of its own standing outlives the events of others, and takes one step
-- with its own call. Way: the folder admits no event of the session, so the events between leave
-- its life, its standing and its own events (`stayed`), and its own event takes one step of them
-- (`stepped`). For a call that is no answer follow from this: what a done call leads to
-- (`stands-done`), what a failed one (`failed-leads`), that want of memory changes nothing
-- (`stands-memory`), that the session may answer after each (`may-answer`, `makes-call`), and which
-- parts of its standing the call leaves (`leaves`, `stands-left`). Where the rules permit the
-- call, a lawful history stays lawful (`stays-lawful`), and all that is a step (`takes-step`). A read with the limit of its name is such
-- a call (`read-tells`, `read-notes`), a call by another name of the token is the same (`told-of`,
-- `called-of`), and a session that has begun stands at the start (`stands-begun`).
use Rattle.std.proofs.Common.{◌≡◌, refl, sym, ap, subst, ◌∙◌, false, [], ◌∷◌, Option, Some, None, IfSome, Result, Ok, Err}
use Rattle.std.specs.Prelude.{IfOk}
use Rattle.acct_outside.specs.declared.Name.{Name}
use Rattle.acct_outside.specs.declared.FolderFault.{FolderFault}
use Rattle.acct_outside.specs.declared.FolderFault.TheVariants.{Failed, Memory}
use Rattle.acct_outside.specs.declared.Found.{Found as Reading}
use Rattle.acct_outside.specs.Names.{name_limit}
use Rattle.acct_outside.specs.Tokens.{Token}
use Rattle.acct_outside.specs.Folder.{Folder}
use Rattle.acct_outside.specs.Calls.{Command, Call, Answer, CallResult, Effect, begins, reads, answers, done, failed, died}
use Rattle.acct_outside.specs.History.{Event, History, is_of, own_events, after}
use Rattle.acct_outside.specs.Life.{Life, life, running, faulted, life_step, runs_in, MayCall}
use Rattle.acct_outside.specs.Gives.{GivesResult}
use Rattle.acct_outside.specs.Others.{Admission, ByOthers, none_came, one_came}
use Rattle.acct_outside.specs.Faults.{CountsFailure}
use Rattle.acct_outside.specs.Moment.{Past, Moment, Narrows, Notes}
use Rattle.acct_outside.specs.Journal.{Reply, makes, plain_reply}
use Rattle.acct_outside.specs.Contract.{NeverAdmits, NotesCall, WhereTold, TellsEvent, Tells, TellsBegin, TellsRead, was_begun, found_result}
use Rattle.suite_rules.specs.Deeds.{SuiteDeeds}
use Rattle.suite_rules.specs.Standing.{Standing, standing, standing_step}
use Rattle.suite_rules.specs.Rules.{Permits}
use Rattle.suite_rules.specs.Lawful.{KeepsRulesOrNone, Lawful, goes_on}
use Rattle.suite_rules.specs.Steps.{begun_with, StandsIn, LawfulOthers, MakesCall, TakesStep}
use Rattle.suite_rules.proofs.Parts.{MayActWhere, MayAnswerWhere, TellsWhere, TellsReadWhere, StandsWhere, StaysLawfulWhere, LeavesWhere}
use Rattle.suite_rules.proofs.Own.{own-standing as own-events}
use Rattle.suite_rules.proofs.Sessions.{token-same, token-other}

-- what is known of one past is known of a told one
module _ (admits : Admission) (token : Token) where
  -- the session may call the folder
  pub may-act : (Holds : Standing → Type 0) (told : Option Past) →
      StandsWhere admits told token Holds → MayActWhere admits told token
  may-act Holds None stands = tt
  may-act Holds (Some past) stands =
      record { begun = ap was_begun stands.runs; own = stands.own }

  -- the session may answer
  pub may-answer-now : (Holds : Standing → Type 0) (told : Option Past) →
      StandsWhere admits told token Holds → MayAnswerWhere admits told token
  may-answer-now Holds None stands = tt
  may-answer-now Holds (Some past) stands =
      record { runs = ap runs_in stands.runs; own = stands.own }

  -- a weaker condition holds too
  pub stands-weaker : (Holds Weaker : Standing → Type 0) →
      ((stood : Standing) → Holds stood → Weaker stood) → (told : Option Past) →
      StandsWhere admits told token Holds → StandsWhere admits told token Weaker
  stands-weaker Holds Weaker weaker None stands = tt
  stands-weaker Holds Weaker weaker (Some past) stands =
      record { runs = stands.runs; own = stands.own; holds = weaker _ stands.holds }

  -- two conditions hold together
  pub stands-both : (Holds Other : Standing → Type 0) (told : Option Past) →
      StandsWhere admits told token Holds → StandsWhere admits told token Other →
      StandsWhere admits told token (λ stood. Holds stood × Other stood)
  stands-both Holds Other None stands other = tt
  stands-both Holds Other (Some past) stands other =
      record { runs = stands.runs; own = stands.own; holds = (stands.holds, other.holds) }

-- the call of one name for a token is that of the other
pub told-of : (before now : Moment) (by token : Token) (call : Call)
    (answer : Result (Answer call) FolderFault) → by ≡ token →
    Tells before now by call answer → Tells before now token call answer
told-of before now by token call answer same =
    subst (λ (other : Token). Tells before now other call answer) same

-- what a call tells and notes
pub record Called (before now : Moment) (token : Token) (call : Call)
    (answer : Result (Answer call) FolderFault) : Type 0 where
  pub told : Tells before now token call answer
  pub noted : NotesCall before now call answer

-- so it does by another name of the token
pub called-of : (before now : Moment) (by token : Token) (call : Call)
    (answer : Result (Answer call) FolderFault) → by ≡ token →
    Called before now by call answer → Called before now token call answer
called-of before now by token call answer same =
    subst (λ (other : Token). Called before now other call answer) same

-- the session's life, standing and own events are as they were
pub record Stayed (token : Token) (old new : History) : Type 0 where
  pub same_life : life token new ≡ life token old
  pub same_standing : standing token new ≡ standing token old
  pub same_events : own_events token new ≡ own_events token old

-- they took one step, with this call and its result
pub record Stepped (token : Token) (call : Call) (result : CallResult (Answer call))
    (old new : History) : Type 0 where
  pub next_life : life token new ≡ life_step call result (life token old)
  pub next_standing : standing token new ≡ standing_step call result (standing token old)
  pub next_events : own_events token new
      ≡ record { token = token; call = call; result = result } ∷ own_events token old

-- What the events of others and the own event make of a session that the folder admits no event of.
module _ (admits : Admission) (token : Token) (own : NeverAdmits admits token) where
  -- an admitted event isn't the session's
  not-own : (event : Event) (history : History) → admits history event → is_of token event ≡ false
  not-own event history admitted = token-other event.token token (own history event admitted)

  -- an event that isn't the session's is passed over
  passed : (old new : History) (event : Event) → is_of token event ≡ false →
      Stayed token old new → Stayed token old (event ∷ new)
  passed old new event other before = record {
    same_life = rw other before.same_life;
    same_standing = rw other before.same_standing;
    same_events = rw other before.same_events;
  }

  -- admitted events leave what is the session's
  pub stayed : (old new : History) → ByOthers admits old new → Stayed token old new
  stayed old _ none_came = record { same_life = refl; same_standing = refl; same_events = refl }
  stayed old _ (one_came event new others admitted) =
      passed old new event (not-own event new admitted) (stayed old new others)

  -- the session's own event is its newest
  own-event : (call : Call) (result : CallResult (Answer call)) (old between : History) →
      Stayed token old between →
      Stepped token call result old
      (record { token = token; call = call; result = result } ∷ between)
  own-event call result old between before = record {
    next_life = rw (token-same token)
        (ap (λ (lived : Life). life_step call result lived) before.same_life);
    next_standing = rw (token-same token)
        (ap (λ (stood : Standing). standing_step call result stood) before.same_standing);
    next_events = rw (token-same token) (ap (λ (events : History).
        record { token = token; call = call; result = result } ∷ events) before.same_events);
  }

  -- what is the session's takes one step
  pub stepped : (call : Call) (result : CallResult (Answer call))
      (gives : History → CallResult (Answer call) → Type 0) (old new : History) →
      TellsEvent admits token call result gives old new → Stepped token call result old new
  stepped call result gives old new tells =
      subst (Stepped token call result old) (sym tells.others_then.last)
      (own-event call result old tells.others_then.between
      (stayed old tells.others_then.between tells.others_then.others))

-- a call that isn't the answer
abbrev pub IsNoAnswer : Call → Type 0
IsNoAnswer (answers status) = ⊥
IsNoAnswer _ = Unit {0}

-- after a done call that isn't the answer a session runs on
done-runs : (call : Call) (answer : Answer call) → IsNoAnswer call →
    life_step call (done answer) running ≡ running
done-runs (answers status) answer is = absurd is
done-runs call answer is = refl

-- after a failed call that isn't the answer a session can only answer
failed-faults : (call : Call) (effect : Effect) → IsNoAnswer call →
    life_step call (failed effect) running ≡ faulted
failed-faults (answers status) effect is = absurd is
failed-faults call effect is = refl

-- one of the session's calls failed, and this holds of its standing
pub record Faulted (token : Token) (Holds : Standing → Type 0) (past : Past) : Type 0 where
  pub faults : life token past.history ≡ faulted
  pub holds : Holds (standing token past.history)

-- One call of a session that isn't its answer, by a folder that admits no more than before.
module _ (before_admits admits : Admission) (narrows : Narrows before_admits admits)
    (token : Token) (call : Call) (no_answer : IsNoAnswer call) (Held : Standing → Type 0) where
  -- the folder admits no event of the session after the call either
  still-own : NeverAdmits before_admits token → NeverAdmits admits token
  still-own own history event admitted = own history event (narrows history event admitted)

  -- after a done call the session runs
  runs-on : (answer : Answer call) (old new : History) → life token old ≡ running →
      Stepped token call (done answer) old new → life token new ≡ running
  runs-on answer old new runs step = step.next_life
      ∙ (ap (λ (lived : Life). life_step call (done answer) lived) runs
      ∙ done-runs call answer no_answer)

  -- after a failed call it is faulted
  faults-then : (effect : Effect) (old new : History) → life token old ≡ running →
      Stepped token call (failed effect) old new → life token new ≡ faulted
  faults-then effect old new runs step = step.next_life
      ∙ (ap (λ (lived : Life). life_step call (failed effect) lived) runs
      ∙ failed-faults call effect no_answer)

  -- a done call leads to a condition that follows from the one before by the call's step
  pub stands-done : (Holds : Standing → Type 0) (answer : Answer call) →
      ((stood : Standing) → Held stood → Holds (standing_step call (done answer) stood)) →
      (before now : Option Past) → StandsWhere before_admits before token Held →
      TellsWhere before_admits before now token call (Ok answer) →
      StandsWhere admits now token Holds
  stands-done Holds answer follows None None stands tells = tt
  stands-done Holds answer follows (Some before) (Some now) stands tells =
      let step = stepped before_admits token stands.own call (done answer) _
      before.history now.history tells.1 in
      record {
        runs = runs-on answer before.history now.history stands.runs step;
        own = still-own stands.own;
        holds = subst Holds (sym step.next_standing) (follows _ stands.holds);
      }
  stands-done Holds answer follows before now stands tells = absurd tells

  -- a failed call leads to a condition that follows from the one before, whatever its effect
  pub failed-leads : (Holds : Standing → Type 0) →
      ((effect : Effect) (stood : Standing) → Held stood →
      Holds (standing_step call (failed effect) stood)) →
      (before now : Option Past) → StandsWhere before_admits before token Held →
      TellsWhere before_admits before now token call (Err Failed) → IfSome now (Faulted token Holds)
  failed-leads Holds follows None None stands tells = tt
  failed-leads Holds follows (Some before) (Some now) stands tells =
      let effect = tells.1.0 in
      let step = stepped before_admits token stands.own call (failed effect) _
      before.history now.history tells.1.1 in
      record {
        faults = faults-then effect before.history now.history stands.runs step;
        holds = subst Holds (sym step.next_standing) (follows effect _ stands.holds);
      }
  failed-leads Holds follows before now stands tells = absurd tells

  -- want of memory leaves the condition as it was
  pub stands-memory : (before now : Option Past) → StandsWhere before_admits before token Held →
      TellsWhere before_admits before now token call (Err Memory) →
      StandsWhere admits now token Held
  stands-memory None None stands tells = tt
  stands-memory (Some before) (Some now) stands tells =
      let stay = stayed before_admits token stands.own before.history now.history tells.1 in
      record {
        runs = stay.same_life ∙ stands.runs;
        own = still-own stands.own;
        holds = subst Held (sym stay.same_standing) stands.holds;
      }
  stands-memory before now stands tells = absurd tells

  -- whatever the call answered, the session may answer
  pub may-answer : (answer : Result (Answer call) FolderFault) (before now : Option Past) →
      StandsWhere before_admits before token Held →
      TellsWhere before_admits before now token call answer → MayAnswerWhere admits now token
  may-answer answer None None stands tells = tt
  may-answer (Ok answer) (Some before) (Some now) stands tells =
      let step = stepped before_admits token stands.own call (done answer) _
      before.history now.history tells.1 in
      record {
        runs = ap runs_in (runs-on answer before.history now.history stands.runs step);
        own = still-own stands.own;
      }
  may-answer (Err Failed) (Some before) (Some now) stands tells =
      let step = stepped before_admits token stands.own call (failed tells.1.0) _
      before.history now.history tells.1.1 in
      record {
        runs = ap runs_in (faults-then tells.1.0 before.history now.history stands.runs step);
        own = still-own stands.own;
      }
  may-answer (Err Memory) (Some before) (Some now) stands tells =
      let stay = stayed before_admits token stands.own before.history now.history tells.1 in
      record { runs = ap runs_in (stay.same_life ∙ stands.runs); own = still-own stands.own }
  may-answer answer before now stands tells = absurd tells

  -- whatever the call answered, a part of the standing that its step leaves is as it was
  pub leaves : {A : Type 0} (part : Standing → A) →
      ((result : CallResult (Answer call)) (stood : Standing) → Held stood →
      part (standing_step call result stood) ≡ part stood) →
      (answer : Result (Answer call) FolderFault) (before now : Option Past) →
      StandsWhere before_admits before token Held →
      TellsWhere before_admits before now token call answer → LeavesWhere part token before now
  leaves part same answer None None stands tells = tt
  leaves part same (Ok answer) (Some before) (Some now) stands tells =
      let step = stepped before_admits token stands.own call (done answer) _
      before.history now.history tells.1 in
      (tells.0, ap part step.next_standing ∙ same (done answer) _ stands.holds)
  leaves part same (Err Failed) (Some before) (Some now) stands tells =
      let effect = tells.1.0 in
      let step = stepped before_admits token stands.own call (failed effect) _
      before.history now.history tells.1.1 in
      (tells.0, ap part step.next_standing ∙ same (failed effect) _ stands.holds)
  leaves part same (Err Memory) (Some before) (Some now) stands tells =
      let stay = stayed before_admits token stands.own before.history now.history tells.1 in
      (tells.0, ap part stay.same_standing)
  leaves part same answer before now stands tells = absurd tells

-- the step that shows the answer of its call makes this call
pub makes-call : (before now : Moment) → Narrows before.admits now.admits → (token : Token)
    (call : Call) → IsNoAnswer call → (Held : Standing → Type 0)
    (Shows : Result (Answer call) FolderFault → Type 0)
    (answer : Result (Answer call) FolderFault) →
    StandsIn before token Held → Called before now token call answer → Shows answer →
    MakesCall before now token call Shows
makes-call before now narrows token call no_answer Held Shows answer stands called shown = record {
  answer = answer;
  told = called.told;
  noted = called.noted;
  shown = shown;
  narrows = narrows;
  may_answer = may-answer before.admits now.admits narrows token call no_answer Held answer
      before.told now.told stands called.told;
}

-- A part of the standing with a value, which a call leaves, has that value after the call.
module _ {A : Type 0} (part : Standing → A) (value : A) (Held Holds : Standing → Type 0)
    (had : (stood : Standing) → Held stood → part stood ≡ value)
    (before_admits admits : Admission) (token : Token) where
  pub stands-left : (before now : Option Past) → StandsWhere before_admits before token Held →
      LeavesWhere part token before now → StandsWhere admits now token Holds →
      StandsWhere admits now token (λ stood. Holds stood × (part stood ≡ value))
  stands-left None None held left stands = tt
  stands-left (Some before) (Some now) held left stands = record {
    runs = stands.runs;
    own = stands.own;
    holds = (stands.holds, left.1 ∙ had _ held.holds);
  }
  stands-left before now held left stands = absurd left

-- A session whose begin was done stands as one that has only begun.
module _ (before_admits admits : Admission) (token : Token) (command : Command)
    (own : NeverAdmits admits token) where
  -- the begin as the session's only event
  abbrev begin : Event
  begin = record { token = token; call = begins command; result = done tt }

  -- the session runs after it
  begin-runs : life token (begin ∷ []) ≡ running
  begin-runs = rw (token-same token) refl

  -- its standing after it
  begin-standing : standing token (begin ∷ []) ≡ begun_with command
  begin-standing = rw (token-same token) refl

  pub stands-begun : (before now : Option Past) →
      WhereTold before now (TellsBegin before_admits command (Ok token)) →
      StandsWhere admits now token (λ stood. stood ≡ begun_with command)
  stands-begun None None tells = tt
  stands-begun (Some before) (Some now) tells = record {
    runs = own-events.same_life token now.history ∙ (ap (life token) tells.1.1 ∙ begin-runs);
    own = own;
    holds = own-events.same_standing token now.history
        ∙ (ap (standing token) tells.1.1 ∙ begin-standing);
  }
  stands-begun before now tells = absurd tells

-- admitted events of others keep a history lawful, where the folder admits only lawful ones
pub others-lawful : (deeds : SuiteDeeds) (admits : Admission) (first : Folder) →
    LawfulOthers deeds admits first → (old new : History) → ByOthers admits old new →
    Lawful deeds first old → Lawful deeds first new
others-lawful deeds admits first others old _ none_came lawful = lawful
others-lawful deeds admits first others old _ (one_came event new came admitted) lawful =
    others new event (others-lawful deeds admits first others old new came lawful) admitted

-- what the rules say of a call holds with whatever result
keeps-call : (deeds : SuiteDeeds) (history : History) (token : Token) (call : Call)
    (result : CallResult (Answer call)) → MayCall (life token history) call →
    Permits deeds (standing token history) call → KeepsRulesOrNone deeds history token call result
keeps-call deeds history token (begins command) (failed effect) may permits = tt
keeps-call deeds history token (begins command) (died effect) may permits = tt
keeps-call deeds history token call result may permits =
    record { life_rule = may; permitted = permits }

-- A call that the rules permit where the session's condition holds.
module _ (deeds : SuiteDeeds) (admits : Admission) (token : Token) (call : Call)
    (may : MayCall running call) (Held : Standing → Type 0)
    (permits : (stood : Standing) → Held stood → Permits deeds stood call) where
  -- a lawful history stays lawful with the call's event
  event-lawful : (first : Folder) (old new : History) (result : CallResult (Answer call)) →
      life token old ≡ running → NeverAdmits admits token → Held (standing token old) →
      TellsEvent admits token call result
      (λ between given. GivesResult (after first between) between token call given) old new →
      LawfulOthers deeds admits first → Lawful deeds first old → Lawful deeds first new
  event-lawful first old new result runs own held tells others lawful =
      let came = tells.others_then in
      let stay = stayed admits token own old came.between came.others in
      let may_call = subst (λ (lived : Life). MayCall lived call)
      (sym (stay.same_life ∙ runs)) may in
      let still_held = subst Held (sym stay.same_standing) held in
      subst (Lawful deeds first) (sym came.last)
      (goes_on _ came.between
      (others-lawful deeds admits first others old came.between came.others lawful)
      (record {
        keeps = keeps-call deeds came.between token call result may_call (permits _ still_held);
        gives = tells.given;
      }))

  -- a lawful history stays lawful, whatever the call answered
  pub stays-lawful : (answer : Result (Answer call) FolderFault) (before now : Option Past) →
      StandsWhere admits before token Held → TellsWhere admits before now token call answer →
      StaysLawfulWhere deeds admits before now
  stays-lawful answer None None stands tells = tt
  stays-lawful (Ok answer) (Some before) (Some now) stands tells = (
    tells.0,
    event-lawful before.first before.history now.history (done answer)
        stands.runs stands.own stands.holds tells.1,
  )
  stays-lawful (Err Failed) (Some before) (Some now) stands tells = (
    tells.0,
    event-lawful before.first before.history now.history (failed tells.1.0)
        stands.runs stands.own stands.holds tells.1.1,
  )
  stays-lawful (Err Memory) (Some before) (Some now) stands tells = (
    tells.0,
    λ others lawful. others-lawful deeds admits before.first others
        before.history now.history tells.1 lawful,
  )
  stays-lawful answer before now stands tells = absurd tells

-- by whether the history is told, a read with the limit of its name tells the read's event
read-told : (admits : Admission) (token : Token) (name : Name)
    (result : Result Reading FolderFault) (before now : Option Past) →
    TellsReadWhere admits before now token name (name_limit name) result →
    TellsWhere admits before now token (reads name) (found_result result)
read-told admits token name result None None tells = tt
read-told admits token name (Ok found) (Some before) (Some now) tells = (
  tells.0,
  record { others_then = tells.1.others_then; given = tells.1.given },
)
read-told admits token name (Err Failed) (Some before) (Some now) tells = (
  tells.0,
  (tells.1.0, record { others_then = tells.1.1.others_then; given = tt }),
)
read-told admits token name (Err Memory) (Some before) (Some now) tells = tells
read-told admits token name result before now tells = absurd tells

-- a read with the limit of its name tells the read's event
pub read-tells : (before now : Moment) (token : Token) (name : Name)
    (result : Result Reading FolderFault) →
    TellsRead before now token name (name_limit name) result →
    Tells before now token (reads name) (found_result result)
read-tells before now token name result =
    read-told before.admits token name result before.told now.told

-- it comes to as much by what it found as an event has it
found-reply : (result : Result Reading FolderFault) →
    plain_reply result ≡ plain_reply (found_result result)
found-reply (Ok found) = refl
found-reply (Err fault) = refl

-- a read that is noted of a name is noted of what is the same
pub read-notes : (before now : Moment) (name next : Name) → name ≡ next →
    (result : Result Reading FolderFault) → Notes before now
    (makes (reads name) (plain_reply result)) →
    NotesCall before now (reads next) (found_result result)
read-notes before now name next same result noted =
    subst (λ (other : Name). NotesCall before now (reads other) (found_result result)) same
    (subst (λ (reply : Reply). Notes before now (makes (reads name) reply)) (found-reply result)
    noted)

-- a step with a call that the rules permit, and that leaves a part of the standing
pub takes-step : {State Fault Part : Type 0} (before now : Moment) →
    Narrows before.admits now.admits → (token : Token) (call : Call) → IsNoAnswer call →
    MayCall running call → (Held : Standing → Type 0) →
    ((deeds : SuiteDeeds) (stood : Standing) → Held stood → Permits deeds stood call) →
    (part : Standing → Part) →
    ((result : CallResult (Answer call)) (stood : Standing) → Held stood →
    part (standing_step call result stood) ≡ part stood) →
    (Shows : Result (Answer call) FolderFault → Type 0) (Holds : State → Standing → Type 0)
    (failure : Fault) (result : Result State Fault) (answer : Result (Answer call) FolderFault) →
    StandsIn before token Held → Called before now token call answer → Shows answer →
    IfOk result (λ state. StandsIn now token (Holds state)) →
    CountsFailure failure before.faults now.faults result →
    TakesStep before now token call Shows Holds part failure result
takes-step before now narrows token call no_answer may Held permits part same Shows Holds failure
    result answer stands called shown next faults = record {
      call = makes-call before now narrows token call no_answer Held Shows answer stands called
          shown;
      next = next;
      left = leaves before.admits now.admits narrows token call no_answer Held part same answer
          before.told now.told stands called.told;
      lawful = λ deeds. stays-lawful deeds before.admits token call may Held (permits deeds) answer
          before.told now.told stands called.told;
      faults = faults;
    }
