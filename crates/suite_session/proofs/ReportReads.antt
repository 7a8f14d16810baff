-- Claims: a read of a report shows nothing that is to be told (`watch-quiet`, `gather-quiet`), and leads on
-- (`watch-on`, `gather-on`) or to the answer of a fault (`read-faults`).
-- Way: a report keeps no lock, and what it finds at the intent is met only where a listing confirms it; the
-- names that it reads behind the intent are tables and login.defs.
use Rattle.std.proofs.Common.{◌≡◌, ◌⊎◌, refl, sym, ap, subst, ◌∙◌, ◌<◌, ◌≤◌, ◌∷◌, [], Bool, true, false, cond, filter, length, length-drop, List, inl, inr, Result, Ok, Err, true≢false, arith}
use Rattle.std.specs.Prelude.{get_or, slice_get}
use Rattle.acct_text.specs.declared.Tab.{Tab}
use Rattle.acct_outside.specs.declared.CommitStage.TheVariants.{Before}
use Rattle.acct_outside.specs.declared.FolderFault.{FolderFault}
use Rattle.acct_outside.specs.declared.FolderFault.TheVariants.{Failed, Memory as NoMemory}
use Rattle.acct_outside.specs.declared.Name.{Name}
use Rattle.acct_outside.specs.declared.Name.TheVariants.{Intent, Table, Defs}
use Rattle.acct_outside.specs.Faults.{HasRisen}
use Rattle.acct_outside.specs.Calls.{Answer, Call, CallResult, Found, found_too_large, lists, reads}
use Rattle.acct_outside.specs.Moment.{Moment}
use Rattle.acct_outside.specs.Tokens.{Token}
use Rattle.suite_rules.specs.Knowledge.{is_input}
use Rattle.suite_rules.specs.OwnLock.{lock_uncalled, kept_number}
use Rattle.suite_rules.specs.Standing.{Standing, standing_step}
use Rattle.suite_rules.specs.Steps.{AlwaysStaysLawful, MakesCall, own_command}
use Rattle.lock_steps.specs.Gathered.{AreUnread, Gathered, awaits, first_gathered, inputs, listed_at}
use Rattle.lock_steps.specs.NextCall.{next_or}
use Rattle.lock_steps.specs.States.{Lister}
use Rattle.lock_steps.specs.Stands.{HasJudged}
use Rattle.lock_steps.specs.Watching.{Gatherer, HasGathered, ReadsIntentFirst, GathersOn, gathering_call, next_left}
use Rattle.account_model.specs.declared.tool.Tool.{Tool}
use Rattle.suite_answers.specs.declared.cause.Which.TheVariants.{File}
use Rattle.suite_answers.specs.declared.cause.Cause.{Cause}
use Rattle.suite_answers.specs.declared.cause.Cause.TheVariants.{IntentDamaged, TooLarge}
use Rattle.suite_session.specs.declared.state.State.{State}
use Rattle.suite_session.specs.declared.state.State.TheVariants.{Watching, Gathering}
use Rattle.suite_session.specs.Runner.{Runner}
use Rattle.suite_session.specs.Causes.{HasKept}
use Rattle.suite_session.specs.Counts.{LeavesFewer}
use Rattle.suite_session.specs.Locking.{cause_of_fault}
use Rattle.suite_session.specs.Moment.{At, Runs}
use Rattle.suite_session.specs.NextCall.{state_call}
use Rattle.suite_session.specs.Stands.{AnswersWith, Turns, StagesTo}
use Rattle.suite_session.specs.Telling.{IsToTell}
use Rattle.suite_session.proofs.WritingLemmas.{IsTurnCall}
use Rattle.suite_session.proofs.CallsLemmas.{other-fewer}
use Rattle.suite_session.proofs.CauseLemmas.{fault-failed, fault-plain, fault-stage}
use Rattle.suite_session.proofs.LeavingLemmas.{fault-stopped}
use Rattle.suite_session.proofs.MeetingLemmas.{MeetsBy, fault-ends}
use Rattle.suite_session.proofs.TellingLemmas.{Shows}
use Rattle.suite_session.proofs.TurnLemmas.{HasMetNow, ended, memory-met, stops}

-- ---- What a read shows

-- no answer of the call shows a session that stood so anything
abbrev pub IsQuietFor : Call → (Standing → Type 0) → Type 0
IsQuietFor call Held = (given : Answer call) (stood : Standing) → Held stood → (met : Cause) →
    Shows call given stood met → ⊥

-- a session without a lock keeps none
pub kept-none : (stood : Standing) → stood.own ≡ lock_uncalled → HasKept stood → ⊥
kept-none stood uncalled kept = absurd (cc (sym kept.1 ∙ ap kept_number uncalled))

-- the read of the intent
pub watch-quiet : (watcher : Lister) → IsQuietFor (reads Intent) (HasJudged watcher)
watch-quiet watcher given stood held (IntentDamaged part) shows =
    kept-none stood held.owns shows.3
watch-quiet watcher given stood held (TooLarge (File Intent)) shows =
    kept-none stood held.owns shows.1
watch-quiet watcher given stood held met shows = shows

-- the read of a table or of login.defs
input-quiet : (name : Name) → is_input name ≡ true → (given : Found) (stood : Standing)
    (met : Cause) → Shows (reads name) given stood met → ⊥
input-quiet (Table table) is given stood met shows = shows
input-quiet Defs is given stood met shows = shows
input-quiet name is given stood met shows = absurd (true≢false (sym is))

-- so no read of a gatherer shows a cause
pub gather-quiet : (reading : Gatherer) → is_input (next_left reading) ≡ true →
    IsQuietFor (reads (next_left reading)) (HasGathered reading)
gather-quiet reading is given stood held = input-quiet (next_left reading) is given stood

-- the names that are left are such
pub unread-input : (large left : List Name) → AreUnread large left →
    is_input (get_or left 0 Defs) ≡ true
unread-input large [] unread = refl
unread-input large (name ∷ left) unread = unread.0

-- ---- What it leads to

-- the read came to a fault, or memory ran out after it
abbrev pub Came : {A : Type 0} → Result A FolderFault → FolderFault → Type 0
Came {A = A} answer fault =
    (answer ≡ Err fault) ⊎ ((given : A) × (answer ≡ Ok given) × (fault ≡ NoMemory))

-- the fault in which the first read of the intent ends came from the call, or memory was wanting
pub watch-came : (watcher : Lister) (wanted : List Tab) (answer : Result Found FolderFault)
    (fault : FolderFault) → ReadsIntentFirst watcher wanted answer (Err fault) → Came answer fault
watch-came watcher wanted (Ok found) NoMemory shown = inr (found, refl, refl)
watch-came watcher wanted (Ok found) Failed shown = absurd shown
watch-came watcher wanted (Err came) fault shown = inl (ap Err (sym shown))

-- and so did that of each further read
pub gather-came : (reading : Gatherer) (answer : Result Found FolderFault) (fault : FolderFault) →
    GathersOn reading answer (Err fault) → Came answer fault
gather-came reading (Ok found_too_large) NoMemory shown = inr (found_too_large, refl, refl)
gather-came reading (Err came) fault shown = inl (ap Err (sym shown))
gather-came reading (Ok found) fault shown = absurd shown

-- where it leads on it was done, so it shows nothing
pub watch-on : (watcher : Lister) (wanted : List Tab) (answer : Result Found FolderFault)
    (reading : Gatherer) → ReadsIntentFirst watcher wanted answer (Ok reading) → (state : State) →
    MeetsBy (reads Intent) answer (HasJudged watcher) state
watch-on watcher wanted (Ok found) reading shown state =
    λ stood held met shows. absurd (watch-quiet watcher found stood held met shows)
watch-on watcher wanted (Err fault) reading shown state = absurd shown

-- nor does a further read that leads on
pub gather-on : (reading : Gatherer) (answer : Result Found FolderFault) (more : Gatherer) →
    GathersOn reading answer (Ok more) → is_input (next_left reading) ≡ true → (state : State) →
    MeetsBy (reads (next_left reading)) answer (HasGathered reading) state
gather-on reading (Ok found) more shown is state =
    λ stood held met shows. absurd (gather-quiet reading is found stood held met shows)
gather-on reading (Err fault) more shown is state = absurd shown

-- it keeps the token, and has the tables that are wanted
pub watch-keeps : (watcher : Lister) (wanted : List Tab) (answer : Result Found FolderFault)
    (reading : Gatherer) → ReadsIntentFirst watcher wanted answer (Ok reading) →
    (reading.token ≡ watcher.token) × (reading.wanted ≡ wanted)
watch-keeps watcher wanted (Ok found) reading shown =
    (ap (λ (one : Gatherer). one.token) shown.1, ap (λ (one : Gatherer). one.wanted) shown.1)
watch-keeps watcher wanted (Err fault) reading shown = absurd shown

-- a gatherer that reads on keeps both
pub gather-keeps : (reading : Gatherer) (answer : Result Found FolderFault) (more : Gatherer) →
    GathersOn reading answer (Ok more) →
    (more.token ≡ reading.token) × (more.wanted ≡ reading.wanted)
gather-keeps reading (Ok found) more shown =
    (ap (λ (one : Gatherer). one.token) shown, ap (λ (one : Gatherer). one.wanted) shown)
gather-keeps reading (Err fault) more shown = absurd shown

module _ (before now : Moment) (runner : Runner) (Held : Standing → Type 0)
    (stands : At before runner Before Held) (token : Token) (same : token ≡ runner.token)
    (call : Call) (of_turn : IsTurnCall (Runs runner Before Held) call)
    (ShowsIn : Result (Answer call) FolderFault → Type 0)
    (quiet : (result : CallResult (Answer call)) (stood : Standing) →
    own_command (standing_step call result stood) ≡ own_command stood)
    (made : MakesCall before now token call ShowsIn) (shows_none : IsQuietFor call Held)
    (lawful : AlwaysStaysLawful before now) (never_falls : before.faults ≤ now.faults) where
  -- a read that came to a fault leads to the answer of that
  pub read-faults : (old state : State) → state_call old ≡ call →
      ((met : Cause) → IsToTell old met → ⊥) → (fault : FolderFault) → Came made.answer fault →
      AnswersWith runner.asked.request.tool (cause_of_fault Before fault) state →
      (fault ≡ Failed → HasRisen before.faults now.faults) → StagesTo call state →
      Turns before now runner old state
  read-faults old state called tells_none fault came told risen staged =
      stops before now runner Before Held stands token same call of_turn ShowsIn quiet made
      lawful never_falls old state called (meets came)
      (λ met is_told. absurd (tells_none met is_told)) (cause_of_fault Before fault) told
      (fault-plain Before fault) (met-as fault came)
      (λ goes_on. absurd (goes_on (fault-stopped Before fault))) (sym (fault-stage Before fault))
      (λ outside. risen (fault-failed Before fault outside)) staged
    where
      tool : Tool
      tool = runner.asked.request.tool

      meets : Came made.answer fault → MeetsBy call made.answer Held state
      meets (inl is) = fault-ends tool Before fault state told call made.answer Held is
      meets (inr after) = subst
          (λ (one : Result (Answer call) FolderFault). MeetsBy call one Held state)
          (sym after.1)
          (λ stood held met shows. absurd (shows_none after.0 stood held met shows))

      met-as : (one : FolderFault) → Came made.answer one →
          HasMetNow now runner (cause_of_fault Before one)
      met-as one (inl is) = ended before now runner Before Held stands token same call of_turn
          ShowsIn quiet made Before one is
      met-as one (inr after) = subst
          (λ (other : FolderFault). HasMetNow now runner (cause_of_fault Before other))
          (sym after.2) (memory-met now runner Before)

-- ---- The calls that are left

-- the intent leaves seven files at most to read
few-behind : {X : Type 0} (test : X → Bool) (all : List X) → length (filter test all) ≤ length all
few-behind test [] = omega arith
few-behind test (one ∷ all) = cases (test one) (few-behind test all)
  where
    cases : (is : Bool) → length (filter test all) ≤ length all →
        length (cond is (one ∷ filter test all) (filter test all)) ≤ length (one ∷ all)
    cases true few = omega (arith, few)
    cases false few = omega (arith, few)

-- behind the first read of the intent fewer calls are left
pub watch-calls : (watcher : Lister) (wanted : List Tab) (answer : Result Found FolderFault)
    (reading : Gatherer) → ReadsIntentFirst watcher wanted answer (Ok reading) →
    LeavesFewer (Watching watcher) (Gathering reading)
watch-calls watcher wanted (Ok found) reading shown =
    let gathered : Gathered = first_gathered wanted reading.gathered.intent (listed_at found) in
    let same : length reading.left ≡ length (filter (awaits gathered) inputs) =
    ap (λ (one : Gatherer). length one.left) shown.1 in
    let few : length (filter (awaits gathered) inputs) ≤ 7 = few-behind (awaits gathered) inputs in
    other-fewer (Watching watcher) (Gathering reading) refl (omega (arith, same, few)) (omega arith)
    refl
watch-calls watcher wanted (Err fault) reading shown = absurd shown

-- a read leaves one fewer
pub gather-calls : (reading : Gatherer) (answer : Result Found FolderFault) (more : Gatherer) →
    GathersOn reading answer (Ok more) → 0 < length reading.left →
    LeavesFewer (Gathering reading) (Gathering more)
gather-calls reading (Ok found) more shown some =
    let rest = ap (λ (one : Gatherer). length one.left) shown ∙ length-drop 1 reading.left in
    other-fewer (Gathering reading) (Gathering more) refl (omega (arith, rest, some)) (omega arith)
    refl
gather-calls reading (Err fault) more shown some = absurd shown

-- while any name is left it reads that
pub gathers-next : (reading : Gatherer) → 0 < length reading.left →
    gathering_call reading ≡ reads (next_left reading)
gathers-next reading = by-left reading.left
  where
    by-left : (left : List Name) → 0 < length left →
        next_or lists reads (slice_get left 0) ≡ reads (get_or left 0 Defs)
    by-left [] some = absurd (omega (arith, some))
    by-left (name ∷ left) some = refl

-- and then it lists the locks
pub gathers-last : (reading : Gatherer) → length reading.left ≡ 0 → gathering_call reading ≡ lists
gathers-last reading = by-left reading.left
  where
    by-left : (left : List Name) → length left ≡ 0 → next_or lists reads (slice_get left 0) ≡ lists
    by-left [] none = refl
    by-left (name ∷ left) none = absurd (cc none)
