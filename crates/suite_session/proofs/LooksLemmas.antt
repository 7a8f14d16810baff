-- Claims: each turn keeps a session's looks within their bound (`looked-then`); so do its begin
-- (`looked-first`), its answer (`looked-last`), and events of others (`looked-still`).
-- Way: the state that follows has a look fewer left where the call was one (`few-less`, `ends-less`).
use Rattle.std.proofs.Common.{◌≡◌, refl, sym, ap, subst, ◌∙◌, ◌≤◌, ◌+◌, ◌&&◌, [], ◌∷◌, ℕ, Bool, true, false, cond, nat_le, nat_lt, if◌then◌else◌, ◌<◌, filter, length, drop, slice_get, List, inl, inr, Option, Some, None, Result, Ok, Err, arith}
use Rattle.std.proofs.lemmas.Bool.{and_parts}
use Rattle.std.proofs.lemmas.Bool.Decides.{nat_tests}
use Rattle.acct_outside.specs.declared.FolderFault.{FolderFault}
use Rattle.acct_outside.specs.declared.Name.{Name}
use Rattle.acct_outside.specs.declared.Name.TheVariants.{Backup, BackupStage, FreeStage, Intent, IntentStage, Lock}
use Rattle.acct_outside.specs.Pieces.{piece_at}
use Rattle.acct_outside.specs.Tokens.{Token, free_text}
use Rattle.acct_outside.specs.Calls.{Call, Command, Found, answers, appends, asks, begins, done, lists, reads, removes, renames, writes}
use Rattle.acct_outside.specs.History.{Event, History, own_events}
use Rattle.acct_outside.specs.Moment.{Past}
use Rattle.acct_text.specs.declared.Tab.{Tab}
use Rattle.account_model.specs.Request.{Request, is_report}
use Rattle.account_model.specs.declared.tool.Tool.{Tool}
use Rattle.account_model.specs.Answer.{FileProblem}
use Rattle.suite_rules.specs.Outcomes.{installs, pieces_left, stages, stages_more}
use Rattle.lock_steps.specs.Gathered.{Gathered, awaits, first_gathered, inputs, listed_at}
use Rattle.lock_steps.specs.NextCall.{next_or}
use Rattle.lock_steps.specs.States.{Asker, Kept, Lister, Maker}
use Rattle.lock_steps.specs.Watching.{Gatherer, ReadsIntentFirst, GathersOn, Report}
use Rattle.lock_steps.specs.declared.gathered.IntentFound.{IntentFound}
use Rattle.lock_steps.specs.declared.gathered.IntentFound.TheVariants.{TooLarge as IntentIsLarge, Damaged as IntentIsDamaged}
use Rattle.lock_steps.specs.declared.claiming.Confirmed.{Confirmed}
use Rattle.lock_steps.specs.declared.claiming.Confirmed.TheVariants.{Keeper, Loser}
use Rattle.lock_steps.specs.declared.judging.Told.{Told}
use Rattle.lock_steps.specs.declared.judging.Told.TheVariants.{Judged, Ask}
use Rattle.commit_steps.specs.NextCall.{backs_up_table, installs_table}
use Rattle.commit_steps.specs.Outcomes.{backs_up_more, backup_call, install_call, installs_more}
use Rattle.commit_steps.specs.States.{Reader, has_staged, intent_left, intent_piece, next_name, next_table, old_bytes, start_of}
use Rattle.commit_steps.specs.declared.LoadEnd.{LoadEnd}
use Rattle.commit_steps.specs.declared.LoadEnd.TheVariants.{Fault as LoadFault, TooLarge as IsLarge, NoTable as IsAbsent}
use Rattle.commit_steps.specs.declared.Loading.{Loading as Loaded}
use Rattle.commit_steps.specs.declared.Loading.TheVariants.{More, Done}
use Rattle.recovery.specs.NextCall.{moves_table}
use Rattle.recovery.specs.declared.IntentSeen.{IntentSeen}
use Rattle.recovery.specs.declared.IntentSeen.TheVariants.{Clean, Listed}
use Rattle.recovery.specs.declared.RecoveryEnd.{RecoveryEnd}
use Rattle.recovery.specs.declared.RecoveryEnd.TheVariants.{Fault, Damaged, TooLarge}
use Rattle.suite_answers.specs.declared.cause.Which.TheVariants.{File}
use Rattle.suite_answers.specs.declared.cause.Cause.{Cause}
use Rattle.suite_answers.specs.declared.cause.Cause.TheVariants.{IntentDamaged, NoTable as HasNoTable, TooLarge as IsTooLarge}
use Rattle.suite_session.specs.declared.state.State.{State}
use Rattle.suite_session.specs.declared.state.State.TheVariants.{Looking, Reading, Asking, Claiming, Confirming, Withdrawing, ReadingIntent, Recovering, Moving, Loading, BackingUp, Committing, Installing, Unlocking, Watching, Gathering, Answering}
use Rattle.suite_session.specs.Runner.{Runner}
use Rattle.suite_session.specs.Answers.{cause_of_problem}
use Rattle.suite_session.specs.Loading.{EndsLoad, LoadsTo}
use Rattle.suite_session.specs.Locking.{after_judging, after_listing, after_look, after_read, cause_of_fault}
use Rattle.suite_session.specs.Looks.{HasLooksLeft, Look, at_holder, at_intent, at_locks, at_text, LooksLess, LooksOnce, gathering_looks, looks_at, looks_by, looks_in, looks_left, most_looks}
use Rattle.suite_session.specs.NextCall.{state_call}
use Rattle.suite_session.specs.Recovering.{Refuses, after_intent}
use Rattle.suite_session.specs.Reporting.{AnswersFiles, AnswersIntent, AnswersOn, ReportsTo, first_problem}
use Rattle.suite_session.specs.Stands.{AnswersWith, LeavesWith}
use Rattle.suite_session.proofs.BoundLemmas.{OneMade}

-- ---- A session's looks

-- an event is a look more where its call is one
looks-more : (look : Look) (event : Event) (events : History) →
    looks_in look (event ∷ events) ≡ looks_in look events + looks_by event.call look
looks-more look event events = cases (looks_at event.call look)
  where
    rest : History
    rest = filter (λ one. looks_at one.call look) events

    cases : (looks : Bool) →
        length (cond looks (event ∷ rest) rest) ≡ length rest + cond looks 1 0
    cases true = omega arith
    cases false = omega arith

-- the first claim
pub looked-then : (token : Token) (old next : State) (was past : Past) (NoMemory : Type 0) →
    OneMade was past token (state_call old) NoMemory → LooksLess old next →
    HasLooksLeft token old was.history → HasLooksLeft token next past.history
looked-then token old next was past NoMemory (inl made) less looked look =
    let event : Event = record { token = token; call = state_call old; result = made.0 } in
    let more = ap (looks_in look) made.1 ∙ looks-more look event (own_events token was.history) in
    let fewer = less look in
    let within = looked look in
    omega (arith, more, fewer, within)
looked-then token old next was past NoMemory (inr none) less looked look =
    let same = ap (looks_in look) none.1 in
    let fewer = less look in
    let within = looked look in
    omega (arith, same, fewer, within)

-- a session whose begin is its only event hasn't looked yet
pub looked-first : (token : Token) (command : Command) (state : State) (history : History) →
    own_events token history
    ≡ record { token = token; call = begins command; result = done tt } ∷ [] →
    ((look : Look) → looks_left state look ≤ most_looks look) → HasLooksLeft token state history
looked-first token command state history only few look =
    let none : looks_in look (own_events token history) ≡ 0 = ap (looks_in look) only in
    let most = few look in
    omega (arith, none, most)

-- its answer is no look
pub looked-last : (token : Token) (state : State) (status : ℕ) (was past : Past) →
    own_events token past.history
    ≡ record { token = token; call = answers status; result = done tt }
    ∷ own_events token was.history →
    HasLooksLeft token state was.history → LooksOnce token past.history
looked-last token state status was past is looked look =
    let event : Event = record { token = token; call = answers status; result = done tt } in
    let more : looks_in look (own_events token past.history)
    ≡ looks_in look (own_events token was.history) + 0 =
    ap (looks_in look) is ∙ looks-more look event (own_events token was.history) in
    let within = looked look in
    omega (arith, more, within)

-- nor are those that are left once there is an answer
pub looked-once : (token : Token) (state : State) (history : History) →
    HasLooksLeft token state history → LooksOnce token history
looked-once token state history looked look = let within = looked look in omega (arith, within)

-- events of others leave the looks
pub looked-still : (token : Token) (state : State) (old new : History) →
    own_events token new ≡ own_events token old → HasLooksLeft token state old →
    HasLooksLeft token state new
looked-still token state old new same looked look =
    subst (λ (events : History). looks_in look events + looks_left state look ≤ most_looks look)
    (sym same) (looked look)

-- also of one that has answered
pub once-still : (token : Token) (old new : History) →
    own_events token new ≡ own_events token old → LooksOnce token old → LooksOnce token new
once-still token old new same once look =
    subst (λ (events : History). looks_in look events ≤ most_looks look) (sym same) (once look)

-- ---- The call of each state

-- the looks of the call of a state
abbrev pub state_looks : State → Look → ℕ
state_looks (Looking looking) look = looks_by lists look
state_looks (Reading seen) look = looks_by (reads (Lock 0)) look
state_looks (Asking asking) look = looks_by (asks []) look
state_looks (Confirming claimed) look = looks_by lists look
state_looks (ReadingIntent keeper) look = looks_by (reads Intent) look
state_looks (Watching watcher) look = looks_by (reads Intent) look
state_looks state look = 0

-- what a report gathers is counted by itself
abbrev pub GathersNone : State → Type 0
GathersNone (Gathering reading) = ⊥
GathersNone state = Unit {0}

-- a call for what is next is no look where none of these calls is
next-unlooked : {A : Type 0} (last : Call) (call_for : A → Call) (next : Option A) (look : Look) →
    looks_by last look ≡ 0 → ((one : A) → looks_by (call_for one) look ≡ 0) →
    looks_by (next_or last call_for next) look ≡ 0
next-unlooked last call_for None look is each = is
next-unlooked last call_for (Some one) look is each = each one

-- nor is one of two such calls
either-unlooked : (first : Bool) (one other : Call) (look : Look) → looks_by one look ≡ 0 →
    looks_by other look ≡ 0 → looks_by (if first then one else other) look ≡ 0
either-unlooked true one other look here there = here
either-unlooked false one other look here there = there

-- a read of a table or of login.defs is none
input-unlooked : (next : Option Tab) (look : Look) → looks_by (reads (next_name next)) look ≡ 0
input-unlooked None look = refl
input-unlooked (Some table) look = refl

-- so the call of each state is a look where the state says so
call-looks : (state : State) → GathersNone state → (look : Look) →
    looks_by (state_call state) look ≡ state_looks state look
call-looks (Recovering recovering) is look =
    next-unlooked (removes Intent) stages (slice_get recovering.left 0) look refl (λ one. refl)
call-looks (Moving moving) is look = next-unlooked (removes Intent) (moves_table moving)
    (slice_get moving.left 0) look refl
    (λ one. either-unlooked (nat_lt 0 (pieces_left moving.staged one.bytes))
    (stages_more moving.staged one) (installs one) look refl refl)
call-looks (Loading reader) is look = input-unlooked reader.next look
call-looks (BackingUp walker answer) is look = next-unlooked
    (writes IntentStage (intent_piece 0 walker.change)) (backs_up_table walker) (next_table walker)
    look refl
    (λ one. either-unlooked
    (nat_lt 0 (pieces_left walker.staged (old_bytes walker.change one.table)))
    (backs_up_more walker one) (backup_call walker one) look refl
    (either-unlooked (has_staged walker) (renames BackupStage (Backup one.table))
    (writes BackupStage (piece_at 0 (old_bytes walker.change one.table))) look refl refl))
call-looks (Committing stager answer) is look = either-unlooked (nat_lt 0 (intent_left stager))
    (appends IntentStage (intent_piece stager.staged stager.change)) (renames IntentStage Intent)
    look refl refl
call-looks (Installing walker answer) is look = next-unlooked (removes Intent)
    (installs_table walker) (next_table walker) look refl
    (λ one. either-unlooked (nat_lt 0 (pieces_left walker.staged one.bytes))
    (installs_more walker one) (install_call walker one) look refl
    (either-unlooked (has_staged walker) (installs one) (stages one) look refl refl))
call-looks (Unlocking keeper answer) is look = next-unlooked (writes FreeStage free_text)
    (λ number. removes (Lock number)) (slice_get keeper.lower 0) look refl (λ one. refl)
call-looks (Gathering reading) is look = absurd is
call-looks state is look = refl

-- a look fewer is left in the next state
abbrev pub few_at : State → State → Look → Bool
few_at old next look = nat_le (looks_left next look + state_looks old look) (looks_left old look)

abbrev pub few : State → State → Bool
few old next = few_at old next at_locks && (few_at old next at_text
    && (few_at old next at_holder && few_at old next at_intent))

-- a sum that passes the test is at most that
few-least : (left made most : ℕ) → nat_le (left + made) most ≡ true → left + made ≤ most
few-least left made most is = grind (arith, nat_tests)

-- so the turn is one by which no look is left too many
pub few-less : (old next : State) → GathersNone old → few old next ≡ true → LooksLess old next
few-less old next none is look =
    subst (λ (made : ℕ). looks_left next look + made ≤ looks_left old look)
    (sym (call-looks old none look))
    (few-least (looks_left next look) (state_looks old look) (looks_left old look) (at look))
  where
    locks : (few_at old next at_locks ≡ true) × ((few_at old next at_text
        && (few_at old next at_holder && few_at old next at_intent)) ≡ true)
    locks = and_parts (few_at old next at_locks) (few_at old next at_text
        && (few_at old next at_holder && few_at old next at_intent)) is

    text : (few_at old next at_text ≡ true)
        × ((few_at old next at_holder && few_at old next at_intent) ≡ true)
    text = and_parts (few_at old next at_text)
        (few_at old next at_holder && few_at old next at_intent) locks.1

    holder : (few_at old next at_holder ≡ true) × (few_at old next at_intent ≡ true)
    holder = and_parts (few_at old next at_holder) (few_at old next at_intent) text.1

    at : (one : Look) → few_at old next one ≡ true
    at at_locks = locks.0
    at at_text = text.0
    at at_holder = holder.0
    at at_intent = holder.1

-- ---- The files of a report

-- one more name to read is a look more where it is one
name-more : (look : Look) (name : Name) (names : List Name) →
    length (filter (λ one. looks_at (reads one) look) (name ∷ names))
    ≡ length (filter (λ one. looks_at (reads one) look) names) + looks_by (reads name) look
name-more look name names = cases (looks_at (reads name) look)
  where
    rest : List Name
    rest = filter (λ one. looks_at (reads one) look) names

    cases : (looks : Bool) →
        length (cond looks (name ∷ rest) rest) ≡ length rest + cond looks 1 0
    cases true = omega arith
    cases false = omega arith

-- its next call is one of those that are left
gathering-due : (reading : Gatherer) (look : Look) →
    looks_by (state_call (Gathering reading)) look ≤ gathering_looks reading look
gathering-due reading look = by-left reading.left
  where
    by-left : (left : List Name) → looks_by (next_or lists reads (slice_get left 0)) look
        ≤ length (filter (λ name. looks_at (reads name) look) left) + looks_by lists look
    by-left [] = omega arith
    by-left (name ∷ left) = let more = name-more look name left in omega (arith, more)

-- a read leaves it out
pub gathers-less : (reading : Gatherer) (answer : Result Found FolderFault) (more : Gatherer) →
    GathersOn reading answer (Ok more) → 0 < length reading.left →
    LooksLess (Gathering reading) (Gathering more)
gathers-less reading (Ok found) more shown some look =
    subst (λ (left : List Name). length (filter (λ name. looks_at (reads name) look) left)
    + looks_by lists look + looks_by (state_call (Gathering reading)) look
    ≤ gathering_looks reading look) (sym (ap (λ (one : Gatherer). one.left) shown))
    (by-left reading.left some)
  where
    by-left : (left : List Name) → 0 < length left →
        length (filter (λ name. looks_at (reads name) look) (drop 1 left)) + looks_by lists look
        + looks_by (next_or lists reads (slice_get left 0)) look
        ≤ length (filter (λ name. looks_at (reads name) look) left) + looks_by lists look
    by-left [] none = absurd (omega (arith, none))
    by-left (name ∷ left) some = let more = name-more look name left in omega (arith, more)
gathers-less reading (Err fault) more shown some look = absurd shown

-- where no name is a look, none of those that are left out is
none-behind : (test wanted : Name → Bool) (names : List Name) →
    length (filter test names) ≡ 0 → length (filter test (filter wanted names)) ≡ 0
none-behind test wanted [] none = none
none-behind test wanted (name ∷ names) none =
    cases (test name) refl (wanted name) none (none-behind test wanted names)
  where
    cases : (is : Bool) → test name ≡ is → (wants : Bool) →
        length (cond is (name ∷ filter test names) (filter test names)) ≡ 0 →
        (length (filter test names) ≡ 0 → length (filter test (filter wanted names)) ≡ 0) →
        length (filter test (cond wants (name ∷ filter wanted names) (filter wanted names))) ≡ 0
    cases true is wants some rest = absurd (cc some)
    cases false is false left rest = rest left
    cases false is true left rest = rw is (rest left)

-- no input is a look
behind-none : (gathered : Gathered) (look : Look) →
    length (filter (λ name. looks_at (reads name) look) (filter (awaits gathered) inputs)) ≡ 0
behind-none gathered at_locks =
    none-behind (λ name. looks_at (reads name) at_locks) (awaits gathered) inputs refl
behind-none gathered look =
    none-behind (λ name. looks_at (reads name) look) (awaits gathered) inputs refl

-- the read of the intent leads to the reads behind it
pub watches-less : (watcher : Lister) (wanted : List Tab) (answer : Result Found FolderFault)
    (reading : Gatherer) → ReadsIntentFirst watcher wanted answer (Ok reading) →
    LooksLess (Watching watcher) (Gathering reading)
watches-less watcher wanted (Ok found) reading shown look =
    let gathered : Gathered = first_gathered wanted reading.gathered.intent (listed_at found) in
    let none : length (filter (λ name. looks_at (reads name) look) reading.left) ≡ 0 =
    ap (λ (one : Gatherer). length (filter (λ name. looks_at (reads name) look) one.left)) shown.1
    ∙ behind-none gathered look in
    by-look look none
  where
    by-look : (one : Look) →
        length (filter (λ name. looks_at (reads name) one) reading.left) ≡ 0 →
        gathering_looks reading one + looks_by (reads Intent) one
        ≤ looks_left (Watching watcher) one
    by-look at_locks none = omega (arith, none)
    by-look one none = omega (arith, none)
watches-less watcher wanted (Err fault) reading shown look = absurd shown

-- ---- The way out

-- the call of each state is one of the looks that it has left
due-few : (old : State) → GathersNone old → (look : Look) →
    nat_le (state_looks old look) (looks_left old look) ≡ true
due-few (Looking looking) none at_locks = refl
due-few (Reading seen) none at_text = refl
due-few (Asking asking) none at_text = refl
due-few (Asking asking) none at_holder = refl
due-few (Confirming claimed) none at_locks = refl
due-few (ReadingIntent keeper) none at_intent = refl
due-few (Watching watcher) none at_locks = refl
due-few (Watching watcher) none at_intent = refl
due-few (Gathering reading) none look = absurd none
due-few (Claiming judged) none at_locks = refl
due-few state none look = refl

-- a number that passes the test is at most that
due-least : (made most : ℕ) → nat_le made most ≡ true → made ≤ most
due-least made most is = grind (arith, nat_tests)

look-due : (old : State) (look : Look) → looks_by (state_call old) look ≤ looks_left old look
look-due (Gathering reading) look = gathering-due reading look
look-due old look = other tt
  where
    other : GathersNone old → looks_by (state_call old) look ≤ looks_left old look
    other none = subst (λ (made : ℕ). made ≤ looks_left old look) (sym (call-looks old none look))
        (due-least (state_looks old look) (looks_left old look) (due-few old none look))

-- so none is left too many where the next state has none
pub last-less : (old next : State) → ((look : Look) → looks_left next look ≡ 0) →
    LooksLess old next
last-less old next none look =
    let last = none look in let due = look-due old look in omega (arith, last, due)

-- which is so of an answer
pub answers-less : (tool : Tool) (cause : Cause) (old state : State)
    → AnswersWith tool cause state →
    LooksLess old state
answers-less tool cause old (Answering answer) told =
    last-less old (Answering answer) (λ look. refl)
answers-less tool cause old state told = absurd told

-- and of a keeper that frees its lock
pub leaves-less : (tool : Tool) (keeper : Kept) (cause : Cause) (old state : State) →
    LeavesWith tool keeper cause state → LooksLess old state
leaves-less tool keeper cause old (Unlocking kept answer) told =
    last-less old (Unlocking kept answer) (λ look. refl)
leaves-less tool keeper cause old (Answering answer) told =
    last-less old (Answering answer) (λ look. refl)
leaves-less tool keeper cause old state told = absurd told

-- ---- On the way to the lock

-- once the greatest lock is judged
judged-less : (old : State) → GathersNone old → (judged : Lister) (report : Bool) →
    few old (Watching judged) ≡ true → few old (Claiming judged) ≡ true →
    LooksLess old (if report then Watching judged else Claiming judged)
judged-less old none judged true watching claiming = few-less old (Watching judged) none watching
judged-less old none judged false watching claiming = few-less old (Claiming judged) none claiming

-- after the first listing
looked-less : (request : Request) (looking : Token) (seen : Lister) (is_none : Bool) →
    LooksLess (Looking looking) (if is_none then after_judging request seen else Reading seen)
looked-less request looking seen true =
    judged-less (Looking looking) tt seen (is_report request) refl refl
looked-less request looking seen false = few-less (Looking looking) (Reading seen) tt refl

pub look-less : (request : Request) (looking : Token) (seen : Lister) →
    LooksLess (Looking looking) (after_look request seen)
look-less request looking seen = looked-less request looking seen _

-- after the read of the greatest lock
pub read-less : (request : Request) (seen : Lister) (told : Told) →
    LooksLess (Reading seen) (after_read request told)
read-less request seen (Judged judged) =
    judged-less (Reading seen) tt judged (is_report request) refl refl
read-less request seen (Ask asking) = few-less (Reading seen) (Asking asking) tt refl

-- after the verdict
pub ask-less : (request : Request) (asking : Asker) (judged : Lister) →
    LooksLess (Asking asking) (after_judging request judged)
ask-less request asking judged =
    judged-less (Asking asking) tt judged (is_report request) refl refl

-- after the second listing
pub confirm-less : (claimed : Maker) (confirmed : Confirmed) →
    LooksLess (Confirming claimed) (after_listing confirmed)
confirm-less claimed (Keeper keeper) =
    few-less (Confirming claimed) (ReadingIntent keeper) tt refl
confirm-less claimed (Loser loser) = few-less (Confirming claimed) (Withdrawing loser) tt refl

-- after the read of the intent
pub intent-less : (keeper : Kept) (seen : IntentSeen) →
    LooksLess (ReadingIntent keeper) (after_intent seen)
intent-less keeper (Clean kept) =
    few-less (ReadingIntent keeper) (Loading (start_of kept)) tt refl
intent-less keeper (Listed recovering) =
    few-less (ReadingIntent keeper) (Recovering recovering) tt refl

-- also where it can't be read
pub refused-less : (tool : Tool) (end : RecoveryEnd) (old state : State) → Refuses tool end state →
    LooksLess old state
refused-less tool (Fault fault) old state told =
    answers-less tool (cause_of_fault fault.stage fault.fault) old state told
refused-less tool (Damaged part keeper) old state told =
    leaves-less tool keeper (IntentDamaged part) old state told
refused-less tool (TooLarge keeper) old state told =
    leaves-less tool keeper (IsTooLarge (File Intent)) old state told

-- ---- The reads of a keeper

-- after a read that leads on
pub loads-less : (runner : Runner) (reader : Reader) (loaded : Loaded) (state : State) →
    LoadsTo runner loaded state → LooksLess (Loading reader) state
loads-less runner reader (More more) state is =
    subst (LooksLess (Loading reader)) (sym is)
    (few-less (Loading reader) (Loading more) tt refl)
loads-less runner reader (Done loaded) (BackingUp walker answer) is =
    few-less (Loading reader) (BackingUp walker answer) tt refl
loads-less runner reader (Done loaded) (Unlocking keeper answer) is =
    few-less (Loading reader) (Unlocking keeper answer) tt refl
loads-less runner reader (Done loaded) (Answering answer) is =
    few-less (Loading reader) (Answering answer) tt refl
loads-less runner reader (Done loaded) state is = absurd is

-- and after one that ends them
pub ends-less : (tool : Tool) (end : LoadEnd) (old state : State) → EndsLoad tool end state →
    LooksLess old state
ends-less tool (LoadFault fault) old state told =
    answers-less tool (cause_of_fault fault.stage fault.fault) old state told
ends-less tool (IsLarge name keeper) old state told =
    leaves-less tool keeper (IsTooLarge (File name)) old state told
ends-less tool (IsAbsent table keeper) old state told =
    leaves-less tool keeper (HasNoTable table) old state told

-- ---- The answer of a report

-- a state that answers with a tool's answer
answered-less : (runner : Runner) (gathered : Gathered) (old state : State) →
    AnswersOn runner gathered state → LooksLess old state
answered-less runner gathered old (Answering answer) told =
    last-less old (Answering answer) (λ look. refl)
answered-less runner gathered old state told = absurd told

-- or with what is wrong with a file
files-less : (runner : Runner) (gathered : Gathered) (problem : Option FileProblem)
    (old state : State) → AnswersFiles runner gathered problem state → LooksLess old state
files-less runner gathered (Some problem) old state told =
    answers-less runner.asked.request.tool (cause_of_problem problem) old state told
files-less runner gathered None old state told = answered-less runner gathered old state told

-- once a second listing has confirmed what was shown
reported-by : (runner : Runner) (gathered : Gathered) (found : IntentFound) (old state : State) →
    AnswersIntent runner gathered found state → LooksLess old state
reported-by runner gathered IntentIsLarge old state told =
    answers-less runner.asked.request.tool (IsTooLarge (File Intent)) old state told
reported-by runner gathered (IntentIsDamaged part) old state told =
    answers-less runner.asked.request.tool (IntentDamaged part) old state told
reported-by runner gathered found old state told =
    files-less runner gathered (first_problem gathered) old state told

pub reported-less : (runner : Runner) (report : Report) (old state : State) →
    ReportsTo runner report state → LooksLess old state
reported-less runner report old state told =
    reported-by runner report.gathered report.gathered.intent old state told
