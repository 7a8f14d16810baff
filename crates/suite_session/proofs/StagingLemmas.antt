-- Claims: a session stages bytes at one name at a time and moves them before it goes on: each turn leads to a
-- state that has bytes staged at its name alone (`staged-then`), and an answer leaves what it left
-- (`staged-last`); its begin stages nothing (`staged-first`).
-- Way: a call stages at a name where nothing is staged, appends to what is staged, or moves just that
-- (`stage-of`); any other comes where nothing is staged. A keeper alone stages.
use Rattle.std.proofs.Common.{◌≡◌, ◌≢◌, refl, sym, ap, subst, ◌∙◌, ◌<◌, [], ◌∷◌, ℕ, Bool, true, false, nat_lt, if◌then◌else◌, inl, inr, List, slice_get, Option, Some, None, true≢false, arith}
use Rattle.std.specs.Prelude.{option_map}
use Rattle.std.proofs.lemmas.Slice.Eq.{bytes_eq-Decides}
use Rattle.acct_text.specs.Bytes.{Bytes}
use Rattle.acct_outside.specs.Journal.{Entry}
use Rattle.acct_outside.specs.declared.CommitStage.{CommitStage}
use Rattle.acct_outside.specs.declared.FolderFault.{FolderFault}
use Rattle.acct_outside.specs.declared.Name.{Name}
use Rattle.acct_outside.specs.declared.Name.TheVariants.{Backup, BackupStage, FreeStage, Intent, IntentStage, Lock, Staged}
use Rattle.acct_outside.specs.Names.{is_staging, same_name}
use Rattle.acct_outside.specs.Pieces.{piece_at}
use Rattle.acct_outside.specs.Tokens.{Token, free_text}
use Rattle.acct_outside.specs.Calls.{Answer as CallAnswer, Call, CallResult, Command, answers, appends, begins, died, done, failed, lists, reads, removes, renames, writes}
use Rattle.acct_outside.specs.History.{History, own_events}
use Rattle.acct_outside.specs.Moment.{Past}
use Rattle.intent_file.specs.Intent.{NewTable}
use Rattle.suite_rules.specs.Knowledge.{Stages}
use Rattle.suite_rules.specs.OwnLock.{is_keeper, own_step}
use Rattle.suite_rules.specs.Outcomes.{installs, pieces_left, stages, stages_more}
use Rattle.suite_rules.specs.Standing.{Standing, nothing_staged, staged_step, staged_with, standing, standing_step}
use Rattle.acct_outside.proofs.NameLemmas.{name-is, name-same}
use Rattle.suite_rules.proofs.Own.{own-standing}
use Rattle.lock_steps.specs.NextCall.{next_or}
use Rattle.commit_steps.specs.NextCall.{backs_up_table, committing_call, installs_table}
use Rattle.commit_steps.specs.Outcomes.{backs_up_more, installs_more}
use Rattle.commit_steps.specs.States.{Stager, Walker, has_staged, intent_left, intent_piece, next_table, old_bytes}
use Rattle.recovery.specs.NextCall.{moves_table}
use Rattle.recovery.specs.States.{Mover}
use Rattle.account_model.specs.declared.tool.Tool.{Tool}
use Rattle.suite_answers.specs.declared.cause.Cause.{Cause}
use Rattle.suite_answers.specs.declared.cause.Cause.TheVariants.{Memory}
use Rattle.suite_session.specs.declared.state.State.{State}
use Rattle.suite_session.specs.declared.state.State.TheVariants.{Looking, Recovering, Moving, BackingUp, Committing, Installing, Unlocking, Gathering, Answering}
use Rattle.suite_session.specs.Runner.{Runner}
use Rattle.suite_session.specs.Belongs.{StagesAs}
use Rattle.suite_session.specs.Counts.{CountsTo}
use Rattle.suite_session.specs.Left.{calls_left}
use Rattle.suite_session.specs.NextCall.{state_call}
use Rattle.suite_session.specs.Staging.{HasMovedAll, StagesAt, staged_in}
use Rattle.suite_session.specs.Locking.{cause_of_fault}
use Rattle.suite_session.specs.Stands.{AnswersWith, FindsNoMemory, HasStagedAt, IsMemory, IsStopped, StagesTo}
use Rattle.suite_session.proofs.BoundLemmas.{OneMade}
use Rattle.suite_session.proofs.CauseLemmas.{told-cause}
use Rattle.suite_session.proofs.LeavingLemmas.{fault-stopped}

-- ---- The call of each state

-- the call stages at a name where nothing is staged, appends to what is staged, or moves it; any other
-- comes where nothing is
abbrev IsStageOf : Call → Option Name → Type 0
IsStageOf (writes name bytes) slot = slot ≡ None
IsStageOf (appends name piece) slot = slot ≡ Some name
IsStageOf (renames from to) slot = slot ≡ Some from
IsStageOf call slot = slot ≡ None

-- a step for a text of which some pieces are staged or none
walk-stage : (begun : Bool) (count : ℕ) (name : Name) (more move write : Call) →
    IsStageOf more (Some name) → IsStageOf move (Some name) → IsStageOf write None →
    IsStageOf (if nat_lt 0 (if begun then count else 0) then more
    else (if begun then move else write)) (if begun then Some name else None)
walk-stage true count name more move write is_more is_move is_write = cases (nat_lt 0 count)
  where
    cases : (left : Bool) → IsStageOf (if left then more else move) (Some name)
    cases true = is_more
    cases false = is_move
walk-stage false count name more move write is_more is_move is_write = is_write

-- nothing is staged
abbrev nothing : Option Name
nothing = None

-- so it is either way
none-either : (begun : Bool) → (if begun then nothing else nothing) ≡ nothing
none-either true = refl
none-either false = refl

-- a backup
backing-stage : (walker : Walker) (next : Option NewTable) →
    IsStageOf (next_or (writes IntentStage (intent_piece 0 walker.change))
    (backs_up_table walker) next)
    (if has_staged walker then option_map (λ new. BackupStage) next else None)
backing-stage walker None = none-either (has_staged walker)
backing-stage walker (Some next) = walk-stage (has_staged walker) _ BackupStage
    (backs_up_more walker next) (renames BackupStage (Backup next.table))
    (writes BackupStage (piece_at 0 (old_bytes walker.change next.table))) refl refl refl

-- an installation
installing-stage : (walker : Walker) (next : Option NewTable) →
    IsStageOf (next_or (removes Intent) (installs_table walker) next)
    (if has_staged walker then option_map (λ new. Staged new.table) next else None)
installing-stage walker None = none-either (has_staged walker)
installing-stage walker (Some next) = walk-stage (has_staged walker) _ (Staged next.table)
    (installs_more walker next) (installs next) (stages next) refl refl refl

-- a table of an intent that is carried out
moving-stage : (moving : Mover) (next : Option NewTable) →
    IsStageOf (next_or (removes Intent) (moves_table moving) next)
    (option_map (λ new. Staged new.table) next)
moving-stage moving None = refl
moving-stage moving (Some next) = cases (nat_lt 0 (pieces_left moving.staged next.bytes))
  where
    cases : (left : Bool) → IsStageOf
        (if left then stages_more moving.staged next else installs next) (Some (Staged next.table))
    cases true = refl
    cases false = refl

-- the intent
committing-stage : (stager : Stager) → IsStageOf (committing_call stager) (Some IntentStage)
committing-stage stager = cases (nat_lt 0 (intent_left stager))
  where
    cases : (left : Bool) → IsStageOf (if left
        then appends IntentStage (intent_piece stager.staged stager.change)
        else renames IntentStage Intent) (Some IntentStage)
    cases true = refl
    cases false = refl

-- what is next, where nothing is staged
next-stage : {A : Type 0} (last : Call) (call_for : A → Call) (next : Option A) →
    IsStageOf last None → ((one : A) → IsStageOf (call_for one) None) →
    IsStageOf (next_or last call_for next) None
next-stage last call_for None is each = is
next-stage last call_for (Some one) is each = each one

-- so it is with the call of each state
stage-of : (state : State) → IsStageOf (state_call state) (staged_in state)
stage-of (Recovering recovering) =
    next-stage (removes Intent) stages (slice_get recovering.left 0) refl (λ one. refl)
stage-of (Moving moving) = moving-stage moving (slice_get moving.left 0)
stage-of (BackingUp walker answer) = backing-stage walker (next_table walker)
stage-of (Committing stager answer) = committing-stage stager
stage-of (Installing walker answer) = installing-stage walker (next_table walker)
stage-of (Unlocking keeper answer) = next-stage (writes FreeStage free_text)
    (λ number. removes (Lock number)) (slice_get keeper.lower 0) refl (λ one. refl)
stage-of (Gathering reading) =
    next-stage lists reads (slice_get reading.left 0) refl (λ name. refl)
stage-of state = refl

-- ---- One call

-- nothing else is staged where nothing is
none-other : (slot : Option Name) (name : Name) → slot ≡ None → slot ≢ Some name
none-other slot name none some = absurd (cc (sym none ∙ some))

-- the call stages no bytes
abbrev IsNoStaging : Call → Type 0
IsNoStaging (writes name bytes) = ⊥
IsNoStaging (appends name piece) = ⊥
IsNoStaging call = Unit {0}

-- a part of a keeper at one name, by whether it was keeper and is
part-at : (was is : Bool) (changed same : Stages) (name : Name) →
    (was ≡ true → changed name ≡ None) → (was ≡ false → same name ≡ None) →
    (if was then changed else (if is then nothing_staged else same)) name ≡ None
part-at true is changed same name kept unkept = kept refl
part-at false true changed same name kept unkept = refl
part-at false false changed same name kept unkept = unkept refl

module _ (slot : Option Name) (stood : Standing) (held : StagesAt slot stood) where
  -- a move takes away what is staged, and any other such call comes where nothing is
  moved-step : (call : Call) (result : CallResult (CallAnswer call)) → IsNoStaging call →
      IsStageOf call slot → (name : Name) → staged_step call result stood.staged name ≡ None
  moved-step (renames from to) result unstaged is name = cases (same_name name from) refl
    where
      cases : (same : Bool) → same_name name from ≡ same →
          (if same then None else stood.staged name) ≡ None
      cases true same = refl
      cases false other = held.others name (λ some.
          let one : from ≡ name = cc (sym is ∙ some) in
          true≢false (sym (name-same name) ∙ (ap (same_name name) (sym one) ∙ other)))
  moved-step (writes name bytes) result unstaged is other = absurd unstaged
  moved-step (appends name piece) result unstaged is other = absurd unstaged
  moved-step call result unstaged is name = held.others name (none-other slot name is)

  -- so all is moved after it
  moves-all : (call : Call) (result : CallResult (CallAnswer call)) → IsNoStaging call →
      IsStageOf call slot → HasMovedAll (standing_step call result stood)
  moves-all call result unstaged is name = part-at (is_keeper stood.own)
      (is_keeper (own_step call result stood.own)) (staged_step call result stood.staged)
      stood.staged name (λ kept. moved-step call result unstaged is name)
      (λ unkept. held.unkept unkept name)

  -- bytes that are staged at a name, or not, leave the others as they were
  other-staged : (name other : Name) (content : Option Bytes) (staging : Bool) →
      Some name ≢ Some other → slot ≢ Some other →
      (if staging then staged_with name content stood.staged else stood.staged) other ≡ None
  other-staged name other content false apart free = held.others other free
  other-staged name other content true apart free = cases (same_name other name) refl
    where
      cases : (same : Bool) → same_name other name ≡ same →
          (if same then content else stood.staged other) ≡ None
      cases true same = absurd (apart (ap Some (sym (name-is other name same))))
      cases false differs = held.others other free

  -- a write
  write-other : (name : Name) (bytes : Bytes) (result : CallResult (Unit {0})) (other : Name) →
      Some name ≢ Some other → slot ≢ Some other →
      staged_step (writes name bytes) result stood.staged other ≡ None
  write-other name bytes (done answer) other apart free =
      other-staged name other (Some bytes) (is_staging name) apart free
  write-other name bytes (failed effect) other apart free = held.others other free
  write-other name bytes (died effect) other apart free = held.others other free

  -- an append
  append-other : (name : Name) (piece : Bytes) (result : CallResult (Unit {0})) (other : Name) →
      Some name ≢ Some other → slot ≢ Some other →
      staged_step (appends name piece) result stood.staged other ≡ None
  append-other name piece (done answer) other apart free =
      other-staged name other _ (is_staging name) apart free
  append-other name piece (failed effect) other apart free = held.others other free
  append-other name piece (died effect) other apart free = held.others other free

  -- both stage at their name alone
  writes-at : (name : Name) (bytes : Bytes) (result : CallResult (Unit {0})) → slot ≡ None →
      StagesAt (Some name) (standing_step (writes name bytes) result stood)
  writes-at name bytes result none = record {
    others = λ other apart. part-at (is_keeper stood.own) (is_keeper stood.own)
        (staged_step (writes name bytes) result stood.staged) stood.staged other
        (λ kept. write-other name bytes result other apart (none-other slot other none))
        (λ unkept. held.unkept unkept other);
    unkept = λ unkept other. part-at (is_keeper stood.own) (is_keeper stood.own)
        (staged_step (writes name bytes) result stood.staged) stood.staged other
        (λ kept. absurd (true≢false (sym kept ∙ unkept))) (λ same. held.unkept unkept other);
  }

  appends-at : (name : Name) (piece : Bytes) (result : CallResult (Unit {0})) →
      slot ≡ Some name → StagesAt (Some name) (standing_step (appends name piece) result stood)
  appends-at name piece result at = record {
    others = λ other apart. part-at (is_keeper stood.own) (is_keeper stood.own)
        (staged_step (appends name piece) result stood.staged) stood.staged other
        (λ kept. append-other name piece result other apart (λ some. apart (sym at ∙ some)))
        (λ unkept. held.unkept unkept other);
    unkept = λ unkept other. part-at (is_keeper stood.own) (is_keeper stood.own)
        (staged_step (appends name piece) result stood.staged) stood.staged other
        (λ kept. absurd (true≢false (sym kept ∙ unkept))) (λ same. held.unkept unkept other);
  }

-- where all is moved, nothing is staged at other names than one
moved-at : (slot : Option Name) (stood : Standing) → HasMovedAll stood → StagesAt slot stood
moved-at slot stood all =
    record { others = λ name other. all name; unkept = λ unkept. all }

-- a session that has moved all is in each state as it must be
moved-as : (state : State) (stood : Standing) → HasMovedAll stood → StagesAs state stood
moved-as (Answering answer) stood all = λ goes_on. all
moved-as state stood all = moved-at (staged_in state) stood all

-- one that has bytes staged at a name, in a state that has them there
staged-as : (state : State) (name : Name) (stood : Standing) → StagesAt (Some name) stood →
    HasStagedAt name state → StagesAs state stood
staged-as (Answering answer) name stood staged at = λ goes_on. absurd (goes_on at)
staged-as state name stood staged at =
    subst (λ (slot : Option Name). StagesAt slot stood) (sym at) staged

-- so each call of a state leads to the next one
step-as : (slot : Option Name) (call : Call) (result : CallResult (CallAnswer call)) (next : State)
    (stood : Standing) → StagesAt slot stood → IsStageOf call slot → StagesTo call next →
    StagesAs next (standing_step call result stood)
step-as slot (writes name bytes) result next stood held is at =
    staged-as next name _ (writes-at slot stood held name bytes result is) at
step-as slot (appends name piece) result next stood held is at =
    staged-as next name _ (appends-at slot stood held name piece result is) at
step-as slot call result next stood held is at =
    moved-as next _ (moves-all slot stood held call result tt is)

-- ---- What a call leads to

-- an answer to a fault of the folder, or to want of memory, is stopped, whatever the call was
pub stopped-stages : (tool : Tool) (stage : CommitStage) (fault : FolderFault) (state : State) →
    AnswersWith tool (cause_of_fault stage fault) state → (call : Call) → StagesTo call state
stopped-stages tool stage fault (Answering answer) told call = by-call call
  where
    stopped : IsStopped answer.outcome.cause
    stopped = elim (told-cause tool (cause_of_fault stage fault) answer told) [
      | inl is ↦ subst IsStopped (sym is) (fault-stopped stage fault)
      | inr is ↦ subst IsStopped (sym is) tt
    ]

    by-call : (one : Call) → StagesTo one (Answering answer)
    by-call (writes name bytes) = stopped
    by-call (appends name piece) = stopped
    by-call one = tt
stopped-stages tool stage fault state told call = absurd told

-- the first piece of a table, or a further one, is staged at its name
pub table-staged : (moving : Mover) (left : List NewTable) (next : NewTable) →
    moving.left ≡ left → slice_get left 0 ≡ Some next →
    HasStagedAt (Staged next.table) (Moving moving)
table-staged moving left next same is =
    ap (λ (tables : List NewTable). option_map (λ new. Staged new.table) (slice_get tables 0)) same
    ∙ ap (option_map (λ (new : NewTable). Staged new.table)) is

-- so is it at the name for this table, with a walker of which a piece is staged
pub walked-staged : (walker : Walker) (next : NewTable) → next_table walker ≡ Some next →
    (on : Walker) → has_staged on ≡ true → next_table on ≡ next_table walker →
    (name_of : NewTable → Name) →
    (if has_staged on then option_map name_of (next_table on) else None) ≡ Some (name_of next)
walked-staged walker next is_next on begun same name_of =
    ap (λ (one : Bool). if one then option_map name_of (next_table on) else None) begun
    ∙ ap (option_map name_of) (same ∙ is_next)

-- ---- The session

-- its standing after one more event of its own
own-step : (token : Token) (call : Call) (result : CallResult (CallAnswer call))
    (old new : History) → own_events token new
    ≡ record { token = token; call = call; result = result } ∷ own_events token old →
    standing token new ≡ standing_step call result (standing token old)
own-step token call result old new is =
    own-standing.same_standing token new
    ∙ (ap (standing token) is
    ∙ (one-step
    ∙ ap (standing_step call result) (sym (own-standing.same_standing token old))))
  where
    one-step : standing token
        (record { token = token; call = call; result = result } ∷ own_events token old)
        ≡ standing_step call result (standing token (own_events token old))
    one-step = rw ((bytes_eq-Decides token token).1 refl) refl

-- a session that found no memory has nothing to move
memory-as : (state : State) (stood : Standing) → FindsNoMemory state → StagesAs state stood
memory-as (Answering answer) stood none = λ goes_on. absurd (goes_on (stopped answer.outcome.cause none))
  where
    stopped : (cause : Cause) → IsMemory cause → IsStopped cause
    stopped (Memory stage) is = tt
    stopped cause is = absurd is
memory-as state stood none = absurd none

-- a turn of a session that doesn't answer
turned-as : (token : Token) (slot : Option Name) (call : Call) (next : State) (was past : Past) →
    OneMade was past token call (FindsNoMemory next) → IsStageOf call slot → StagesTo call next →
    StagesAt slot (standing token was.history) → StagesAs next (standing token past.history)
turned-as token slot call next was past (inl made) is at held =
    subst (StagesAs next) (sym (own-step token call made.0 was.history past.history made.1))
    (step-as slot call made.0 next (standing token was.history) held is at)
turned-as token slot call next was past (inr none) is at held =
    memory-as next (standing token past.history) none.0

-- each state has a call left
some-call : (state : State) → 0 < calls_left state
some-call (Looking looking) = omega arith
some-call state = omega arith

-- the first claim; no turn comes after the answer
pub staged-then : (runner : Runner) (old next : State) (was past : Past) (journal : List Entry) →
    CountsTo (Some past) journal runner old next →
    OneMade was past runner.token (state_call old) (FindsNoMemory next) →
    StagesTo (state_call old) next → StagesAs old (standing runner.token was.history) →
    StagesAs next (standing runner.token past.history)
staged-then runner (Answering answer) next was past journal counts made at held =
    let none = counts.calls in let some = some-call next in absurd (omega (arith, none, some))
staged-then runner old next was past journal counts made at held =
    turned-as runner.token (staged_in old) (state_call old) next was past made (stage-of old) at
    held

-- what all has moved has moved it after its answer
pub staged-last : (status : ℕ) (stood : Standing) → HasMovedAll stood →
    HasMovedAll (standing_step (answers status) (done tt) stood)
staged-last status stood all =
    moves-all None stood (moved-at None stood all) (answers status) (done tt) tt refl

-- with its begin a session has staged nothing
pub staged-first : (token : Token) (command : Command) (state : State) (history : History) →
    own_events token history
    ≡ record { token = token; call = begins command; result = done tt } ∷ [] →
    StagesAs state (standing token history)
staged-first token command state history only =
    moved-as state (standing token history)
    (subst HasMovedAll (sym (own-step token (begins command) (done tt) [] history only))
    (λ name. refl))
