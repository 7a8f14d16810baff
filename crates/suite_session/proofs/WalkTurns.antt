-- Claims: each call of a keeper that backs up, and of one that installs, leads to where its walk comes to
-- (`backs-turn`, `installs-turn`), or to the answer of its fault (`backs-ended`, `installs-ended`).
-- Way: what such a turn owes for its call and the state that it leads to (`StepsTo`) is found by what is
-- left of the walk (`Ahead`): its end, a piece of the table at its place, or a step with that.
use Rattle.std.proofs.Common.{◌≡◌, inl, inr, refl, sym, ap, subst, ◌∙◌, ◌<◌, ◌+◌, ℕ, Bool, true, false, if◌then◌else◌, Option, Some, Result, Ok, Err, arith}
use Rattle.std.specs.Prelude.{nat_lt, option_map, unwrap_or}
use Rattle.std.proofs.lemmas.Bool.{cases_lt}
use Rattle.account_model.specs.declared.tool.Tool.{Tool}
use Rattle.acct_outside.specs.declared.CommitStage.{CommitStage}
use Rattle.acct_outside.specs.declared.CommitStage.TheVariants.{Before, Committed}
use Rattle.acct_outside.specs.declared.FolderFault.TheVariants.{Failed}
use Rattle.acct_outside.specs.declared.Name.TheVariants.{BackupStage, Intent, IntentStage, Staged}
use Rattle.acct_outside.specs.declared.StageFault.{StageFault}
use Rattle.acct_outside.specs.Tokens.{Token}
use Rattle.acct_outside.specs.Calls.{Call, Answer, CallResult, removes, writes}
use Rattle.acct_outside.specs.Moment.{Moment}
use Rattle.intent_file.specs.Intent.{NewTable}
use Rattle.suite_rules.specs.Outcomes.{LeadsTo, after_commit, at_stage, before_commit, installs, stages}
use Rattle.suite_rules.specs.Standing.{Standing, standing_step}
use Rattle.suite_rules.specs.Steps.{TakesStep, own_command}
use Rattle.lock_steps.specs.States.{Kept}
use Rattle.commit_steps.specs.declared.walking.Walked.{Walked}
use Rattle.commit_steps.specs.declared.walking.Walked.TheVariants.{More, Done}
use Rattle.commit_steps.specs.NextCall.{backing_call, installing_call}
use Rattle.commit_steps.specs.Outcomes.{backs_up_more, installs_more}
use Rattle.commit_steps.specs.Stands.{BacksUp, HasCleared, HasStagedIntent, Installs}
use Rattle.commit_steps.specs.States.{Change, Stager, Walker, append_on, backup_pieces, begun_of, has_staged, install_pieces, intent_piece, next_table, step_on, steps_left}
use Rattle.commit_steps.specs.Walks.{BacksOn, HoldsWalked, InstallsOn, backed_on, installed_on, token_of, walked_on}
use Rattle.commit_steps.proofs.BackupLemmas.{backup-staged, backup-unstaged, moves_backup_of, stages_backup}
use Rattle.commit_steps.proofs.InstallLemmas.{install-staged, install-unstaged, step-unstaged}
use Rattle.commit_steps.proofs.InstallNextLemmas.{adds-on, installs-none, installs-some}
use Rattle.commit_steps.proofs.NextLemmas.{backs-none, backs-on, backs-some, no-table}
use Rattle.commit_steps.proofs.WalksLemmas.{walked-end, walked-more, walked-step}
use Rattle.suite_answers.specs.declared.answer.Answer.{Answer as FinalAnswer}
use Rattle.suite_answers.specs.declared.cause.Cause.{Cause}
use Rattle.suite_session.specs.declared.state.State.{State}
use Rattle.suite_session.specs.declared.state.State.TheVariants.{BackingUp, Committing, Installing, Unlocking}
use Rattle.suite_session.specs.Counts.{LeavesFewer}
use Rattle.suite_session.specs.Left.{appends_left, calls_left}
use Rattle.suite_session.specs.Locking.{cause_of_fault}
use Rattle.suite_session.specs.Looks.{LooksLess}
use Rattle.suite_session.specs.Moment.{At, Runs}
use Rattle.suite_session.specs.NextCall.{state_call}
use Rattle.suite_session.specs.Runner.{Runner}
use Rattle.suite_session.specs.Stands.{AnswersWith, IsOfChange, StagesTo, StandsAs, StandsChanging, StandsInstalling, TellsOutside, Turns}
use Rattle.suite_session.specs.Telling.{IsToTell}
use Rattle.suite_session.specs.Turning.{TakesTurn}
use Rattle.suite_session.proofs.CallsLemmas.{answers-append, answers-fewer, pieces_in}
use Rattle.suite_session.proofs.CommitCalls.{backed-calls, backed-more, backing-appends, cleared-calls, installed-calls, installed-more, installing-appends, intended-calls}
use Rattle.suite_session.proofs.CommittingTurns.{changes-to, clears, installs-to}
use Rattle.suite_session.proofs.DueTextLemmas.{backs-due, backs-more-due, installs-due, installs-more-due, intent-due}
use Rattle.suite_session.proofs.LeadsLemmas.{leads-on}
use Rattle.suite_session.proofs.LooksLemmas.{few-less}
use Rattle.suite_session.proofs.MeetingLemmas.{IsQuiet}
use Rattle.suite_session.proofs.StagingLemmas.{walked-staged}
use Rattle.suite_session.proofs.TurnLemmas.{goes-on, leads-faults, leads-turns}
use Rattle.suite_session.proofs.WalkingLemmas.{step-change, table-there}
use Rattle.suite_session.proofs.WritingLemmas.{IsTurnCall, is-to-change}
use Rattle.recovery.proofs.CarryLemmas.{some-staged}

-- ---- A turn with one call

-- What a turn from a state to another owes for its call, whatever that came to: it is a call of a turn, which
-- neither begins nor commits and shows nothing that a session meets; and it stages what the new state holds,
-- looks no more often and leaves fewer.
pub record StepsTo (Stood : Standing → Type 0) (old new : State) (call : Call) : Type 0 where
  pub of_turn : IsTurnCall Stood call
  pub quiet : (result : CallResult (Answer call)) (one : Standing) →
      own_command (standing_step call result one) ≡ own_command one
  pub shows_none : IsQuiet call
  pub stages : StagesTo call new
  pub looks : LooksLess old new
  pub fewer : LeavesFewer old new

-- so it is with the call and the state of which that is said by other names
steps-as : {S : Type 0} (Stood : Standing → Type 0) (old : State) (state_of : S → State)
    (call made : Call) (next on : S) → made ≡ call → on ≡ next →
    StepsTo Stood old (state_of next) call → StepsTo Stood old (state_of on) made
steps-as {S} Stood old state_of call made next on is_call is_next to =
    subst (λ (one : Call). StepsTo Stood old (state_of on) one) (sym is_call)
    (subst (λ (one : S). StepsTo Stood old (state_of one) call) (sym is_next) to)

-- a turn to an answer leaves fewer, where an append is left to whoever has a piece left
answers-less : (tool : Tool) (cause : Cause) (old state : State) → AnswersWith tool cause state →
    1 < calls_left old → (0 < pieces_in old → 0 < appends_left old) → LeavesFewer old state
answers-less tool cause old state told more append = elim (cases_lt 0 (pieces_in old)) [
  | inl some ↦ answers-append tool cause state told old more some (append some)
  | inr none ↦ answers-fewer tool cause state told old more (omega arith)
]

-- The turns of a state that has met nothing, by a step of its session's stage.
module _ (before now : Moment) (runner : Runner) (commit : CommitStage) (Held : Standing → Type 0)
    (stands : At before runner commit Held) (token : Token) (same : token ≡ runner.token)
    (old : State) (met_none : (met : Cause) → IsToTell old met → ⊥) {S : Type 0} (next : S)
    (Holds : S → Standing → Type 0) where
  -- what the step gives
  abbrev Takes : Result S StageFault → Type 0
  Takes result = TakesStep before now token (state_call old)
      (λ answer. LeadsTo next (at_stage commit) answer result) Holds own_command
      (at_stage commit Failed) result

  -- to the state that the step led to
  step-turns : (reached : S) (new : State) → Takes (Ok reached) →
      StepsTo (Runs runner commit Held) old new (state_call old) → StandsAs now runner new →
      (TellsOutside new → ⊥) → Turns before now runner old new
  step-turns reached new takes to stood quiet_state =
      leads-turns before now runner commit Held stands token same (state_call old) to.of_turn _
      to.quiet takes.call next (at_stage commit) reached takes.call.shown to.shows_none takes.lawful
      takes.faults.never_falls old new refl (λ met is. absurd (met_none met is)) stood quiet_state
      to.stages to.looks

  -- to the answer of its fault
  step-faults : (fault : StageFault) (new : State) → Takes (Err fault) →
      (after : State) → StepsTo (Runs runner commit Held) old after (state_call old) →
      AnswersWith runner.asked.request.tool (cause_of_fault fault.stage fault.fault) new →
      Turns before now runner old new
  step-faults fault new takes after to told =
      leads-faults before now runner commit Held stands token same (state_call old) to.of_turn _
      to.quiet takes.call next fault takes.call.shown takes.lawful takes.faults.never_falls old new
      refl (λ met is. absurd (met_none met is)) told
      (λ is. takes.faults.failed
      (let met : Err fault ≡ Err (at_stage commit Failed) = ap Err is in met))

-- ---- What is left of a walk

-- A walker with so many pieces left of the table at its place is at the end of its tables, or has one there:
-- a piece of it is left, or its next step is the write of the first piece or the move.
data Ahead (walker : Walker) (pieces : ℕ) : Type 0 where
  at_end : steps_left walker ≡ 0 → Ahead walker pieces
  at_piece : (next : NewTable) → next_table walker ≡ Some next → 0 < steps_left walker →
      0 < pieces → Ahead walker pieces
  at_step : (next : NewTable) → next_table walker ≡ Some next → 0 < steps_left walker →
      pieces ≡ 0 → (staged : Bool) → has_staged walker ≡ staged → Ahead walker pieces

ahead : (walker : Walker) (pieces : ℕ) → Ahead walker pieces
ahead walker pieces = elim (cases_lt 0 (steps_left walker)) [
  | inr none ↦ at_end (omega arith)
  | inl some ↦ elim (cases_lt 0 pieces) [
    | inl left ↦ at_piece (table-there walker some).0 (table-there walker some).1 some left
    | inr whole ↦ at_step (table-there walker some).0 (table-there walker some).1 some
        (omega arith) (has_staged walker) refl
  ]
]

-- nothing is left of a table where there is none
no-piece : (walker : Walker) (left : NewTable → ℕ) → steps_left walker ≡ 0 →
    unwrap_or (option_map left (next_table walker)) 0 ≡ 0
no-piece walker left none =
    ap (λ (found : Option NewTable). unwrap_or (option_map left found) 0) (no-table walker none)

-- a part that each step keeps, and the end, is kept
walked-keeps : {A B : Type 0} (walker : Walker) (pieces : ℕ) (end : A)
    (part : Walked Walker A → B) (was : B) → part (Done end) ≡ was →
    part (More (append_on walker)) ≡ was → part (More (step_on walker)) ≡ was →
    part (walked_on walker pieces end) ≡ was
walked-keeps walker pieces end part was ended appended stepped =
    by (nat_lt 0 (steps_left walker)) (nat_lt 0 pieces)
  where
    by : (some left : Bool) → part (if some
        then More (if left then append_on walker else step_on walker)
        else Done end) ≡ was
    by true true = appended
    by true false = stepped
    by false left = ended

-- ---- Backups

module _ (runner : Runner) (answer : FinalAnswer) (walker : Walker) where
  -- the state of a keeper that has come so far
  abbrev backed_state : Walked Walker Stager → State
  backed_state (More on) = BackingUp on answer
  backed_state (Done staged) = Committing staged answer

  -- the call of a keeper that backs up owes a turn
  backs-to : IsOfChange runner walker.change answer →
      StepsTo (Runs runner Before (BacksUp walker)) (BackingUp walker answer)
      (backed_state (backed_on walker)) (backing_call walker)
  backs-to of_change = by (ahead walker (backup_pieces walker))
    where
      By : Call → Walked Walker Stager → Type 0
      By call on = StepsTo (Runs runner Before (BacksUp walker)) (BackingUp walker answer)
          (backed_state on) call

      leads : (call : Call) (on : Walked Walker Stager) → backing_call walker ≡ call →
          backed_on walker ≡ on → By call on → By (backing_call walker) (backed_on walker)
      leads call on = steps-as (Runs runner Before (BacksUp walker)) (BackingUp walker answer)
          backed_state call (backing_call walker) on (backed_on walker)

      by : Ahead walker (backup_pieces walker) → By (backing_call walker) (backed_on walker)
      by (at_end none) = leads (writes IntentStage (intent_piece 0 walker.change))
          (Done (begun_of walker.change)) (backs-none walker none) (walked-end walker _ _ none)
          (record {
            of_turn = intent-due runner answer walker of_change none;
            quiet = λ result one. refl;
            shows_none = λ given one met shows. shows;
            stages = refl;
            looks = few-less (BackingUp walker answer) (Committing (begun_of walker.change) answer)
                tt refl;
            fewer = intended-calls walker answer none (no-piece walker _ none);
          })
      by (at_piece next is_next some left) = leads (backs_up_more walker next)
          (More (append_on walker))
          (backs-on walker next is_next left) (walked-more walker _ _ some left) (record {
            of_turn = backs-more-due runner answer walker next is_next of_change left;
            quiet = λ result one. refl;
            shows_none = λ given one met shows. shows;
            stages = walked-staged walker next is_next (append_on walker)
                (some-staged (walker.staged + 1) (omega arith)) refl (λ new. BackupStage);
            looks = few-less (BackingUp walker answer) (BackingUp (append_on walker) answer) tt
                refl;
            fewer = backed-more walker answer next is_next left;
          })
      by (at_step next is_next some whole true staged) = leads (moves_backup_of next)
          (More (step_on walker))
          (backs-some walker next is_next whole ∙ backup-staged walker next staged)
          (walked-step walker _ _ some whole) (record {
            of_turn = λ stood runs. is-to-change runner answer walker.change of_change walker.place
                next is_next stood (record {
                  holds = runs.holds.keeps.knows.inputs;
                  asked = runs.asked;
                  commits = runs.commits;
                });
            quiet = λ result one. refl;
            shows_none = λ given one met shows. shows;
            stages = tt;
            looks = few-less (BackingUp walker answer) (BackingUp (step_on walker) answer) tt refl;
            fewer = backed-calls walker answer next is_next some whole;
          })
      by (at_step next is_next some whole false unstaged) = leads (stages_backup walker next)
          (More (step_on walker))
          (backs-some walker next is_next whole ∙ backup-unstaged walker next unstaged)
          (walked-step walker _ _ some whole) (record {
            of_turn = backs-due runner answer walker next is_next of_change unstaged;
            quiet = λ result one. refl;
            shows_none = λ given one met shows. shows;
            stages = let first = step-unstaged walker unstaged in
                walked-staged walker next is_next (step_on walker) (ap has_staged first)
                (ap next_table first) (λ new. BackupStage);
            looks = few-less (BackingUp walker answer) (BackingUp (step_on walker) answer) tt refl;
            fewer = backed-calls walker answer next is_next some whole;
          })

  -- it tells of no fault
  backed-quiet : (reached : Walked Walker Stager) → TellsOutside (backed_state reached) → ⊥
  backed-quiet (More on) told = told
  backed-quiet (Done staged) told = told

  -- its change
  abbrev backed_change : Walked Walker Stager → Change
  backed_change (More on) = on.change
  backed_change (Done staged) = staged.change

  module _ (before now : Moment)
      (stood : StandsChanging before runner walker.change (BacksUp walker) answer) where
    -- it stands so
    backed-stands : (reached : Walked Walker Stager) → backed_change reached ≡ walker.change →
        At now runner Before (HoldsWalked BacksUp HasStagedIntent reached) →
        StandsAs now runner (backed_state reached)
    backed-stands (More on) same stands =
        changes-to before now runner answer walker.change (BacksUp walker) stood on.change
        (BacksUp on) same stands
    backed-stands (Done staged) same stands =
        changes-to before now runner answer walker.change (BacksUp walker) stood staged.change
        (HasStagedIntent staged) same stands

    -- a turn that leads on
    pub backs-turn : (reached : Walked Walker Stager) → BacksOn walker before now (Ok reached) →
        TakesTurn before now runner (BackingUp walker answer) (backed_state reached)
    backs-turn reached takes =
        let is = leads-on (backed_on walker) before_commit takes.call.answer reached
        takes.call.shown in
        let to = subst (λ (one : Walked Walker Stager).
        StepsTo (Runs runner Before (BacksUp walker)) (BackingUp walker answer) (backed_state one) (backing_call walker)) (sym is)
        (backs-to stood.of_change) in
        let same = ap backed_change is ∙ walked-keeps walker (backup_pieces walker)
        (begun_of walker.change) backed_change walker.change refl refl (step-change walker) in
        record {
          turns = step-turns before now runner Before (BacksUp walker) stood.stands
              (token_of walker) stood.same (BackingUp walker answer) (λ met none. none) (backed_on walker)
              (HoldsWalked BacksUp HasStagedIntent) reached (backed_state reached) takes to
              (backed-stands reached same (goes-on before now runner Before (BacksUp walker)
              stood.stands (token_of walker) stood.same (backing_call walker) to.of_turn _ to.quiet
              takes.call (HoldsWalked BacksUp HasStagedIntent reached) takes.next))
              (backed-quiet reached);
          counts = to.fewer;
        }

    -- and one that comes to a fault
    pub backs-ended : (fault : StageFault) (state : State) → BacksOn walker before now (Err fault) →
        AnswersWith runner.asked.request.tool (cause_of_fault fault.stage fault.fault) state →
        TakesTurn before now runner (BackingUp walker answer) state
    backs-ended fault state takes told = record {
      turns = step-faults before now runner Before (BacksUp walker) stood.stands (token_of walker)
          stood.same (BackingUp walker answer) (λ met none. none) (backed_on walker)
          (HoldsWalked BacksUp HasStagedIntent) fault state takes (backed_state (backed_on walker))
          (backs-to stood.of_change) told;
      counts = answers-less runner.asked.request.tool (cause_of_fault fault.stage fault.fault)
          (BackingUp walker answer) state told (omega arith) (backing-appends walker answer);
    }

-- ---- Installations

module _ (runner : Runner) (answer : FinalAnswer) (walker : Walker) where
  -- the state of a keeper that has come so far
  abbrev installed_state : Walked Walker Kept → State
  installed_state (More on) = Installing on answer
  installed_state (Done kept) = Unlocking kept answer

  -- the call of a keeper that installs owes a turn
  installs-on : StepsTo (Runs runner Committed (Installs walker)) (Installing walker answer)
      (installed_state (installed_on walker)) (installing_call walker)
  installs-on = by (ahead walker (install_pieces walker))
    where
      By : Call → Walked Walker Kept → Type 0
      By call on = StepsTo (Runs runner Committed (Installs walker)) (Installing walker answer)
          (installed_state on) call

      leads : (call : Call) (on : Walked Walker Kept) → installing_call walker ≡ call →
          installed_on walker ≡ on → By call on → By (installing_call walker) (installed_on walker)
      leads call on = steps-as (Runs runner Committed (Installs walker)) (Installing walker answer)
          installed_state call (installing_call walker) on (installed_on walker)

      by : Ahead walker (install_pieces walker) → By (installing_call walker) (installed_on walker)
      by (at_end none) = leads (removes Intent) (Done walker.change.inputs.keeper)
          (installs-none walker none) (walked-end walker _ _ none) (record {
            of_turn = tt;
            quiet = λ result one. refl;
            shows_none = λ given one met shows. shows;
            stages = tt;
            looks = few-less (Installing walker answer)
                (Unlocking walker.change.inputs.keeper answer) tt refl;
            fewer = cleared-calls walker answer (no-piece walker _ none) none;
          })
      by (at_piece next is_next some left) = leads (installs_more walker next)
          (More (append_on walker))
          (adds-on walker next is_next left) (walked-more walker _ _ some left) (record {
            of_turn = installs-more-due runner walker next is_next left;
            quiet = λ result one. refl;
            shows_none = λ given one met shows. shows;
            stages = walked-staged walker next is_next (append_on walker)
                (some-staged (walker.staged + 1) (omega arith)) refl (λ new. Staged new.table);
            looks = few-less (Installing walker answer) (Installing (append_on walker) answer) tt
                refl;
            fewer = installed-more walker answer next is_next left;
          })
      by (at_step next is_next some whole true staged) = leads (installs next)
          (More (step_on walker))
          (installs-some walker next is_next whole ∙ install-staged walker next staged)
          (walked-step walker _ _ some whole) (record {
            of_turn = tt;
            quiet = λ result one. refl;
            shows_none = λ given one met shows. shows;
            stages = tt;
            looks = few-less (Installing walker answer) (Installing (step_on walker) answer) tt
                refl;
            fewer = installed-calls walker answer next is_next some whole;
          })
      by (at_step next is_next some whole false unstaged) = leads (stages next)
          (More (step_on walker))
          (installs-some walker next is_next whole ∙ install-unstaged walker next unstaged)
          (walked-step walker _ _ some whole) (record {
            of_turn = installs-due runner walker next is_next;
            quiet = λ result one. refl;
            shows_none = λ given one met shows. shows;
            stages = let first = step-unstaged walker unstaged in
                walked-staged walker next is_next (step_on walker) (ap has_staged first)
                (ap next_table first) (λ new. Staged new.table);
            looks = few-less (Installing walker answer) (Installing (step_on walker) answer) tt
                refl;
            fewer = installed-calls walker answer next is_next some whole;
          })

  -- it tells of no fault
  installed-quiet : (reached : Walked Walker Kept) → TellsOutside (installed_state reached) → ⊥
  installed-quiet (More on) told = told
  installed-quiet (Done kept) told = told

  -- its keeper
  abbrev installed_keeper : Walked Walker Kept → Kept
  installed_keeper (More on) = on.change.inputs.keeper
  installed_keeper (Done kept) = kept

  module _ (before now : Moment) (stood : StandsInstalling before runner walker answer) where
    -- it stands so
    installed-stands : (reached : Walked Walker Kept) → InstallsOn walker before now (Ok reached) →
        installed_keeper reached ≡ walker.change.inputs.keeper →
        StandsAs now runner (installed_state reached)
    installed-stands (More on) takes same =
        installs-to before now runner answer walker stood (installing_call walker)
        installs-on.of_turn _ installs-on.quiet takes.call on same takes.next
    installed-stands (Done kept) takes same =
        clears before now runner answer walker stood (installing_call walker)
        installs-on.of_turn _ installs-on.quiet takes.call kept same takes.next

    -- a turn that leads on
    pub installs-turn : (reached : Walked Walker Kept) →
        InstallsOn walker before now (Ok reached) →
        TakesTurn before now runner (Installing walker answer) (installed_state reached)
    installs-turn reached takes =
        let is = leads-on (installed_on walker) after_commit takes.call.answer reached
        takes.call.shown in
        let to = subst (λ (one : Walked Walker Kept).
        StepsTo (Runs runner Committed (Installs walker)) (Installing walker answer)
        (installed_state one) (installing_call walker)) (sym is) installs-on in
        let same = ap installed_keeper is ∙ walked-keeps walker (install_pieces walker)
        walker.change.inputs.keeper installed_keeper walker.change.inputs.keeper refl refl
        (ap (λ (one : Change). one.inputs.keeper) (step-change walker)) in
        record {
          turns = step-turns before now runner Committed (Installs walker) stood.stands
              (token_of walker) stood.same (Installing walker answer) (λ met none. none)
              (installed_on walker) (HoldsWalked Installs HasCleared) reached
              (installed_state reached) takes to (installed-stands reached takes same)
              (installed-quiet reached);
          counts = to.fewer;
        }

    -- and one that comes to a fault
    pub installs-ended : (fault : StageFault) (state : State) →
        InstallsOn walker before now (Err fault) →
        AnswersWith runner.asked.request.tool (cause_of_fault fault.stage fault.fault) state →
        TakesTurn before now runner (Installing walker answer) state
    installs-ended fault state takes told = record {
      turns = step-faults before now runner Committed (Installs walker) stood.stands
          (token_of walker) stood.same (Installing walker answer) (λ met none. none)
          (installed_on walker) (HoldsWalked Installs HasCleared) fault state takes
          (installed_state (installed_on walker)) installs-on told;
      counts = answers-less runner.asked.request.tool (cause_of_fault fault.stage fault.fault)
          (Installing walker answer) state told (omega arith) (installing-appends walker answer);
    }
