-- Claim: what is settled is the fold of the committed list (`lawful-settles`). Way: an induction over
-- the history of the facts of the files (`FileFacts`). An event's own session keeps its view by its
-- step, and another keeper's view stays, since one running session is keeper; a committed session was
-- keeper of its number, so that a later keeper's number is greater (`above-committed`).
use Rattle.std.proofs.Common.{◌≡◌, ◌≢◌, refl, sym, ap, subst, ◌∙◌, ◌⊎◌, inl, inr, ℕ, ◌<◌, ◌≤◌, Bool, true, false, ◌==◌, List, [], ◌∷◌, ◌++◌, Option, Some, append-nil, arith}
use Rattle.std.specs.List.{AllByRecursion}
use Rattle.acct_text.specs.declared.Tab.{Tab}
use Rattle.acct_text.specs.Bytes.{Bytes}
use Rattle.acct_text.specs.Contents.{Contents}
use Rattle.acct_outside.specs.declared.Name.TheVariants.{Table, Backup, Intent, IntentStage, Defs}
use Rattle.acct_outside.specs.Names.{is_staging}
use Rattle.acct_outside.specs.Tokens.{Token}
use Rattle.acct_outside.specs.Folder.{Folder, settings_file}
use Rattle.acct_outside.specs.Calls.{Command, Call, Answer, CallResult, begins, renames, done, failed, died, effect_of, changed_by}
use Rattle.acct_outside.specs.History.{Event, History, after}
use Rattle.acct_outside.specs.Life.{Life, unbegun, running, life, runs_in}
use Rattle.acct_outside.specs.Gives.{GivesResult}
use Rattle.acct_outside.specs.declared.CommitStage.{CommitStage}
use Rattle.acct_outside.specs.declared.CommitStage.TheVariants.{Before, Unsure, Committed}
use Rattle.suite_rules.specs.Deeds.{SuiteDeeds}
use Rattle.suite_rules.specs.OwnLock.{OwnLock, lock_uncalled, lock_kept, is_keeper, own_step}
use Rattle.suite_rules.specs.Knowledge.{Seen, knows_step}
use Rattle.suite_rules.specs.Standing.{Standing, calls_commit, commit_step, standing, staged_step}
use Rattle.suite_rules.specs.Rules.{KeeperRule, moves_free, Permits, commit_rule, move_rule, KeepsRules}
use Rattle.suite_rules.specs.Lawful.{KeepsRulesOrNone, IsNext, Lawful, goes_on}
use Rattle.suite_rules.specs.Settled.{settled}
use Rattle.suite_rules.specs.Committed.{Commitment, Rises, commits, committed, place, fold_deeds, folded}
use Rattle.suite_rules.specs.Backups.{before_last_change, last_backup, AreBackups}
use Rattle.suite_rules.specs.Invariant.{KnownStands, NoneStands, KeeperView, RunsAsKeeper, IsActiveKeeper}
use Rattle.suite_rules.specs.Laws.{IsCleanKeeper, LawfulSettles}
use Rattle.suite_rules.proofs.Numbers.{number-is, number-differs}
use Rattle.suite_rules.proofs.Names.{fails-apart}
use Rattle.suite_rules.proofs.Sessions.{token-cases, each, own-life, own-standing, other-life, other-standing, IsDone, is_done, active-before, fresh}
use Rattle.suite_rules.proofs.Effects.{SameFiles, files-same, gives-effect}
use Rattle.suite_rules.proofs.LockFacts.{moment, LockFacts, top-bound}
use Rattle.suite_rules.proofs.Keepers.{active-runs, EverKept, ever-kept, lock-facts, alone, ever-made, ever-once}
use Rattle.suite_rules.proofs.ViewSteps.{view-same}
use Rattle.suite_rules.proofs.FileSteps.{FileEffect, files_stay, file_written, intent_committed, table_installed, table_backed_up, intent_cleared, lock_given_back, file-effect, view-step, view-part}
use Rattle.suite_rules.proofs.SettledSteps.{Ground, committing, settled-none, settled-step, backup-step}
use Rattle.suite_rules.proofs.Commitments.{each-append, each-follows, rises-append, fold-append, before-append, place-below}

-- A committed command's session was keeper of its number, and has called its commit.
pub record Committer (history : History) (one : Commitment) : Type 0 where
  pub kept : EverKept one.token one.number history
  pub called : (standing one.token history).commit ≢ Before

-- the facts of the files at one moment
pub record FileFacts (deeds : SuiteDeeds) (first : Folder) (history : History) : Type 0 where
  pub view : (token : Token) (number : ℕ) → IsActiveKeeper history token number →
      KeeperView (after first history) (standing token history).knows
      (standing token history).staged
  pub committers : AllByRecursion (Committer history) (committed history)
  pub rises : Rises (committed history)
  pub settings : (after first history).file Defs ≡ settings_file first
  pub is_fold : (table : Tab) →
      settled (after first history) table ≡ folded deeds first (committed history) table
  pub backups : AreBackups deeds first history

-- a keeper has a number
pub keeper-number : (own : OwnLock) → is_keeper own ≡ true → (number : ℕ) × (own ≡ lock_kept number)
keeper-number (lock_kept number) is = (number, refl)
keeper-number _ is = absurd (cc)

-- a done event keeps the rules
pub done-keeps : (deeds : SuiteDeeds) (history : History) (token : Token) (call : Call)
    (answer : Answer call) → KeepsRulesOrNone deeds history token call (done answer) →
    KeepsRules deeds (life token history) (standing token history) call
done-keeps deeds history token (begins command) answer keeps = keeps
done-keeps deeds history token _ answer keeps = keeps

-- what an event did to the files, also a begin that gave no token
pub effect-of : (deeds : SuiteDeeds) (history : History) (token : Token) (folder : Folder)
    (call : Call) (result : CallResult (Answer call)) →
    KeepsRulesOrNone deeds history token call result →
    GivesResult folder history token call result →
    FileEffect deeds token folder (changed_by token call (effect_of call result) folder)
    (life token history) (standing token history)
    (commits token call (effect_of call result) (standing token history))
effect-of deeds history token folder (begins command) result keeps gives =
    files_stay (files-same folder)
effect-of deeds history token folder call result keeps gives =
    file-effect deeds token folder (life token history) (standing token history) call
    (effect_of call result) keeps (gives-effect folder history token call result gives)

-- the view of a keeper after an event of its own that was done
done-view : (deeds : SuiteDeeds) (history : History) (token : Token) (folder : Folder) (call : Call)
    (result : CallResult (Answer call)) → IsDone result →
    KeepsRulesOrNone deeds history token call result →
    GivesResult folder history token call result →
    KeeperView folder (standing token history).knows (standing token history).staged →
    KeeperView (changed_by token call (effect_of call result) folder)
    (knows_step (standing token history).staged call result (standing token history).knows)
    (staged_step call result (standing token history).staged)
done-view deeds history token folder call _ (is_done answer) keeps gives view =
    view-step deeds history token folder (standing token history) call answer
    (done-keeps deeds history token call answer keeps).permitted gives view

-- a session that hasn't called its commit hadn't called it before
pub uncalled-before : (call : Call) (result : CallResult (Answer call)) (commit : CommitStage) →
    commit_step call result commit ≡ Before → commit ≡ Before
uncalled-before (renames IntentStage Intent) (done answer) commit is = absurd (cc)
uncalled-before (renames IntentStage Intent) (failed effect) Before is = refl
uncalled-before (renames IntentStage Intent) (failed effect) Unsure is = absurd (cc)
uncalled-before (renames IntentStage Intent) (failed effect) Committed is = absurd (cc)
uncalled-before (renames IntentStage Intent) (died effect) Before is = refl
uncalled-before (renames IntentStage Intent) (died effect) Unsure is = absurd (cc)
uncalled-before (renames IntentStage Intent) (died effect) Committed is = absurd (cc)
uncalled-before _ result commit is = is

-- a called commit isn't uncalled
called-is : (commit : CommitStage) → calls_commit commit ≢ Before
called-is Committed is = cc
called-is _ is = cc

-- a commit is called by its call, whatever its result
commit-called : (result : CallResult (Unit {0})) (commit : CommitStage) →
    commit_step (renames IntentStage Intent) result commit ≢ Before
commit-called (done answer) commit is = cc
commit-called (failed effect) commit is = called-is commit is
commit-called (died effect) commit is = called-is commit is

-- a permitted call commits nothing, or calls the commit
permitted-commits : (deeds : SuiteDeeds) (token : Token) (standing : Standing) (call : Call)
    (result : CallResult (Answer call)) → Permits deeds standing call →
    (commits token call (effect_of call result) standing ≡ [])
    ⊎ (commit_step call result standing.commit ≢ Before)
permitted-commits deeds token standing _ result (commit_rule keeper rule) =
    inr (commit-called result standing.commit)
permitted-commits deeds token standing _ result (move_rule _ _ keeper (moves_free staged)) =
    inl refl
permitted-commits deeds token standing call result rule = inl refl

-- so does each event
event-commits : (deeds : SuiteDeeds) (history : History) (token : Token) (call : Call)
    (result : CallResult (Answer call)) → KeepsRulesOrNone deeds history token call result →
    (commits token call (effect_of call result) (standing token history) ≡ [])
    ⊎ (commit_step call result (standing token history).commit ≢ Before)
event-commits deeds history token (begins command) result keeps = inl refl
event-commits deeds history token call result keeps =
    permitted-commits deeds token (standing token history) call result keeps.permitted

module _ (deeds : SuiteDeeds) (token : Token) (before after : Folder) (life : Life)
    (standing : Standing) where
  -- only an active keeper changes files
  pub effect-others : (list : List Commitment) →
      FileEffect deeds token before after life standing list →
      SameFiles before after ⊎ (KeeperRule standing × (life ≡ running))
  effect-others _ (files_stay same) = inl same
  effect-others _ (file_written name is keeper runs same) = inr (keeper, runs)
  effect-others _ (intent_committed keeper rule runs now) = inr (keeper, runs)
  effect-others _ (table_installed table keeper rule runs now) = inr (keeper, runs)
  effect-others _ (table_backed_up table keeper rule runs now) = inr (keeper, runs)
  effect-others _ (intent_cleared keeper rule runs none same) = inr (keeper, runs)
  effect-others _ (lock_given_back keeper runs same) = inr (keeper, runs)

  -- login.defs stays
  settings-same : (list : List Commitment) →
      FileEffect deeds token before after life standing list → after.file Defs ≡ before.file Defs
  settings-same _ (files_stay same) = same Defs refl
  settings-same _ (file_written name is keeper runs same) =
      same Defs refl (fails-apart is_staging Defs name refl is)
  settings-same _ (intent_committed keeper rule runs now) = now.others Defs refl refl refl
  settings-same _ (table_installed table keeper rule runs now) = now.others Defs refl refl refl
  settings-same _ (table_backed_up table keeper rule runs now) = now.others Defs refl refl refl
  settings-same _ (intent_cleared keeper rule runs none same) = same Defs refl refl
  settings-same _ (lock_given_back keeper runs same) = same Defs refl refl

-- a running keeper that hasn't called its commit has a greater number than all committed commands
pub above-committed : (deeds : SuiteDeeds) (first : Folder) (history : History) →
    Lawful deeds first history → (token : Token) (number : ℕ) →
    RunsAsKeeper history token number →
    (standing token history).commit ≡ Before →
    AllByRecursion (Committer history) (committed history) →
    AllByRecursion (λ one. one.number < number) (committed history)
above-committed deeds first history lawful token number keeper uncalled =
    each-follows (Committer history) (λ one. one.number < number) (committed history) below
  where
    facts : LockFacts (moment first history)
    facts = lock-facts deeds first history lawful

    below : (one : Commitment) → Committer history one → one.number < number
    below one committer = cases (one.number == number) refl (token-cases one.token token)
      where
        most : one.number ≤ number
        most =
            let made = ever-made deeds first history lawful one.token one.number committer.kept in
            let least = (facts.made_most one.token one.number made).1 in
            let is = facts.keeper_top token number keeper.runs keeper.keeps in
            omega arith

        cases : (same : Bool) → (one.number == number) ≡ same →
            (one.token ≡ token) ⊎ (one.token ≢ token) → one.number < number
        cases false differs whose =
            let other = number-differs one.number number differs in omega (arith, most)
        cases true same (inl own) = absurd (committer.called
            (ap (λ (asked : Token). (standing asked history).commit) own ∙ uncalled))
        cases true same (inr other) = absurd (ever-once deeds first history lawful one.token token
            number other
            (subst (λ (made : ℕ). EverKept one.token made history)
            (number-is one.number number same) committer.kept)
            (ever-kept token number [] history keeper.keeps))

-- The facts go on with the next event.
module _ (deeds : SuiteDeeds) (first : Folder) (event : Event) (history : History)
    (lawful : Lawful deeds first history) (next : IsNext deeds first history event)
    (facts : FileFacts deeds first history) where
  -- the commands that the event commits
  abbrev pub newly : List Commitment
  newly = commits event.token event.call (effect_of event.call event.result)
      (standing event.token history)

  -- the commitment of the event's session
  abbrev own-commitment : ℕ → Command → Commitment
  own-commitment number command =
      record { token = event.token; number = number; command = command }

  -- what the event did
  effect : FileEffect deeds event.token (after first history) (after first (event ∷ history))
      (life event.token history) (standing event.token history) newly
  effect = effect-of deeds history event.token (after first history) event.call event.result
      next.keeps next.gives

  -- what its step rests on
  ground : Ground (after first history) (life event.token history) (standing event.token history)
      (settings_file first)
  ground = record {
    view = λ runs keeper. facts.view event.token keeper.number
        (record { runs = runs; keeps = keeper.keeps });
    bounds = λ number made.
        let locks = lock-facts deeds first history lawful in
        let most = locks.made_most event.token number made in
        let bound = top-bound (after first history) locks.is_folder in
        (most.0, (let least = most.1 in omega arith));
    settings = facts.settings;
  }

  -- the event's session is keeper after it: so it was before and has its view, or it has begun anew
  own-view : (number : ℕ) → IsActiveKeeper (event ∷ history) event.token number →
      KeeperView (after first (event ∷ history)) (standing event.token (event ∷ history)).knows
      (standing event.token (event ∷ history)).staged
  own-view number active =
      rw (own-standing event history)
      (view-part (after first (event ∷ history)) (standing event.token history).own
      (own_step event.call event.result (standing event.token history).own)
      _ _ _ _ (ap is_keeper keeps) (λ was. cases (keeper-number
      (standing event.token history).own was)
      (active-before event.call event.result (life event.token history)
      (sym (own-life event history) ∙ active.runs))))
    where
      keeps : own_step event.call event.result (standing event.token history).own
          ≡ lock_kept number
      keeps = sym (ap (λ (one : Standing). one.own) (own-standing event history)) ∙ active.keeps

      cases : (kept : ℕ) × ((standing event.token history).own ≡ lock_kept kept) →
          ((life event.token history ≡ running) × IsDone event.result)
          ⊎ (life event.token history ≡ unbegun) →
          KeeperView (after first (event ∷ history))
          (knows_step (standing event.token history).staged event.call event.result
          (standing event.token history).knows)
          (staged_step event.call event.result (standing event.token history).staged)
      cases kept (inl ran) =
          done-view deeds history event.token (after first history) event.call event.result ran.1
          next.keeps next.gives (facts.view event.token kept.0
          (record { runs = ran.0; keeps = kept.1 }))
      cases kept (inr none) =
          let same : lock_uncalled ≡ lock_kept kept.0 =
          sym (fresh deeds first history lawful event.token none) ∙ kept.1 in
          absurd (cc)

  -- another keeper's view stays
  other-view : (other : Token) → other ≢ event.token → (number : ℕ) →
      IsActiveKeeper (event ∷ history) other number →
      KeeperView (after first (event ∷ history)) (standing other (event ∷ history)).knows
      (standing other (event ∷ history)).staged
  other-view other differs number active =
      rw (other-standing event history other differs)
      (view-same (after first history) (after first (event ∷ history)) same-files
      (standing other history).knows (standing other history).staged
      (facts.view other number before))
    where
      before : IsActiveKeeper history other number
      before = record {
        runs = sym (other-life event history other differs) ∙ active.runs;
        keeps = sym (ap (λ (one : Standing). one.own) (other-standing event history other differs))
            ∙ active.keeps;
      }

      same-files : SameFiles (after first history) (after first (event ∷ history))
      same-files =
          elim (effect-others deeds event.token (after first history)
          (after first (event ∷ history)) (life event.token history)
          (standing event.token history) newly effect) [
            | inl same ↦ same
            | inr keeper ↦ absurd (differs (alone deeds first history lawful other event.token
                number keeper.0.number
                (record { runs = ap runs_in before.runs; keeps = before.keeps })
                (record { runs = ap runs_in keeper.1; keeps = keeper.0.keeps })))
          ]

  -- who has called its commit has called it
  called-stays : (token : Token) → (standing token history).commit ≢ Before →
      (standing token (event ∷ history)).commit ≢ Before
  called-stays = each (λ token. (standing token history).commit ≢ Before →
      (standing token (event ∷ history)).commit ≢ Before) event.token
      (λ called now. called (uncalled-before event.call event.result
      (standing event.token history).commit
      (sym (ap (λ (one : Standing). one.commit) (own-standing event history)) ∙ now)))
      (λ other differs called now. called
      (sym (ap (λ (one : Standing). one.commit) (other-standing event history other differs))
      ∙ now))

  -- what a commit adds is the commitment of an active keeper
  pub new-facts : (P : List Commitment → Type 0) → P [] →
      ((keeper : KeeperRule (standing event.token history)) (command : Command) →
      IsActiveKeeper history event.token keeper.number →
      (standing event.token history).commit ≡ Before →
      newly ≡ own-commitment keeper.number command ∷ [] →
      P (own-commitment keeper.number command ∷ [])) →
      P newly
  new-facts P none some = cases newly refl effect
    where
      cases : (list : List Commitment) → newly ≡ list →
          FileEffect deeds event.token (after first history) (after first (event ∷ history))
          (life event.token history) (standing event.token history) list → P list
      cases _ is (intent_committed keeper rule runs now) =
          let commit = committing deeds event.token (after first history)
          (after first (event ∷ history)) (life event.token history)
          (standing event.token history) (settings_file first) ground keeper rule runs now in
          subst P (sym commit.one)
          (some keeper rule.has_seen.command (record { runs = runs; keeps = keeper.keeps })
          rule.first (is ∙ commit.one))
      cases _ is other = none

  -- the event's session has called its commit where the event committed one
  newly-called : (one : Commitment) → newly ≡ one ∷ [] →
      (standing event.token (event ∷ history)).commit ≢ Before
  newly-called one is now =
      elim (event-commits deeds history event.token event.call event.result next.keeps) [
        | inl none ↦ (let differ : [] ≡ one ∷ [] = sym none ∙ is in cc)
        | inr called ↦ called
            (sym (ap (λ (one : Standing). one.commit) (own-standing event history)) ∙ now)
      ]

  -- the committed sessions were keepers, and called their commits
  new-committers : AllByRecursion (Committer (event ∷ history)) newly
  new-committers = new-facts (AllByRecursion (Committer (event ∷ history))) tt
      (λ keeper command active uncalled is. (
        record {
          kept = inr (ever-kept event.token keeper.number [] history active.keeps);
          called = newly-called (own-commitment keeper.number command) is;
        },
        tt,
      ))

  -- the numbers rise
  new-rises : Rises (committed history ++ newly)
  new-rises = new-facts (λ list. Rises (committed history ++ list))
      (rw (append-nil (committed history)) facts.rises)
      (λ keeper command active uncalled is.
      rises-append (committed history) (own-commitment keeper.number command) facts.rises
      (above-committed deeds first history lawful event.token keeper.number (active-runs active)
      uncalled facts.committers))

  -- the settled files were the fold
  fold-now : settled (after first history) ≡ folded deeds first (committed history)
  fold-now = λ i table. facts.is_fold table i

  -- the settled files are the fold
  new-fold : (table : Tab) → settled (after first (event ∷ history)) table
      ≡ folded deeds first (committed history ++ newly) table
  new-fold table =
      settled-step deeds event.token (after first history) (after first (event ∷ history))
      (life event.token history) (standing event.token history) (settings_file first) ground
      newly effect table
      ∙ (ap (λ (files : Contents). fold_deeds deeds (settings_file first) files newly table)
      fold-now
      ∙ sym (ap (λ (files : Contents). files table)
      (fold-append deeds (settings_file first) (settled first) (committed history) newly)))

  -- the backups are kept
  new-backups : AreBackups deeds first (event ∷ history)
  new-backups table =
      subst (λ (held : Option Bytes).
      ((after first (event ∷ history)).file (Backup table) ≡ held)
      ⊎ ((after first (event ∷ history)).file (Backup table)
      ≡ settled (after first (event ∷ history)) table))
      (ap (λ (files : Contents). before_last_change deeds (settings_file first) table
      (last_backup deeds first table (committed history)) files newly) fold-now
      ∙ sym (before-append deeds (settings_file first) table (first.file (Backup table))
      (settled first) (committed history) newly))
      (backup-step deeds event.token (after first history) (after first (event ∷ history))
      (life event.token history) (standing event.token history) (settings_file first) ground
      newly effect table (last_backup deeds first table (committed history))
      (facts.backups table))

  -- the facts after the event
  next-facts : FileFacts deeds first (event ∷ history)
  next-facts = record {
    view = each (λ token. (number : ℕ) → IsActiveKeeper (event ∷ history) token number →
        KeeperView (after first (event ∷ history)) (standing token (event ∷ history)).knows
        (standing token (event ∷ history)).staged) event.token own-view other-view;
    committers = each-append (Committer (event ∷ history)) (committed history) newly
        (each-follows (Committer history) (Committer (event ∷ history)) (committed history)
        (λ one committer. record {
          kept = inr committer.kept;
          called = called-stays one.token committer.called;
        }) facts.committers)
        new-committers;
    rises = new-rises;
    settings = settings-same deeds event.token (after first history) (after first (event ∷ history))
        (life event.token history) (standing event.token history) newly effect ∙ facts.settings;
    is_fold = new-fold;
    backups = new-backups;
  }

-- the facts of the files hold in every lawful history
pub file-facts : (deeds : SuiteDeeds) (first : Folder) (history : History) →
    Lawful deeds first history → FileFacts deeds first history
file-facts deeds first [] lawful = record {
  view = λ token number active. absurd (none active.keeps);
  committers = tt;
  rises = tt;
  settings = refl;
  is_fold = λ table. refl;
  backups = λ table. inl refl;
}
  where
    none : {number : ℕ} → lock_uncalled ≡ lock_kept number → ⊥
    none is = cc
file-facts deeds first (event ∷ history) (goes_on _ _ lawful next) =
    next-facts deeds first event history lawful next (file-facts deeds first history lawful)

-- what a clean keeper has seen of a table is settled, and the fold of its place
pub has-seen : (deeds : SuiteDeeds) (first : Folder) (history : History) →
    Lawful deeds first history →
    (token : Token) (number : ℕ) (seen : Seen) → IsCleanKeeper history token number seen →
    (table : Tab) (content : Option Bytes) → seen.file (Table table) ≡ Some content →
    (content ≡ settled (after first history) table)
    × (content ≡ folded deeds first (place number (committed history)) table)
has-seen deeds first history lawful token number seen keeper table content is = (
  settles,
  settles ∙ (facts.is_fold table
      ∙ sym (ap (λ (list : List Commitment). folded deeds first list table) at-place)),
)
  where
    facts : FileFacts deeds first history
    facts = file-facts deeds first history lawful

    none : NoneStands (after first history) seen
    none = subst (KnownStands (after first history)) keeper.clean
        (facts.view token number keeper.active).known

    settles : content ≡ settled (after first history) table
    settles = sym (none.inputs (Table table) content refl is)
        ∙ sym (settled-none (after first history) table none.intent)

    at-place : place number (committed history) ≡ committed history
    at-place = place-below number (committed history)
        (above-committed deeds first history lawful token number (active-runs keeper.active)
        keeper.uncommitted facts.committers)

-- the law
pub lawful-settles : LawfulSettles
lawful-settles = record {
  is_fold = λ deeds first history lawful. (file-facts deeds first history lawful).is_fold;
  numbers_rise = λ deeds first history lawful. (file-facts deeds first history lawful).rises;
  has_seen = has-seen;
  backup_law = λ deeds first history lawful. (file-facts deeds first history lawful).backups;
}
