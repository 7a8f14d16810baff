-- Claim: places stay, and what a session has seen is the fold of its place (`places-stay`). Way: who
-- commits keeps the greatest number, so no later commitment lies below a number that stands. A
-- session's knowledge changes only while it is an active keeper (`idle-knows`); then what it has seen
-- is settled and no command of a greater number is committed; later its place stays.
use Rattle.std.proofs.Common.{◌≡◌, ◌≢◌, refl, sym, ap, subst, ◌∙◌, ◌⊎◌, inl, inr, ℕ, ◌≤◌, Bool, true, false, if◌then◌else◌, List, [], ◌∷◌, ◌++◌, Option, Some, None, true≢false, arith}
use Rattle.std.specs.List.{AllByRecursion}
use Rattle.acct_text.specs.declared.Tab.{Tab}
use Rattle.acct_text.specs.Bytes.{Bytes}
use Rattle.acct_outside.specs.declared.Name.TheVariants.{Table, Backup, Staged, Intent, IntentStage, BackupStage, Defs}
use Rattle.acct_outside.specs.Tokens.{Token}
use Rattle.acct_outside.specs.Folder.{Folder, top, settings_file}
use Rattle.acct_outside.specs.Calls.{Call, Answer, CallResult, begins, reads, renames, removes, done, failed, died}
use Rattle.acct_outside.specs.History.{Event, History, after}
use Rattle.acct_outside.specs.Life.{Life, running, life, life_step, runs_in, MayCall}
use Rattle.acct_outside.specs.declared.CommitStage.TheVariants.{Before}
use Rattle.suite_rules.specs.Deeds.{SuiteDeeds}
use Rattle.suite_rules.specs.OwnLock.{OwnLock, lock_kept, lock_freed, is_keeper, made_number, kept_number, own_step}
use Rattle.suite_rules.specs.Knowledge.{Seen, Knowledge, knows_nothing, knows_none, knows_step}
use Rattle.suite_rules.specs.Standing.{Standing, standing, keeper_part}
use Rattle.suite_rules.specs.Rules.{moves_backup, Permits, free_read, commit_rule, install_rule, clear_rule, move_rule}
use Rattle.suite_rules.specs.Lawful.{KeepsRulesOrNone, IsNext, Lawful, goes_on}
use Rattle.suite_rules.specs.Committed.{Commitment, committed, place, folded}
use Rattle.suite_rules.specs.Invariant.{KnownStands}
use Rattle.suite_rules.specs.Laws.{IsCleanKeeper, KeeperSaw, PlacesStay}
use Rattle.suite_rules.proofs.Sessions.{each, own-life, own-standing, other-standing}
use Rattle.suite_rules.proofs.LockOrigins.{KeptNow, kept-number-origin}
use Rattle.suite_rules.proofs.Keepers.{own-step, lock-facts, never-falls}
use Rattle.suite_rules.proofs.FileSteps.{active}
use Rattle.suite_rules.proofs.Commitments.{place-append}
use Rattle.suite_rules.proofs.Settles.{file-facts, keeper-number, new-facts, uncalled-before, has-seen}

-- a number that is or was kept was made
kept-made : (own : OwnLock) (number : ℕ) → kept_number own ≡ Some number →
    made_number own ≡ Some number
kept-made (lock_kept kept) number is = is
kept-made (lock_freed kept) number is = is
kept-made _ number is = absurd (cc)

-- the session is an active keeper
abbrev is_active : Life → Bool
is_active running = true
is_active _ = false

module _ (deeds : SuiteDeeds) (standing : Standing) where
  -- the knowledge after a call of a keeper
  abbrev KnowsAfter : (call : Call) → CallResult (Answer call) → Knowledge
  KnowsAfter call result = knows_step standing.staged call result standing.knows

  -- a call after which its session is no active keeper leaves its knowledge
  idle-knows : (life : Life) (call : Call) (result : CallResult (Answer call)) →
      Permits deeds standing call → MayCall life call → is_keeper standing.own ≡ true →
      (life_step call result life ≡ running →
      is_keeper (own_step call result standing.own) ≡ true → ⊥) →
      KnowsAfter call result ≡ standing.knows
  idle-knows life _ (done found) (free_read name) may keeps idle =
      absurd (idle (rw (active life (reads name) refl may) refl) keeps)
  idle-knows life _ (failed effect) (free_read name) may keeps idle = refl
  idle-knows life _ (died effect) (free_read name) may keeps idle = refl
  idle-knows life _ (done answer) (commit_rule keeper rule) may keeps idle =
      absurd (idle (rw (active life (renames IntentStage Intent) refl may) refl) keeps)
  idle-knows life _ (done answer) (install_rule table keeper rule) may keeps idle =
      absurd (idle (rw (active life (renames (Staged table) (Table table)) refl may) refl) keeps)
  idle-knows life _ (done answer) (clear_rule keeper rule) may keeps idle =
      absurd (idle (rw (active life (removes Intent) refl may) refl) keeps)
  idle-knows life _ (done answer) (move_rule _ _ keeper (moves_backup table rule)) may keeps idle =
      absurd (idle (rw (active life (renames BackupStage (Backup table)) refl may) refl) keeps)
  idle-knows life _ result rule may keeps idle = refl

-- so does such an event
idle-event : (deeds : SuiteDeeds) (history : History) (token : Token) (call : Call)
    (result : CallResult (Answer call)) → KeepsRulesOrNone deeds history token call result →
    is_keeper (standing token history).own ≡ true →
    (life_step call result (life token history) ≡ running →
    is_keeper (own_step call result (standing token history).own) ≡ true → ⊥) →
    knows_step (standing token history).staged call result (standing token history).knows
    ≡ (standing token history).knows
idle-event deeds history token (begins command) result keeps kept idle = refl
idle-event deeds history token call result keeps kept idle =
    idle-knows deeds (standing token history) (life token history) call result keeps.permitted
    keeps.life_rule kept idle

-- a session that is no active keeper after an event, and knows of no intent, knew it before
idle-part : (before later : OwnLock) (changed knows : Knowledge) (seen : Seen) →
    (is_keeper before ≡ true → changed ≡ knows) →
    keeper_part before later knows_nothing changed knows ≡ knows_none seen →
    knows ≡ knows_none seen
idle-part before later changed knows seen same is =
    cases (is_keeper before) (is_keeper later) refl is
  where
    cases : (kept keeps : Bool) → is_keeper before ≡ kept →
        (if kept then changed else (if keeps then knows_nothing else knows)) ≡ knows_none seen →
        knows ≡ knows_none seen
    cases true keeps kept is = sym (same kept) ∙ is
    cases false true kept is = absurd (cc)
    cases false false kept is = is

-- who becomes keeper by an event knows nothing yet
new-part : (before later : OwnLock) (changed knows : Knowledge) (seen : Seen) →
    is_keeper before ≡ false → is_keeper later ≡ true →
    keeper_part before later knows_nothing changed knows ≡ knows_none seen → ⊥
new-part before later changed knows seen none keeps is =
    let nothing : knows_nothing ≡ knows_none seen = rw (none, keeps) at is in cc

-- active by the test, so active
active-is : (life : Life) → is_active life ≡ true → life ≡ running
active-is running is = refl
active-is _ is = absurd (cc)

-- what is seen is the fold of the place, and the first login.defs
record IsPlaced (deeds : SuiteDeeds) (first : Folder) (history : History) (number : ℕ)
    (seen : Seen) : Type 0 where
  tables : (table : Tab) (content : Option Bytes) → seen.file (Table table) ≡ Some content →
      content ≡ folded deeds first (place number (committed history)) table
  settings : (content : Option Bytes) → seen.file Defs ≡ Some content →
      content ≡ settings_file first

module _ (deeds : SuiteDeeds) (first : Folder) where
  -- an event adds nothing to the place of a number up to the greatest
  place-step : (event : Event) (history : History) → Lawful deeds first history →
      IsNext deeds first history event → (number : ℕ) → number ≤ top (after first history) →
      place number (committed (event ∷ history)) ≡ place number (committed history)
  place-step event history lawful next number most =
      place-append number (committed history) _
      (new-facts deeds first event history lawful next (file-facts deeds first history lawful)
      (AllByRecursion (λ one. number ≤ one.number)) tt
      (λ keeper command active uncalled is. (
        least keeper.number
            ((lock-facts deeds first history lawful).keeper_top event.token keeper.number
            (ap runs_in active.runs) active.keeps),
        tt,
      )))
    where
      least : (kept : ℕ) → top (after first history) ≡ kept → number ≤ kept
      least kept is = omega (arith, most)

  -- later events add nothing to it
  stays : (newer older : History) → Lawful deeds first (newer ++ older) → (number : ℕ) →
      number ≤ top (after first older) →
      place number (committed (newer ++ older)) ≡ place number (committed older)
  stays [] older lawful number most = refl
  stays (event ∷ newer) older (goes_on _ _ lawful next) number most =
      place-step event (newer ++ older) lawful next number
      (let falls = never-falls deeds first newer older lawful in omega arith)
      ∙ stays newer older lawful number most

  -- a clean keeper's seen files are the fold of its place
  clean-placed : (history : History) → Lawful deeds first history → (token : Token) (number : ℕ)
      (seen : Seen) → IsCleanKeeper history token number seen →
      IsPlaced deeds first history number seen
  clean-placed history lawful token number seen clean = record {
    tables = λ table content is.
        (has-seen deeds first history lawful token number seen clean table content is).1;
    settings = λ content is.
        let facts = file-facts deeds first history lawful in
        let view = facts.view token number clean.active in
        sym ((subst (KnownStands (after first history)) clean.clean view.known).inputs Defs content
        refl is) ∙ facts.settings;
  }

  module _ (event : Event) (history : History) (lawful : Lawful deeds first history)
      (next : IsNext deeds first history event) where
    -- what was seen stays the fold of its place
    later : (token : Token) (number : ℕ) (seen : Seen) →
        kept_number (standing token history).own ≡ Some number →
        IsPlaced deeds first history number seen →
        IsPlaced deeds first (event ∷ history) number seen
    later token number seen kept placed = record {
      tables = λ table content is. placed.tables table content is
          ∙ ap (λ (list : List Commitment). folded deeds first list table)
          (sym (place-step event history lawful next number
          ((lock-facts deeds first history lawful).made_most token number
          (kept-made (standing token history).own number kept)).1));
      settings = placed.settings;
    }

    -- so it is for another session
    other-placed : (other : Token) → other ≢ event.token → (number : ℕ) (seen : Seen) →
        (KeeperSaw history other number seen → IsPlaced deeds first history number seen) →
        KeeperSaw (event ∷ history) other number seen →
        IsPlaced deeds first (event ∷ history) number seen
    other-placed other differs number seen placed looked =
        later other number seen before.kept (placed before)
      where
        same : standing other (event ∷ history) ≡ standing other history
        same = other-standing event history other differs

        before : KeeperSaw history other number seen
        before = record {
          kept = sym (ap (λ (one : Standing). kept_number one.own) same) ∙ looked.kept;
          uncommitted = sym (ap (λ (one : Standing). one.commit) same) ∙ looked.uncommitted;
          clean = sym (ap (λ (one : Standing). one.knows) same) ∙ looked.clean;
        }

    -- what its own session has seen is so, where it is an active keeper now
    active-placed : (number : ℕ) (seen : Seen) →
        KeeperSaw (event ∷ history) event.token number seen →
        life event.token (event ∷ history) ≡ running →
        (kept : ℕ) × ((standing event.token (event ∷ history)).own ≡ lock_kept kept) →
        IsPlaced deeds first (event ∷ history) number seen
    active-placed number seen looked runs (kept, keeps) =
        clean-placed (event ∷ history) (goes_on event history lawful next) event.token number seen
        (record {
          active = record {
            runs = runs;
            keeps = keeps ∙ ap (λ (lock : ℕ). lock_kept lock) (same (ap kept_number keeps));
          };
          uncommitted = looked.uncommitted;
          clean = looked.clean;
        })
      where
        same : kept_number (standing event.token (event ∷ history)).own ≡ Some kept → kept ≡ number
        same is = let both : Some kept ≡ Some number = sym is ∙ looked.kept in cc

    -- the knowledge of its own session
    knows-part : (seen : Seen) → (standing event.token (event ∷ history)).knows ≡ knows_none seen →
        keeper_part (standing event.token history).own
        (own_step event.call event.result (standing event.token history).own) knows_nothing
        (knows_step (standing event.token history).staged event.call event.result
        (standing event.token history).knows)
        (standing event.token history).knows
        ≡ knows_none seen
    knows-part seen is =
        sym (ap (λ (one : Standing). one.knows) (own-standing event history)) ∙ is

    -- its own lock
    own-part : own_step event.call event.result (standing event.token history).own
        ≡ (standing event.token (event ∷ history)).own
    own-part = sym (ap (λ (one : Standing). one.own) (own-standing event history))

    -- what its own session has seen is so, where it is no active keeper now
    idle-placed : (number : ℕ) (seen : Seen) →
        (KeeperSaw history event.token number seen → IsPlaced deeds first history number seen) →
        KeeperSaw (event ∷ history) event.token number seen →
        (life event.token (event ∷ history) ≡ running →
        is_keeper (standing event.token (event ∷ history)).own ≡ true → ⊥) →
        IsPlaced deeds first (event ∷ history) number seen
    idle-placed number seen placed looked idle =
        cases (kept-number-origin history event.token (after first history)
        (after first (event ∷ history)) (standing event.token history)
        (standing event.token (event ∷ history)) (own-step deeds first event history next) number
        looked.kept)
      where
        knows : (standing event.token history).knows ≡ knows_none seen
        knows = idle-part (standing event.token history).own _ _
            (standing event.token history).knows
            seen
            (λ kept. idle-event deeds history event.token event.call event.result next.keeps kept
            (λ runs keeps. idle (own-life event history ∙ runs)
            (sym (ap is_keeper own-part) ∙ keeps)))
            (knows-part seen looked.clean)

        uncommitted : (standing event.token history).commit ≡ Before
        uncommitted = uncalled-before event.call event.result (standing event.token history).commit
            (sym (ap (λ (one : Standing). one.commit) (own-standing event history))
            ∙ looked.uncommitted)

        cases : (kept_number (standing event.token history).own ≡ Some number)
            ⊎ KeptNow (after first history) (after first (event ∷ history))
            (standing event.token history) (standing event.token (event ∷ history)) number →
            IsPlaced deeds first (event ∷ history) number seen
        cases (inl kept) = later event.token number seen kept (placed (record {
          kept = kept;
          uncommitted = uncommitted;
          clean = knows;
        }))
        cases (inr new) = absurd (new-part (standing event.token history).own
            (own_step event.call event.result (standing event.token history).own) _
            (standing event.token history).knows seen (ap is_keeper new.made)
            (ap is_keeper (own-part ∙ new.keeps)) (knows-part seen looked.clean))

    -- what its own session has seen is so
    own-placed : (number : ℕ) (seen : Seen) →
        (KeeperSaw history event.token number seen → IsPlaced deeds first history number seen) →
        KeeperSaw (event ∷ history) event.token number seen →
        IsPlaced deeds first (event ∷ history) number seen
    own-placed number seen placed looked =
        cases (is_active (life event.token (event ∷ history)))
        (is_keeper (standing event.token (event ∷ history)).own) refl refl
      where
        cases : (runs keeps : Bool) → is_active (life event.token (event ∷ history)) ≡ runs →
            is_keeper (standing event.token (event ∷ history)).own ≡ keeps →
            IsPlaced deeds first (event ∷ history) number seen
        cases true true runs keeps = active-placed number seen looked
            (active-is (life event.token (event ∷ history)) runs)
            (keeper-number (standing event.token (event ∷ history)).own keeps)
        cases false keeps runs kept = idle-placed number seen placed looked
            (λ now holds. true≢false (sym (ap is_active now) ∙ runs))
        cases true false runs keeps = idle-placed number seen placed looked
            (λ now holds. true≢false (sym holds ∙ keeps))

  -- what a session has seen is the fold of its place
  placed : (history : History) → Lawful deeds first history → (token : Token) (number : ℕ)
      (seen : Seen) → KeeperSaw history token number seen →
      IsPlaced deeds first history number seen
  placed [] lawful token number seen looked = absurd (none looked.kept)
    where
      none : None ≡ Some number → ⊥
      none is = cc
  placed (event ∷ history) (goes_on _ _ lawful next) token number seen looked =
      each (λ asked. (KeeperSaw history asked number seen →
      IsPlaced deeds first history number seen) →
      KeeperSaw (event ∷ history) asked number seen →
      IsPlaced deeds first (event ∷ history) number seen) event.token
      (own-placed event history lawful next number seen)
      (λ other differs. other-placed event history lawful next other differs number seen)
      token (placed history lawful token number seen) looked

-- the law
pub places-stay : PlacesStay
places-stay = record {
  stays = stays;
  has_seen = λ deeds first history lawful token number seen looked.
      (placed deeds first history lawful token number seen looked).tables;
  settings = λ deeds first history lawful token number seen looked.
      (placed deeds first history lawful token number seen looked).settings;
  whole = λ deeds first history lawful token number seen looked all.
      let is = placed deeds first history lawful token number seen looked in (
        (λ i table. is.tables table (all.files table) (all.each_table table) i),
        is.settings all.defs all.settings,
      );
}
