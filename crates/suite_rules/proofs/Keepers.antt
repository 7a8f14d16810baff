-- Claim: there is one keeper (`one-keeper`). Way: the facts of the locks hold in every lawful history
-- (`lock-facts`), so running keepers have the greatest number, which two sessions can't have made.
-- What a session ever kept it made (`ever-made`), and who becomes keeper of a number made it when it
-- was the greatest, so no number is kept twice (`ever-once`).
use Rattle.std.proofs.Common.{◌≡◌, ◌≢◌, refl, sym, ap, ◌∙◌, ◌⊎◌, inl, inr, ℕ, ◌<◌, ◌≤◌, List, [], ◌∷◌, ◌++◌, Some, is_some, IsSome, arith}
use Rattle.acct_outside.specs.declared.Name.TheVariants.{Lock}
use Rattle.acct_outside.specs.Tokens.{Token, held_text}
use Rattle.acct_outside.specs.Folder.{Folder, IsFolder, top}
use Rattle.acct_outside.specs.Calls.{Call, Answer, CallResult, begins, done, failed, died, effect_of, changed_by}
use Rattle.acct_outside.specs.History.{Event, History, after}
use Rattle.acct_outside.specs.Life.{life, runs_in}
use Rattle.acct_outside.specs.Gives.{GivesResult}
use Rattle.suite_rules.specs.Deeds.{SuiteDeeds}
use Rattle.suite_rules.specs.OwnLock.{lock_kept, made_number, held_number}
use Rattle.suite_rules.specs.Standing.{Standing, standing, standing_step}
use Rattle.suite_rules.specs.Lawful.{KeepsRulesOrNone, IsNext, Lawful, starts, goes_on}
use Rattle.suite_rules.specs.Invariant.{RunsAsKeeper, IsActiveKeeper}
use Rattle.suite_rules.specs.Laws.{OneKeeper}
use Rattle.suite_rules.proofs.Sessions.{token-cases, each, own-life, own-standing, other-life, other-standing, ran-before, fresh}
use Rattle.suite_rules.proofs.Effects.{locks-same}
use Rattle.suite_rules.proofs.LockSteps.{LockStep, lock_quiet, lock-step}
use Rattle.suite_rules.proofs.LockOrigins.{KeptNow, made-stays, kept-origin}
use Rattle.suite_rules.proofs.LockFacts.{Moves, moment, LockFacts, top-rises}
use Rattle.suite_rules.proofs.LockTop.{facts-kept}

-- the step of an event's lock, also of a begin that gave no token
event-step : (deeds : SuiteDeeds) (history : History) (token : Token) (folder : Folder)
    (call : Call) (result : CallResult (Answer call)) →
    KeepsRulesOrNone deeds history token call result →
    GivesResult folder history token call result →
    LockStep history token folder (changed_by token call (effect_of call result) folder)
    (standing token history) (standing_step call result (standing token history))
event-step deeds history token folder (begins command) (failed effect) keeps gives =
    lock_quiet (locks-same folder) refl refl
event-step deeds history token folder (begins command) (died effect) keeps gives =
    lock_quiet (locks-same folder) refl refl
event-step deeds history token folder (begins command) (done answer) keeps gives =
    lock_quiet (locks-same folder) refl refl
event-step deeds history token folder call result keeps gives =
    lock-step deeds history token folder (standing token history) call result keeps.permitted gives

-- a keeper of which no call failed runs as keeper
pub active-runs : {history : History} {token : Token} {number : ℕ} →
    IsActiveKeeper history token number → RunsAsKeeper history token number
active-runs active = record { runs = ap runs_in active.runs; keeps = active.keeps }

-- the session was keeper of the number at some moment of the history
abbrev pub EverKept : Token → ℕ → List Event → Type 0
EverKept token number [] = ⊥
EverKept token number (event ∷ history) =
    ((standing token (event ∷ history)).own ≡ lock_kept number) ⊎ EverKept token number history

-- a keeper at one moment was so in the history up to each later one
pub ever-kept : (token : Token) (number : ℕ) (newer older : History) →
    (standing token older).own ≡ lock_kept number → EverKept token number (newer ++ older)
ever-kept token number [] [] keeps = absurd (cc)
ever-kept token number [] (event ∷ older) keeps = inl keeps
ever-kept token number (event ∷ newer) older keeps = inr (ever-kept token number newer older keeps)

module _ (deeds : SuiteDeeds) (first : Folder) where
  -- the step of the next event's lock
  pub own-step : (event : Event) (history : History) → IsNext deeds first history event →
      LockStep history event.token (after first history) (after first (event ∷ history))
      (standing event.token history) (standing event.token (event ∷ history))
  own-step event history next =
      rw (own-standing event history) (event-step deeds history event.token
      (after first history) event.call event.result next.keeps next.gives)

  -- an event of a lawful history leads from one moment to the next
  pub event-moves : (event : Event) (history : History) → Lawful deeds first history →
      IsNext deeds first history event →
      Moves (moment first history) (moment first (event ∷ history)) event.token
  event-moves event history lawful next = record {
    history = history;
    lives = λ asked. refl;
    step = own-step event history next;
    ran = λ runs. elim (ran-before event.call event.result (life event.token history)
        (sym (ap runs_in (own-life event history)) ∙ runs)) [
          | inl ran ↦ inl ran
          | inr none ↦ inr (fresh deeds first history lawful event.token none)
        ];
    other_life = other-life event history;
    other_standing = other-standing event history;
  }

  -- nothing has happened yet
  first-facts : IsFolder first → LockFacts (moment first [])
  first-facts is_folder = record {
    is_folder = is_folder;
    listed_most = λ token listing is. absurd (cc);
    made_most = λ token number is. absurd (cc);
    made_once = λ token other number differ one two. absurd (cc);
    own_text = λ token number runs holds. absurd (cc);
    read_lock = λ token asked listing is held. absurd (cc);
    judged_lock = λ token listing is judged unmade. absurd (cc);
    keeper_top = λ token number runs keeps. absurd (cc);
  }

  -- the facts of the locks hold in every lawful history
  pub lock-facts : (history : History) → Lawful deeds first history →
      LockFacts (moment first history)
  lock-facts [] (starts is_folder) = first-facts is_folder
  lock-facts (event ∷ history) (goes_on _ _ lawful next) =
      facts-kept (moment first history) (moment first (event ∷ history)) event.token
      (lock-facts history lawful) (event-moves event history lawful next)

  -- the greatest number never falls
  pub never-falls : (newer older : History) → Lawful deeds first (newer ++ older) →
      top (after first older) ≤ top (after first (newer ++ older))
  never-falls [] older lawful = omega arith
  never-falls (event ∷ newer) older (goes_on _ _ lawful next) =
      let before = never-falls newer older lawful in
      let rises =
      top-rises (moment first (newer ++ older)) (moment first (event ∷ (newer ++ older)))
      event.token (lock-facts (newer ++ older) lawful)
      (event-moves event (newer ++ older) lawful next) in
      omega arith

  -- one running session is keeper
  pub alone : (history : History) → Lawful deeds first history →
      (token other : Token) (number another : ℕ) → RunsAsKeeper history token number →
      RunsAsKeeper history other another → token ≡ other
  alone history lawful token other number another one two =
      elim (token-cases token other) [
        | inl same ↦ same
        | inr differ ↦
            (let facts = lock-facts history lawful in
            let is = facts.keeper_top token number one.runs one.keeps in
            let his = facts.keeper_top other another two.runs two.keeps in
            let same : another ≡ number = sym his ∙ is in
            let below = facts.made_once token other number differ (ap made_number one.keeps)
            (ap made_number two.keeps ∙ ap (λ (made : ℕ). Some made) same) in
            absurd (omega arith))
      ]

  -- the lock of a running keeper stands, and its number is the greatest that ever stood
  pub is-greatest : (newer older : History) → Lawful deeds first (newer ++ older) →
      (token : Token) (number : ℕ) → RunsAsKeeper (newer ++ older) token number →
      IsSome ((after first (newer ++ older)).file (Lock number))
      × (top (after first older) ≤ number)
  is-greatest newer older lawful token number runs =
      let facts = lock-facts (newer ++ older) lawful in
      let is = facts.keeper_top token number runs.runs runs.keeps in
      let falls = never-falls newer older lawful in
      (stands is (facts.own_text token number runs.runs (ap held_number runs.keeps)), omega arith)
    where
      stands : top (after first (newer ++ older)) ≡ number →
          (number < top (after first (newer ++ older)))
          ⊎ ((after first (newer ++ older)).file (Lock number) ≡ Some (held_text token)) →
          IsSome ((after first (newer ++ older)).file (Lock number))
      stands is (inl below) = absurd (omega arith)
      stands is (inr text) = ap is_some text

  -- a lock that a session made stays the one
  pub made-later : (event : Event) (history : History) → Lawful deeds first history →
      IsNext deeds first history event → (token : Token) (number : ℕ) →
      made_number (standing token history).own ≡ Some number →
      made_number (standing token (event ∷ history)).own ≡ Some number
  made-later event history lawful next =
      each (λ token. (number : ℕ) → made_number (standing token history).own ≡ Some number →
      made_number (standing token (event ∷ history)).own ≡ Some number) event.token
      (made-stays history event.token (after first history) (after first (event ∷ history))
      (standing event.token history) (standing event.token (event ∷ history))
      (own-step event history next))
      (λ other differs number is. ap (λ (one : Standing). made_number one.own)
      (other-standing event history other differs) ∙ is)

  -- what a session ever kept it made
  pub ever-made : (history : History) → Lawful deeds first history →
      (token : Token) (number : ℕ) → EverKept token number history →
      made_number (standing token history).own ≡ Some number
  ever-made [] lawful token number never = absurd never
  ever-made (event ∷ history) (goes_on _ _ lawful next) token number (inl keeps) =
      ap made_number keeps
  ever-made (event ∷ history) (goes_on _ _ lawful next) token number (inr before) =
      made-later event history lawful next token number
      (ever-made history lawful token number before)

  -- the event's session, which became keeper by it
  record NewKeeper (event : Event) (history : History) (token : Token) (number : ℕ) : Type 0 where
    is : token ≡ event.token
    made : made_number (standing token history).own ≡ Some number
    is_top : top (after first history) ≡ number

  -- who was ever keeper was so before the event, or became it by the event
  ever-before : (event : Event) (history : History) → Lawful deeds first history →
      IsNext deeds first history event → (token : Token) (number : ℕ) →
      EverKept token number (event ∷ history) →
      EverKept token number history ⊎ NewKeeper event history token number
  ever-before event history lawful next token number (inr before) = inl before
  ever-before event history lawful next token number (inl keeps) =
      each (λ token. (standing token (event ∷ history)).own ≡ lock_kept number →
      EverKept token number history ⊎ NewKeeper event history token number) event.token
      (λ keeps. here (kept-origin history event.token (after first history)
      (after first (event ∷ history)) (standing event.token history)
      (standing event.token (event ∷ history)) (own-step event history next)
      number keeps))
      (λ other differs keeps. inl (ever-kept other number [] history
      (sym (ap (λ (one : Standing). one.own) (other-standing event history other differs))
      ∙ keeps)))
      token keeps
    where
      here : ((standing event.token history).own ≡ lock_kept number)
          ⊎ KeptNow (after first history) (after first (event ∷ history))
          (standing event.token history) (standing event.token (event ∷ history)) number →
          EverKept event.token number history ⊎ NewKeeper event history event.token number
      here (inl kept) = inl (ever-kept event.token number [] history kept)
      here (inr new) = inr (record {
        is = refl;
        made = ap made_number new.made;
        is_top = new.is_top;
      })

  -- no two sessions were keeper of one number
  pub ever-once : (history : History) → Lawful deeds first history →
      (token other : Token) (number : ℕ) → token ≢ other → EverKept token number history →
      EverKept other number history → ⊥
  ever-once [] lawful token other number differ one two = one
  ever-once (event ∷ history) (goes_on _ _ lawful next) token other number differ one two =
      cases (ever-once history lawful token other number differ)
      (ever-before event history lawful next token number one)
      (ever-before event history lawful next other number two)
    where
      clash : (new old : Token) → new ≢ old → NewKeeper event history new number →
          EverKept old number history → ⊥
      clash new old apart keeper before =
          let below = (lock-facts history lawful).made_once new old number apart keeper.made
          (ever-made history lawful old number before) in
          let is = keeper.is_top in
          omega arith

      cases : (EverKept token number history → EverKept other number history → ⊥) →
          EverKept token number history ⊎ NewKeeper event history token number →
          EverKept other number history ⊎ NewKeeper event history other number → ⊥
      cases before (inl old) (inl older) = before old older
      cases before (inr new) (inl old) = clash token other differ new old
      cases before (inl old) (inr new) = clash other token (λ same. differ (sym same)) new old
      cases before (inr new) (inr newer) = differ (new.is ∙ sym newer.is)

  -- no two sessions were keeper of one number, each at a moment of its own
  no-two : (history : History) → Lawful deeds first history →
      (newer older later earlier : History) → history ≡ newer ++ older →
      history ≡ later ++ earlier → (token other : Token) (number : ℕ) →
      (standing token older).own ≡ lock_kept number →
      (standing other earlier).own ≡ lock_kept number → token ≡ other
  no-two history lawful newer older later earlier one two token other number keeps kept =
      elim (token-cases token other) [
        | inl same ↦ same
        | inr differ ↦ absurd (ever-once history lawful token other number differ
            (rw one (ever-kept token number newer older keeps))
            (rw two (ever-kept other number later earlier kept)))
      ]

-- the law
pub one-keeper : OneKeeper
one-keeper = record {
  never_falls = never-falls;
  alone = alone;
  is_greatest = is-greatest;
  no_two = no-two;
}
