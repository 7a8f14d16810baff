-- The facts of the locks at one moment of a history (`LockFacts`), and what an event does to the
-- folder's locks where they hold (`folder-change`): the greatest number never falls (`top-rises`),
-- and the numbers ascend within their bounds (`is-folder`).
use Rattle.std.proofs.Common.{◌≡◌, ◌≢◌, refl, sym, ap, ◌∙◌, ◌⊎◌, ℕ, ◌<◌, ◌≤◌, Bool, true, false, not, ◌||◌, ◌&&◌, ◌==◌, if◌then◌else◌, List, [], ◌∷◌, All, AllPairs, Some, None, is_some, IsNone, true≢false, arith}
use Rattle.std.proofs.lemmas.List.Elements.{All-head, All-tail, All-filter}
use Rattle.std.proofs.lemmas.List.Kept.{AllPairs-filter}
use Rattle.acct_text.specs.Bytes.{Bytes}
use Rattle.acct_outside.specs.declared.Name.TheVariants.{Lock}
use Rattle.acct_outside.specs.Names.{greatest_lock}
use Rattle.acct_outside.specs.Tokens.{Token, held_text}
use Rattle.acct_outside.specs.Folder.{Folder, IsFolder, greatest, top, has_number}
use Rattle.acct_outside.specs.History.{History, after}
use Rattle.acct_outside.specs.Life.{Life, life, runs_in}
use Rattle.suite_rules.specs.OwnLock.{lock_uncalled, lock_kept, made_number, held_number}
use Rattle.suite_rules.specs.Listing.{Listing, is_held_in}
use Rattle.suite_rules.specs.Standing.{Standing, standing}
use Rattle.suite_rules.specs.Rules.{UnlockRule, unlocks_below, unlocks_own}
use Rattle.suite_rules.proofs.Numbers.{number-is, number-differs, greatest-with, greatest-without, greatest-stands, has-with, has-without, with-all, with-ascends}
use Rattle.suite_rules.proofs.Effects.{SameLocks, WithLock, WithoutLock}
use Rattle.suite_rules.proofs.LockSteps.{LockStep, lock_quiet, lock_listed, lock_read, lock_watched, lock_told, lock_tried, lock_created, lock_given_up, lock_removed}

-- a moment of a history: the folder, and each session's life and standing
pub record World : Type 0 where
  pub folder : Folder
  pub life : Token → Life
  pub standing : Token → Standing

-- the moment after a history
abbrev pub moment : Folder → History → World
moment first history = record {
  folder = after first history;
  life = λ token. life token history;
  standing = λ token. standing token history;
}

-- an event of the session leads from one moment to the next
pub record Moves (past now : World) (token : Token) : Type 0 where
  pub history : History
  pub lives : (asked : Token) → life asked history ≡ past.life asked
  pub step : LockStep history token past.folder now.folder (past.standing token)
      (now.standing token)
  pub ran : runs_in (now.life token) ≡ true →
      (runs_in (past.life token) ≡ true) ⊎ ((past.standing token).own ≡ lock_uncalled)
  pub other_life : (other : Token) → other ≢ token → now.life other ≡ past.life other
  pub other_standing : (other : Token) → other ≢ token → now.standing other ≡ past.standing other

-- each running session that holds the lock of this number is such a one
abbrev pub HeldBy : (Token → Type 0) → World → ℕ → Type 0
HeldBy P world number = (holder : Token) → runs_in (world.life holder) ≡ true →
    held_number (world.standing holder).own ≡ Some number → P holder

-- a greater lock stands, or each running holder is such a one
abbrev pub HeldByOrPast : (Token → Type 0) → World → ℕ → Type 0
HeldByOrPast P world number = (number < top world.folder) ⊎ HeldBy P world number

-- the facts of the locks at one moment
pub record LockFacts (world : World) : Type 0 where
  pub is_folder : IsFolder world.folder
  -- what was listed and what was made lies up to the greatest number
  pub listed_most : (token : Token) (listing : Listing) →
      (world.standing token).listing ≡ Some listing → greatest listing.numbers ≤ top world.folder
  pub made_most : (token : Token) (number : ℕ) →
      made_number (world.standing token).own ≡ Some number →
      (0 < number) × (number ≤ top world.folder)
  -- a number that two sessions made lies below it
  pub made_once : (token other : Token) (number : ℕ) → token ≢ other →
      made_number (world.standing token).own ≡ Some number →
      made_number (world.standing other).own ≡ Some number → number < top world.folder
  -- the lock that a running session holds has its text, or a greater one stands
  pub own_text : (token : Token) (number : ℕ) → runs_in (world.life token) ≡ true →
      held_number (world.standing token).own ≡ Some number →
      (number < top world.folder) ⊎ (world.folder.file (Lock number) ≡ Some (held_text token))
  -- the greatest listed lock, where it was read as held, is held by that session alone
  pub read_lock : (token asked : Token) (listing : Listing) →
      (world.standing token).listing ≡ Some listing → is_held_in listing.texts asked ≡ true →
      HeldByOrPast (λ holder. holder ≡ asked) world (greatest listing.numbers)
  -- the greatest listed lock, where it is judged, is held by none
  pub judged_lock : (token : Token) (listing : Listing) →
      (world.standing token).listing ≡ Some listing → listing.is_judged ≡ true →
      made_number (world.standing token).own ≡ None →
      HeldByOrPast (λ holder. ⊥) world (greatest listing.numbers)
  -- the number of a running keeper is the greatest
  pub keeper_top : (token : Token) (number : ℕ) → runs_in (world.life token) ≡ true →
      (world.standing token).own ≡ lock_kept number → top world.folder ≡ number

-- numbers within a bound have their greatest within it
greatest-bound : (bound : ℕ) (numbers : List ℕ) →
    All (λ number. (1 ≤ number) × (number ≤ bound)) numbers → greatest numbers ≤ bound
greatest-bound bound [] all = omega arith
greatest-bound bound (head ∷ numbers) all =
    let here = All-head (λ number. (1 ≤ number) × (number ≤ bound)) head numbers all in
    let most = here.1 in
    let rest = greatest-bound bound numbers
    (All-tail (λ number. (1 ≤ number) × (number ≤ bound)) head numbers all) in
    omega arith

-- the greatest lock of a folder is in bounds
pub top-bound : (folder : Folder) → IsFolder folder → top folder ≤ greatest_lock
top-bound folder is_folder = greatest-bound greatest_lock folder.locks is_folder.in_bounds

-- a number up to the greatest whose lock doesn't stand lies below it
pub absent-below : (folder : Folder) → IsFolder folder → (number : ℕ) → 0 < number →
    number ≤ top folder → IsNone (folder.file (Lock number)) → number < top folder
absent-below folder is_folder number above most absent = cases (number == top folder) refl
  where
    cases : (same : Bool) → (number == top folder) ≡ same → number < top folder
    cases true same =
        let equal = number-is number (top folder) same in
        absurd (true≢false (
        sym (rw equal (greatest-stands folder.locks (rw equal at above)))
        ∙ (is_folder.standing number ∙ absent)))
    cases false differs = let other = number-differs number (top folder) differs in omega arith

-- what one event did to the locks of the folder
pub data FolderChange (before after : Folder) : Type 0 where
  locks_stay : SameLocks before after → FolderChange before after
  lock_added : (number : ℕ) (text : Bytes) → (0 < number) × (number ≤ greatest_lock) →
      WithLock number text before after → FolderChange before after
  lock_taken : (number : ℕ) → number < top before → WithoutLock number before after →
      FolderChange before after

module _ (before after : Folder) where
  -- the greatest number never falls
  pub top-after : FolderChange before after → top before ≤ top after
  top-after (locks_stay locks) = let is = ap greatest locks.numbers in omega arith
  top-after (lock_added number text bounds added) =
      let is = ap greatest added.numbers ∙ greatest-with number before.locks in omega arith
  top-after (lock_taken number below taken) =
      let is = ap greatest taken.numbers ∙ greatest-without number before.locks below in omega arith

  -- the numbers are those of the locks that stand
  standing-after : FolderChange before after → IsFolder before → (asked : ℕ) →
      has_number asked after.locks ≡ is_some (after.file (Lock asked))
  standing-after (locks_stay locks) is_folder asked =
      ap (has_number asked) locks.numbers
      ∙ (is_folder.standing asked ∙ sym (ap is_some (locks.texts asked)))
  standing-after (lock_added number text bounds added) is_folder asked =
      ap (has_number asked) added.numbers
      ∙ (has-with asked number before.locks
      ∙ (cases (asked == number) ∙ sym (ap is_some (added.texts asked))))
    where
      cases : (same : Bool) → (same || has_number asked before.locks)
          ≡ is_some (if same then Some text else before.file (Lock asked))
      cases true = refl
      cases false = is_folder.standing asked
  standing-after (lock_taken number below taken) is_folder asked =
      ap (has_number asked) taken.numbers
      ∙ (has-without asked number before.locks
      ∙ (cases (asked == number) ∙ sym (ap is_some (taken.texts asked))))
    where
      cases : (same : Bool) → (not same && has_number asked before.locks)
          ≡ is_some (if same then None else before.file (Lock asked))
      cases true = refl
      cases false = is_folder.standing asked

  -- the numbers ascend
  ascends-after : FolderChange before after → AllPairs (λ low high. low < high) before.locks →
      AllPairs (λ low high. low < high) after.locks
  ascends-after (locks_stay locks) ascends = rw locks.numbers ascends
  ascends-after (lock_added number text bounds added) ascends =
      rw added.numbers (with-ascends number before.locks ascends)
  ascends-after (lock_taken number below taken) ascends =
      rw taken.numbers (AllPairs-filter (λ low high. low < high)
      (λ other. not (other == number)) before.locks ascends)

  -- the numbers lie in bounds
  bounds-after : FolderChange before after →
      All (λ number. (1 ≤ number) × (number ≤ greatest_lock)) before.locks →
      All (λ number. (1 ≤ number) × (number ≤ greatest_lock)) after.locks
  bounds-after (locks_stay locks) all = rw locks.numbers all
  bounds-after (lock_added number text bounds added) all =
      let least = bounds.0 in
      rw added.numbers (with-all (λ number. (1 ≤ number) × (number ≤ greatest_lock)) number
      (omega arith, bounds.1) before.locks all)
  bounds-after (lock_taken number below taken) all =
      rw taken.numbers (All-filter (λ other. not (other == number))
      (λ number. (1 ≤ number) × (number ≤ greatest_lock)) before.locks all)

  -- the folder stays one
  pub folder-after : FolderChange before after → IsFolder before → IsFolder after
  folder-after change is_folder = record {
    standing = standing-after change is_folder;
    ascending = ascends-after change is_folder.ascending;
    in_bounds = bounds-after change is_folder.in_bounds;
  }

module _ (past now : World) (token : Token) (facts : LockFacts past) where
  -- a lock that is removed lies below the greatest
  pub removed-below : (number : ℕ) → UnlockRule (past.standing token) number →
      number < top past.folder
  removed-below number (unlocks_below keeper below) =
      let made = facts.made_most token keeper.number (ap made_number keeper.keeps) in
      let most = made.1 in
      omega arith
  removed-below number (unlocks_own outrun) =
      let most = facts.listed_most token outrun.listing outrun.listed in
      let greater = outrun.greater in
      omega arith

  -- what the event did to the locks
  pub folder-change : Moves past now token → FolderChange past.folder now.folder
  folder-change moves = cases moves.step
    where
      cases : LockStep moves.history token past.folder now.folder (past.standing token)
          (now.standing token) → FolderChange past.folder now.folder
      cases (lock_quiet locks own listing) = locks_stay locks
      cases (lock_listed locks own listing) = locks_stay locks
      cases (lock_read number text stands locks own listing) = locks_stay locks
      cases (lock_watched name found finds locks own listing) = locks_stay locks
      cases (lock_told asked verdict given locks own listing) = locks_stay locks
      cases (lock_tried locks own listing) = locks_stay locks
      cases (lock_created number rule absent added own listing) =
          let above = rule.one_above in
          let below = rule.not_exhausted in
          lock_added number (held_text token) (omega arith, omega arith) added
      cases (lock_given_up number text keeps added own listing) =
          let made = facts.made_most token number (ap made_number keeps) in
          let bound = top-bound past.folder facts.is_folder in
          lock_added number text (made.0, (let most = made.1 in omega arith)) added
      cases (lock_removed number rule taken own listing) =
          lock_taken number (removed-below number rule) taken

  -- the greatest number never falls
  pub top-rises : Moves past now token → top past.folder ≤ top now.folder
  top-rises moves = top-after past.folder now.folder (folder-change moves)
