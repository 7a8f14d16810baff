-- Claim: each lawful event keeps the facts of the locks (`facts-kept`), the keeper's too: a running
-- keeper's number stays the greatest (`keeper-top`). Way: only a create makes a greater number, one
-- above a listed lock that its session has judged; the keeper holds its lock, so that this lay lower.
use Rattle.std.proofs.Common.{◌≡◌, refl, sym, ap, ◌∙◌, ◌⊎◌, inl, inr, ℕ, ◌+◌, ◌≤◌, max, Bool, true, false, ◌==◌, Some, arith}
use Rattle.acct_outside.specs.Tokens.{Token}
use Rattle.acct_outside.specs.Folder.{greatest, top}
use Rattle.acct_outside.specs.Life.{runs_in}
use Rattle.suite_rules.specs.OwnLock.{lock_kept, made_number, held_number}
use Rattle.suite_rules.specs.Standing.{Standing}
use Rattle.suite_rules.proofs.Numbers.{number-is, number-differs, greatest-with, greatest-without}
use Rattle.suite_rules.proofs.Sessions.{each}
use Rattle.suite_rules.proofs.LockSteps.{LockStep, lock_quiet, lock_listed, lock_read, lock_watched, lock_told, lock_tried, lock_created, lock_given_up, lock_removed}
use Rattle.suite_rules.proofs.LockOrigins.{CreatedNow, KeptNow, kept-origin}
use Rattle.suite_rules.proofs.LockFacts.{World, Moves, HeldByOrPast, LockFacts, removed-below, folder-change, folder-after}
use Rattle.suite_rules.proofs.LockKept.{other-runs, holder-ran, listed-most, made-most, made-once, own-text, read-lock, judged-lock}

module _ (past now : World) (token : Token) (facts : LockFacts past)
    (moves : Moves past now token) where
  -- the event leaves the greatest number, or made a lock
  top-stays : (top now.folder ≡ top past.folder)
      ⊎ ((number : ℕ) × CreatedNow token past.folder now.folder (past.standing token) number)
  top-stays = cases moves.step
    where
      cases : LockStep moves.history token past.folder now.folder (past.standing token)
          (now.standing token) → (top now.folder ≡ top past.folder)
          ⊎ ((number : ℕ) × CreatedNow token past.folder now.folder (past.standing token) number)
      cases (lock_quiet locks own listing) = inl (ap greatest locks.numbers)
      cases (lock_listed locks own listing) = inl (ap greatest locks.numbers)
      cases (lock_read number text stands locks own listing) = inl (ap greatest locks.numbers)
      cases (lock_watched name found finds locks own listing) = inl (ap greatest locks.numbers)
      cases (lock_told asked verdict given locks own listing) = inl (ap greatest locks.numbers)
      cases (lock_tried locks own listing) = inl (ap greatest locks.numbers)
      cases (lock_created number rule absent added own listing) =
          inr (number, record { rule = rule; absent = absent; added = added })
      cases (lock_given_up number text keeps added own listing) =
          let made = facts.made_most token number (ap made_number keeps) in
          let most = made.1 in
          let is = ap greatest added.numbers ∙ greatest-with number past.folder.locks in
          inl (omega (arith, most, is))
      cases (lock_removed number rule taken own listing) =
          inl (ap greatest taken.numbers ∙ greatest-without number past.folder.locks
          (removed-below past now token facts number rule))

  -- a session keeps its number while another makes a lock: that one judged a lower lock
  top-created : (other : Token) (number made : ℕ) → runs_in (past.life other) ≡ true →
      (past.standing other).own ≡ lock_kept number →
      CreatedNow token past.folder now.folder (past.standing token) made →
      top now.folder ≡ number
  top-created other number made runs keeps created =
      cases (facts.judged_lock token created.rule.listing created.rule.listed created.rule.judged
      (ap made_number created.rule.first))
    where
      listed : ℕ
      listed = greatest created.rule.listing.numbers

      most : listed ≤ top past.folder
      most = facts.listed_most token created.rule.listing created.rule.listed

      above : made ≡ listed + 1
      above = created.rule.one_above

      is : top now.folder ≡ max made (top past.folder)
      is = ap greatest created.added.numbers ∙ greatest-with made past.folder.locks

      was : top past.folder ≡ number
      was = facts.keeper_top other number runs keeps

      cases : HeldByOrPast (λ holder. ⊥) past listed → top now.folder ≡ number
      cases (inl below) = omega (arith, is, above, most, was, below)
      cases (inr held) = at (listed == top past.folder) refl
        where
          at : (same : Bool) → (listed == top past.folder) ≡ same → top now.folder ≡ number
          at false differs =
              let lower = number-differs listed (top past.folder) differs in
              omega (arith, is, above, most, was, lower)
          at true same =
              let equal : listed ≡ number = number-is listed (top past.folder) same ∙ was in
              absurd (held other runs
              (ap held_number keeps ∙ ap (λ (one : ℕ). Some one) (sym equal)))

  -- the number of a running keeper is the greatest
  keeper-top : (keeper : Token) (number : ℕ) → runs_in (now.life keeper) ≡ true →
      (now.standing keeper).own ≡ lock_kept number → top now.folder ≡ number
  keeper-top = each (λ keeper. (number : ℕ) → runs_in (now.life keeper) ≡ true →
      (now.standing keeper).own ≡ lock_kept number → top now.folder ≡ number) token
      (λ number runs keeps. here number runs (kept-origin moves.history token past.folder now.folder
      (past.standing token) (now.standing token) moves.step number keeps))
      (λ other differs number runs keeps. there other number
      (other-runs past now token facts moves other differs runs)
      (sym (ap (λ (one : Standing). one.own) (moves.other_standing other differs)) ∙ keeps)
      top-stays)
    where
      there : (other : Token) (number : ℕ) → runs_in (past.life other) ≡ true →
          (past.standing other).own ≡ lock_kept number →
          (top now.folder ≡ top past.folder)
          ⊎ ((made : ℕ) × CreatedNow token past.folder now.folder (past.standing token) made) →
          top now.folder ≡ number
      there other number runs keeps (inl same) = same ∙ facts.keeper_top other number runs keeps
      there other number runs keeps (inr created) =
          top-created other number created.0 runs keeps created.1

      here : (number : ℕ) → runs_in (now.life token) ≡ true →
          ((past.standing token).own ≡ lock_kept number)
          ⊎ KeptNow past.folder now.folder (past.standing token) (now.standing token)
          number → top now.folder ≡ number
      here number runs (inl kept) =
          there token number
          (holder-ran past now token facts moves number (ap held_number kept) runs) kept
          top-stays
      here number runs (inr new) = ap greatest new.locks.numbers ∙ new.is_top

  -- each lawful event keeps the facts of the locks
  pub facts-kept : LockFacts now
  facts-kept = record {
    is_folder = folder-after past.folder now.folder (folder-change past now token facts moves)
        facts.is_folder;
    listed_most = listed-most past now token facts moves;
    made_most = made-most past now token facts moves;
    made_once = made-once past now token facts moves;
    own_text = own-text past now token facts moves;
    read_lock = read-lock past now token facts moves;
    judged_lock = judged-lock past now token facts moves;
    keeper_top = keeper-top;
  }
