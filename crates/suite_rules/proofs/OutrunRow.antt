-- A race after a dead holder: a and b judge lock 4 dead. a takes over with lock 5 and frees it, and c
-- takes over with lock 6. b, whose judgement is stale by then, creates lock 5 once more; its second
-- listing shows that it is outrun, so it withdraws, and c is the only keeper all along.
-- Each history is named for its last step, and lawful by computation, for all deeds.
use Rattle.std.proofs.Common.{◌≡◌, ◌≢◌, refl, ap, ℕ, zero, suc, ◌<◌, ◌≤◌, ◌==◌, ◌||◌, lit≤, if◌then◌else◌, not-suc-le-zero, le_of_suc-le-suc, Bool, true, false, [], ◌∷◌, get_or, Option, Some, None, is_some, codes, true≢false}
use Rattle.acct_text.specs.Bytes.{Bytes}
use Rattle.acct_outside.specs.declared.Name.{Name}
use Rattle.acct_outside.specs.declared.Name.TheVariants.{FreeStage, Lock}
use Rattle.acct_outside.specs.declared.Created.TheVariants.{Done}
use Rattle.acct_outside.specs.declared.Verdict.TheVariants.{Dead}
use Rattle.acct_outside.specs.Names.{greatest_lock}
use Rattle.acct_outside.specs.Tokens.{Token, IsToken, free_text}
use Rattle.acct_outside.specs.Folder.{Folder, IsFolder, has_number}
use Rattle.acct_outside.specs.Calls.{Command, begins, lists, reads, asks, creates, writes, renames, removes, answers, found_bytes}
use Rattle.acct_outside.specs.History.{History, after}
use Rattle.suite_rules.specs.Deeds.{SuiteDeeds}
use Rattle.suite_rules.specs.OwnLock.{lock_made, lock_kept}
use Rattle.suite_rules.specs.Listing.{new_listing}
use Rattle.suite_rules.specs.Standing.{standing}
use Rattle.suite_rules.specs.Rules.{unlocks_own, unlock_rule}
use Rattle.suite_rules.specs.Lawful.{Lawful, starts, goes_on}
use Rattle.suite_rules.specs.Committed.{committed}
use Rattle.suite_rules.proofs.Staff.{two-bytes}
use Rattle.suite_rules.proofs.RowSteps.{by, judged_listing, look-lawful, judge-lawful, take-lawful, unlock-lawful, free-lawful, refusal-lawful}

-- the dead holder
abbrev z : Token
z = codes "z"

-- the sessions
abbrev a1 : Token
a1 = codes "a1"

-- the second
abbrev b1 : Token
b1 = codes "b1"

-- the third
abbrev c1 : Token
c1 = codes "c1"

-- their tokens are such
is-token-a : IsToken a1
is-token-a = two-bytes _ _ (lit≤ tt, lit≤ tt) (lit≤ tt, lit≤ tt)

-- the second
is-token-b : IsToken b1
is-token-b = two-bytes _ _ (lit≤ tt, lit≤ tt) (lit≤ tt, lit≤ tt)

-- the third
is-token-c : IsToken c1
is-token-c = two-bytes _ _ (lit≤ tt, lit≤ tt) (lit≤ tt, lit≤ tt)

-- lock 4 is held by z, and nothing else stands
abbrev held_at_first : Name → Option Bytes
held_at_first (Lock number) = if number == 4 then Some (codes "held z\n") else None
held_at_first _ = None

-- the first folder
abbrev first : Folder
first = record { file = held_at_first; locks = 4 ∷ [] }

-- it is a folder
is-folder : IsFolder first
is-folder = record { standing = stands; ascending = ascends; in_bounds = bounds }
  where
    stands : (number : ℕ) → has_number number (4 ∷ []) ≡ is_some (held_at_first (Lock number))
    stands number = cases (number == 4)
      where
        cases : (same : Bool) →
            (same || false) ≡ is_some (if same then Some (codes "held z\n") else None)
        cases true = refl
        cases false = refl

    ascends : (place later default : ℕ) → place < later → later < 1 →
        get_or (4 ∷ []) place default < get_or (4 ∷ []) later default
    ascends place zero default before below = absurd (not-suc-le-zero before)
    ascends place (suc later) default before below =
        absurd (not-suc-le-zero (le_of_suc-le-suc below))

    bounds : (place default : ℕ) → place < 1 →
        (1 ≤ get_or (4 ∷ []) place default) × (get_or (4 ∷ []) place default ≤ greatest_lock)
    bounds zero default below = (lit≤ tt, lit≤ tt)
    bounds (suc place) default below = absurd (not-suc-le-zero (le_of_suc-le-suc below))

-- what they are asked
abbrev command : Command
command = record {
  words = codes "groupadd" ∷ codes "-P" ∷ codes "R" ∷ codes "q" ∷ [];
  input = [];
  day = 20000;
}

-- a refusal has another status than 0
four : ◌≢◌ {A = ℕ} 4 0
four is = true≢false (ap (λ (status : ℕ). status == 4) is)

-- nothing has happened
abbrev nothing_happened : History
nothing_happened = []

-- a begins
abbrev a_begun : History
a_begun = by a1 (begins command) tt ∷ nothing_happened

-- a lists lock 4
abbrev a_listed : History
a_listed = by a1 lists (4 ∷ []) ∷ a_begun

-- a reads that z holds it
abbrev a_read : History
a_read = by a1 (reads (Lock 4)) (found_bytes (codes "held z\n")) ∷ a_listed

-- a is told that z is dead
abbrev a_judged : History
a_judged = by a1 (asks z) Dead ∷ a_read

-- b begins
abbrev b_begun : History
b_begun = by b1 (begins command) tt ∷ a_judged

-- b lists lock 4
abbrev b_listed : History
b_listed = by b1 lists (4 ∷ []) ∷ b_begun

-- b reads that z holds it
abbrev b_read : History
b_read = by b1 (reads (Lock 4)) (found_bytes (codes "held z\n")) ∷ b_listed

-- b is told that z is dead
abbrev b_judged : History
b_judged = by b1 (asks z) Dead ∷ b_read

-- a creates lock 5
abbrev a_created : History
a_created = by a1 (creates 5) Done ∷ b_judged

-- a lists its lock as the greatest, and is keeper
abbrev a_kept : History
a_kept = by a1 lists (4 ∷ 5 ∷ []) ∷ a_created

-- a removes the lower lock
abbrev a_unlocked : History
a_unlocked = by a1 (removes (Lock 4)) tt ∷ a_kept

-- a writes the free text
abbrev a_staged_free : History
a_staged_free = by a1 (writes FreeStage free_text) tt ∷ a_unlocked

-- a moves that to its lock
abbrev a_freed : History
a_freed = by a1 (renames FreeStage (Lock 5)) tt ∷ a_staged_free

-- a answers a refusal
abbrev a_answered : History
a_answered = by a1 (answers 4) tt ∷ a_freed

-- c begins
abbrev c_begun : History
c_begun = by c1 (begins command) tt ∷ a_answered

-- c lists lock 5
abbrev c_listed : History
c_listed = by c1 lists (5 ∷ []) ∷ c_begun

-- c reads that it is free
abbrev c_judged : History
c_judged = by c1 (reads (Lock 5)) (found_bytes free_text) ∷ c_listed

-- c creates lock 6
abbrev c_created : History
c_created = by c1 (creates 6) Done ∷ c_judged

-- c lists its lock as the greatest, and is keeper
abbrev c_kept : History
c_kept = by c1 lists (5 ∷ 6 ∷ []) ∷ c_created

-- c removes the lower lock
abbrev c_unlocked : History
c_unlocked = by c1 (removes (Lock 5)) tt ∷ c_kept

-- b creates lock 5 once more
abbrev b_created : History
b_created = by b1 (creates 5) Done ∷ c_unlocked

-- b lists a greater lock than its own, and is no keeper
abbrev b_outrun : History
b_outrun = by b1 lists (5 ∷ 6 ∷ []) ∷ b_created

-- b removes its lock
abbrev b_withdrawn : History
b_withdrawn = by b1 (removes (Lock 5)) tt ∷ b_outrun

-- b answers a refusal
abbrev b_answered : History
b_answered = by b1 (answers 4) tt ∷ b_withdrawn

-- b is no keeper, though its create of lock 5 was done
outrun-made : (standing b1 b_outrun).own ≡ lock_made 5
outrun-made = refl

-- c is
outrun-keeper : (standing c1 b_outrun).own ≡ lock_kept 6
outrun-keeper = refl

-- one lock is left
locks-after : (after first b_answered).locks ≡ 6 ∷ []
locks-after = refl

-- nothing was committed
none-committed : committed b_answered ≡ []
none-committed = refl

-- The history is lawful.
module _ (deeds : SuiteDeeds) where
  -- a judges z dead: lawful
  a_judged-lawful : Lawful deeds first a_judged
  a_judged-lawful =
      judge-lawful deeds first a1 nothing_happened (starts is-folder) refl command is-token-a
      (4 ∷ []) refl 4 (found_bytes (codes "held z\n")) refl z refl

  -- b judges so too: lawful
  b_judged-lawful : Lawful deeds first b_judged
  b_judged-lawful =
      judge-lawful deeds first b1 a_judged a_judged-lawful refl command is-token-b
      (4 ∷ []) refl 4 (found_bytes (codes "held z\n")) refl z refl

  -- a creates lock 5, and is keeper: lawful
  a_kept-lawful : Lawful deeds first a_kept
  a_kept-lawful =
      take-lawful deeds first a1 b_judged b_judged-lawful refl
      (judged_listing (4 ∷ []) (codes "held z\n" ∷ [])) refl refl refl (lit≤ tt) refl
      (4 ∷ 5 ∷ []) refl

  -- a removes the lower lock: lawful
  a_unlocked-lawful : Lawful deeds first a_unlocked
  a_unlocked-lawful =
      unlock-lawful deeds first a1 a_kept a_kept-lawful refl
      (record { number = 5; keeps = refl }) 4 (lit≤ tt)

  -- a frees its lock: lawful
  a_freed-lawful : Lawful deeds first a_freed
  a_freed-lawful =
      free-lawful deeds first a1 a_unlocked a_unlocked-lawful refl
      (record { number = 5; keeps = refl })

  -- a answers a refusal: lawful
  a_answered-lawful : Lawful deeds first a_answered
  a_answered-lawful =
      refusal-lawful deeds first a1 a_freed a_freed-lawful refl 4 four

  -- c finds lock 5 free: lawful
  c_judged-lawful : Lawful deeds first c_judged
  c_judged-lawful =
      look-lawful deeds first c1 a_answered a_answered-lawful refl command is-token-c
      (5 ∷ []) refl 5 (found_bytes free_text) refl

  -- c creates lock 6, and is keeper: lawful
  c_kept-lawful : Lawful deeds first c_kept
  c_kept-lawful =
      take-lawful deeds first c1 c_judged c_judged-lawful refl
      (judged_listing (5 ∷ []) (free_text ∷ [])) refl refl refl (lit≤ tt) refl (5 ∷ 6 ∷ []) refl

  -- c removes the lower lock: lawful
  c_unlocked-lawful : Lawful deeds first c_unlocked
  c_unlocked-lawful =
      unlock-lawful deeds first c1 c_kept c_kept-lawful refl
      (record { number = 6; keeps = refl }) 5 (lit≤ tt)

  -- b creates lock 5 once more, and is no keeper: lawful
  b_outrun-lawful : Lawful deeds first b_outrun
  b_outrun-lawful =
      take-lawful deeds first b1 c_unlocked c_unlocked-lawful refl
      (judged_listing (4 ∷ []) (codes "held z\n" ∷ [])) refl refl refl (lit≤ tt) refl
      (5 ∷ 6 ∷ []) refl

  -- b removes its lock: lawful
  b_withdrawn-lawful : Lawful deeds first b_withdrawn
  b_withdrawn-lawful = goes_on _ _ b_outrun-lawful (record {
    keeps = record {
      life_rule = tt;
      permitted = unlock_rule 5 (unlocks_own (record {
        made = refl;
        listing = new_listing true (5 ∷ 6 ∷ []);
        listed = refl;
        follows = refl;
        greater = lit≤ tt;
      }));
    };
    gives = tt;
  })

  -- b answers a refusal: lawful
  b_answered-lawful : Lawful deeds first b_answered
  b_answered-lawful =
      refusal-lawful deeds first b1 b_withdrawn b_withdrawn-lawful refl 4 four
