-- A death within a commit, and a recovery: the commit of CommitRow happened, but its session died in it.
-- The next session judges it dead, takes over, carries the intent out, and refuses its own command.
-- Each history is named for its last step, and lawful by computation.
use Rattle.std.proofs.Common.{◌≡◌, refl, ap, ℕ, ◌==◌, lit≤, [], ◌∷◌, Some, codes, true≢false}
use Rattle.std.specs.Fmt.{digits}
use Rattle.acct_text.specs.declared.Tab.TheVariants.{Group}
use Rattle.acct_outside.specs.declared.Name.TheVariants.{Table, Staged, Intent, IntentStage, FreeStage, Lock}
use Rattle.acct_outside.specs.declared.Created.TheVariants.{Done}
use Rattle.acct_outside.specs.declared.Verdict.TheVariants.{Dead}
use Rattle.acct_outside.specs.Tokens.{free_text}
use Rattle.acct_outside.specs.Calls.{Call, Answer, begins, lists, reads, asks, creates, writes, renames, removes, answers, died, happened, found_bytes}
use Rattle.acct_outside.specs.History.{Event, History, after}
use Rattle.suite_rules.specs.Rules.{commit_rule}
use Rattle.suite_rules.specs.Lawful.{Lawful, goes_on}
use Rattle.suite_rules.specs.Settled.{settled}
use Rattle.suite_rules.specs.Committed.{committed}
use Rattle.suite_rules.proofs.Staff.{first, staff_line, staff_deeds, groupadd_staff, m1, m2, is-token-m2, staff_intent, carry-lawful}
use Rattle.suite_rules.proofs.RowSteps.{by, judged_listing, judge-lawful, take-lawful, reads-lawful, unlock-lawful, free-lawful, refusal-lawful}
use Rattle.suite_rules.proofs.CommitRow.{staged_intent, staff-commit, staged_intent-lawful}

-- a call of the second session that was done
abbrev second : (call : Call) → Answer call → Event
second = by m2

-- the first session dies within its commit, which happened
abbrev pub died_in_commit : History
died_in_commit =
    record { token = m1; call = renames IntentStage Intent; result = died happened }
    ∷ staged_intent

-- the second session begins
abbrev pub second_begun : History
second_begun = second (begins groupadd_staff) tt ∷ died_in_commit

-- it lists lock 1
abbrev pub listed_dead : History
listed_dead = second lists (1 ∷ []) ∷ second_begun

-- it reads that the first session holds it
abbrev pub read_holder : History
read_holder = second (reads (Lock 1)) (found_bytes (codes "held m1\n")) ∷ listed_dead

-- it is told that this is dead
abbrev pub told_dead : History
told_dead = second (asks m1) Dead ∷ read_holder

-- it creates lock 2
abbrev pub created_above : History
created_above = second (creates 2) Done ∷ told_dead

-- it lists its lock as the greatest, and is keeper
abbrev pub took_over : History
took_over = second lists (1 ∷ 2 ∷ []) ∷ created_above

-- it reads the intent
abbrev pub found_intent : History
found_intent = second (reads Intent) (found_bytes staff_intent) ∷ took_over

-- it writes what this lists for group
abbrev pub staged_again : History
staged_again = second (writes (Staged Group) staff_line) tt ∷ found_intent

-- it moves that to group
abbrev pub recovered_group : History
recovered_group = second (renames (Staged Group) (Table Group)) tt ∷ staged_again

-- it removes the intent
abbrev pub cleared_intent : History
cleared_intent = second (removes Intent) tt ∷ recovered_group

-- it removes the lower lock
abbrev pub unlocked_below : History
unlocked_below = second (removes (Lock 1)) tt ∷ cleared_intent

-- it writes the free text
abbrev pub staged_its_free : History
staged_its_free = second (writes FreeStage free_text) tt ∷ unlocked_below

-- it moves that to its lock
abbrev pub freed_its_lock : History
freed_its_lock = second (renames FreeStage (Lock 2)) tt ∷ staged_its_free

-- it answers a refusal
abbrev pub refused : History
refused = second (answers 4) tt ∷ freed_its_lock

-- What the dead session committed is kept.

-- it is settled from its commit on
settled-when-dead : settled (after first died_in_commit) Group ≡ Some staff_line
unfolding digits
settled-when-dead = refl

-- and in place at the end
group-recovered : (after first refused).file (Table Group) ≡ Some staff_line
group-recovered = refl

-- one lock is left
locks-recovered : (after first refused).locks ≡ 2 ∷ []
locks-recovered = refl

-- one command was committed
committed-once : committed refused
    ≡ record { token = m1; number = 1; command = groupadd_staff } ∷ []
committed-once = refl

-- The history is lawful.

-- the first session dies within its commit, which happened: lawful
died_in_commit-lawful : Lawful staff_deeds first died_in_commit
died_in_commit-lawful = goes_on _ _ staged_intent-lawful (record {
  keeps = record {
    life_rule = tt;
    permitted = commit_rule (record { number = 1; keeps = refl }) staff-commit;
  };
  gives = refl;
})

-- the second session judges the first dead: lawful
told_dead-lawful : Lawful staff_deeds first told_dead
told_dead-lawful =
    judge-lawful staff_deeds first m2 died_in_commit died_in_commit-lawful refl groupadd_staff
    is-token-m2 (1 ∷ []) refl 1 (found_bytes (codes "held m1\n")) refl m1 refl

-- it creates lock 2, and is keeper: lawful
took_over-lawful : Lawful staff_deeds first took_over
took_over-lawful =
    take-lawful staff_deeds first m2 told_dead told_dead-lawful refl
    (judged_listing (1 ∷ []) (codes "held m1\n" ∷ [])) refl refl refl (lit≤ tt) refl
    (1 ∷ 2 ∷ []) refl

-- it reads the intent: lawful
found_intent-lawful : Lawful staff_deeds first found_intent
found_intent-lawful =
    reads-lawful staff_deeds first m2 (Intent ∷ []) took_over took_over-lawful refl

-- it carries the intent out: lawful
cleared_intent-lawful : Lawful staff_deeds first cleared_intent
cleared_intent-lawful =
    carry-lawful m2 found_intent found_intent-lawful refl
    (record { number = 2; keeps = refl }) refl

-- it removes the lower lock: lawful
unlocked_below-lawful : Lawful staff_deeds first unlocked_below
unlocked_below-lawful =
    unlock-lawful staff_deeds first m2 cleared_intent cleared_intent-lawful refl
    (record { number = 2; keeps = refl }) 1 (lit≤ tt)

-- it frees its lock: lawful
freed_its_lock-lawful : Lawful staff_deeds first freed_its_lock
freed_its_lock-lawful =
    free-lawful staff_deeds first m2 unlocked_below unlocked_below-lawful refl
    (record { number = 2; keeps = refl })

-- it answers a refusal: lawful
refused-lawful : Lawful staff_deeds first refused
refused-lawful =
    refusal-lawful staff_deeds first m2 freed_its_lock freed_its_lock-lawful refl 4
    (λ is. true≢false (ap (λ (status : ℕ). status == 4) is))
