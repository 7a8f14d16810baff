-- What the rules refuse: the next event of wrong programs, each after a history of its own, for all
-- deeds and whatever the first folder.
use Rattle.std.proofs.Common.{◌≡◌, refl, sym, ap, subst, ◌∙◌, ℕ, Bool, false, [], ◌∷◌, length, Option, Some, None, codes, true≢false, arith}
use Rattle.std.specs.Fmt.{digits}
use Rattle.acct_text.specs.declared.Tab.{Tab}
use Rattle.acct_text.specs.declared.Tab.TheVariants.{Passwd, Group, Gshadow}
use Rattle.acct_text.specs.Bytes.{Bytes}
use Rattle.acct_outside.specs.declared.Name.TheVariants.{Table, Staged, Intent, IntentStage, Lock}
use Rattle.acct_outside.specs.declared.Created.TheVariants.{Done}
use Rattle.acct_outside.specs.declared.Verdict.TheVariants.{Dead}
use Rattle.acct_outside.specs.Folder.{Folder, greatest}
use Rattle.acct_outside.specs.Calls.{Call, Answer, lists, reads, asks, creates, writes, appends, renames, removes, answers, done, failed, happened, found_absent, found_bytes}
use Rattle.acct_outside.specs.History.{Event, History}
use Rattle.intent_file.specs.Intent.{Intended, ReadsIntent, listed_in}
use Rattle.intent_file.specs.declared.Version.TheVariants.{Two}
use Rattle.suite_rules.proofs.Intents.{one-intent}
use Rattle.suite_rules.specs.Deeds.{SuiteDeeds}
use Rattle.suite_rules.specs.OwnLock.{lock_uncalled, lock_kept}
use Rattle.suite_rules.specs.Listing.{Listing}
use Rattle.suite_rules.specs.Knowledge.{Knowledge, knows_bytes, table_with}
use Rattle.suite_rules.specs.Standing.{Standing, standing}
use Rattle.suite_rules.specs.Rules.{ClearRule, CommitRule, KeeperRule, unlocks_below, unlocks_own, answers_refusal, answers_changed, answers_same, answers_shown, Permits, create_rule, staging_rule, append_rule, commit_rule, install_rule, clear_rule, move_rule, unlock_rule, answer_rule}
use Rattle.suite_rules.specs.Lawful.{IsNext}
use Rattle.suite_rules.proofs.Staff.{m1, staff_line, staff_intent, staff_intended, staff-reads, seen_of}
use Rattle.suite_rules.proofs.CommitRow.{begun, became_keeper, read_passwd, read_settings}

-- a call of the session that was done
abbrev own : (call : Call) → Answer call → Event
own call answer = record { token = m1; call = call; result = done answer }

-- the event may never come next after the history
abbrev IsRefused : Event → History → Type 0
IsRefused event history =
    (deeds : SuiteDeeds) (first : Folder) → IsNext deeds first history event → ⊥

-- `takeover_same_number`: the lock of a dead holder is removed, to create its number again.

-- lock 4 was read as held by z, who was told dead
abbrev judged_dead : History
judged_dead =
    own (asks (codes "z")) Dead
    ∷ own (reads (Lock 4)) (found_bytes (codes "held z\n")) ∷ own lists (4 ∷ []) ∷ begun

-- the removal is refused
takeover_same_number : IsRefused (own (removes (Lock 4)) tt) judged_dead
takeover_same_number deeds first next = cases next.keeps.permitted
  where
    cases : Permits deeds (standing m1 judged_dead) (removes (Lock 4)) → ⊥
    cases (unlock_rule _ (unlocks_below keeper below)) = let none = keeper.keeps in cc
    cases (unlock_rule _ (unlocks_own outrun)) = let none = outrun.made in cc

-- the greatest number of a listing, 0 before the first
abbrev greatest_of : Option Listing → ℕ
greatest_of None = 0
greatest_of (Some listing) = greatest listing.numbers

-- and so is the create of the same number
takeover_same_create : IsRefused (own (creates 4) Done) judged_dead
takeover_same_create deeds first next = cases next.keeps.permitted
  where
    four : (listing : Listing) → (standing m1 judged_dead).listing ≡ Some listing →
        4 ≡ greatest listing.numbers
    four listing listed = ap greatest_of listed

    cases : Permits deeds (standing m1 judged_dead) (creates 4) → ⊥
    cases (create_rule _ rule) =
        let above = rule.one_above in
        let is = four rule.listing rule.listed in
        omega arith

-- `no_second_listing`: a session writes after its create, without a second listing.

-- lock 1 was created
abbrev created_lock : History
created_lock = own (creates 1) Done ∷ own lists [] ∷ begun

-- a write is refused
no_second_listing : IsRefused (own (writes (Staged Group) staff_line) tt) created_lock
no_second_listing deeds first next = cases next.keeps.permitted
  where
    cases : Permits deeds (standing m1 created_lock) (writes (Staged Group) staff_line) → ⊥
    cases (staging_rule _ _ keeper is) = let unkept = keeper.keeps in cc

-- `early_read`: tables are read before the session is keeper, and then committed.

-- passwd was read before the lock was made
abbrev read_early : History
read_early =
    own (reads Intent) found_absent
    ∷ own lists (1 ∷ []) ∷ own (creates 1) Done ∷ own (reads (Table Passwd)) (found_bytes [])
    ∷ own lists [] ∷ begun

-- the commit is refused
early_read : IsRefused (own (renames IntentStage Intent) tt) read_early
early_read deeds first next = cases next.keeps.permitted
  where
    unseen : (keeper : KeeperRule (standing m1 read_early)) →
        CommitRule deeds (standing m1 read_early) keeper.number → ⊥
    unseen keeper rule =
        let seen = ap (λ (knows : Knowledge). (seen_of knows).file (Table Passwd)) rule.knows in
        let passwd = rule.has_seen.each_table Passwd in
        cc

    cases : Permits deeds (standing m1 read_early) (renames IntentStage Intent) → ⊥
    cases (commit_rule keeper rule) = unseen keeper rule
    cases (move_rule _ _ keeper move) = elim move [ ]

-- An intent is removed while a table that it lists isn't in place.
clear-refused : (standing : Standing) (bytes : Bytes) (placed : Tab → Bool) (intent : Intended)
    (table : Tab) (new : Bytes) → standing.knows ≡ knows_bytes bytes placed →
    ReadsIntent bytes intent → listed_in intent.tables table ≡ Some new → placed table ≡ false →
    ClearRule standing → ⊥
clear-refused standing bytes placed intent table new knows reads_it listed unplaced rule =
    true≢false (sym
    (rule.in_place table new (ap (λ (one : Intended). listed_in one.tables table) one
    ∙ listed)) ∙ (ap (λ (one : Tab → Bool). one table) same-placed ∙ unplaced))
  where
    same : knows_bytes rule.knows.bytes rule.knows.placed ≡ knows_bytes bytes placed
    same = sym rule.knows.knows ∙ knows

    same-bytes : rule.knows.bytes ≡ bytes
    same-bytes = cc same

    same-placed : rule.knows.placed ≡ placed
    same-placed = cc same

    one : rule.knows.intent ≡ intent
    one = one-intent bytes rule.knows.intent intent
        (subst (λ (known : Bytes). ReadsIntent known rule.knows.intent) same-bytes
        rule.knows.reads_it) reads_it

-- `drops_intent`: a keeper recovers by removing the intent.

-- the intent was read
abbrev intent_read : History
intent_read = own (reads Intent) (found_bytes staff_intent) ∷ became_keeper

-- its removal is refused
drops_intent : IsRefused (own (removes Intent) tt) intent_read
drops_intent deeds first next = cases next.keeps.permitted
  where
    cases : Permits deeds (standing m1 intent_read) (removes Intent) → ⊥
    cases (clear_rule keeper rule) =
        clear-refused (standing m1 intent_read) staff_intent (λ table. false) staff_intended Group
        staff_line refl staff-reads refl refl rule

-- `clears_early`: the intent is removed after the first listed table.

-- an intent of two tables
abbrev two_intent : Bytes
two_intent = codes "accounts-intent 2 1 2 39\ngroup 14\nstaff:!:1500:\n\ngshadow 0\n\nend\n"

-- what it says
abbrev two_intended : Intended
two_intended = record {
  version = Two;
  number = 1;
  tables = record { table = Group; bytes = staff_line } ∷ record { table = Gshadow; bytes = [] }
      ∷ [];
}

-- it reads so
two-read : ReadsIntent two_intent two_intended
unfolding digits
two-read = record { allowed = refl; text = refl }

-- group was put in place
abbrev first_in_place : History
first_in_place =
    own (renames (Staged Group) (Table Group)) tt
    ∷ own (writes (Staged Group) staff_line) tt
    ∷ own (reads Intent) (found_bytes two_intent) ∷ became_keeper

-- the removal is refused
clears_early : IsRefused (own (removes Intent) tt) first_in_place
clears_early deeds first next = cases next.keeps.permitted
  where
    cases : Permits deeds (standing m1 first_in_place) (removes Intent) → ⊥
    cases (clear_rule keeper rule) =
        clear-refused (standing m1 first_in_place) two_intent (table_with Group (λ table. false))
        two_intended Gshadow [] refl two-read refl refl rule

-- `early_success`: success is answered before the commit was done.

-- the commit was called and failed
abbrev commit_failed : History
commit_failed =
    record { token = m1; call = renames IntentStage Intent; result = failed happened }
    ∷ read_passwd

-- the answer is refused
early_success : IsRefused (own (answers 0) tt) commit_failed
early_success deeds first next = cases next.keeps.permitted
  where
    cases : Permits deeds (standing m1 commit_failed) (answers 0) → ⊥
    cases (answer_rule _ (answers_refusal other)) = other refl
    cases (answer_rule _ (answers_changed is)) = cc
    cases (answer_rule _ (answers_same same)) =
        let seen = ap (λ (knows : Knowledge). (seen_of knows).file (Table Group)) same.knows in
        let group = same.has_seen.each_table Group in
        cc
    cases (answer_rule _ (answers_shown shows)) =
        let uncalled : lock_kept 1 ≡ lock_uncalled = shows.uncalled in cc

-- `in_place`: a table is written in place, or moved there without an intent.

-- the write is refused
in_place : IsRefused (own (writes (Table Group) staff_line) tt) read_settings
in_place deeds first next = cases next.keeps.permitted
  where
    cases : Permits deeds (standing m1 read_settings) (writes (Table Group) staff_line) → ⊥
    cases (staging_rule _ _ keeper rule) = true≢false (sym rule.staging)

-- `append_in_place`: a piece is put behind a table in place.

-- the append is refused
append_in_place : IsRefused (own (appends (Table Group) staff_line) tt) read_settings
append_in_place deeds first next = cases next.keeps.permitted
  where
    cases : Permits deeds (standing m1 read_settings) (appends (Table Group) staff_line) → ⊥
    cases (append_rule _ _ keeper rule) = true≢false (sym rule.rule.staging)

-- `append_first`: a piece is put behind what another session left at a staging name.

-- the append is refused
append_first : IsRefused (own (appends (Staged Group) staff_line) tt) read_settings
append_first deeds first next = cases next.keeps.permitted
  where
    cases : Permits deeds (standing m1 read_settings) (appends (Staged Group) staff_line) → ⊥
    cases (append_rule _ _ keeper rule) = true≢false (sym rule.behind)

-- `too_large`: 65,537 bytes are written by one call.

-- the write is refused, whatever the bytes
too_large : (piece : Bytes) → length piece ≡ 65537 →
    IsRefused (own (writes (Staged Group) piece) tt) read_settings
too_large piece size deeds first next = cases next.keeps.permitted
  where
    cases : Permits deeds (standing m1 read_settings) (writes (Staged Group) piece) → ⊥
    cases (staging_rule _ _ keeper rule) = let small = rule.small in omega (arith, small, size)

-- group was staged, and no intent stands
abbrev staged_without_intent : History
staged_without_intent = own (writes (Staged Group) staff_line) tt ∷ read_settings

-- the move is refused
in_place_moved : IsRefused (own (renames (Staged Group) (Table Group)) tt) staged_without_intent
in_place_moved deeds first next = cases next.keeps.permitted
  where
    cases : Permits deeds (standing m1 staged_without_intent)
        (renames (Staged Group) (Table Group)) →
        ⊥
    cases (install_rule _ keeper rule) = let none = rule.knows.knows in cc
    cases (move_rule _ _ keeper move) = elim move [ ]

-- `no_backups`: a session commits without backups.

-- the intent was staged, and no backup was moved
abbrev without_backup : History
without_backup = own (writes IntentStage staff_intent) tt ∷ read_settings

-- the commit is refused, whatever the deed
no_backups : IsRefused (own (renames IntentStage Intent) tt) without_backup
no_backups deeds first next = cases next.keeps.permitted
  where
    unbacked : (keeper : KeeperRule (standing m1 without_backup)) →
        CommitRule deeds (standing m1 without_backup) keeper.number → ⊥
    unbacked keeper rule =
        let change = deeds.makes_changes rule.has_seen.command rule.has_seen.files
        rule.has_seen.defs rule.new rule.is_deed in
        let none = ap (λ (knows : Knowledge). (seen_of knows).backed change.changed.0) rule.knows in
        true≢false (sym (rule.backed change.changed.0 change.changed.1) ∙ sym none)

    cases : Permits deeds (standing m1 without_backup) (renames IntentStage Intent) → ⊥
    cases (commit_rule keeper rule) = unbacked keeper rule
    cases (move_rule _ _ keeper move) = elim move [ ]
