-- A whole commit, event by event: `groupadd -P R -g 1500 staff` on an empty passwd and an empty group.
-- Each history is named for its last step, and lawful by computation.
use Rattle.std.proofs.Common.{codes, ◌≡◌, ◌≢◌, refl, lit≤, true, false, [], ◌∷◌, Some, None}
use Rattle.std.specs.Fmt.{digits}
use Rattle.acct_text.specs.declared.Tab.{Tab}
use Rattle.acct_text.specs.declared.Tab.TheVariants.{Passwd, Shadow, Group, Gshadow, Subuid, Subgid}
use Rattle.acct_outside.specs.declared.Name.TheVariants.{Table, Backup, Staged, Intent, IntentStage, BackupStage, FreeStage, Lock, Defs}
use Rattle.acct_outside.specs.declared.Created.TheVariants.{Done}
use Rattle.acct_outside.specs.Tokens.{free_text}
use Rattle.acct_outside.specs.Folder.{tables}
use Rattle.acct_outside.specs.Calls.{Call, Answer, begins, lists, reads, creates, writes, appends, renames, removes, answers, found_absent, found_bytes}
use Rattle.acct_outside.specs.History.{Event, History, after}
use Rattle.suite_rules.specs.Knowledge.{Seen}
use Rattle.suite_rules.specs.Listing.{new_listing}
use Rattle.suite_rules.specs.Standing.{standing}
use Rattle.suite_rules.specs.Rules.{CommitRule, HasSeen, moves_backup, answers_changed, commit_rule, move_rule, answer_rule}
use Rattle.suite_rules.specs.Lawful.{Lawful, starts, goes_on}
use Rattle.suite_rules.specs.Settled.{settled}
use Rattle.suite_rules.specs.Committed.{committed, folded}
use Rattle.suite_rules.proofs.Staff.{first, is-folder, staff_line, staff_files, staff_deeds, groupadd_staff, m1, is-token-m1, seen_of, carry-lawful}
use Rattle.suite_rules.proofs.RowSteps.{by, start-lawful, take-lawful, reads-lawful, write-lawful, append-lawful, free-lawful}

-- a call of the session that was done
abbrev own : (call : Call) → Answer call → Event
own = by m1

-- nothing has happened
abbrev nothing_happened : History
nothing_happened = []

-- the session begins
abbrev pub begun : History
begun = own (begins groupadd_staff) tt ∷ nothing_happened

-- it lists no lock
abbrev pub listed : History
listed = own lists [] ∷ begun

-- it creates lock 1
abbrev pub created : History
created = own (creates 1) Done ∷ listed

-- it lists its lock as the greatest, and is keeper
abbrev pub became_keeper : History
became_keeper = own lists (1 ∷ []) ∷ created

-- it finds no intent
abbrev pub found_no_intent : History
found_no_intent = own (reads Intent) found_absent ∷ became_keeper

-- it reads passwd, which is empty
abbrev pub read_passwd : History
read_passwd = own (reads (Table Passwd)) (found_bytes []) ∷ found_no_intent

-- it finds no shadow
abbrev pub read_shadow : History
read_shadow = own (reads (Table Shadow)) found_absent ∷ read_passwd

-- it reads group, which is empty
abbrev pub read_group : History
read_group = own (reads (Table Group)) (found_bytes []) ∷ read_shadow

-- it finds no gshadow
abbrev pub read_gshadow : History
read_gshadow = own (reads (Table Gshadow)) found_absent ∷ read_group

-- it finds no subuid
abbrev pub read_subuid : History
read_subuid = own (reads (Table Subuid)) found_absent ∷ read_gshadow

-- it finds no subgid
abbrev pub read_subgid : History
read_subgid = own (reads (Table Subgid)) found_absent ∷ read_subuid

-- it finds no login.defs
abbrev pub read_settings : History
read_settings = own (reads Defs) found_absent ∷ read_subgid

-- it writes the old group
abbrev pub staged_backup : History
staged_backup = own (writes BackupStage []) tt ∷ read_settings

-- it moves that to the backup
abbrev pub backed_up : History
backed_up = own (renames BackupStage (Backup Group)) tt ∷ staged_backup

-- it writes the first piece of the intent
abbrev pub begun_intent : History
begun_intent =
    own (writes IntentStage (codes "accounts-intent 2 1 1 28\ngroup 14\n")) tt ∷ backed_up

-- it appends the bytes of the table
abbrev pub longer_intent : History
longer_intent = own (appends IntentStage staff_line) tt ∷ begun_intent

-- it appends the end
abbrev pub staged_intent : History
staged_intent = own (appends IntentStage (codes "\nend\n")) tt ∷ longer_intent

-- it commits
abbrev pub committed_group : History
committed_group = own (renames IntentStage Intent) tt ∷ staged_intent

-- it writes the new group
abbrev pub staged_group : History
staged_group = own (writes (Staged Group) staff_line) tt ∷ committed_group

-- it moves that to group
abbrev pub installed_group : History
installed_group = own (renames (Staged Group) (Table Group)) tt ∷ staged_group

-- it removes the intent
abbrev pub cleared : History
cleared = own (removes Intent) tt ∷ installed_group

-- it writes the free text
abbrev pub staged_free : History
staged_free = own (writes FreeStage free_text) tt ∷ cleared

-- it moves that to its lock
abbrev pub freed : History
freed = own (renames FreeStage (Lock 1)) tt ∷ staged_free

-- it answers success
abbrev pub answered : History
answered = own (answers 0) tt ∷ freed

-- What stands at the end: group has the line, its backup is empty, lock 1 is free, and no intent.

-- the group
group-after : (after first answered).file (Table Group) ≡ Some staff_line
group-after = refl

-- its backup
backup-after : (after first answered).file (Backup Group) ≡ Some []
backup-after = refl

-- the lock
lock-after : (after first answered).file (Lock 1) ≡ Some free_text
lock-after = refl

-- the intent
intent-after : (after first answered).file Intent ≡ None
intent-after = refl

-- one command was committed
one-committed : committed answered
    ≡ record { token = m1; number = 1; command = groupadd_staff } ∷ []
one-committed = refl

-- its fold has the line
group-folded : folded staff_deeds first (committed answered) Group ≡ Some staff_line
group-folded = refl

-- the settled group is empty before the commit
settled-before : settled (after first staged_intent) Group ≡ Some []
settled-before = refl

-- and has the line from the commit on
settled-at-commit : settled (after first committed_group) Group ≡ Some staff_line
unfolding digits
settled-at-commit = refl

-- What the commit rests on.

-- what the session has seen when it commits
abbrev seen_all : Seen
seen_all = seen_of (standing m1 staged_intent).knows

-- it has seen each table
each-table-seen : (table : Tab) → seen_all.file (Table table) ≡ Some (tables first table)
each-table-seen Passwd = refl
each-table-seen table = refl

-- the table that differs is backed up
staff-backed : (table : Tab) → staff_files table ≢ tables first table →
    seen_all.backed table ≡ true
staff-backed Group differs = refl
staff-backed table differs = absurd (differs refl)

-- it has seen all
abbrev staff_seen : HasSeen (standing m1 staged_intent).command seen_all
staff_seen = record {
  command = groupadd_staff;
  files = tables first;
  defs = None;
  is_asked = refl;
  each_table = each-table-seen;
  settings = refl;
}

-- so it may commit
pub staff-commit : CommitRule staff_deeds (standing m1 staged_intent) 1
unfolding digits
staff-commit = record {
  first = refl;
  seen = seen_all;
  knows = refl;
  has_seen = staff_seen;
  new = staff_files;
  is_deed = refl;
  staged = refl;
  backed = staff-backed;
}

-- The history is lawful.

-- the session begins, and lists no lock: lawful
listed-lawful : Lawful staff_deeds first listed
listed-lawful =
    start-lawful staff_deeds first m1 nothing_happened (starts is-folder) refl groupadd_staff
    is-token-m1 [] refl

-- it creates lock 1, and is keeper: lawful
became_keeper-lawful : Lawful staff_deeds first became_keeper
became_keeper-lawful =
    take-lawful staff_deeds first m1 listed listed-lawful refl
    (new_listing false []) refl refl refl (lit≤ tt) refl (1 ∷ []) refl

-- it reads the intent, the six tables and login.defs: lawful
read_settings-lawful : Lawful staff_deeds first read_settings
read_settings-lawful =
    reads-lawful staff_deeds first m1
    (Intent ∷ Table Passwd ∷ Table Shadow ∷ Table Group ∷ Table Gshadow ∷ Table Subuid
    ∷ Table Subgid ∷ Defs ∷ []) became_keeper became_keeper-lawful refl

-- it writes the old group: lawful
staged_backup-lawful : Lawful staff_deeds first staged_backup
staged_backup-lawful =
    write-lawful staff_deeds first m1 read_settings read_settings-lawful refl BackupStage []
    (record { number = 1; keeps = refl })
    (record { staging = refl; small = lit≤ tt })

-- it moves that to the backup: lawful
backed_up-lawful : Lawful staff_deeds first backed_up
backed_up-lawful = goes_on _ _ staged_backup-lawful (record {
  keeps = record {
    life_rule = tt;
    permitted = move_rule _ _ (record { number = 1; keeps = refl }) (moves_backup Group (record {
      seen = _;
      knows = refl;
      bytes = [];
      is_seen = refl;
      staged = refl;
    }));
  };
  gives = refl;
})

-- it writes the first piece of the intent: lawful
begun_intent-lawful : Lawful staff_deeds first begun_intent
begun_intent-lawful =
    write-lawful staff_deeds first m1 backed_up backed_up-lawful refl IntentStage _
    (record { number = 1; keeps = refl })
    (record { staging = refl; small = lit≤ tt })

-- it appends the bytes of the table: lawful
longer_intent-lawful : Lawful staff_deeds first longer_intent
longer_intent-lawful =
    append-lawful staff_deeds first m1 begun_intent begun_intent-lawful refl IntentStage staff_line
    (record { number = 1; keeps = refl })
    (record { rule = record { staging = refl; small = lit≤ tt }; behind = refl }) refl

-- it appends the end: lawful
pub staged_intent-lawful : Lawful staff_deeds first staged_intent
staged_intent-lawful =
    append-lawful staff_deeds first m1 longer_intent longer_intent-lawful refl IntentStage _
    (record { number = 1; keeps = refl })
    (record { rule = record { staging = refl; small = lit≤ tt }; behind = refl }) refl

-- it commits: lawful
committed_group-lawful : Lawful staff_deeds first committed_group
committed_group-lawful = goes_on _ _ staged_intent-lawful (record {
  keeps = record {
    life_rule = tt;
    permitted = commit_rule (record { number = 1; keeps = refl }) staff-commit;
  };
  gives = refl;
})

-- it carries the intent out: lawful
cleared-lawful : Lawful staff_deeds first cleared
cleared-lawful =
    carry-lawful m1 committed_group committed_group-lawful refl
    (record { number = 1; keeps = refl }) refl

-- it frees its lock: lawful
freed-lawful : Lawful staff_deeds first freed
freed-lawful =
    free-lawful staff_deeds first m1 cleared cleared-lawful refl
    (record { number = 1; keeps = refl })

-- it answers success: lawful
answered-lawful : Lawful staff_deeds first answered
answered-lawful = goes_on _ _ freed-lawful (record {
  keeps = record {
    life_rule = tt;
    permitted = answer_rule 0 (answers_changed refl);
  };
  gives = tt;
})
