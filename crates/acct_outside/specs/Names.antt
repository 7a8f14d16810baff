-- The names in the folder: which are the same, how they are spelled, and how much of each is read.
use Rattle.std.specs.Prelude.{ℕ, Bool, true, false, ◌==◌, ◌++◌, codes, decimal}
use Rattle.acct_text.specs.Bytes.{Bytes}
use Rattle.acct_text.specs.Limits.{table_limit}
use Rattle.acct_text.specs.Tables.{same_table, table_name}
use Rattle.acct_outside.specs.declared.Name.{Name}
use Rattle.acct_outside.specs.declared.Name.TheVariants.{Table, Backup, Staged, Intent, IntentStage, BackupStage, FreeStage, Lock, Defs}

-- the two names are one; the name that is asked for comes first
abbrev pub same_name : Name → Name → Bool
same_name (Table t) (Table u) = same_table t u
same_name (Backup t) (Backup u) = same_table t u
same_name (Staged t) (Staged u) = same_table t u
same_name Intent Intent = true
same_name IntentStage IntentStage = true
same_name BackupStage BackupStage = true
same_name FreeStage FreeStage = true
same_name (Lock n) (Lock k) = n == k
same_name Defs Defs = true
same_name _ _ = false

-- the file's name in DIR/etc
abbrev pub file_name : Name → Bytes
file_name (Table t) = table_name t
file_name (Backup t) = table_name t ++ codes "-"
file_name (Staged t) = table_name t ++ codes "+"
file_name Intent = codes "accounts.intent"
file_name IntentStage = codes "accounts.intent+"
file_name BackupStage = codes "accounts.backup+"
file_name FreeStage = codes "accounts.free+"
file_name (Lock n) = codes "accounts.lock." ++ decimal n
file_name Defs = codes "login.defs"

-- the names that a session writes before it moves them
abbrev pub is_staging : Name → Bool
is_staging (Staged t) = true
is_staging IntentStage = true
is_staging BackupStage = true
is_staging FreeStage = true
is_staging _ = false

-- the greatest number of a lock; the least is 1
abbrev pub greatest_lock : ℕ
greatest_lock = 999999999999999999

-- the most bytes of an intent that a read gives
abbrev pub intent_limit : ℕ
intent_limit = 100664320

-- the most bytes of a lock that a read gives
abbrev pub lock_limit : ℕ
lock_limit = 256

-- the most bytes that a read of the name gives: a file with more is told too large
abbrev pub name_limit : Name → ℕ
name_limit Intent = intent_limit
name_limit IntentStage = intent_limit
name_limit (Lock n) = lock_limit
name_limit FreeStage = lock_limit
name_limit _ = table_limit
