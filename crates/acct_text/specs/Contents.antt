-- What stands at the six tables, and which new contents a command may make of old ones.
use Rattle.std.specs.Prelude.{◌≡◌, ◌≢◌, ◌≤◌, Bool, true, false, length, Option, Some, None, is_some, bytes_eq}
use Rattle.acct_text.specs.declared.Tab.{Tab}
use Rattle.acct_text.specs.Bytes.{Bytes}
use Rattle.acct_text.specs.Limits.{table_limit}

-- what stands at each table: its bytes, or none where it is absent
abbrev pub Contents : Type 0
Contents = Tab → Option Bytes

-- whether two tables are the same: both absent, or with the same bytes
abbrev pub same_content : Option Bytes → Option Bytes → Bool
same_content None None = true
same_content None (Some bytes) = false
same_content (Some bytes) None = false
same_content (Some bytes) (Some others) = bytes_eq bytes others

-- new contents that a command may make of old ones
pub record IsChange (old new : Contents) : Type 0 where
  -- at least one table differs
  pub changed : (tab : Tab) × (new tab ≢ old tab)
  -- no absent table is made, and no standing table goes
  pub standing : (tab : Tab) → is_some (new tab) ≡ is_some (old tab)
  -- each table keeps its limit
  pub small : (tab : Tab) (bytes : Bytes) → new tab ≡ Some bytes → length bytes ≤ table_limit
