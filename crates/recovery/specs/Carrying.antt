-- Carrying out an intent that stands, be it one that the session found or that of its own commit: what
-- the session then knows of it (docs/ARCHITECTURE.md, "The commit").
use Rattle.std.specs.Prelude.{◌≡◌, ℕ, true, Bool, List, ◌++◌, slice_get, All, Some, IsSomeAnd}
use Rattle.acct_text.specs.declared.Tab.{Tab}
use Rattle.acct_text.specs.Bytes.{Bytes}
use Rattle.acct_outside.specs.declared.Name.TheVariants.{Staged}
use Rattle.acct_outside.specs.Pieces.{first_pieces}
use Rattle.intent_file.specs.Intent.{Intended, NewTable, ReadsIntent}
use Rattle.suite_rules.specs.Knowledge.{knows_bytes}
use Rattle.suite_rules.specs.Standing.{Standing}
use Rattle.lock_steps.specs.States.{Kept}
use Rattle.lock_steps.specs.Stands.{Keeps, KnowsAnything}

-- It keeps its number and knows the bytes of this intent. The tables that the intent lists are first
-- those that it has put in place, and then these, which are left.
pub record Carries (intent : Intended) (keeper : Kept) (left : List NewTable) (standing : Standing)
    : Type 0 where
  pub keeps : Keeps keeper KnowsAnything standing
  pub bytes : Bytes
  pub reads_it : ReadsIntent bytes intent
  pub placed : Tab → Bool
  pub knows : standing.knows ≡ knows_bytes bytes placed
  pub moved : List NewTable
  pub lists : intent.tables ≡ moved ++ left
  pub in_place : All (λ new. placed new.table ≡ true) moved

-- there is a first of these tables, and of its bytes so many first pieces are staged
abbrev pub HasStagedFirst : List NewTable → ℕ → Standing → Type 0
HasStagedFirst left staged standing = IsSomeAnd (slice_get left 0)
    (λ next. standing.staged (Staged next.table) ≡ Some (first_pieces staged next.bytes))
