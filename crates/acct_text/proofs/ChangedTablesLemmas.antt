-- One table after the other: the tables that differ are those that differ among the first ones, with
-- those among the rest behind them (`changed_among-cons`, `with_new_table-append`).
use Rattle.std.proofs.Common.{◌≡◌, ◌++◌, refl, Bool, true, false, if◌then◌else◌, List, [], ◌∷◌, Option, Some, None}
use Rattle.acct_text.specs.declared.Tab.{Tab}
use Rattle.acct_text.specs.declared.new_tables.NewTable.{NewTable}
use Rattle.acct_text.specs.Bytes.{Bytes}
use Rattle.acct_text.specs.ChangedTables.{with_new_table, changed_among, changed_bytes}
use Rattle.acct_text.specs.Contents.{Contents, same_content}

-- one table more is listed where its bytes differ
pub changed_among-cons :
    (table : Tab) (tables : List Tab) (old new : Contents)
    → changed_among (table ∷ tables) old new
    ≡ with_new_table table (changed_bytes (old table) (new table)) (changed_among tables old new)
changed_among-cons table tables old new = by_test (same_content (old table) (new table))
  where
    rest : List NewTable
    rest = changed_among tables old new

    by_test :
        (is_same : Bool)
        → (if is_same then rest else with_new_table table (new table) rest)
        ≡ with_new_table table (if is_same then None else new table) rest
    by_test true = refl
    by_test false = refl

-- one table more is listed before others
pub with_new_table-append :
    (table : Tab) (bytes : Option Bytes) (news : List NewTable)
    → with_new_table table bytes [] ++ news ≡ with_new_table table bytes news
with_new_table-append table None news = refl
with_new_table-append table (Some bytes) news = refl
