-- A table that is put in place has its content (`with_table-same`), and the others stay
-- (`with_table-other`). Of each table just that is seen which is seen of its content (`seen-there`).
use Rattle.std.proofs.Common.{◌≡◌, refl, false, List, Option, true≢false}
use Rattle.acct_text.specs.declared.Tab.{Tab}
use Rattle.acct_text.specs.declared.Tab.TheVariants.{Passwd, Shadow, Group, Gshadow, Subuid, Subgid}
use Rattle.acct_text.specs.declared.files.Files.{Files}
use Rattle.acct_text.specs.Bytes.{Bytes}
use Rattle.acct_text.specs.Files.{table_of, with_table}
use Rattle.acct_text.specs.SeenTables.{seen_of, seen_through}
use Rattle.acct_text.specs.Tables.{same_table}

-- the table that is put has its content
pub with_table-same : (table : Tab) (content : Option Bytes) (files : Files) →
    table_of (with_table table content files) table ≡ content
with_table-same Passwd content files = refl
with_table-same Shadow content files = refl
with_table-same Group content files = refl
with_table-same Gshadow content files = refl
with_table-same Subuid content files = refl
with_table-same Subgid content files = refl

-- the others stay
pub with_table-other : (table other : Tab) (content : Option Bytes) (files : Files) →
    same_table other table ≡ false →
    table_of (with_table table content files) other ≡ table_of files other
with_table-other Passwd Passwd content files differs = absurd (true≢false differs)
with_table-other Shadow Shadow content files differs = absurd (true≢false differs)
with_table-other Group Group content files differs = absurd (true≢false differs)
with_table-other Gshadow Gshadow content files differs = absurd (true≢false differs)
with_table-other Subuid Subuid content files differs = absurd (true≢false differs)
with_table-other Subgid Subgid content files differs = absurd (true≢false differs)
with_table-other table other content files differs = refl

-- of each table that is seen which is seen of its content
pub seen-there : (tables : List Tab) (files : Files) (table : Tab) →
    table_of (seen_through tables files) table ≡ seen_of tables table (table_of files table)
seen-there tables files Passwd = refl
seen-there tables files Shadow = refl
seen-there tables files Group = refl
seen-there tables files Gshadow = refl
seen-there tables files Subuid = refl
seen-there tables files Subgid = refl
