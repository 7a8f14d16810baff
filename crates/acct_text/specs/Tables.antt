-- The six account tables, their fixed order and the names of their files (passwd(5), shadow(5),
-- group(5), gshadow(5), subuid(5), subgid(5)).
use Rattle.std.specs.Prelude.{ℕ, Bool, ◌==◌, List, [], ◌∷◌, codes}
use Rattle.acct_text.specs.declared.Tab.{Tab}
use Rattle.acct_text.specs.declared.Tab.TheVariants.{Passwd, Shadow, Group, Gshadow, Subuid, Subgid}
use Rattle.acct_text.specs.Bytes.{Bytes}

-- the tables in their fixed order, in which they are read, written and named in an intent
abbrev pub all_tables : List Tab
all_tables = Passwd ∷ Shadow ∷ Group ∷ Gshadow ∷ Subuid ∷ Subgid ∷ []

-- the place of a table in the fixed order, from 0
abbrev pub table_place : Tab → ℕ
table_place Passwd = 0
table_place Shadow = 1
table_place Group = 2
table_place Gshadow = 3
table_place Subuid = 4
table_place Subgid = 5

-- whether two tables are the same one
abbrev pub same_table : Tab → Tab → Bool
same_table table other = table_place table == table_place other

-- the name of a table's file in the folder `etc`
abbrev pub table_name : Tab → Bytes
table_name Passwd = codes "passwd"
table_name Shadow = codes "shadow"
table_name Group = codes "group"
table_name Gshadow = codes "gshadow"
table_name Subuid = codes "subuid"
table_name Subgid = codes "subgid"
