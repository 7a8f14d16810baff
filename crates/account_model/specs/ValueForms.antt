-- The forms that values of options have (specs/Names, specs/Values), as refusals tell them.
use Rattle.std.specs.Prelude.{ℕ, List, codes}

-- of a name, in short
abbrev pub name_form : List ℕ
name_form = codes "1 to 32 letters, digits, _ . or -, not - first, not digits alone"

-- of a home, a base folder and a shell
abbrev pub path_form : List ℕ
path_form = codes "a path that begins with /, no : and no newline"

-- of a comment and a hash
abbrev pub field_form : List ℕ
field_form = codes "no : and no newline"

-- of a part of a comment
abbrev pub part_form : List ℕ
part_form = codes "no : , = and no newline"

-- of a UID and a GID
abbrev pub id_form : List ℕ
id_form = codes "a number from 0 to 4294967294"

-- of a setting of login.defs
abbrev pub key_form : List ℕ
key_form = codes "KEY=VALUE, with a key that accounts-useradd(8) lists"

-- of a range of subordinate IDs
abbrev pub range_form : List ℕ
range_form = codes "FIRST-LAST, two IDs"

-- of a number of days
abbrev pub days_form : List ℕ
days_form = codes "-1 or a number from 0 to 2147483647"

-- of a date
abbrev pub date_form : List ℕ
date_form = codes "a date as 2026-01-31, days since 1970-01-01, or -1"
