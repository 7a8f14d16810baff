-- The records of the six tables: passwd(5), shadow(5), group(5), gshadow(5), subuid(5) and
-- subgid(5).
use Rattle.std.specs.Prelude.{ℕ, ◌+◌, ◌-◌, Bool, true, false, ◌&&◌, ◌||◌, not, List, [], ◌∷◌, nat_le, bytes_eq, decimal, codes, Option, Some, None, option_map, if◌then◌else◌, ◌==◌, is_some}
use Rattle.std.specs.List.{join_with_byte}
use Rattle.account_model.specs.declared.records.PasswdRecord.{PasswdRecord}
use Rattle.account_model.specs.declared.records.ShadowRecord.{ShadowRecord}
use Rattle.account_model.specs.declared.records.GroupRecord.{GroupRecord}
use Rattle.account_model.specs.declared.records.GshadowRecord.{GshadowRecord}
use Rattle.account_model.specs.declared.records.SubidRecord.{SubidRecord}
use Rattle.acct_text.specs.Bytes.{is_empty}
use Rattle.acct_text.specs.Pieces.{cut_at, fields_of, line_of}
use Rattle.acct_text.specs.Numbers.{number_within}
use Rattle.account_model.specs.Text.{comma, nonempty, names_eq}
use Rattle.account_model.specs.Format.{Format}

-- the greatest UID, GID or subordinate ID: -1 as a number of 32 bits is none (useradd(8), `-u`)
abbrev pub greatest_id : ℕ
greatest_id = 4294967294

-- the greatest day and number of days
abbrev pub greatest_days : ℕ
greatest_days = 2147483647

-- a UID or a GID
abbrev pub read_id : List ℕ → Option ℕ
read_id text = number_within greatest_id text

-- a UID or a GID: decimal digits, at most the greatest ID
abbrev pub is_id : List ℕ → Bool
is_id text = is_some (read_id text)

-- a number of shadow: none where the field is empty or `-1` (shadow(5))
abbrev pub read_days : List ℕ → Option (Option ℕ)
read_days text = if is_empty text || bytes_eq text (codes "-1") then Some None
    else option_map Some (number_within greatest_days text)

-- a number of shadow as it is printed: nothing where there is none
abbrev pub print_days : Option ℕ → List ℕ
print_days None = []
print_days (Some days) = decimal days

-- whether two numbers of shadow are equal
abbrev pub days_eq : Option ℕ → Option ℕ → Bool
days_eq None None = true
days_eq None (Some b) = false
days_eq (Some a) None = false
days_eq (Some a) (Some b) = a == b

-- the names of a list of members or administrators; empty pieces are dropped
abbrev pub read_names : List ℕ → List (List ℕ)
read_names text = nonempty (cut_at comma text)

-- the names with a comma between each two
abbrev pub print_names : List (List ℕ) → List ℕ
print_names names = join_with_byte comma names

-- the record of these fields, where both numbers could be read and the name isn't empty
abbrev pub passwd_with :
    List ℕ → List ℕ → Option ℕ → Option ℕ → List ℕ → List ℕ → List ℕ → Option PasswdRecord
passwd_with name password (Some uid) (Some gid) comment home shell =
    if is_empty name then None else Some (record {
      name = name;
      password = password;
      uid = uid;
      gid = gid;
      comment = comment;
      home = home;
      shell = shell;
    })
passwd_with name password uid gid comment home shell = None

-- the record of seven fields (passwd(5))
abbrev pub passwd_of_fields : List (List ℕ) → Option PasswdRecord
passwd_of_fields (name ∷ password ∷ uid ∷ gid ∷ comment ∷ home ∷ shell ∷ []) =
    passwd_with name password (read_id uid) (read_id gid) comment home shell
passwd_of_fields pieces = None

-- the canonical line of a record of passwd
abbrev pub print_passwd : PasswdRecord → List ℕ
print_passwd r = line_of (r.name ∷ r.password ∷ decimal r.uid ∷ decimal r.gid
    ∷ r.comment ∷ r.home ∷ r.shell ∷ [])

-- whether two records of passwd are equal, field by field
abbrev pub passwd_eq : PasswdRecord → PasswdRecord → Bool
passwd_eq r s = bytes_eq r.name s.name && bytes_eq r.password s.password
    && (r.uid == s.uid) && (r.gid == s.gid)
    && bytes_eq r.comment s.comment && bytes_eq r.home s.home && bytes_eq r.shell s.shell

-- the format of passwd: name, password, UID, GID, comment, home and shell (passwd(5))
abbrev pub passwd_format : Format PasswdRecord
passwd_format = record {
  read = λ text. passwd_of_fields (fields_of text);
  print = print_passwd;
  name = λ r. r.name;
  same = passwd_eq;
}

-- the record of these fields, where all six numbers could be read and the name isn't empty
abbrev pub shadow_with :
    List ℕ → List ℕ → Option (Option ℕ) → Option (Option ℕ) → Option (Option ℕ)
    → Option (Option ℕ) → Option (Option ℕ) → Option (Option ℕ) → List ℕ → Option ShadowRecord
shadow_with name hash (Some last_change) (Some minimum) (Some maximum)
    (Some warning) (Some inactive) (Some expiration) rest =
    if is_empty name then None else Some (record {
      name = name;
      hash = hash;
      last_change = last_change;
      minimum = minimum;
      maximum = maximum;
      warning = warning;
      inactive = inactive;
      expiration = expiration;
      rest = rest;
    })
shadow_with name hash last_change minimum maximum warning inactive expiration rest = None

-- the record of nine fields (shadow(5))
abbrev pub shadow_of_fields : List (List ℕ) → Option ShadowRecord
shadow_of_fields
    (name ∷ hash ∷ last_change ∷ minimum ∷ maximum ∷ warning ∷ inactive ∷ expiration ∷ rest ∷ []) =
    shadow_with name hash (read_days last_change) (read_days minimum) (read_days maximum)
    (read_days warning) (read_days inactive) (read_days expiration) rest
shadow_of_fields pieces = None

-- the canonical line of a record of shadow
abbrev pub print_shadow : ShadowRecord → List ℕ
print_shadow r = line_of (r.name ∷ r.hash ∷ print_days r.last_change ∷ print_days r.minimum
    ∷ print_days r.maximum ∷ print_days r.warning ∷ print_days r.inactive
    ∷ print_days r.expiration ∷ r.rest ∷ [])

-- whether two records of shadow are equal, field by field
abbrev pub shadow_eq : ShadowRecord → ShadowRecord → Bool
shadow_eq r s = bytes_eq r.name s.name && bytes_eq r.hash s.hash
    && days_eq r.last_change s.last_change
    && days_eq r.minimum s.minimum && days_eq r.maximum s.maximum && days_eq r.warning s.warning
    && days_eq r.inactive s.inactive && days_eq r.expiration s.expiration && bytes_eq r.rest s.rest

-- the format of shadow: name, hash, last change, minimum, maximum, warning, inactive, expiration
-- and rest (shadow(5))
abbrev pub shadow_format : Format ShadowRecord
shadow_format = record {
  read = λ text. shadow_of_fields (fields_of text);
  print = print_shadow;
  name = λ r. r.name;
  same = shadow_eq;
}

-- a record of shadow with a hash and nothing else
abbrev pub hash_alone : List ℕ → List ℕ → ShadowRecord
hash_alone name hash = record {
  name = name;
  hash = hash;
  last_change = None;
  minimum = None;
  maximum = None;
  warning = None;
  inactive = None;
  expiration = None;
  rest = [];
}

-- the record of four fields, where the GID could be read and the name isn't empty (group(5))
abbrev pub group_of_fields : List (List ℕ) → Option GroupRecord
group_of_fields (name ∷ password ∷ gid ∷ members ∷ []) = if is_empty name then None else
    option_map (λ id. record {
      name = name;
      password = password;
      gid = id;
      members = read_names members;
    }) (read_id gid)
group_of_fields pieces = None

-- the canonical line of a record of group
abbrev pub print_group : GroupRecord → List ℕ
print_group r = line_of (r.name ∷ r.password ∷ decimal r.gid ∷ print_names r.members ∷ [])

-- whether two records of group are equal, field by field
abbrev pub group_eq : GroupRecord → GroupRecord → Bool
group_eq r s = bytes_eq r.name s.name && bytes_eq r.password s.password
    && (r.gid == s.gid) && names_eq r.members s.members

-- the format of group: name, password, GID and members (group(5))
abbrev pub group_format : Format GroupRecord
group_format = record {
  read = λ text. group_of_fields (fields_of text);
  print = print_group;
  name = λ r. r.name;
  same = group_eq;
}

-- the record of four fields, where the name isn't empty (gshadow(5))
abbrev pub gshadow_of_fields : List (List ℕ) → Option GshadowRecord
gshadow_of_fields (name ∷ password ∷ administrators ∷ members ∷ []) =
    if is_empty name then None else Some (record {
      name = name;
      password = password;
      administrators = read_names administrators;
      members = read_names members;
    })
gshadow_of_fields pieces = None

-- the canonical line of a record of gshadow
abbrev pub print_gshadow : GshadowRecord → List ℕ
print_gshadow r =
    line_of (r.name ∷ r.password ∷ print_names r.administrators ∷ print_names r.members ∷ [])

-- whether two records of gshadow are equal, field by field
abbrev pub gshadow_eq : GshadowRecord → GshadowRecord → Bool
gshadow_eq r s = bytes_eq r.name s.name && bytes_eq r.password s.password
    && names_eq r.administrators s.administrators && names_eq r.members s.members

-- the format of gshadow: name, password, administrators and members (gshadow(5))
abbrev pub gshadow_format : Format GshadowRecord
gshadow_format = record {
  read = λ text. gshadow_of_fields (fields_of text);
  print = print_gshadow;
  name = λ r. r.name;
  same = gshadow_eq;
}

-- the last of the IDs that an owner holds (subuid(5))
abbrev pub last_id : SubidRecord → ℕ
last_id r = r.first + r.count - 1

-- a count as a number may be one more than the greatest ID
abbrev pub read_count : List ℕ → Option ℕ
read_count text = number_within (greatest_id + 1) text

-- whether the range is none: its count is 0, or its last ID passes the greatest
abbrev pub is_bad_range : ℕ → ℕ → Bool
is_bad_range first count = (count == 0) || not (nat_le (first + count - 1) greatest_id)

-- the record of these fields, where both numbers could be read, they are a range, and the owner
-- isn't empty
abbrev pub subid_with : List ℕ → Option ℕ → Option ℕ → Option SubidRecord
subid_with owner (Some first) (Some count) = if is_empty owner || is_bad_range first count
    then None else Some (record { owner = owner; first = first; count = count })
subid_with owner first count = None

-- the record of three fields (subuid(5))
abbrev pub subid_of_fields : List (List ℕ) → Option SubidRecord
subid_of_fields (owner ∷ first ∷ count ∷ []) = subid_with owner (read_id first) (read_count count)
subid_of_fields pieces = None

-- the canonical line of a record of subuid or subgid
abbrev pub print_subid : SubidRecord → List ℕ
print_subid r = line_of (r.owner ∷ decimal r.first ∷ decimal r.count ∷ [])

-- whether two records of subuid or subgid are equal, field by field
abbrev pub subid_eq : SubidRecord → SubidRecord → Bool
subid_eq r s = bytes_eq r.owner s.owner && (r.first == s.first) && (r.count == s.count)

-- the format of subuid and subgid: owner, first ID and count (subuid(5), subgid(5))
abbrev pub subid_format : Format SubidRecord
subid_format = record {
  read = λ text. subid_of_fields (fields_of text);
  print = print_subid;
  name = λ r. r.owner;
  same = subid_eq;
}
