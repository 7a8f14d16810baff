-- The groups that `-g` and `-G` name can stand in lines (`given-group-held`, `given-group-gid`), and a date of `-e` is a
-- day that shadow holds (`expiration-held`).
use Rattle.std.proofs.Common.{◌≡◌, ℕ, ◌≤◌, Bool, true, false, List, refl}
use Rattle.std.specs.Prelude.{Option, Some, None, ◌==◌, codes, option_map, option_and_then, unwrap_or, if◌then◌else◌}
use Rattle.acct_text.specs.declared.files.Files.{Files}
use Rattle.account_model.specs.declared.records.GroupRecord.{GroupRecord}
use Rattle.acct_text.specs.Bytes.{is_empty}
use Rattle.acct_text.specs.Numbers.{is_digits}
use Rattle.account_model.specs.Format.{find_named}
use Rattle.account_model.specs.Records.{group_format, greatest_id, read_id}
use Rattle.account_model.specs.Written.{IsDaysNumber, IsGroup}
use Rattle.account_model.specs.Tables.{group_records}
use Rattle.account_model.specs.Values.{expiration_value, date_value}
use Rattle.account_model.specs.GivenGroups.{find_gid, find_group, given_group}
use Rattle.account_model.specs.Request.{Request, value_of}
use Rattle.account_model.proofs.HeldLaws.{group-holds}
use Rattle.account_model.proofs.RefusalFacts.{table-held, find-held, group-held}
use Rattle.account_model.proofs.AgingToolScripts.{date-held}

-- a group that is found by its GID
gid-group-held :
    (files : Files) (gid : Option ℕ) (group : GroupRecord)
    → option_and_then (λ n. find_gid n (group_records files)) gid ≡ Some group
    → IsGroup group
gid-group-held files None group found = cc
gid-group-held files (Some n) group found =
    (find-held IsGroup (λ r. r.gid == n) (group_records files) group
    (table-held group_format IsGroup group-holds files.group) found).0

-- a group that is found by its GID or its name
found-group-by :
    (word : List ℕ) (files : Files) (group : GroupRecord) (digits : Bool)
    → (if digits
    then option_and_then (λ n. find_gid n (group_records files)) (read_id word)
    else find_named group_format word (group_records files)) ≡ Some group
    → IsGroup group
found-group-by word files group true found = gid-group-held files (read_id word) group found
found-group-by word files group false found = group-held word files group found

-- a group that a word names can stand in a line
found-group-held :
    (word : List ℕ) (files : Files) (group : GroupRecord)
    → find_group word (group_records files) ≡ Some group
    → IsGroup group
found-group-held word files group found = found-group-by word files group (is_digits word) found

-- a group that an option names
given-group-by :
    (files : Files) (given : Option (List ℕ)) (group : GroupRecord)
    → option_and_then (λ word. find_group word (group_records files)) given ≡ Some group
    → IsGroup group
given-group-by files None group found = cc
given-group-by files (Some word) group found = found-group-held word files group found

-- the group of `-g` can stand in a line
pub given-group-held :
    (request : Request) (files : Files) (group : GroupRecord)
    → given_group request files ≡ Some group
    → IsGroup group
given-group-held request files group found =
    given-group-by files (value_of (codes "g") request) group found

-- the GID of a group that may be there, and else another
gid-or-by : (group : Option GroupRecord) (old : ℕ)
    → ((r : GroupRecord) → group ≡ Some r → IsGroup r)
    → old ≤ greatest_id
    → unwrap_or (option_map (λ r. r.gid) group) old ≤ greatest_id
gid-or-by None old held small = small
gid-or-by (Some r) old held small = (held r refl).gid

-- the GID of `-g`, and else a small one
pub given-group-gid :
    (request : Request) (files : Files) (old : ℕ)
    → old ≤ greatest_id
    → unwrap_or (option_map (λ group. group.gid) (given_group request files)) old ≤ greatest_id
given-group-gid request files old small =
    gid-or-by (given_group request files) old (given-group-held request files) small

-- a date of `-e`
expiration-by :
    (text : List ℕ) (day : Option ℕ) (cleared : Bool)
    → (if cleared then Some None else date_value text) ≡ Some day
    → IsDaysNumber day
expiration-by text None cleared e = tt
expiration-by text (Some n) true e = cc
expiration-by text (Some n) false e = date-held text (Some n) e

-- a date of `-e` is a day that shadow holds
pub expiration-held :
    (text : List ℕ) (day : Option ℕ)
    → expiration_value text ≡ Some day
    → IsDaysNumber day
expiration-held text day e = expiration-by text day (is_empty text) e
