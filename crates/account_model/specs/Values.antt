-- What the values of options mean (useradd(8), usermod(8), groupadd(8), groupmod(8), gpasswd(1), chage(1)).
use Rattle.std.specs.Prelude.{ℕ, is_some, Bool, ◌&&◌, ◌||◌, not, List, bytes_eq, codes, Option, Some, None, Ok, Err, option_map, option_and_then, unwrap_or, if◌then◌else◌}
use Rattle.acct_text.specs.Bytes.{newline, colon, is_empty}
use Rattle.acct_text.specs.Pieces.{cut_at}
use Rattle.acct_text.specs.Numbers.{number_within}
use Rattle.account_model.specs.Text.{comma, equals_sign, slash, has_byte, begins_with, nonempty, distinct}
use Rattle.account_model.specs.Records.{greatest_days, read_id}
use Rattle.account_model.specs.Dates.{read_day}
use Rattle.account_model.specs.Request.{Request, value_of}

-- ---- Texts

-- a comment or a hash: no `:` and no newline, which would end its field (passwd(5), shadow(5))
abbrev pub is_field : List ℕ → Bool
is_field text = not (has_byte colon text) && not (has_byte newline text)

-- a part of a comment: a field with no `,`, which parts it from the next, and no `=` (chfn(1))
abbrev pub is_comment_part : List ℕ → Bool
is_comment_part text =
    is_field text && not (has_byte comma text) && not (has_byte equals_sign text)

-- a home or a base folder: a field that begins with `/` (useradd(8), `-d` and `-b`)
abbrev pub is_folder : List ℕ → Bool
is_folder text = is_field text && begins_with slash text

-- a shell: a field that is empty or begins with `/` (useradd(8), `-s`)
abbrev pub is_shell : List ℕ → Bool
is_shell text = is_field text && (is_empty text || begins_with slash text)

-- ---- IDs

-- the ID that an option gives
abbrev pub given_id : List ℕ → Request → Option ℕ
given_id letter request = option_and_then read_id (value_of letter request)

-- the UID of `-u` (useradd(8), usermod(8))
abbrev pub given_uid : Request → Option ℕ
given_uid request = given_id (codes "u") request

-- the GID of `-g`, where no group is looked for (groupadd(8), groupmod(8))
abbrev pub given_gid : Request → Option ℕ
given_gid request = given_id (codes "g") request

-- ---- Days

-- a number of days; `-1` empties the field (chage(1), `-m`, `-M`, `-W` and `-I`)
abbrev pub days_value : List ℕ → Option (Option ℕ)
days_value text =
    if bytes_eq text (codes "-1")
    then Some None
    else option_map Some (number_within greatest_days text)

-- the number of a day, or its date YYYY-MM-DD; `-1` empties the field (chage(1), `-d` and `-E`)
abbrev pub date_value : List ℕ → Option (Option ℕ)
date_value text = elim (read_day text) [ Ok day ↦ Some day | Err fault ↦ None ]

-- the date of `-e`, where an empty value empties the field as well (useradd(8), usermod(8))
abbrev pub expiration_value : List ℕ → Option (Option ℕ)
expiration_value text = if is_empty text then Some None else date_value text

-- whether a value is a number of days
abbrev pub is_days_value : List ℕ → Bool
is_days_value text = is_some (days_value text)

-- whether a value is a date
abbrev pub is_date_value : List ℕ → Bool
is_date_value text = is_some (date_value text)

-- whether a value is a date of `-e`
abbrev pub is_expiration_value : List ℕ → Bool
is_expiration_value text = is_some (expiration_value text)

-- ---- Lists and fields

-- the names between commas; empty pieces are dropped, and of equal ones the first is kept (gpasswd(1), `-M`)
abbrev pub list_value : List ℕ → List (List ℕ)
list_value text = distinct (nonempty (cut_at comma text))

-- what an option makes of a field: what its value means, and the field as it was where it isn't given
abbrev pub field_value : {V : Type 0} → (List ℕ → Option V) → List ℕ → Request → V → V
field_value meaning letter request old =
    unwrap_or (option_and_then meaning (value_of letter request)) old

-- the same of an option whose value is the field
abbrev pub text_value : List ℕ → Request → List ℕ → List ℕ
text_value letter request old = unwrap_or (value_of letter request) old
