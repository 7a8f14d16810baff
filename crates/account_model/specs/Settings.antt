-- The settings of login.defs (login.defs(5)), and the `-K` words of a command after them.
use Rattle.std.specs.Prelude.{ℕ, zero, suc, filter, take, ◌+◌, Bool, true, false, ◌&&◌, ◌||◌, not, List, [], ◌∷◌, ◌++◌, map, filter_map, find, drop, nat_le, bytes_eq, codes, ◌==◌, Option, Some, None, is_some, option_map, option_and_then, unwrap_or, if◌then◌else◌}
use Rattle.std.specs.List.{slice_split, list_all, before_first, after_first}
use Rattle.std.specs.Str.Parse.{digits_value}
use Rattle.std.specs.Char.{is_digit}
use Rattle.account_model.specs.declared.settings.Key.{Key}
use Rattle.account_model.specs.declared.settings.Key.TheVariants.{UidMin, GidMin, UidMax, GidMax, SysUidMin, SysGidMin, SysUidMax, SysGidMax, SubUidMin, SubGidMin, SubUidMax, SubGidMax, SubUidCount, SubGidCount, PassMinDays, PassMaxDays, PassWarnAge}
use Rattle.account_model.specs.declared.settings.Kind.{Kind}
use Rattle.account_model.specs.declared.settings.Kind.TheVariants.{Regular, System}
use Rattle.account_model.specs.declared.settings.IdSort.{IdSort}
use Rattle.account_model.specs.declared.settings.IdSort.TheVariants.{Uid, Gid}
use Rattle.acct_text.specs.Bytes.{is_empty, blank, zero_digit}
use Rattle.account_model.specs.Text.{tab, hash_mark, quote, equals_sign, has_byte, nonempty, begins_with, without_first, without_last, last_of}
use Rattle.acct_text.specs.Lines.{Line, lines_of}
use Rattle.account_model.specs.Records.{greatest_id, greatest_days}

-- ---- Keys

-- the keys whose values are numbers (login.defs(5))
abbrev pub keys : List Key
keys = UidMin ∷ GidMin ∷ UidMax ∷ GidMax ∷ SysUidMin ∷ SysGidMin ∷ SysUidMax ∷ SysGidMax
    ∷ SubUidMin ∷ SubGidMin ∷ SubUidMax ∷ SubGidMax ∷ SubUidCount ∷ SubGidCount
    ∷ PassMinDays ∷ PassMaxDays ∷ PassWarnAge ∷ []

-- the name of a key
abbrev pub key_name : Key → List ℕ
key_name UidMin = codes "UID_MIN"
key_name GidMin = codes "GID_MIN"
key_name UidMax = codes "UID_MAX"
key_name GidMax = codes "GID_MAX"
key_name SysUidMin = codes "SYS_UID_MIN"
key_name SysGidMin = codes "SYS_GID_MIN"
key_name SysUidMax = codes "SYS_UID_MAX"
key_name SysGidMax = codes "SYS_GID_MAX"
key_name SubUidMin = codes "SUB_UID_MIN"
key_name SubGidMin = codes "SUB_GID_MIN"
key_name SubUidMax = codes "SUB_UID_MAX"
key_name SubGidMax = codes "SUB_GID_MAX"
key_name SubUidCount = codes "SUB_UID_COUNT"
key_name SubGidCount = codes "SUB_GID_COUNT"
key_name PassMinDays = codes "PASS_MIN_DAYS"
key_name PassMaxDays = codes "PASS_MAX_DAYS"
key_name PassWarnAge = codes "PASS_WARN_AGE"

-- the key that a word names
abbrev pub find_key : List ℕ → Option Key
find_key word = find (λ key. bytes_eq (key_name key) word) keys

-- the key that isn't a number
abbrev pub user_groups_key : List ℕ
user_groups_key = codes "USERGROUPS_ENAB"

-- whether the key is a number of days, which may be -1
abbrev pub is_days_key : Key → Bool
is_days_key PassMinDays = true
is_days_key PassMaxDays = true
is_days_key PassWarnAge = true
is_days_key key = false

-- ---- Values

-- the number that the digits of a radix write, where there is one digit at least
abbrev pub radix_number : ℕ → List ℕ → Option ℕ
radix_number radix text = if not (is_empty text) && list_all (λ b. is_digit b radix) text
    then Some (digits_value radix text) else None

-- a number: hexadecimal after `0x` or `0X`, octal after `0`, and else decimal
abbrev pub setting_number : List ℕ → Option ℕ
setting_number text = if begins_with zero_digit text
    then (if bytes_eq (take 2 text) (codes "0x") || bytes_eq (take 2 text) (codes "0X")
    then radix_number 16 (drop 2 text) else radix_number 8 text)
    else radix_number 10 text

-- a number in its bounds
abbrev pub within : ℕ → Option ℕ → Option ℕ
within bound None = None
within bound (Some n) = if nat_le n bound then Some n else None

-- The value of a key, where it is allowed: an ID, or a number of days, which may be -1. None within
-- stands for -1.
abbrev pub allowed_value : Key → List ℕ → Option (Option ℕ)
allowed_value key text = if is_days_key key
    then (if bytes_eq text (codes "-1") then Some None
    else option_map Some (within greatest_days (setting_number text)))
    else option_map Some (within greatest_id (setting_number text))

-- whether a key allows a value; a word that is no numeric key has no rule
abbrev pub allows : Option Key → List ℕ → Bool
allows None text = true
allows (Some key) text = is_some (allowed_value key text)

-- whether a value is allowed for the key that a word names
abbrev pub is_allowed_value : List ℕ → List ℕ → Bool
is_allowed_value word text = allows (find_key word) text

-- ---- Lines

-- a key and its value, as they are written
pub record Setting : Type 0 where
  pub key : List ℕ
  pub value : List ℕ

-- the words of a line, between blanks and tabs
abbrev pub words_of : List ℕ → List (List ℕ)
words_of text = nonempty (slice_split (λ b. b == blank || b == tab) text)

-- a key and a value without one `"` at each end
abbrev pub setting_of_words : List (List ℕ) → Option Setting
setting_of_words (key ∷ value ∷ rest) = if begins_with hash_mark key then None
    else Some (record { key = key; value = without_last quote (without_first quote value) })
setting_of_words other = None

-- the setting of a line; blank lines, comments and keys alone have none
abbrev pub line_setting : Line → Option Setting
line_setting line = setting_of_words (words_of line.text)

-- the settings of the file, in the order of its lines
abbrev pub settings_of : List ℕ → List Setting
settings_of bytes = filter_map line_setting (lines_of bytes)

-- whether a setting has a numeric key with a value that isn't allowed
abbrev pub is_bad_setting : Option Setting → Bool
is_bad_setting None = false
is_bad_setting (Some setting) = not (is_allowed_value setting.key setting.value)

-- whether a line has such a setting
abbrev pub is_bad_line : Line → Bool
is_bad_line line = is_bad_setting (line_setting line)

-- the place of the first line that passes the test, counted from n
abbrev pub first_line_from : ℕ → (Line → Bool) → List Line → Option ℕ
first_line_from n test [] = None
first_line_from n test (line ∷ rest) =
    if test line then Some n else first_line_from (n + 1) test rest

-- the number of the first line with a numeric key and a value that isn't allowed for it
abbrev pub bad_line : List ℕ → Option ℕ
bad_line bytes = first_line_from 1 is_bad_line (lines_of bytes)

-- ---- Words of `-K`

-- the key and the value of a word, which is cut at its first `=`
abbrev pub word_setting : List ℕ → Setting
word_setting word = record {
  key = before_first (λ b. b == equals_sign) word;
  value = after_first (λ b. b == equals_sign) word;
}

-- KEY=VALUE with a key of login.defs and a value that is allowed for it
abbrev pub is_setting_word : List ℕ → Bool
is_setting_word word = has_byte equals_sign word
    && (is_some (find_key (word_setting word).key)
    || bytes_eq (word_setting word).key user_groups_key)
    && is_allowed_value (word_setting word).key (word_setting word).value

-- the first word that isn't such a setting
abbrev pub bad_word : List (List ℕ) → Option (List ℕ)
bad_word words = find (λ word. not (is_setting_word word)) words

-- the settings with these words after them
abbrev pub with_words : List (List ℕ) → List Setting → List Setting
with_words words settings = settings ++ map word_setting words

-- ---- What a key is

-- the value of the last setting of the key: the last line of a key counts
abbrev pub last_setting_value : List ℕ → List Setting → Option (List ℕ)
last_setting_value key settings = last_of
    (map (λ setting. setting.value) (filter (λ setting. bytes_eq setting.key key) settings))

-- the number of the last setting of the key; None within stands for -1
abbrev pub given_value : Key → List Setting → Option (Option ℕ)
given_value key settings =
    option_and_then (allowed_value key) (last_setting_value (key_name key) settings)

-- one less, and -1 at 0
abbrev pub one_less : Option ℕ → Option ℕ
one_less None = None
one_less (Some zero) = None
one_less (Some (suc n)) = Some n

-- the defaults
abbrev pub default_value : Key → List Setting → Option ℕ
default_value UidMin settings = Some 1000
default_value GidMin settings = Some 1000
default_value UidMax settings = Some 60000
default_value GidMax settings = Some 60000
default_value SysUidMin settings = Some 101
default_value SysGidMin settings = Some 101
default_value SysUidMax settings = one_less (unwrap_or (given_value UidMin settings) (Some 1000))
default_value SysGidMax settings = one_less (unwrap_or (given_value GidMin settings) (Some 1000))
default_value SubUidMin settings = Some 100000
default_value SubGidMin settings = Some 100000
default_value SubUidMax settings = Some 600100000
default_value SubGidMax settings = Some 600100000
default_value SubUidCount settings = Some 65536
default_value SubGidCount settings = Some 65536
default_value PassMinDays settings = None
default_value PassMaxDays settings = None
default_value PassWarnAge settings = None

-- the value of a key: that of its last setting, else the default; nothing stands for -1
abbrev pub number : Key → List Setting → Option ℕ
number key settings = unwrap_or (given_value key settings) (default_value key settings)

-- whether a value is `yes`; all else is no
abbrev pub is_yes : Option (List ℕ) → Bool
is_yes None = false
is_yes (Some value) = bytes_eq value (codes "yes")

-- whether useradd makes a group for each user
abbrev pub user_groups : List Setting → Bool
user_groups settings = is_yes (last_setting_value user_groups_key settings)

-- ---- Ranges

-- a minimum and a maximum, where the minimum doesn't pass the maximum
abbrev pub range_between : Option ℕ → Option ℕ → Option (ℕ × ℕ)
range_between (Some low) (Some high) = if nat_le low high then Some (low, high) else None
range_between low high = None

-- the range from which IDs are chosen, or none where it is empty
abbrev pub range : IdSort → Kind → List Setting → Option (ℕ × ℕ)
range Uid Regular settings = range_between (number UidMin settings) (number UidMax settings)
range Uid System settings = range_between (number SysUidMin settings) (number SysUidMax settings)
range Gid Regular settings = range_between (number GidMin settings) (number GidMax settings)
range Gid System settings = range_between (number SysGidMin settings) (number SysGidMax settings)
