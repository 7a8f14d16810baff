-- The names that a command may make: 1 to 32 bytes of ASCII letters, digits, `_`, `.` and `-`, and
-- maybe a `$` at the end (useradd(8) and groupadd(8), "CAVEATS"). Names in files are never tested.
use Rattle.std.specs.Prelude.{ℕ, Bool, ◌&&◌, ◌||◌, not, List, length, nat_le, bytes_eq, codes, ◌==◌}
use Rattle.std.specs.List.{list_all}
use Rattle.std.specs.Char.{is_digit}
use Rattle.acct_text.specs.Bytes.{is_empty}
use Rattle.acct_text.specs.Numbers.{is_digits}
use Rattle.account_model.specs.Text.{hyphen, underscore, dot, dollar, begins_with, without_last}

-- the most bytes of a name, a `$` at its end among them
abbrev pub greatest_name_length : ℕ
greatest_name_length = 32

-- a letter or a digit of ASCII, `_`, `.` or `-`
abbrev pub is_name_byte : ℕ → Bool
is_name_byte b = is_digit b 36 || b == underscore || b == dot || b == hyphen

-- the names that stand for something else: a lone `$`, and the folders `.` and `..`
abbrev pub is_reserved_name : List ℕ → Bool
is_reserved_name name =
    bytes_eq name (codes "$") || bytes_eq name (codes ".") || bytes_eq name (codes "..")

-- a name that a command may make (useradd(8) and groupadd(8), "CAVEATS")
abbrev pub is_valid_name : List ℕ → Bool
is_valid_name name = not (is_empty name) && nat_le (length name) greatest_name_length
    && list_all is_name_byte (without_last dollar name)
    && not (begins_with hyphen name) && not (is_digits name) && not (is_reserved_name name)
