-- Rows of the values of options: which are of a form, and what they mean (useradd(8), usermod(8),
-- gpasswd(1), chage(1)).
use Prim.Native.String.{String}
use Rattle.std.specs.Prelude.{◌≡◌, ℕ, Bool, List, [], ◌∷◌, map, codes, refl, Some, None, true, false}
use Rattle.std.specs.List.{list_all, list_any}
use Rattle.account_model.specs.declared.refusal.Refusal.TheVariants.{BadName}
use Rattle.account_model.specs.Refusals.{bad_name, bad_list_name}
use Rattle.account_model.specs.UsermodRanges.{range_value}
use Rattle.account_model.specs.Values.{days_value, date_value, expiration_value, list_value}
use Rattle.command_values.specs.declared.form.Form.TheVariants.{Field, Folder, Shell, Id, Name, Days, Date, Expiration}
use Rattle.command_values.specs.Forms.{test_of}

-- ---- which values are of a form

-- the good texts pass, and the bad ones fail
abbrev pub Divides : (List ℕ → Bool) → List String → List String → Type 0
Divides test good bad = (list_all (λ text. test (codes text)) good ≡ true)
    × (list_any (λ text. test (codes text)) bad ≡ false)

fields : Divides (test_of Field) ("" ∷ "Ann,,," ∷ []) ("a:b" ∷ "a\nb" ∷ [])
fields = (refl, refl)

folders : Divides (test_of Folder) ("/home/ann" ∷ []) ("home/ann" ∷ "/home:x" ∷ [])
folders = (refl, refl)

shells : Divides (test_of Shell) ("" ∷ []) ("bin/sh" ∷ [])
shells = (refl, refl)

-- up to the greatest ID
ids : Divides (test_of Id) ("4294967294" ∷ []) ("4294967295" ∷ "-1" ∷ "" ∷ [])
ids = (refl, refl)

-- no digits alone
names : Divides (test_of Name) ("www-data" ∷ []) ("1000" ∷ [])
names = (refl, refl)

-- up to the greatest number of days
days : Divides (test_of Days) ("-1" ∷ "2147483647" ∷ []) ("2147483648" ∷ [])
days = (refl, refl)

-- a leap day
dates : Divides (test_of Date) ("2024-02-29" ∷ []) ("" ∷ [])
dates = (refl, refl)

expirations : Divides (test_of Expiration) ("" ∷ []) []
expirations = (refl, refl)

-- ---- what a text is taken for

-- each text is taken for its value
abbrev pub ReadsAs : {X : Type 0} → (List ℕ → X) → List (String × X) → Type 0
ReadsAs read rows = map (λ row. read (codes row.0)) rows ≡ map (λ row. row.1) rows

-- the day that `-e` of useradd(8) takes a text for
expiration_days : ReadsAs expiration_value (
    ("2024-10-04", Some (Some 20000))
    -- the first and the greatest day
    ∷ ("1970-01-01", Some (Some 0))
    ∷ ("2147483647", Some (Some 2147483647))
    ∷ ("2147483648", None)
    -- a leading zero
    ∷ ("020000", Some (Some 20000))
    -- none is set
    ∷ ("-1", Some None)
    ∷ ("", Some None)
    -- no such day
    ∷ ("2024-02-30", None)
    ∷ ("1969-12-31", None)
    ∷ ("2024-2-3", None)
    ∷ ("tomorrow", None)
    ∷ [])
expiration_days = refl

empty_day : date_value (codes "") ≡ None
empty_day = refl

cleared_days : days_value (codes "-1") ≡ Some None
cleared_days = refl

-- ---- names, and lists of names

good_name : bad_name (codes "ann") ≡ None
good_name = refl

hyphen_first : bad_name (codes "-ann") ≡ Some (BadName (codes "-ann"))
hyphen_first = refl

listed_name : bad_list_name (codes "a b") ≡ None
listed_name = refl

comma : bad_list_name (codes "a,b") ≡ Some (BadName (codes "a,b"))
comma = refl

each_name_once : list_value (codes "bob,,ann,bob,") ≡ codes "bob" ∷ codes "ann" ∷ []
each_name_once = refl

-- the ranges of `-v`, `-V`, `-w` and `-W` (usermod(8))
ranges : ReadsAs range_value (
    ("165540-165549", Some (record { first = 165540; last = 165549 }))
    -- one number, and all of them
    ∷ ("7-7", Some (record { first = 7; last = 7 }))
    ∷ ("0-4294967294", Some (record { first = 0; last = 4294967294 }))
    -- backwards, and past the greatest number
    ∷ ("8-7", None)
    ∷ ("1-4294967295", None)
    -- three numbers, or a hyphen more
    ∷ ("1-2-3", None)
    ∷ ("1-2-", None)
    ∷ ("-1-2", None)
    -- blanks
    ∷ ("1 - 2", None)
    -- a part is missing
    ∷ ("1-", None)
    ∷ ("12", None)
    ∷ ("", None)
    ∷ [])
ranges = refl
