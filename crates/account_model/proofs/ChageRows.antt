-- chage from its words to its answer, each row decided by computing.
use Rattle.std.specs.Prelude.{◌≡◌, [], ◌++◌, codes, refl, Some, ◌∷◌}
use Rattle.std.specs.Fmt.{digits}
use Rattle.std.specs.Str.{byte}
use Rattle.acct_text.specs.declared.Tab.TheVariants.{Shadow}
use Rattle.account_model.specs.declared.refusal.Refusal.TheVariants.{BadValue, NoUser, NoShadow, Multiple}
use Rattle.account_model.proofs.Image.{image}
use Rattle.account_model.proofs.Commands.{words, lines, on, plainly_on, changed, same, refused, printed, image_shadow_with, small, nothing, AreAnswered, refusing}

-- `chage -P R -M -1 bob`: `-1` empties the field
no_maximum : on image (words "chage -P R -M -1 bob")
    ≡ changed (record image { shadow = Some (image_shadow_with "bob:$y$hash:19800:0::7:::") })
unfolding digits
no_maximum = refl

-- `chage -P R -d 2024-02-29 -E 20000 -I 5 -m 1 -M 90 -W 014 bob`: each option sets its field
all_aging : on image (words "chage -P R -d 2024-02-29 -E 20000 -I 5 -m 1 -M 90 -W 014 bob")
    ≡ changed (record image {
      shadow = Some (image_shadow_with "bob:$y$hash:19782:1:90:14:5:20000:");
    })
unfolding digits
all_aging = refl

-- `chage -P R -W x -W 8 bob`: the last of a repeated option counts
repeated : on image (words "chage -P R -W x -W 8 bob")
    ≡ changed (record image { shadow = Some (image_shadow_with "bob:$y$hash:19800:0:99999:8:::") })
unfolding digits
repeated = refl

-- `chage -P R -W 7 bob`
same_value : on image (words "chage -P R -W 7 bob")
    ≡ same
unfolding digits
same_value = refl

-- `chage -P R -m 1 a`: a user that shadow lacks gets a line with the password of passwd, which becomes `x`
on_demand :
    plainly_on (record (small "a:$y$h:1:1::/:" "") { shadow = Some [] }) (words "chage -P R -m 1 a")
    ≡ changed (record (small "a:x:1:1::/:" "") { shadow = Some (lines "a:$y$h::1:::::") })
unfolding digits
on_demand = refl

-- what is refused on the image
refusals : AreAnswered (
    refusing "chage -P R -W x -d 2024-02-30 ann" 2 (BadValue (byte "d") (codes "2024-02-30"))
    "chage: invalid value for -d: 2024-02-30 (a date as 2026-01-31, days since 1970-01-01, or -1)"
    ∷ refusing "chage -P R -W x -E 2024-02-30 bob" 2 (BadValue (byte "E") (codes "2024-02-30"))
    "chage: invalid value for -E: 2024-02-30 (a date as 2026-01-31, days since 1970-01-01, or -1)"
    ∷ refusing "chage -P R -m x -I -2 bob" 2 (BadValue (byte "I") (codes "-2"))
    "chage: invalid value for -I: -2 (-1 or a number from 0 to 2147483647)"
    ∷ refusing "chage -P R -M x -m y bob" 2 (BadValue (byte "m") (codes "y"))
    "chage: invalid value for -m: y (-1 or a number from 0 to 2147483647)"
    ∷ refusing "chage -P R -W x -M 2147483648 bob" 2 (BadValue (byte "M") (codes "2147483648"))
    "chage: invalid value for -M: 2147483648 (-1 or a number from 0 to 2147483647)"
    ∷ refusing "chage -P R -W 2024-01-01 ann" 2 (BadValue (byte "W") (codes "2024-01-01"))
    "chage: invalid value for -W: 2024-01-01 (-1 or a number from 0 to 2147483647)"
    -- an empty value is no date here
    ∷ refusing "chage -P R -E  bob" 2 (BadValue (byte "E") [])
    "chage: invalid value for -E:  (a date as 2026-01-31, days since 1970-01-01, or -1)"
    ∷ refusing "chage -P R -l ann" 1 (NoUser (codes "ann")) "chage: unknown user ann"
    ∷ [])
unfolding digits
refusals = refl

-- `chage -P R -l ann`
chage_no_shadow : plainly_on nothing (words "chage -P R -l ann")
    ≡ refused 15 NoShadow "chage: shadow does not exist"
unfolding digits
chage_no_shadow = refl

-- `chage -P R -m 1 a`
two_shadow_lines : plainly_on (record (small "a:x:1:1::/:" "")
    { shadow = Some (lines "a:!:::::::|a:*:::::::") }) (words "chage -P R -m 1 a")
    ≡ refused 1 (Multiple Shadow (codes "a")) "chage: shadow has multiple entries for a"
unfolding digits
two_shadow_lines = refl

-- `chage -P R -l bob`
listed : on image (words "chage -P R -l bob")
    ≡ printed 0
    (lines "last change: 2024-03-18|password expires: never|minimum days: 0"
    ++ lines "maximum days: 99999|warning days: 7|inactive days: none|account expires: never")
unfolding digits
listed = refl

-- `chage -P R -l messagebus`
listed_system : on image (words "chage -P R -l messagebus")
    ≡ printed 0
    (lines "last change: 2023-12-09|password expires: never|minimum days: none"
    ++ lines "maximum days: none|warning days: none|inactive days: none|account expires: never")
unfolding digits
listed_system = refl

-- `chage -P R -l a`: a last change on day 0
must_change : plainly_on (record (small "a:x:1:1::/:" "")
    { shadow = Some (lines "a:!:0:1:90:::20000:") }) (words "chage -P R -l a")
    ≡ printed 0
    (lines "last change: must change|password expires: must change|minimum days: 1"
    ++ lines "maximum days: 90|warning days: none|inactive days: none"
    ++ lines "account expires: 2024-10-04")
unfolding digits
must_change = refl

-- `chage -P R -l a`: 9999 days do expire, and a day past 9999-12-31 is printed as its number
expires : plainly_on (record (small "a:x:1:1::/:" "")
    { shadow = Some (lines "a:!:20000::9999:::2932897:") }) (words "chage -P R -l a")
    ≡ printed 0
    (lines "last change: 2024-10-04|password expires: 2052-02-19|minimum days: none"
    ++ lines "maximum days: 9999|warning days: none|inactive days: none"
    ++ lines "account expires: 2932897")
unfolding digits
expires = refl

-- `chage -P R -l a`: 10000 days don't
endless : plainly_on (record (small "a:x:1:1::/:" "")
    { shadow = Some (lines "a:!:20000::10000::::") }) (words "chage -P R -l a")
    ≡ printed 0
    (lines "last change: 2024-10-04|password expires: never|minimum days: none"
    ++ lines "maximum days: 10000|warning days: none|inactive days: none"
    ++ lines "account expires: never")
unfolding digits
endless = refl

-- `chage -P R -l a`: without a line of shadow
nothing_known :
    plainly_on (record (small "a:x:1:1::/:" "") { shadow = Some [] }) (words "chage -P R -l a")
    ≡ printed 0
    (lines "last change: never|password expires: never|minimum days: none|maximum days: none"
    ++ lines "warning days: none|inactive days: none|account expires: never")
unfolding digits
nothing_known = refl
