-- What usermod refuses, in the order in which it is tested, each row decided by computing.
use Rattle.std.specs.Prelude.{◌≡◌, [], ◌++◌, codes, refl, Some, ◌∷◌}
use Rattle.std.specs.Fmt.{digits}
use Rattle.std.specs.Str.{byte}
use Rattle.acct_text.specs.declared.Tab.TheVariants.{Subuid}
use Rattle.account_model.specs.declared.refusal.Refusal.TheVariants.{BadName, BadValue, UserExists, NoUser, NoGroup, UidInUse, Meets, EmptyHash}
use Rattle.account_model.specs.ValueForms.{date_form, days_form, field_form, id_form, name_form, path_form, range_form}
use Rattle.account_model.proofs.Image.{image}
use Rattle.account_model.proofs.Commands.{words, lines, on, plainly_on, same, refused, small, AreAnswered, refusing, refusing_value}

-- `usermod -P R -W 1-4294967295 -w 1- -V 1 -v 2-1 -u -1 -l -x -p a:b -s sh -f -2 -e x -d home -c : ann`: the refusals of usermod, in their order
usermod_value_c : on image (words "usermod -P R -W 1-4294967295 -w 1- -V 1 -v 2-1 -u -1 -l -x"
    ++ words "-p a:b -s sh -f -2 -e x -d home -c : ann")
    ≡ refused 3 (BadValue (byte "c") (codes ":"))
    "usermod: invalid value for -c: : (no : and no newline)"
unfolding digits
usermod_value_c = refl

-- `usermod -P R -W 1-4294967295 -w 1- -V 1 -v 2-1 -u -1 -l -x -p a:b -s sh -f -2 -e x -d home ann`
usermod_value_d : on image (words "usermod -P R -W 1-4294967295 -w 1- -V 1 -v 2-1 -u -1 -l -x"
    ++ words "-p a:b -s sh -f -2 -e x -d home ann")
    ≡ refused 3 (BadValue (byte "d") (codes "home"))
    "usermod: invalid value for -d: home (a path that begins with /, no : and no newline)"
unfolding digits
usermod_value_d = refl

-- what is refused on the image
refusals : AreAnswered (
    refusing_value "usermod" "-P R -W 1-4294967295 -w 1- -V 1 -v 2-1 -u -1 -l -x -p a:b -s sh -f -2 -e x ann"
    "e" "x" date_form
    ∷ refusing_value "usermod" "-P R -W 1-4294967295 -w 1- -V 1 -v 2-1 -u -1 -l -x -p a:b -s sh -f -2 ann"
    "f" "-2" days_form
    ∷ refusing_value "usermod" "-P R -W 1-4294967295 -w 1- -V 1 -v 2-1 -u -1 -l -x -p a:b -s sh ann"
    "s" "sh" path_form
    ∷ refusing_value "usermod" "-P R -W 1-4294967295 -w 1- -V 1 -v 2-1 -u -1 -l -x -p a:b ann"
    "p" "a:b" field_form
    ∷ refusing_value "usermod" "-P R -W 1-4294967295 -w 1- -V 1 -v 2-1 -u -1 -l -x ann"
    "l" "-x" name_form
    ∷ refusing_value "usermod" "-P R -W 1-4294967295 -w 1- -V 1 -v 2-1 -u -1 ann" "u" "-1" id_form
    ∷ refusing_value "usermod" "-P R -W 1-4294967295 -w 1- -V 1 -v 2-1 ann" "v" "2-1" range_form
    ∷ refusing_value "usermod" "-P R -W 1-4294967295 -w 1- -V 1 ann" "V" "1" range_form
    ∷ refusing_value "usermod" "-P R -W 1-4294967295 -w 1- ann" "w" "1-" range_form
    ∷ refusing_value "usermod" "-P R -W 1-4294967295 ann" "W" "1-4294967295" range_form
    -- each range counts
    ∷ refusing_value "usermod" "-P R -v 5 -v 1-2 ann" "v" "5" range_form
    ∷ refusing "usermod -P R -l root ann" 6 (NoUser (codes "ann")) "usermod: unknown user ann"
    ∷ refusing "usermod -P R -l root -u 0 bob" 9 (UserExists (codes "root"))
    "usermod: user root exists"
    ∷ refusing "usermod -P R -u 0 -g nope bob" 4 (UidInUse 0) "usermod: UID 0 is in use"
    ∷ refusing "usermod -P R -g nope -G none bob" 6 (NoGroup (codes "nope"))
    "usermod: unknown group nope"
    ∷ refusing "usermod -P R -G sudo,none messagebus" 6 (NoGroup (codes "none"))
    "usermod: unknown group none"
    ∷ refusing "usermod -P R -U -v 100000-100000 messagebus" 3 (EmptyHash (codes "messagebus"))
    "usermod: unlocking messagebus would leave no password"
    ∷ [])
unfolding digits
refusals = refl

-- `usermod -P R -l b a`
name_taken_in_shadow : plainly_on (record (small "a:x:1:1::/:" "g:x:1:")
    { shadow = Some (lines "b:!:::::::") }) (words "usermod -P R -l b a")
    ≡ refused 9 (UserExists (codes "b")) "usermod: user b exists"
unfolding digits
name_taken_in_shadow = refl

-- `usermod -P R -u 1000 bob`: the own UID is no other's
own_uid : on image (words "usermod -P R -u 1000 bob")
    ≡ same
unfolding digits
own_uid = refl

-- `usermod -P R -U a`: a user without a line in shadow: the password field counts
empty_hash_in_passwd : plainly_on (record (small "a:!:1:1::/:" "g:x:1:") { shadow = Some [] })
    (words "usermod -P R -U a")
    ≡ refused 3 (EmptyHash (codes "a")) "usermod: unlocking a would leave no password"
unfolding digits
empty_hash_in_passwd = refl

-- `usermod -P R -f 1 -v 5-5 a`
meets_before_no_shadow : plainly_on (record (small "a:!:1:1::/:" "g:x:1:")
    { subuid = Some (lines "#|b:5:1") }) (words "usermod -P R -f 1 -v 5-5 a")
    ≡ refused 3 (Meets 5 5 Subuid 2) "usermod: range 5-5 meets subuid line 2"
unfolding digits
meets_before_no_shadow = refl

-- `usermod -P R -G g a,b`: a name with a comma can't stand in a list
name_with_comma : plainly_on (small "a,b:x:1:1::/:" "g:x:1:") (words "usermod -P R -G g a,b")
    ≡ refused 3 (BadName (codes "a,b"))
    "usermod: invalid name: a,b (1 to 32 letters, digits, _ . or -, not - first, not digits alone)"
unfolding digits
name_with_comma = refl

-- `usermod -P R -v 1-2 a`: parts of a change on an absent table are skipped
absent_subuid : plainly_on (small "a:x:1:1::/:" "g:x:1:") (words "usermod -P R -v 1-2 a")
    ≡ same
unfolding digits
absent_subuid = refl
