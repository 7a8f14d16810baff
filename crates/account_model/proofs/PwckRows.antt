-- pwck from its words to its answer, each row decided by computing.
use Rattle.std.specs.Prelude.{◌≡◌, [], ◌∷◌, ◌++◌, codes, refl, Some, Ok}
use Rattle.std.specs.Fmt.{digits}
use Rattle.acct_text.specs.declared.files.Files.{Files}
use Rattle.account_model.specs.Answer.{Same, BadSettingAt}
use Rattle.account_model.proofs.Image.{image}
use Rattle.account_model.proofs.Commands.{words, lines, answer_to, on, plainly_on, changed, same, unusable, printed, reported, with_ann, small, nothing}

-- `pwck -P R -r`: nothing to report
clean_users : on image (words "pwck -P R -r")
    ≡ same
unfolding digits
clean_users = refl

-- `pwck -P R -r`: nor of the tables that useradd left
clean_after_recovery : on with_ann (words "pwck -P R -r")
    ≡ same
unfolding digits
clean_after_recovery = refl

-- a line that is no record, and one that is no text and has no end
abbrev odd_lines : Files
odd_lines = record (small "" "root:x:0:") {
  passwd = Some (lines "root:x:0:0:root:/root:/bin/sh|bad:x:5:5:oops" ++ codes "jos:x:1000:0:Jos"
      ++ 233 ∷ codes ":/home/jos:/bin/sh");
}

-- `pwck -P R -r`
invalid_entry : plainly_on odd_lines (words "pwck -P R -r")
    ≡ reported 2 "passwd:2: invalid entry"
unfolding digits
invalid_entry = refl

-- each problem of passwd and of shadow, and lines of NIS
abbrev problem_users : Files
problem_users =
    record (small "a:x:1:0::/:|+:x:1:0::/:|-|a:h:2:7::/:|-b:h:3:8::/:|3:h:3:8::/:" "root:x:0:") {
      shadow = Some (lines "b:!:20000::::::|a:!:20001::::::|b:!::::::|b:!:20001::::::|+:::");
    }

-- `pwck -P R -r`: the problems of one line come in their order
all_user_problems : plainly_on problem_users (words "pwck -P R -r")
    ≡ printed 2
    (lines "passwd:4: duplicate name a|passwd:4: user a has no primary group 7"
    ++ lines "passwd:4: password of user a is not in shadow"
    ++ lines "passwd:6: invalid user name 3|passwd:6: user 3 has no primary group 8"
    ++ lines "passwd:6: user 3 has no shadow entry"
    ++ lines "passwd:6: password of user 3 is not in shadow"
    ++ lines "shadow:1: user b has no passwd entry"
    ++ lines "shadow:2: last change of user a is in the future"
    ++ lines "shadow:3: invalid entry|shadow:4: duplicate name b"
    ++ lines "shadow:4: user b has no passwd entry"
    ++ lines "shadow:4: last change of user b is in the future")
unfolding digits
all_user_problems = refl

-- a notice alone
abbrev future_change : Files
future_change = record (small "a:x:1:0::/:" "root:x:0:") { shadow = Some (lines "a:!:20001::::::") }

-- `pwck -P R -r`
notice : plainly_on future_change (words "pwck -P R -r")
    ≡ reported 2 "shadow:1: last change of user a is in the future"
unfolding digits
notice = refl

-- `pwck -P R -r -q`: `-q` leaves the notice out, and the status counts it
quiet : plainly_on future_change (words "pwck -P R -r -q")
    ≡ Ok (record { cause = Same; status = 2; output = []; error = [] })
unfolding digits
quiet = refl

-- `pwck -P R -s`: other text keeps its place
sorted_by_uid : plainly_on (record nothing { passwd = Some (lines "b:x:2:0::/:|oops|a:x:1:0::/:") })
    (words "pwck -P R -s")
    ≡ changed (record nothing { passwd = Some (lines "a:x:1:0::/:|oops|b:x:2:0::/:") })
unfolding digits
sorted_by_uid = refl

-- `pwck -P R -s`: equal UIDs keep their order; shadow follows, and names that passwd lacks come last
stable : plainly_on (record nothing {
  passwd = Some (lines "c:x:2:0::/:|b:x:2:0::/:|a:x:01:0::/:");
  shadow = Some (lines "z:!:::::::|b:!:::::::|#|y:!:::::::|a:!:::::::|c:!:::::::");
})
    (words "pwck -P R -s")
    ≡ changed (record nothing {
      passwd = Some (lines "a:x:01:0::/:|c:x:2:0::/:|b:x:2:0::/:");
      shadow = Some (lines "a:!:::::::|c:!:::::::|#|b:!:::::::|z:!:::::::|y:!:::::::");
    })
unfolding digits
stable = refl

-- `pwck -P R -s`: line ends keep their places
sorted_ends : plainly_on (record nothing { passwd = Some (codes "b:x:2:0::/:\na:x:1:0::/:") })
    (words "pwck -P R -s")
    ≡ changed (record nothing { passwd = Some (codes "a:x:1:0::/:\nb:x:2:0::/:") })
unfolding digits
sorted_ends = refl

-- `pwck -P R -r`: the settings are tested before the report
pwck_bad_setting : answer_to (words "pwck -P R -r") nothing (Some (lines "UID_MIN x"))
    ≡ unusable 3 (BadSettingAt 1) "pwck: login.defs line 1: bad number"
unfolding digits
pwck_bad_setting = refl
