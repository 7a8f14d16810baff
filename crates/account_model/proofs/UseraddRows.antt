-- useradd from its words to its answer, each row decided by computing.
use Rattle.std.specs.Prelude.{◌≡◌, [], ◌∷◌, ◌++◌, codes, refl, Some, Err}
use Rattle.std.specs.Fmt.{digits}
use Rattle.acct_text.specs.declared.Tab.TheVariants.{Shadow, Group, Gshadow, Subuid, Subgid}
use Rattle.account_model.specs.declared.refusal.Refusal.TheVariants.{BadName, BadKey, UserExists, GroupExists, NoGroup, UidInUse, NoFreeUid, NoFreeGid, NoGap, Multiple}
use Rattle.acct_text.specs.Bytes.{newline}
use Rattle.account_model.specs.declared.word_fault.WordFault.TheVariants.{UnknownOption}
use Rattle.account_model.specs.Answer.{BadSettingAt}
use Rattle.account_model.specs.ValueForms.{date_form, days_form, field_form, id_form, path_form}
use Rattle.account_model.proofs.Image.{image, image_passwd, image_shadow}
use Rattle.account_model.proofs.SettingsImage.{file}
use Rattle.account_model.proofs.Commands.{words, lines, answer_to, on, plainly_on, changed, changed_with, refused, unusable, image_group_with, image_gshadow_with, with_ann, image_and, small, nothing, AreAnswered, refusing, refusing_value}

-- `useradd -P R -c "Ann Lee" -G sudo ann`: a user with a comment and a group
new_user : on image (words "useradd -P R -c" ++ codes "Ann Lee" ∷ words "-G sudo ann")
    ≡ changed with_ann
unfolding digits
new_user = refl

-- `useradd -r -P R svc`: 101 is used and 100 lies below the minimum, so the highest free ID is taken
system_user : on image (words "useradd -r -P R svc")
    ≡ changed (image_and "svc:x:999:999::/home/svc:" "svc:!:20000::::::" "svc:x:999:" "svc:!::")
unfolding digits
system_user = refl

-- `useradd -r -F -P R svc`: with `-F` a system user gets subordinate IDs too
system_user_with_ranges : on image (words "useradd -r -F -P R svc")
    ≡ changed (record (image_and "svc:x:999:999::/home/svc:" "svc:!:20000::::::"
    "svc:x:999:" "svc:!::") {
      subuid = Some (lines "bob:100000:65536|svc:165536:65536");
      subgid = Some (lines "bob:100000:65536|svc:165536:65536");
    })
unfolding digits
system_user_with_ranges = refl

-- `useradd -r -N -P R svc`
first_system_user : plainly_on nothing (words "useradd -r -N -P R svc")
    ≡ changed (record nothing { passwd = Some (lines "svc:!:999:100::/home/svc:") })
unfolding digits
first_system_user = refl

-- `useradd -r -N -P R sve`
second_system_user : plainly_on (record nothing
    { passwd = Some (lines "svc:!:999:100::/home/svc:") }) (words "useradd -r -N -P R sve")
    ≡ changed (record nothing {
      passwd = Some (lines "svc:!:999:100::/home/svc:|sve:!:998:100::/home/sve:");
    })
unfolding digits
second_system_user = refl

-- `useradd -P R -N d`: the highest UID of the range is used, so the lowest free one is taken
lowest_free_uid : plainly_on (record nothing
    { passwd = Some (lines "a:x:1000:0::/:|b:x:1001:0::/:|c:x:1002:0::/:|z:x:60000:0::/:") })
    (words "useradd -P R -N d")
    ≡ changed (record nothing {
      passwd = Some (lines
          "a:x:1000:0::/:|b:x:1001:0::/:|c:x:1002:0::/:|z:x:60000:0::/:|d:!:1003:100::/home/d:");
    })
unfolding digits
lowest_free_uid = refl

-- `useradd -P R -N -K UID_MIN=1000 -K UID_MAX=1002 d`
no_free_uid : plainly_on (record nothing {
  passwd = Some
      (lines "a:x:1000:0::/:|b:x:1001:0::/:|c:x:1002:0::/:|z:x:60000:0::/:");
})
    (words "useradd -P R -N -K UID_MIN=1000 -K UID_MAX=1002 d")
    ≡ refused 4 NoFreeUid "useradd: no free UID"
unfolding digits
no_free_uid = refl

-- `useradd -P R -N -o -u 1000 x`: with `-o` a used UID is taken
shared_uid : on image (words "useradd -P R -N -o -u 1000 x")
    ≡ changed (record image {
      passwd = Some (file image_passwd ++ lines "x:x:1000:100::/home/x:");
      shadow = Some (file image_shadow ++ lines "x:!:20000:0:99999:7:::");
      subuid = Some (lines "bob:100000:65536|x:165536:65536");
      subgid = Some (lines "bob:100000:65536|x:165536:65536");
    })
unfolding digits
shared_uid = refl

-- `useradd -P R -N ann`: the gap from 101000 has 65535 numbers, and that from 166545 has 65536
first_gap : plainly_on (record nothing {
  subuid = Some
      (lines "a:100000:1000|b:166535:10|c:232081:1");
}) (words "useradd -P R -N ann")
    ≡ changed (record nothing {
      passwd = Some (lines "ann:!:1000:100::/home/ann:");
      subuid = Some (lines "a:100000:1000|b:166535:10|c:232081:1|ann:166545:65536");
    })
unfolding digits
first_gap = refl

-- `useradd -P R -N d`: login.defs with a comment and an octal number
octal_setting :
    answer_to (words "useradd -P R -N d") nothing (Some (lines "# UID_MIN 5|UID_MIN 03720"))
    ≡ changed (record nothing { passwd = Some (lines "d:!:2000:100::/home/d:") })
unfolding digits
octal_setting = refl

-- `useradd -P R -N d`
hexadecimal_setting :
    answer_to (words "useradd -P R -N d") nothing (Some (lines "# UID_MIN 5|UID_MIN 0x7d0"))
    ≡ changed (record nothing { passwd = Some (lines "d:!:2000:100::/home/d:") })
unfolding digits
hexadecimal_setting = refl

-- `useradd -P R -N -c C -b /b -s /s -p h -u 7 -e 2024-10-04 -f 3 ann`: each option sets its field; without shadow the hash stands in passwd, and `-e` and `-f` have no effect
all_fields :
    plainly_on nothing (words "useradd -P R -N -c C -b /b -s /s -p h -u 7 -e 2024-10-04 -f 3 ann")
    ≡ changed_with "useradd: password of ann stands in passwd, as shadow does not exist"
    (record nothing { passwd = Some (lines "ann:h:7:100:C:/b/ann:/s") })
unfolding digits
all_fields = refl

-- `useradd -P R -N -p !h ann`: no notice of a hash that opens nothing
locked_hash : plainly_on nothing (words "useradd -P R -N -p !h ann")
    ≡ changed (record nothing { passwd = Some (lines "ann:!h:1000:100::/home/ann:") })
unfolding digits
locked_hash = refl

-- `useradd -P R -N -p * ann`
no_hash : plainly_on nothing (words "useradd -P R -N -p * ann")
    ≡ changed (record nothing { passwd = Some (lines "ann:*:1000:100::/home/ann:") })
unfolding digits
no_hash = refl

-- `useradd -P R -N -p  ann`: an empty hash opens the account
empty_hash : plainly_on nothing (words "useradd -P R -N -p  ann")
    ≡ changed_with "useradd: password of ann stands in passwd, as shadow does not exist"
    (record nothing { passwd = Some (lines "ann::1000:100::/home/ann:") })
unfolding digits
empty_hash = refl

-- `useradd -P R -N -d /d -p h -e 2024-10-04 -f 3 -K PASS_WARN_AGE=5 ann`: with shadow they stand there
all_shadow_fields : plainly_on (record nothing { shadow = Some [] })
    (words "useradd -P R -N -d /d -p h -e 2024-10-04 -f 3 -K PASS_WARN_AGE=5 ann")
    ≡ changed (record nothing {
      passwd = Some (lines "ann:x:1000:100::/d:");
      shadow = Some (lines "ann:h:20000:::5:3:20000:");
    })
unfolding digits
all_shadow_fields = refl

-- `useradd -P R -g 100 -G 27,sudo,,27 -K SUB_UID_COUNT=0 -K SUB_GID_COUNT=0 x`: a group may be named by its GID, and stands once
group_by_gid :
    on image (words "useradd -P R -g 100 -G 27,sudo,,27 -K SUB_UID_COUNT=0 -K SUB_GID_COUNT=0 x")
    ≡ changed (record image {
      passwd = Some (file image_passwd ++ lines "x:x:1001:100::/home/x:");
      shadow = Some (file image_shadow ++ lines "x:!:20000:0:99999:7:::");
      group = Some (image_group_with "bob,x");
      gshadow = Some (image_gshadow_with "bob,x");
    })
unfolding digits
group_by_gid = refl

-- `useradd -P R -U ann`: the user group takes the UID as GID, and another where a group has it
gid_of_own_group : plainly_on (small "" "g:x:1000:") (words "useradd -P R -U ann")
    ≡ changed (record (small "" "g:x:1000:|ann:!:1001:") {
      passwd = Some (codes "" ++ newline ∷ lines "ann:!:1000:1001::/home/ann:");
    })
unfolding digits
gid_of_own_group = refl

-- `useradd -P R -N ann`: a range of the name is the user's, and is told
range_of_name : plainly_on (record nothing { subuid = Some (lines "ann:200000:10") })
    (words "useradd -P R -N ann")
    ≡ changed_with "useradd: user ann inherits ranges of subuid"
    (record nothing {
      passwd = Some (lines "ann:!:1000:100::/home/ann:");
      subuid = Some (lines "ann:200000:10");
    })
unfolding digits
range_of_name = refl

-- `useradd -r -F -N -P R svc`: so is one of the UID
range_of_uid : plainly_on (record nothing { subgid = Some (lines "a:1:1|999:200000:10") })
    (words "useradd -r -F -N -P R svc")
    ≡ changed_with "useradd: user svc inherits ranges of subgid"
    (record nothing {
      passwd = Some (lines "svc:!:999:100::/home/svc:");
      subgid = Some (lines "a:1:1|999:200000:10");
    })
unfolding digits
range_of_uid = refl

-- `useradd -r -N -P R svc`: a system user gets no range without `-F`, and none is told
range_of_system_user : plainly_on (record nothing { subuid = Some (lines "svc:200000:10") })
    (words "useradd -r -N -P R svc")
    ≡ changed (record nothing {
      passwd = Some (lines "svc:!:999:100::/home/svc:");
      subuid = Some (lines "svc:200000:10");
    })
unfolding digits
range_of_system_user = refl

-- `useradd -P R -N ann`: a line of shadow without a user is replaced
shadow_line_is_put : plainly_on (record nothing { shadow = Some (lines "ann:*:1::::::") })
    (words "useradd -P R -N ann")
    ≡ changed (record nothing {
      passwd = Some (lines "ann:x:1000:100::/home/ann:");
      shadow = Some (lines "ann:!:20000::::::");
    })
unfolding digits
shadow_line_is_put = refl

-- what is refused on the image
refusals : AreAnswered (
    refusing "useradd -P R -N -u 1000 x" 4 (UidInUse 1000) "useradd: UID 1000 is in use"
    -- the refusals of useradd, in their order
    ∷ refusing "useradd -P R -K x -c : 12" 3 (BadName (codes "12"))
    "useradd: invalid name: 12 (1 to 32 letters, digits, _ . or -, not - first, not digits alone)"
    ∷ refusing "useradd -P R -K UID_MIN=5 -K UMASK=1 -K x -c : bob" 3 (BadKey (codes "UMASK=1"))
    "useradd: invalid setting: UMASK=1 (KEY=VALUE, with a key that accounts-useradd(8) lists)"
    ∷ refusing_value "useradd" "-P R -u 4294967295 -p a:b -s sh -f -2 -e x -b : -d home -c : bob"
    "c" ":" field_form
    ∷ refusing_value "useradd" "-P R -u 4294967295 -p a:b -s sh -f -2 -e x -b : -d home bob"
    "d" "home" path_form
    ∷ refusing_value "useradd" "-P R -u 4294967295 -p a:b -s sh -f -2 -e x -b : bob"
    "b" ":" path_form
    ∷ refusing_value "useradd" "-P R -u 4294967295 -p a:b -s sh -f -2 -e x bob" "e" "x" date_form
    ∷ refusing_value "useradd" "-P R -u 4294967295 -p a:b -s sh -f -2 bob" "f" "-2" days_form
    ∷ refusing_value "useradd" "-P R -u 4294967295 -p a:b -s sh bob" "s" "sh" path_form
    ∷ refusing_value "useradd" "-P R -u 4294967295 -p a:b bob" "p" "a:b" field_form
    ∷ refusing_value "useradd" "-P R -u 4294967295 bob" "u" "4294967295" id_form
    ∷ refusing "useradd -P R -g nope bob" 9 (UserExists (codes "bob")) "useradd: user bob exists"
    ∷ refusing "useradd -P R -g nope -G none ann" 6 (NoGroup (codes "nope"))
    "useradd: unknown group nope"
    ∷ refusing "useradd -P R -G sudo,00,77,none messageboy" 6 (NoGroup (codes "77"))
    "useradd: unknown group 77"
    ∷ refusing "useradd -P R -u 0 sudo" 9 (GroupExists (codes "sudo")) "useradd: group sudo exists"
    ∷ refusing "useradd -P R -K GID_MIN=5 -K GID_MAX=4 -K UID_MIN=100 -K UID_MAX=101 -o -u 27 x"
    4 NoFreeGid
    "useradd: no free GID"
    ∷ refusing "useradd -P R -K SUB_UID_MAX=165536 -K SUB_GID_MAX=165536 x" 1 (NoGap Subuid)
    "useradd: no free range in subuid"
    ∷ refusing "useradd -P R -K SUB_GID_COUNT=600000000 x" 1 (NoGap Subgid)
    "useradd: no free range in subgid"
    ∷ [])
unfolding digits
refusals = refl

-- `useradd -P R -N -G g ann`: a group of `-G` with two lines
useradd_multiple : plainly_on (small "" "g:x:1:|g:x:2:") (words "useradd -P R -N -G g ann")
    ≡ refused 10 (Multiple Group (codes "g")) "useradd: group has multiple entries for g"
unfolding digits
useradd_multiple = refl

-- `useradd -P R -N d`: a number of login.defs with a letter in it
bad_setting :
    answer_to (words "useradd -P R -N d") nothing (Some (lines "# UID_MIN 5|UID_MIN 10o0"))
    ≡ unusable 1 (BadSettingAt 2) "useradd: login.defs line 2: bad number"
unfolding digits
bad_setting = refl

-- `useradd -P R -aG sudo bob`: useradd has no `-a`
bad_option : on image (words "useradd -P R -aG sudo bob")
    ≡ Err (UnknownOption 3)
unfolding digits
bad_option = refl

-- `useradd -P R -N ann`: two stale lines of shadow
useradd_multiple_shadow : plainly_on (record nothing
    { shadow = Some (lines "ann:!:::::::|ann:*:::::::") }) (words "useradd -P R -N ann")
    ≡ refused 1 (Multiple Shadow (codes "ann")) "useradd: shadow has multiple entries for ann"
unfolding digits
useradd_multiple_shadow = refl

-- `useradd -P R -U ann`: a line that is put as it is counts as touched
equal_put_touches : plainly_on (record nothing { gshadow = Some (lines "ann:!::|ann:!::") })
    (words "useradd -P R -U ann")
    ≡ refused 10 (Multiple Gshadow (codes "ann")) "useradd: gshadow has multiple entries for ann"
unfolding digits
equal_put_touches = refl
