-- userdel from its words to its answer, each row decided by computing.
use Rattle.std.specs.Prelude.{◌≡◌, [], ◌++◌, codes, refl, Some}
use Rattle.std.specs.Fmt.{digits}
use Rattle.acct_text.specs.declared.Tab.TheVariants.{Passwd, Shadow, Group}
use Rattle.account_model.specs.declared.refusal.Refusal.TheVariants.{NoUser, Multiple}
use Rattle.account_model.proofs.Image.{image, image_passwd, image_group, image_gshadow}
use Rattle.account_model.proofs.SettingsImage.{file}
use Rattle.account_model.proofs.Commands.{words, lines, answer_to, on, plainly_on, changed, changed_with, refused, with_ann, small}

-- `userdel -P R ann`: the group of the user's name stays: carl has it
removed : on (record with_ann {
  passwd = Some
      (file image_passwd ++ lines
      "ann:x:1001:1001:Ann Lee:/home/ann:|carl:x:1002:1001::/home/carl:");
}) (words "userdel -P R ann")
    ≡ changed_with "userdel: group ann kept: primary group of carl" (record image {
      passwd = Some (file image_passwd ++ lines "carl:x:1002:1001::/home/carl:");
      group = Some (file image_group ++ lines "ann:x:1001:");
      gshadow = Some (file image_gshadow ++ lines "ann:!::");
    })
unfolding digits
removed = refl

-- `userdel -f -P R ann`: with `-f` it goes
removed_with_group : on (record with_ann {
  passwd = Some
      (file image_passwd ++ lines
      "ann:x:1001:1001:Ann Lee:/home/ann:|carl:x:1002:1001::/home/carl:");
}) (words "userdel -f -P R ann")
    ≡ changed (record image {
      passwd = Some (file image_passwd ++ lines "carl:x:1002:1001::/home/carl:");
    })
unfolding digits
removed_with_group = refl

-- `userdel -f -P R a`: a group with members stays, with `-f` too
members_left : answer_to (words "userdel -f -P R a")
    (record (small "a:x:1:1::/:" "a:x:1:a,b") { gshadow = Some (lines "a:!:b,a:a") })
    (Some (lines "USERGROUPS_ENAB yes"))
    ≡ changed_with "userdel: group a kept: it has members" (record (small "" "a:x:1:b")
    { passwd = Some []; gshadow = Some (lines "a:!:b:") })
unfolding digits
members_left = refl

-- `userdel -P R a`: without groups of users' own the group stays, and there is no notice
no_user_groups : plainly_on (small "a:x:1:1::/:" "a:x:1:") (words "userdel -P R a")
    ≡ changed (record (small "" "a:x:1:") { passwd = Some [] })
unfolding digits
no_user_groups = refl

-- `userdel -P R a`: ranges of the UID go where no other user has it
ranges_by_uid : plainly_on (record (small "a:x:1:1::/:|b:x:2:1::/:|c:x:2:1::/:" "a:x:1:")
    { subuid = Some (lines "1:5:1|a:6:1|2:7:1") }) (words "userdel -P R a")
    ≡ changed (record (small "b:x:2:1::/:|c:x:2:1::/:" "a:x:1:") { subuid = Some (lines "2:7:1") })
unfolding digits
ranges_by_uid = refl

-- `userdel -P R b`
ranges_of_shared_uid : plainly_on (record (small "a:x:1:1::/:|b:x:2:1::/:|c:x:2:1::/:" "a:x:1:")
    { subuid = Some (lines "1:5:1|b:6:1|2:7:1") }) (words "userdel -P R b")
    ≡ changed (record (small "a:x:1:1::/:|c:x:2:1::/:" "a:x:1:") {
      subuid = Some (lines "1:5:1|2:7:1");
    })
unfolding digits
ranges_of_shared_uid = refl

-- `userdel -P R ann`
userdel_unknown : on image (words "userdel -P R ann")
    ≡ refused 6 (NoUser (codes "ann")) "userdel: unknown user ann"
unfolding digits
userdel_unknown = refl

-- `userdel -P R a`
userdel_multiple : plainly_on (small "a:x:1:1::/:|a:x:1:1::/:" "a:x:1:") (words "userdel -P R a")
    ≡ refused 1 (Multiple Passwd (codes "a")) "userdel: passwd has multiple entries for a"
unfolding digits
userdel_multiple = refl

-- `userdel -P R a`
userdel_multiple_group : plainly_on (small "a:x:1:1::/:" "g:x:1:a|g:x:1:") (words "userdel -P R a")
    ≡ refused 10 (Multiple Group (codes "g")) "userdel: group has multiple entries for g"
unfolding digits
userdel_multiple_group = refl

-- `userdel -P R a`: of two reasons to keep the group the notice names the members
members_first : answer_to (words "userdel -P R a") (small "a:x:1:1::/:|c:x:2:1::/:" "a:x:1:b")
    (Some (lines "USERGROUPS_ENAB yes"))
    ≡ changed_with "userdel: group a kept: it has members" (small "c:x:2:1::/:" "a:x:1:b")
unfolding digits
members_first = refl

-- `userdel -P R a`: of two tables with multiple entries passwd is named before shadow
multiple_in_passwd : plainly_on
    (record (small "a:x:1:1::/:|a:x:1:1::/:" "") { shadow = Some (lines "a:!:::::::|a:!:::::::") })
    (words "userdel -P R a")
    ≡ refused 1 (Multiple Passwd (codes "a")) "userdel: passwd has multiple entries for a"
unfolding digits
multiple_in_passwd = refl

-- `userdel -P R a`: multiple entries in shadow alone
multiple_in_shadow : plainly_on
    (record (small "a:x:1:1::/:" "g:x:1:a|g:x:1:")
    { shadow = Some (lines "a:!:::::::|a:!:::::::") })
    (words "userdel -P R a")
    ≡ refused 1 (Multiple Shadow (codes "a")) "userdel: shadow has multiple entries for a"
unfolding digits
multiple_in_shadow = refl
