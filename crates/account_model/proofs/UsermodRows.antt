-- usermod from its words to its answer, each row decided by computing.
use Rattle.std.specs.Prelude.{◌≡◌, [], ◌∷◌, ◌++◌, codes, refl, Some, None}
use Rattle.std.specs.Fmt.{digits}
use Rattle.acct_text.specs.declared.Tab.TheVariants.{Passwd, Group, Subuid, Subgid}
use Rattle.account_model.specs.declared.refusal.Refusal.TheVariants.{Meets, NoShadow, Multiple}
use Rattle.account_model.proofs.Image.{image, image_passwd, image_shadow}
use Rattle.account_model.proofs.SettingsImage.{file}
use Rattle.account_model.proofs.Commands.{words, lines, on, plainly_on, changed, same, refused, image_group_with, image_gshadow_with, image_shadow_with, with_ann, small, nothing}

-- `usermod -P R -v 165535-165540 ann`: the range of `-v` meets one that stands
range_meets : on with_ann (words "usermod -P R -v 165535-165540 ann")
    ≡ refused 3 (Meets 165535 165540 Subuid 1) "usermod: range 165535-165540 meets subuid line 1"
unfolding digits
range_meets = refl

-- `usermod -P R -v 231072-231081 ann`
range_added : on with_ann (words "usermod -P R -v 231072-231081 ann")
    ≡ changed (record with_ann {
      subuid = Some (lines "bob:100000:65536|ann:165536:65536|ann:231072:10");
    })
unfolding digits
range_added = refl

-- `usermod -P R -V 165540-165549 ann`
range_cut : on with_ann (words "usermod -P R -V 165540-165549 ann")
    ≡ changed (record with_ann {
      subuid = Some (lines "bob:100000:65536|ann:165536:4|ann:165550:65522");
    })
unfolding digits
range_cut = refl

-- `usermod -P R -v 165540-165549 -V 165530-165549 -W 0-4294967294 -w 1-1 ann`: all of `-V` come before all of `-v`
cut_then_added :
    on with_ann (words "usermod -P R -v 165540-165549 -V 165530-165549 -W 0-4294967294 -w 1-1 ann")
    ≡ changed (record with_ann {
      subuid = Some (lines "bob:100000:65536|ann:165550:65522|ann:165540:10");
      subgid = Some (lines "bob:100000:65536|ann:1:1");
    })
unfolding digits
cut_then_added = refl

-- `usermod -P R -w 5-9 -w 9-10 ann`: an added range counts for the next
added_meets_added : on with_ann (words "usermod -P R -w 5-9 -w 9-10 ann")
    ≡ refused 3 (Meets 9 10 Subgid 3) "usermod: range 9-10 meets subgid line 3"
unfolding digits
added_meets_added = refl

-- `usermod -P R -v 165536-231071 -w 231071-231071 ann`: the user has them already
held : on with_ann (words "usermod -P R -v 165536-231071 -w 231071-231071 ann")
    ≡ same
unfolding digits
held = refl

-- `usermod -P R -v 165536-231072 ann`: a part isn't enough
held_in_part : on with_ann (words "usermod -P R -v 165536-231072 ann")
    ≡ refused 3 (Meets 165536 231072 Subuid 2) "usermod: range 165536-231072 meets subuid line 2"
unfolding digits
held_in_part = refl

-- `usermod -P R -v 100000-100001 ann`: nor is what another user has
held_by_another : on with_ann (words "usermod -P R -v 100000-100001 ann")
    ≡ refused 3 (Meets 100000 100001 Subuid 1) "usermod: range 100000-100001 meets subuid line 1"
unfolding digits
held_by_another = refl

-- `usermod -P R -v 2-3 a`: one line has to hold the whole
held_by_two_lines : plainly_on (record (small "a:x:1:1::/:" "g:x:1:")
    { subuid = Some (lines "a:1:2|a:3:2") }) (words "usermod -P R -v 2-3 a")
    ≡ refused 3 (Meets 2 3 Subuid 1) "usermod: range 2-3 meets subuid line 1"
unfolding digits
held_by_two_lines = refl

-- `usermod -P R -l b -u 7 -v 4-4 -v 5-5 -v 8-9 -v 9-9 a`: what counts are the new name, the new UID, and what was added before
held_by_new_owner : plainly_on (record (small "a:x:1:1::/:" "g:x:1:")
    { subuid = Some (lines "a:4:1|7:5:1") })
    (words "usermod -P R -l b -u 7 -v 4-4 -v 5-5 -v 8-9 -v 9-9 a")
    ≡ changed (record (small "b:x:7:1::/:" "g:x:1:") {
      subuid = Some (lines "b:4:1|7:5:1|b:8:2");
    })
unfolding digits
held_by_new_owner = refl

-- `usermod -P R -V 5-5 -v 4-5 a`: and what is left of a range
held_before_the_cut : plainly_on (record (small "a:x:1:1::/:" "g:x:1:")
    { subuid = Some (lines "a:4:2") }) (words "usermod -P R -V 5-5 -v 4-5 a")
    ≡ refused 3 (Meets 4 5 Subuid 1) "usermod: range 4-5 meets subuid line 1"
unfolding digits
held_before_the_cut = refl

-- `usermod -P R -l bea ann`
renamed : on with_ann (words "usermod -P R -l bea ann")
    ≡ changed (record {
      passwd = Some (file image_passwd ++ lines "bea:x:1001:1001:Ann Lee:/home/ann:");
      shadow = Some (file image_shadow ++ lines "bea:!:20000:0:99999:7:::");
      group = Some (image_group_with "bob,bea" ++ lines "ann:x:1001:");
      gshadow = Some (image_gshadow_with "bob,bea" ++ lines "ann:!::");
      subuid = Some (lines "bob:100000:65536|bea:165536:65536");
      subgid = Some (lines "bob:100000:65536|bea:165536:65536");
    })
unfolding digits
renamed = refl

-- `usermod -P R -l b a`: where a list then has the new name twice, the first stays
renamed_once : plainly_on (small "a:x:1:1::/:" "g:x:1:b,c,a,b,c,c") (words "usermod -P R -l b a")
    ≡ changed (small "b:x:1:1::/:" "g:x:1:b,c,c,c")
unfolding digits
renamed_once = refl

-- `usermod -P R -l a a`
renamed_to_itself : plainly_on (small "a:x:1:1::/:" "g:x:1:a,a") (words "usermod -P R -l a a")
    ≡ same
unfolding digits
renamed_to_itself = refl

-- `usermod -P R -c Jo jos`: a line that is no text, and the last without an end
odd_line_changed : plainly_on (record nothing {
  passwd = Some (lines "root:x:0:0:root:/root:/bin/sh|bad:x:5:5:oops"
      ++ codes "jos:x:1000:0:Jos" ++ 233 ∷ codes ":/home/jos:/bin/sh");
})
    (words "usermod -P R -c Jo jos")
    ≡ changed (record nothing {
      passwd = Some (lines "root:x:0:0:root:/root:/bin/sh|bad:x:5:5:oops"
          ++ codes "jos:x:1000:0:Jo:/home/jos:/bin/sh");
    })
unfolding digits
odd_line_changed = refl

-- `usermod -P R -s /bin/sh ann`
two_lines : plainly_on (small "ann:x:1000:0::/:|ann:x:1000:0::/:" "g:x:0:")
    (words "usermod -P R -s /bin/sh ann")
    ≡ refused 1 (Multiple Passwd (codes "ann")) "usermod: passwd has multiple entries for ann"
unfolding digits
two_lines = refl

-- `usermod -P R -s /bin/sh ann`
two_lines_untouched : plainly_on (small "ann:x:1000:0::/:/bin/sh|ann:x:1000:0::/:/bin/sh" "g:x:0:")
    (words "usermod -P R -s /bin/sh ann")
    ≡ same
unfolding digits
two_lines_untouched = refl

-- `usermod -P R -aGsudo www-data`
bundled_groups : on image (words "usermod -P R -aGsudo www-data")
    ≡ changed (record image {
      group = Some (image_group_with "bob,www-data");
      gshadow = Some (image_gshadow_with "bob,www-data");
    })
unfolding digits
bundled_groups = refl

-- `usermod -P R -G  a`: without `-a` the user leaves every other group; a list may be empty
groups_left : plainly_on (small "a:x:1:1::/:" "g:x:1:a,b|h:x:2:b,a") (words "usermod -P R -G  a")
    ≡ changed (small "a:x:1:1::/:" "g:x:1:b|h:x:2:b")
unfolding digits
groups_left = refl

-- `usermod -P R -L bob`
locked : on image (words "usermod -P R -L bob")
    ≡ changed (record image { shadow = Some (image_shadow_with "bob:!$y$hash:19800:0:99999:7:::") })
unfolding digits
locked = refl

-- `usermod -P R -L bob`
locked_again :
    on (record image { shadow = Some (lines "bob:!h:::::::") }) (words "usermod -P R -L bob")
    ≡ same
unfolding digits
locked_again = refl

-- `usermod -P R -U bob`
unlocked : on (record image { shadow = Some (lines "bob:!h:::::::") }) (words "usermod -P R -U bob")
    ≡ changed (record image { shadow = Some (lines "bob:h:::::::") })
unfolding digits
unlocked = refl

-- `usermod -P R -c Bob,,, bob`
same_comment : on image (words "usermod -P R -c Bob,,, bob")
    ≡ same
unfolding digits
same_comment = refl

-- `usermod -P R -f 5 bob`
no_shadow : on (record image { shadow = None }) (words "usermod -P R -f 5 bob")
    ≡ refused 2 NoShadow "usermod: shadow does not exist"
unfolding digits
no_shadow = refl

-- `usermod -P R -p new bob`: `-p` sets the last change too
new_hash : on image (words "usermod -P R -p new bob")
    ≡ changed (record image { shadow = Some (image_shadow_with "bob:new:20000:0:99999:7:::") })
unfolding digits
new_hash = refl

-- `usermod -P R -f 8 -e  bob`: an empty `-e` empties the field
aging : on (record image { shadow = Some (lines "bob:h:1:2:3:4:5:6:7") })
    (words "usermod -P R -f 8 -e  bob")
    ≡ changed (record image { shadow = Some (lines "bob:h:1:2:3:4:8::7") })
unfolding digits
aging = refl

-- `usermod -P R -L a`: a line on demand also where the hash stays as it is
lock_on_demand : plainly_on (record (small "a:!h:1:1::/:" "g:x:1:") { shadow = Some [] })
    (words "usermod -P R -L a")
    ≡ changed (record (small "a:x:1:1::/:" "g:x:1:") { shadow = Some (lines "a:!h:::::::") })
unfolding digits
lock_on_demand = refl

-- `usermod -P R -c c -d /d -s /s -u 5 -g g -p p a`
passwd_fields : plainly_on (small "a:h:1:1:C:/:" "g:x:7:")
    (words "usermod -P R -c c -d /d -s /s -u 5 -g g -p p a")
    ≡ changed (small "a:p:5:7:c:/d:/s" "g:x:7:")
unfolding digits
passwd_fields = refl

-- `usermod -P R -G g a`: every line of a listed group changes
usermod_multiple_group : plainly_on (small "a:x:1:1::/:" "g:x:1:|g:x:1:")
    (words "usermod -P R -G g a")
    ≡ refused 10 (Multiple Group (codes "g")) "usermod: group has multiple entries for g"
unfolding digits
usermod_multiple_group = refl

-- `usermod -P R -s /s a`: the second of two lines changes
second_line_touched :
    plainly_on (small "a:x:1:1::/:/s|a:x:1:1::/:" "g:x:1:") (words "usermod -P R -s /s a")
    ≡ refused 1 (Multiple Passwd (codes "a")) "usermod: passwd has multiple entries for a"
unfolding digits
second_line_touched = refl

-- `usermod -P R -l b -u 7 -V 5-6 a`: ranges are cut for the new name and the new UID
ranges_of_new_owner : plainly_on (record (small "a:x:1:1::/:" "g:x:1:")
    { subuid = Some (lines "a:4:4|7:4:2|c:5:1|1:5:1") }) (words "usermod -P R -l b -u 7 -V 5-6 a")
    ≡ changed (record (small "b:x:7:1::/:" "g:x:1:") {
      subuid = Some (lines "b:4:1|b:7:1|7:4:1|c:5:1|1:5:1");
    })
unfolding digits
ranges_of_new_owner = refl

-- `usermod -P R -V 5-6 a`: a last line without an end that becomes two gets ends
cut_last_line : plainly_on (record (small "a:x:1:1::/:" "g:x:1:") { subuid = Some (codes "a:4:4") })
    (words "usermod -P R -V 5-6 a")
    ≡ changed (record (small "a:x:1:1::/:" "g:x:1:") { subuid = Some (codes "a:4:1\na:7:1\n") })
unfolding digits
cut_last_line = refl

-- `usermod -P R -V 5-9 a`: and one that becomes one keeps the want of it
cut_keeps_no_end : plainly_on (record (small "a:x:1:1::/:" "g:x:1:")
    { subuid = Some (codes "a:4:4") }) (words "usermod -P R -V 5-9 a")
    ≡ changed (record (small "a:x:1:1::/:" "g:x:1:") { subuid = Some (codes "a:4:1") })
unfolding digits
cut_keeps_no_end = refl

-- `usermod -P R -V 9-9 a`: an owned line that loses no number keeps its bytes
uncut_keeps_bytes : plainly_on (record (small "a:x:1:1::/:" "g:x:1:")
    { subuid = Some (codes "a:04:4") }) (words "usermod -P R -V 9-9 a")
    ≡ same
unfolding digits
uncut_keeps_bytes = refl
