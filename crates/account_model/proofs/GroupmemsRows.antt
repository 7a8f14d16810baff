-- groupmems from its words to its answer, each row decided by computing.
use Rattle.std.specs.Prelude.{◌≡◌, [], codes, refl, Some, ◌∷◌}
use Rattle.std.specs.Fmt.{digits}
use Prim.Native.String.{String}
use Rattle.acct_text.specs.declared.files.Files.{Files}
use Rattle.account_model.specs.declared.refusal.Refusal.TheVariants.{BadName, NoUser, NoGroup, NotMember}
use Rattle.account_model.proofs.Image.{image}
use Rattle.account_model.proofs.Commands.{words, lines, on, plainly_on, changed, same, refused, printed, reported, image_group_with, image_gshadow_with, small, AreAnswered, refusing}

-- two users and one group, with its line of group and that of gshadow
abbrev one_group : String → String → Files
one_group group gshadow =
    record (small "a:x:1:1:::|b:x:2:2:::" group) { gshadow = Some (lines gshadow) }

-- `groupmems -P R -g sudo -a www-data`
added : on image (words "groupmems -P R -g sudo -a www-data")
    ≡ changed (record image {
      group = Some (image_group_with "bob,www-data");
      gshadow = Some (image_gshadow_with "bob,www-data");
    })
unfolding digits
added = refl

-- `groupmems -P R -g sudo -a bob`: who is a member stays one
added_again : on image (words "groupmems -P R -g sudo -a bob") ≡ same
unfolding digits
added_again = refl

-- `groupmems -P R -d b -g q`: a member in gshadow alone is removed there
removed : plainly_on (one_group "q:x:5:a" "q:!:b:b,a,b") (words "groupmems -P R -d b -g q")
    ≡ changed (one_group "q:x:5:a" "q:!:b:a")
unfolding digits
removed = refl

-- `groupmems -P R -g q -p`: the members of both tables go, and the administrators stay
purged : plainly_on (one_group "q:x:5:a" "q:!:b:a,b") (words "groupmems -P R -g q -p")
    ≡ changed (one_group "q:x:5:" "q:!:b:")
unfolding digits
purged = refl

-- `groupmems -P R -g q -p`: without a line in gshadow none is made
purged_alone : plainly_on (one_group "q:h:5:a" "r:!::") (words "groupmems -P R -g q -p")
    ≡ changed (one_group "q:h:5:" "r:!::")
unfolding digits
purged_alone = refl

-- `groupmems -P R -g sudo -l`
listed : on image (words "groupmems -P R -g sudo -l") ≡ reported 0 "bob"
unfolding digits
listed = refl

-- `groupmems -P R -g q -l`: each member as group has it, a repeated one too
both_listed : plainly_on (one_group "q:x:5:b,a,b" "q:!:a:") (words "groupmems -P R -g q -l")
    ≡ reported 0 "b|a|b"
unfolding digits
both_listed = refl

-- `groupmems -P R -g root -l`: no member, no line
none_listed : on image (words "groupmems -P R -g root -l") ≡ printed 0 []
unfolding digits
none_listed = refl

-- what is refused on the image
refusals : AreAnswered (
    -- the group is a name, and is tested first
    refusing "groupmems -P R -g 27 -a ghost" 3 (NoGroup (codes "27")) "groupmems: unknown group 27"
    ∷ refusing "groupmems -P R -g staff -l" 3 (NoGroup (codes "staff"))
    "groupmems: unknown group staff"
    ∷ refusing "groupmems -P R -g sudo -a ghost" 3 (NoUser (codes "ghost"))
    "groupmems: unknown user ghost"
    ∷ refusing "groupmems -P R -g sudo -d root" 3 (NotMember (codes "root") (codes "sudo"))
    "groupmems: user root is not a member of sudo"
    ∷ [])
unfolding digits
refusals = refl

-- `groupmems -P R -g q -a a,b`: a name with a comma can't stand in a list
comma_name : plainly_on (small "a,b:x:1:1:::" "q:x:5:") (words "groupmems -P R -g q -a a,b")
    ≡ refused 3 (BadName (codes "a,b"))
    "groupmems: invalid name: a,b (1 to 32 letters, digits, _ . or -, not - first, not digits alone)"
unfolding digits
comma_name = refl
