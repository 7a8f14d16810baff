-- gpasswd from its words to its answer, each row decided by computing.
use Rattle.std.specs.Prelude.{◌≡◌, codes, refl, Some, [], ◌∷◌}
use Rattle.std.specs.Fmt.{digits}
use Rattle.acct_text.specs.declared.Tab.TheVariants.{Group}
use Rattle.account_model.specs.declared.refusal.Refusal.TheVariants.{BadName, NoUser, NoGroup, NotMember, Multiple}
use Rattle.acct_text.specs.declared.files.Files.{Files}
use Prim.Native.String.{String}
use Rattle.account_model.proofs.Image.{image}
use Rattle.account_model.proofs.Commands.{words, lines, on, plainly_on, changed, same, refused, image_group_with, image_gshadow_with, small, nothing, AreAnswered, refusing}

-- two users and one group, with its line of group and that of gshadow
abbrev one_group : String → String → Files
one_group group gshadow =
    record (small "a:x:1:1:::|b:x:2:2:::" group) { gshadow = Some (lines gshadow) }

-- `gpasswd -P R -M root,bob,root sudo`: of equal names the first is kept
set_members : on image (words "gpasswd -P R -M root,bob,root sudo")
    ≡ changed (record image {
      group = Some (image_group_with "root,bob");
      gshadow = Some (image_gshadow_with "root,bob");
    })
unfolding digits
set_members = refl

-- `gpasswd -P R -a b q`: a user who stands in one of the two lists is added to the other
added : plainly_on (one_group "q:x:5:a" "q:!:b:b") (words "gpasswd -P R -a b q")
    ≡ changed (one_group "q:x:5:a,b" "q:!:b:b")
unfolding digits
added = refl

-- `gpasswd -P R -d b q`: and removed from the one in which it stands
removed : plainly_on (one_group "q:x:5:a" "q:!:b:b,a,b") (words "gpasswd -P R -d b q")
    ≡ changed (one_group "q:x:5:a" "q:!:b:a")
unfolding digits
removed = refl

-- `gpasswd -P R -A b,,b -M  q`: administrators and members together, with a line on demand and an empty list
both_lists : plainly_on (one_group "q:h:5:a" "r:!::") (words "gpasswd -P R -A b,,b -M  q")
    ≡ changed (one_group "q:x:5:" "r:!::|q:h:b:")
unfolding digits
both_lists = refl

-- `gpasswd -P R -r q`
no_password : plainly_on (one_group "q:x:5:a" "q:h:b:") (words "gpasswd -P R -r q")
    ≡ changed (one_group "q:x:5:a" "q::b:")
unfolding digits
no_password = refl

-- `gpasswd -P R -R q`: without gshadow the hash stands in group
restricted :
    plainly_on (record nothing { group = Some (lines "q:h:5:a") }) (words "gpasswd -P R -R q")
    ≡ changed (record nothing { group = Some (lines "q:!:5:a") })
unfolding digits
restricted = refl

-- `gpasswd -P R -R q`: a line that isn't touched keeps its bytes, and a last one the want of an end
kept_bytes : plainly_on (record nothing { group = Some (codes "q:h:0005:a\nr:x:0006:") })
    (words "gpasswd -P R -R q")
    ≡ changed (record nothing { group = Some (codes "q:!:5:a\nr:x:0006:") })
unfolding digits
kept_bytes = refl

-- `gpasswd -P R -A a q`: administrators without gshadow have no place
no_gshadow : plainly_on (small "a:x:1:1:::" "q:x:5:") (words "gpasswd -P R -A a q")
    ≡ same
unfolding digits
no_gshadow = refl

-- what is refused on the image
refusals : AreAnswered (
    refusing "gpasswd -P R -a ghost staff" 3 (NoGroup (codes "staff"))
    "gpasswd: unknown group staff"
    ∷ refusing "gpasswd -P R -a ghost sudo" 3 (NoUser (codes "ghost")) "gpasswd: unknown user ghost"
    ∷ refusing "gpasswd -P R -d root sudo" 3 (NotMember (codes "root") (codes "sudo"))
    "gpasswd: user root is not a member of sudo"
    ∷ refusing "gpasswd -P R -A bob,ghost -M spook sudo" 3 (NoUser (codes "ghost"))
    "gpasswd: unknown user ghost"
    ∷ refusing "gpasswd -P R -M spook sudo" 3 (NoUser (codes "spook")) "gpasswd: unknown user spook"
    ∷ [])
unfolding digits
refusals = refl

-- `gpasswd -P R -a a,b q`: a name with a comma can't stand in a list, which is tested before multiple entries
comma_name : plainly_on (small "a,b:x:1:1:::" "q:x:5:|q:x:5:") (words "gpasswd -P R -a a,b q")
    ≡ refused 3 (BadName (codes "a,b"))
    "gpasswd: invalid name: a,b (1 to 32 letters, digits, _ . or -, not - first, not digits alone)"
unfolding digits
comma_name = refl

-- `gpasswd -P R -r q`
two_groups :
    plainly_on (record nothing { group = Some (lines "q:h:5:|q:x:5:") }) (words "gpasswd -P R -r q")
    ≡ refused 1 (Multiple Group (codes "q")) "gpasswd: group has multiple entries for q"
unfolding digits
two_groups = refl
