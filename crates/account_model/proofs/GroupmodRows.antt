-- groupmod from its words to its answer, each row decided by computing.
use Rattle.std.specs.Prelude.{◌≡◌, [], ◌++◌, codes, refl, Some, ◌∷◌}
use Rattle.std.specs.Fmt.{digits}
use Rattle.std.specs.Str.{byte}
use Rattle.acct_text.specs.declared.Tab.TheVariants.{Passwd}
use Rattle.account_model.specs.declared.refusal.Refusal.TheVariants.{BadValue, GroupExists, NoGroup, GidInUse, Multiple}
use Rattle.acct_text.specs.declared.files.Files.{Files}
use Rattle.account_model.proofs.Image.{image}
use Rattle.account_model.proofs.Commands.{words, lines, on, plainly_on, changed, same, refused, small, nothing, AreAnswered, refusing}

-- the image with the group bob as staff, of GID 2000
abbrev with_staff : Files
with_staff = record image {
  passwd = Some (lines
      "root:x:0:0:root:/root:/bin/bash|daemon:x:1:1:daemon:/usr/sbin:/usr/sbin/nologin"
      ++ lines "bin:x:2:2:bin:/bin:/usr/sbin/nologin"
      ++ lines "www-data:x:33:33:www-data:/var/www:/usr/sbin/nologin"
      ++ lines "_apt:x:100:65534::/nonexistent:/usr/sbin/nologin"
      ++ lines "messagebus:x:101:101::/nonexistent:/usr/sbin/nologin"
      ++ lines "nobody:x:65534:65534:nobody:/nonexistent:/usr/sbin/nologin"
      ++ lines "bob:x:1000:2000:Bob,,,:/home/bob:/bin/bash");
  group = Some (lines
      "root:x:0:|daemon:x:1:|bin:x:2:|sudo:x:27:bob|www-data:x:33:|users:x:100:|messagebus:x:101:"
      ++ lines "nogroup:x:65534:|staff:x:2000:");
  gshadow = Some (lines
      "root:*::|daemon:*::|bin:*::|sudo:*::bob|www-data:*::|users:*::|messagebus:!::"
      ++ lines "nogroup:*::|staff:!::");
}

-- `groupmod -P R -g 2000 -n staff bob`: the users of the group follow
moved_group : on image (words "groupmod -P R -g 2000 -n staff bob")
    ≡ changed with_staff
unfolding digits
moved_group = refl

-- `groupmod -P R -p k q`: the hash of a group that gshadow lacks: a line on demand
demanded : plainly_on (record nothing { group = Some (lines "q:h:5:a,b"); gshadow = Some [] })
    (words "groupmod -P R -p k q")
    ≡ changed (record nothing {
      group = Some (lines "q:x:5:a,b");
      gshadow = Some (lines "q:k::a,b");
    })
unfolding digits
demanded = refl

-- `groupmod -P R -o -g 27 bob`: with `-o` a used GID is taken
shared_gid :
    plainly_on (small "b:x:1:5::/:" "bob:x:5:|s:x:27:") (words "groupmod -P R -o -g 27 bob")
    ≡ changed (small "b:x:1:27::/:" "bob:x:27:|s:x:27:")
unfolding digits
shared_gid = refl

-- `groupmod -P R -g 7 q`: also where another group has the old GID
all_users_follow : plainly_on (small "a:x:1:5::/:|b:x:2:5::/:|c:x:3:6::/:" "q:x:5:|r:x:5:")
    (words "groupmod -P R -g 7 q")
    ≡ changed (small "a:x:1:7::/:|b:x:2:7::/:|c:x:3:6::/:" "q:x:7:|r:x:5:")
unfolding digits
all_users_follow = refl

-- `groupmod -P R -g 1000 -n bob bob`: the own GID and the own name are no others
own_gid : on image (words "groupmod -P R -g 1000 -n bob bob")
    ≡ same
unfolding digits
own_gid = refl

-- what is refused on the image
refusals : AreAnswered (
    refusing "groupmod -P R -g x -n - bob" 3 (BadValue (byte "g") (codes "x"))
    "groupmod: invalid value for -g: x (a number from 0 to 4294967294)"
    ∷ refusing "groupmod -P R -p : -n - bob" 3 (BadValue (byte "n") (codes "-"))
    "groupmod: invalid value for -n: - (1 to 32 letters, digits, _ . or -, not - first, not digits alone)"
    ∷ refusing "groupmod -P R -p : staff" 3 (BadValue (byte "p") (codes ":"))
    "groupmod: invalid value for -p: : (no : and no newline)"
    ∷ refusing "groupmod -P R -n sudo staff" 6 (NoGroup (codes "staff"))
    "groupmod: unknown group staff"
    ∷ refusing "groupmod -P R -g 27 -n sudo bob" 9 (GroupExists (codes "sudo"))
    "groupmod: group sudo exists"
    ∷ refusing "groupmod -P R -g 27 bob" 4 (GidInUse 27) "groupmod: GID 27 is in use"
    ∷ [])
unfolding digits
refusals = refl

-- `groupmod -P R -n b a`
used_name_in_gshadow : plainly_on (record nothing
    { group = Some (lines "a:x:5:"); gshadow = Some (lines "b:!::") })
    (words "groupmod -P R -n b a")
    ≡ refused 9 (GroupExists (codes "b")) "groupmod: group b exists"
unfolding digits
used_name_in_gshadow = refl

-- `groupmod -P R -g 7 q`: a user of the group stands twice
two_users : plainly_on (small "a:x:1:5:::|a:x:2:6:::" "q:x:5:") (words "groupmod -P R -g 7 q")
    ≡ refused 10 (Multiple Passwd (codes "a")) "groupmod: passwd has multiple entries for a"
unfolding digits
two_users = refl
