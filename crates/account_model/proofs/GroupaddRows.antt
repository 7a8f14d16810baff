-- groupadd from its words to its answer, each row decided by computing.
use Rattle.std.specs.Prelude.{◌≡◌, [], ◌++◌, codes, refl, Some, None, ◌∷◌}
use Rattle.std.specs.Fmt.{digits}
use Rattle.std.specs.Str.{byte}
use Rattle.acct_text.specs.declared.Tab.TheVariants.{Passwd, Group, Gshadow}
use Rattle.account_model.specs.declared.refusal.Refusal.TheVariants.{BadName, BadKey, BadValue, GroupExists, GidInUse, NoFreeGid, Multiple}
use Rattle.account_model.specs.Answer.{TableAbsent}
use Rattle.account_model.proofs.Image.{image, image_group, image_gshadow}
use Rattle.account_model.proofs.SettingsImage.{file}
use Rattle.account_model.proofs.Commands.{words, lines, on, plainly_on, changed, same, refused, unusable, nothing, AreAnswered, refusing}

-- `groupadd -P R -g 1500 staff`: without gshadow the hash stands in group
first_group : plainly_on nothing (words "groupadd -P R -g 1500 staff")
    ≡ changed (record nothing { group = Some (lines "staff:!:1500:") })
unfolding digits
first_group = refl

-- `groupadd -P R -g 1500 other`: staff has the GID
second_group : plainly_on (record nothing { group = Some (lines "staff:!:1500:") })
    (words "groupadd -P R -g 1500 other")
    ≡ refused 4 (GidInUse 1500) "groupadd: GID 1500 is in use"
unfolding digits
second_group = refl

-- `groupadd -P R -o -g 1500 other`: with `-o` it is taken
shared_gid : plainly_on (record nothing { group = Some (lines "staff:!:1500:") })
    (words "groupadd -P R -o -g 1500 other")
    ≡ changed (record nothing { group = Some (lines "staff:!:1500:|other:!:1500:") })
unfolding digits
shared_gid = refl

-- `groupadd -P R -f -g 27 dev`: with `-f` another GID is chosen where it is in use
forced_gid : on image (words "groupadd -P R -f -g 27 dev")
    ≡ changed (record image {
      group = Some (file image_group ++ lines "dev:x:1001:");
      gshadow = Some (file image_gshadow ++ lines "dev:!::");
    })
unfolding digits
forced_gid = refl

-- `groupadd -P R -f -o -g 27 dev`: with `-o` as well it is taken
forced_shared_gid : on image (words "groupadd -P R -f -o -g 27 dev")
    ≡ changed (record image {
      group = Some (file image_group ++ lines "dev:x:27:");
      gshadow = Some (file image_gshadow ++ lines "dev:!::");
    })
unfolding digits
forced_shared_gid = refl

-- `groupadd -P R -f sudo`: with `-f` a group that exists is no refusal
forced_name : on image (words "groupadd -P R -f sudo")
    ≡ same
unfolding digits
forced_name = refl

-- `groupadd -P R q`: other text stays
behind_comment : plainly_on (record nothing { group = Some (lines "#") }) (words "groupadd -P R q")
    ≡ changed (record nothing { group = Some (lines "#|q:!:1000:") })
unfolding digits
behind_comment = refl

-- `groupadd -P R -r svc`: the system range is filled from its end
system_group : plainly_on nothing (words "groupadd -P R -r svc")
    ≡ changed (record nothing { group = Some (lines "svc:!:999:") })
unfolding digits
system_group = refl

-- `groupadd -P R -p h q`: with gshadow the hash stands there
own_hash : plainly_on (record nothing { gshadow = Some [] }) (words "groupadd -P R -p h q")
    ≡ changed (record nothing { group = Some (lines "q:x:1000:"); gshadow = Some (lines "q:h::") })
unfolding digits
own_hash = refl

-- what is refused on the image
refusals : AreAnswered (
    -- but its values are tested
    refusing "groupadd -P R -f -p : sudo" 3 (BadValue (byte "p") (codes ":"))
    "groupadd: invalid value for -p: : (no : and no newline)"
    -- the name is tested before the GID
    ∷ refusing "groupadd -P R -g 27 sudo" 9 (GroupExists (codes "sudo"))
    "groupadd: group sudo exists"
    ∷ refusing "groupadd -P R -K x q:" 3 (BadName (codes "q:"))
    "groupadd: invalid name: q: (1 to 32 letters, digits, _ . or -, not - first, not digits alone)"
    -- `08` is no octal number
    ∷ refusing "groupadd -P R -p : -K GID_MIN=08 q" 3 (BadKey (codes "GID_MIN=08"))
    "groupadd: invalid setting: GID_MIN=08 (KEY=VALUE, with a key that accounts-useradd(8) lists)"
    ∷ refusing "groupadd -P R -g x -p a:b q" 3 (BadValue (byte "p") (codes "a:b"))
    "groupadd: invalid value for -p: a:b (no : and no newline)"
    ∷ refusing "groupadd -P R -g 4294967295 sudo" 3 (BadValue (byte "g") (codes "4294967295"))
    "groupadd: invalid value for -g: 4294967295 (a number from 0 to 4294967294)"
    ∷ [])
unfolding digits
refusals = refl

-- `groupadd -P R -K GID_MIN=7 -K GID_MAX=7 q`: the only GID of the range is used
no_gid : plainly_on (record nothing { group = Some (lines "a:x:7:") })
    (words "groupadd -P R -K GID_MIN=7 -K GID_MAX=7 q")
    ≡ refused 4 NoFreeGid "groupadd: no free GID"
unfolding digits
no_gid = refl

-- `groupadd -P R q`: a stale line of gshadow is replaced
put_gshadow : plainly_on (record nothing { gshadow = Some (lines "q:old:a:b|r:!::") })
    (words "groupadd -P R q")
    ≡ changed (record nothing {
      group = Some (lines "q:x:1000:");
      gshadow = Some (lines "q:!::|r:!::");
    })
unfolding digits
put_gshadow = refl

-- `groupadd -P R q`: two of them are multiple entries
two_gshadow : plainly_on (record nothing { gshadow = Some (lines "q:old:a:b|q:!::") })
    (words "groupadd -P R q")
    ≡ refused 10 (Multiple Gshadow (codes "q")) "groupadd: gshadow has multiple entries for q"
unfolding digits
two_gshadow = refl

-- `groupadd -P R q`
absent_group : plainly_on (record nothing { group = None }) (words "groupadd -P R q")
    ≡ unusable 10 (TableAbsent Group) "groupadd: group does not exist"
unfolding digits
absent_group = refl

-- `groupadd -P R q`: the tables are tested in their order
absent_passwd :
    plainly_on (record nothing { passwd = None; group = None }) (words "groupadd -P R q")
    ≡ unusable 10 (TableAbsent Passwd) "groupadd: passwd does not exist"
unfolding digits
absent_passwd = refl
