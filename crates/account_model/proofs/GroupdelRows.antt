-- groupdel from its words to its answer, each row decided by computing.
use Rattle.std.specs.Prelude.{◌≡◌, ◌++◌, codes, refl, Some, [], ◌∷◌}
use Rattle.std.specs.Fmt.{digits}
use Rattle.acct_text.specs.declared.Tab.TheVariants.{Group, Gshadow}
use Rattle.account_model.specs.declared.refusal.Refusal.TheVariants.{NoGroup, PrimaryGroup, Multiple}
use Rattle.account_model.proofs.Image.{image}
use Rattle.account_model.proofs.Commands.{words, lines, on, plainly_on, changed, refused, nothing, AreAnswered, refusing}

-- what is refused on the image
refusals : AreAnswered (
    refusing "groupdel -P R bob" 8 (PrimaryGroup (codes "bob") (codes "bob"))
    "groupdel: group bob is the primary group of bob"
    ∷ refusing "groupdel -P R staff" 6 (NoGroup (codes "staff")) "groupdel: unknown group staff"
    ∷ [])
unfolding digits
refusals = refl

-- `groupdel -P R -f bob`: with `-f` it goes
forced_deletion : on image (words "groupdel -P R -f bob")
    ≡ changed (record image {
      group = Some (lines
          "root:x:0:|daemon:x:1:|bin:x:2:|sudo:x:27:bob|www-data:x:33:|users:x:100:"
          ++ lines "messagebus:x:101:|nogroup:x:65534:");
      gshadow = Some (lines
          "root:*::|daemon:*::|bin:*::|sudo:*::bob|www-data:*::|users:*::"
          ++ lines "messagebus:!::|nogroup:*::");
    })
unfolding digits
forced_deletion = refl

-- `groupdel -P R q`
two_groups :
    plainly_on (record nothing { group = Some (lines "q:x:5:|q:x:6:") }) (words "groupdel -P R q")
    ≡ refused 10 (Multiple Group (codes "q")) "groupdel: group has multiple entries for q"
unfolding digits
two_groups = refl

-- `groupdel -P R q`: a line goes with its end or the want of one
last_line :
    plainly_on (record nothing { group = Some (codes "r:x:6:\nq:x:5:") }) (words "groupdel -P R q")
    ≡ changed (record nothing { group = Some (codes "r:x:6:\n") })
unfolding digits
last_line = refl

-- `groupdel -P R q`: of two tables with multiple entries group is named before gshadow
multiple_in_group : plainly_on
    (record nothing { group = Some (lines "q:x:5:|q:x:5:"); gshadow = Some (lines "q:!::|q:!::") })
    (words "groupdel -P R q")
    ≡ refused 10 (Multiple Group (codes "q")) "groupdel: group has multiple entries for q"
unfolding digits
multiple_in_group = refl

-- `groupdel -P R q`: multiple entries in gshadow alone
multiple_in_gshadow : plainly_on
    (record nothing { group = Some (lines "q:x:5:"); gshadow = Some (lines "q:!::|q:!::") })
    (words "groupdel -P R q")
    ≡ refused 10 (Multiple Gshadow (codes "q")) "groupdel: gshadow has multiple entries for q"
unfolding digits
multiple_in_gshadow = refl
