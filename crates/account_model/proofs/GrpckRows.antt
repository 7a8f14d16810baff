-- grpck from its words to its answer, each row decided by computing.
use Rattle.std.specs.Prelude.{◌≡◌, [], ◌++◌, refl, Some}
use Rattle.std.specs.Fmt.{digits}
use Rattle.acct_text.specs.declared.files.Files.{Files}
use Rattle.account_model.proofs.Image.{image}
use Rattle.account_model.proofs.Commands.{words, lines, on, plainly_on, changed, same, printed, small, nothing}

-- `grpck -P R -r`: nothing to report
clean_groups : on image (words "grpck -P R -r")
    ≡ same
unfolding digits
clean_groups = refl

-- `grpck -P R -r`
unknown_names : plainly_on (record (small "" "a:x:10:ghost")
    { passwd = Some []; gshadow = Some (lines "b:!::") }) (words "grpck -P R -r")
    ≡ printed 2
    (lines "group:1: group a has unknown member ghost|group:1: group a has no gshadow entry"
    ++ lines "gshadow:1: group b has no group entry")
unfolding digits
unknown_names = refl

-- each problem of group and of gshadow
abbrev listed_twice : Files
listed_twice = record (small "u:x:1:1::/:" "a:x:1:g,u,g|a:x:2:|.:x:3:|x:y") {
  gshadow = Some (lines "a:!:g:u,g|.:!:|.:!::|a:!::");
}

-- `grpck -P R -r`: once for each place in a list
each_place : plainly_on listed_twice (words "grpck -P R -r")
    ≡ printed 2
    (lines "group:1: group a has unknown member g|group:1: group a has unknown member g"
    ++ lines "group:2: duplicate name a|group:3: invalid group name .|group:4: invalid entry"
    ++ lines "gshadow:1: group a has unknown administrator g"
    ++ lines "gshadow:1: group a has unknown member g"
    ++ lines "gshadow:2: invalid entry|gshadow:4: duplicate name a")
unfolding digits
each_place = refl

-- `grpck -P R -s`: gshadow follows, and names that group lacks come last
sorted_by_gid : plainly_on (record nothing
    { group = Some (lines "b:x:2:|a:x:1:"); gshadow = Some (lines "c:!::|b:!::|a:!::") })
    (words "grpck -P R -s")
    ≡ changed (record nothing {
      group = Some (lines "a:x:1:|b:x:2:");
      gshadow = Some (lines "a:!::|b:!::|c:!::");
    })
unfolding digits
sorted_by_gid = refl
