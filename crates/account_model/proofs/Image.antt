-- The image of a small system, on which the rows are computed.
use Rattle.std.specs.Prelude.{ℕ, List, [], ◌∷◌, codes, Some, None}
use Rattle.acct_text.specs.declared.files.Files.{Files}
use Rattle.account_model.proofs.SettingsImage.{file}

-- the lines of passwd
abbrev pub image_passwd : List (List ℕ)
image_passwd = codes "root:x:0:0:root:/root:/bin/bash"
    ∷ codes "daemon:x:1:1:daemon:/usr/sbin:/usr/sbin/nologin"
    ∷ codes "bin:x:2:2:bin:/bin:/usr/sbin/nologin"
    ∷ codes "www-data:x:33:33:www-data:/var/www:/usr/sbin/nologin"
    ∷ codes "_apt:x:100:65534::/nonexistent:/usr/sbin/nologin"
    ∷ codes "messagebus:x:101:101::/nonexistent:/usr/sbin/nologin"
    ∷ codes "nobody:x:65534:65534:nobody:/nonexistent:/usr/sbin/nologin"
    ∷ codes "bob:x:1000:1000:Bob,,,:/home/bob:/bin/bash"
    ∷ []

-- the lines of shadow
abbrev pub image_shadow : List (List ℕ)
image_shadow = codes "root:*:19700:0:99999:7:::"
    ∷ codes "daemon:*:19700:0:99999:7:::"
    ∷ codes "bin:*:19700:0:99999:7:::"
    ∷ codes "www-data:*:19700:0:99999:7:::"
    ∷ codes "_apt:*:19700:0:99999:7:::"
    ∷ codes "messagebus:!:19700::::::"
    ∷ codes "nobody:*:19700:0:99999:7:::"
    ∷ codes "bob:$y$hash:19800:0:99999:7:::"
    ∷ []

-- the lines of group
abbrev pub image_group : List (List ℕ)
image_group = codes "root:x:0:"
    ∷ codes "daemon:x:1:"
    ∷ codes "bin:x:2:"
    ∷ codes "sudo:x:27:bob"
    ∷ codes "www-data:x:33:"
    ∷ codes "users:x:100:"
    ∷ codes "messagebus:x:101:"
    ∷ codes "nogroup:x:65534:"
    ∷ codes "bob:x:1000:"
    ∷ []

-- the lines of gshadow
abbrev pub image_gshadow : List (List ℕ)
image_gshadow = codes "root:*::"
    ∷ codes "daemon:*::"
    ∷ codes "bin:*::"
    ∷ codes "sudo:*::bob"
    ∷ codes "www-data:*::"
    ∷ codes "users:*::"
    ∷ codes "messagebus:!::"
    ∷ codes "nogroup:*::"
    ∷ codes "bob:!::"
    ∷ []

-- the lines of subuid, and of subgid
abbrev pub image_subid : List (List ℕ)
image_subid = codes "bob:100000:65536" ∷ []

-- the six tables
abbrev pub image : Files
image = record {
  passwd = Some (file image_passwd);
  shadow = Some (file image_shadow);
  group = Some (file image_group);
  gshadow = Some (file image_gshadow);
  subuid = Some (file image_subid);
  subgid = Some (file image_subid);
}

-- passwd and group alone
abbrev pub two_files : List (List ℕ) → List (List ℕ) → Files
two_files passwd group = record {
  passwd = Some (file passwd);
  shadow = None;
  group = Some (file group);
  gshadow = None;
  subuid = None;
  subgid = None;
}
