-- pwconv, pwunconv, grpconv and grpunconv on files that are written as texts, each row decided by computing.
use Rattle.std.specs.Prelude.{◌≡◌, [], codes, refl, Some, Result, Ok, Err}
use Rattle.std.specs.Fmt.{digits}
use Rattle.acct_text.specs.declared.Tab.TheVariants.{Passwd, Shadow, Gshadow}
use Rattle.acct_text.specs.declared.files.Files.{Files}
use Rattle.account_model.specs.declared.refusal.Refusal.{Refusal}
use Rattle.account_model.specs.declared.refusal.Refusal.TheVariants.{NoShadow, NoGshadow, Multiple}
use Rattle.account_model.specs.Settings.{settings_of}
use Rattle.account_model.specs.Action.{Made, outcome_of}
use Rattle.account_model.specs.Conversion.{pwconv, pwunconv, grpconv, grpunconv}
use Rattle.account_model.proofs.Commands.{lines, today, small}

-- what pwconv makes of files without settings
abbrev after_pwconv : Files → Result Made Refusal
after_pwconv files = outcome_of (pwconv files [] today) files

-- what pwunconv makes of files
abbrev after_pwunconv : Files → Result Made Refusal
after_pwunconv files = outcome_of (pwunconv files) files

-- what grpconv makes of files
abbrev after_grpconv : Files → Result Made Refusal
after_grpconv files = outcome_of (grpconv files) files

-- what grpunconv makes of files
abbrev after_grpunconv : Files → Result Made Refusal
after_grpunconv files = outcome_of (grpunconv files) files

-- the files become these, and nothing is printed
abbrev made : Files → Result Made Refusal
made files = Ok (record { files = files; status = 0; output = []; notices = [] })

-- ---- Users

-- root has its hash in passwd, and shadow has a record too many
abbrev mixed : Files
mixed = record (small "root:h0:0:0:root:/root:/bin/sh|ann:x:1000:1000::/home/ann:" "") {
  shadow = Some (lines "ann:h1:19000:0:99999:7:::|gone:h2:19000::::::");
}

-- all hashes in shadow
abbrev shadowed : Files
shadowed = record (small "root:x:0:0:root:/root:/bin/sh|ann:x:1000:1000::/home/ann:" "") {
  shadow = Some (lines "ann:h1:19000:0:99999:7:::|root:h0:20000::::::");
}

-- `pwconv -P R`
gathers_hashes : after_pwconv mixed ≡ made shadowed
unfolding digits
gathers_hashes = refl

-- `pwunconv -P R` behind it
shows_hashes : after_pwunconv shadowed
    ≡ made (record (small "root:h0:0:0:root:/root:/bin/sh|ann:h1:1000:1000::/home/ann:" "") {
      shadow = Some [];
    })
unfolding digits
shows_hashes = refl

-- `pwconv -P R` without shadow, and `pwunconv -P R`
no_shadow : after_pwconv (small "a:h:1:1::/:" "") ≡ Err NoShadow
no_shadow = refl

no_shadow_back : after_pwunconv (small "a:h:1:1::/:" "") ≡ Err NoShadow
no_shadow_back = refl

-- `pwconv -P R` where all is done: every line keeps its bytes, canonical or not
done_already :
    after_pwconv (record (small "a:x:01:1::/:" "") { shadow = Some (codes "a:h:-1::::::") })
    ≡ made (record (small "a:x:01:1::/:" "") { shadow = Some (codes "a:h:-1::::::") })
unfolding digits
done_already = refl

-- `pwconv -P R`: a hash in passwd is the later one; lists of other text and a last line without end
takes_over :
    after_pwconv (record (small "#|a:new:01:1::/:|b::2:2::/:" "") {
      shadow = Some (codes "oops\na:old:00007:::5:::");
    })
    ≡ made (record (small "#|a:x:1:1::/:|b:x:2:2::/:" "") {
      shadow = Some (lines "oops|a:new:20000:::5:::|b::20000::::::");
    })
unfolding digits
takes_over = refl

-- a user with a record of shadow, and one without
abbrev with_and_without : Files
with_and_without =
    record (small "a:h:1:1::/:|b:g:2:2::/:" "") { shadow = Some (lines "a:f::1:2::::") }

-- `pwconv -P R` under settings: the aging of a new record, and that of one that takes a hash over
aged_by_settings :
    outcome_of (pwconv with_and_without (settings_of (lines "PASS_MAX_DAYS 90|PASS_WARN_AGE 7"))
    today) with_and_without
    ≡ made (record (small "a:x:1:1::/:|b:x:2:2::/:" "") {
      shadow = Some (lines "a:h:20000:1:2::::|b:g:20000::90:7:::");
    })
unfolding digits
aged_by_settings = refl

-- `pwconv -P R` with lines of NIS: that of passwd is other text, and that of shadow a record whose name passwd lacks
nis_lines :
    after_pwconv (record (small "a:x:1:1::/:|+::::::" "") {
      shadow = Some (lines "a:h:::::::|+::::::::");
    })
    ≡ made (record (small "a:x:1:1::/:|+::::::" "") { shadow = Some (lines "a:h:::::::") })
unfolding digits
nis_lines = refl

-- `pwconv -P R`: a field `x` without a record of shadow is a hash that no password has, and stays one
x_as_hash : after_pwconv (record (small "a:x:1:1::/:" "") { shadow = Some [] })
    ≡ made (record (small "a:x:1:1::/:" "") { shadow = Some (lines "a:x:20000::::::") })
unfolding digits
x_as_hash = refl

-- `pwunconv -P R`: so it is with a hash `x` of shadow, and without a record the field stays
x_as_hash_back :
    after_pwunconv (record (small "a:x:01:1::/:|b:x:2:2::/:" "") {
      shadow = Some (lines "a:x:20000::::::");
    })
    ≡ made (record (small "a:x:01:1::/:|b:x:2:2::/:" "") { shadow = Some [] })
unfolding digits
x_as_hash_back = refl

-- `pwconv -P R`: a name that stands twice with fields `x` gets one record
twice_hidden : after_pwconv (record (small "a:x:1:1::/:|a:x:2:2::/:" "") { shadow = Some [] })
    ≡ made (record (small "a:x:1:1::/:|a:x:2:2::/:" "") { shadow = Some (lines "a:x:20000::::::") })
unfolding digits
twice_hidden = refl

-- `pwconv -P R`: one that stands twice with another field refuses, as does one in shadow that would go or change
twice_in_passwd : after_pwconv (record (small "a:x:1:1::/:|a:h:2:2::/:" "") { shadow = Some [] })
    ≡ Err (Multiple Passwd (codes "a"))
unfolding digits
twice_in_passwd = refl

twice_stale : after_pwconv (record (small "" "") { shadow = Some (lines "a:h:::::::|a:h:::::::") })
    ≡ Err (Multiple Shadow (codes "a"))
unfolding digits
twice_stale = refl

twice_taken_over :
    after_pwconv (record (small "a:g:1:1::/:" "") {
      shadow = Some (lines "a:h:::::::|a:h:::::::");
    })
    ≡ Err (Multiple Shadow (codes "a"))
unfolding digits
twice_taken_over = refl

-- `pwunconv -P R`: all records of shadow go
twice_dropped :
    after_pwunconv (record (small "a:x:1:1::/:" "") {
      shadow = Some (lines "b:h:::::::|a:h:::::::|b:h:::::::");
    })
    ≡ Err (Multiple Shadow (codes "b"))
unfolding digits
twice_dropped = refl

-- ---- Groups

-- `grpconv -P R`: a record that takes a password over keeps its lists, and a new one has the members
gathers_group_hashes :
    after_grpconv (record (small "" "a:h:10:m,,n|b:x:11:|c:g:12:m") {
      gshadow = Some (lines "gone:!::|c:!:k:l|b:!:k:");
    })
    ≡ made (record (small "" "a:x:10:m,n|b:x:11:|c:x:12:m") {
      gshadow = Some (lines "c:g:k:l|b:!:k:|a:h::m,n");
    })
unfolding digits
gathers_group_hashes = refl

-- `grpunconv -P R`
shows_group_hashes :
    after_grpunconv (record (small "" "a:x:10:m|b:x:011:") {
      gshadow = Some (lines "a:h:k:m|c:!::|#");
    })
    ≡ made (record (small "" "a:h:10:m|b:x:011:") { gshadow = Some (lines "#") })
unfolding digits
shows_group_hashes = refl

-- `grpconv -P R` and `grpunconv -P R` without gshadow
no_gshadow : after_grpconv (small "" "a:h:10:") ≡ Err NoGshadow
no_gshadow = refl

no_gshadow_back : after_grpunconv (small "" "a:h:10:") ≡ Err NoGshadow
no_gshadow_back = refl

-- `grpunconv -P R`: all records of gshadow go
twice_in_gshadow :
    after_grpunconv (record (small "" "a:x:10:") { gshadow = Some (lines "a:h::|a:h::") })
    ≡ Err (Multiple Gshadow (codes "a"))
unfolding digits
twice_in_gshadow = refl
