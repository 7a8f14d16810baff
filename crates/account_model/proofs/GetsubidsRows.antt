-- getsubids from its words to its answer, each row decided by computing.
use Rattle.std.specs.Prelude.{◌≡◌, codes, refl, Some}
use Rattle.std.specs.Fmt.{digits}
use Rattle.account_model.specs.declared.refusal.Refusal.TheVariants.{NoRanges}
use Rattle.acct_text.specs.declared.files.Files.{Files}
use Rattle.account_model.proofs.Image.{image}
use Rattle.account_model.proofs.Commands.{words, lines, on, plainly_on, refused, reported, small}

-- `getsubids -P R bob`
ranges_of_bob : on image (words "getsubids -P R bob")
    ≡ reported 0 "0: bob 100000 65536"
unfolding digits
ranges_of_bob = refl

-- `getsubids -P R -g root`
no_ranges : on image (words "getsubids -P R -g root")
    ≡ refused 1 (NoRanges (codes "root")) "getsubids: no ranges for root"
unfolding digits
no_ranges = refl

-- a line of subgid that is owned by the text of the UID
abbrev owned_by_uid : Files
owned_by_uid = record (small "a:x:1000:0::/:" "") { subgid = Some (lines "1000:5:1|b:6:1|a:7:2") }

-- `getsubids -P R -g a`: a line may be owned by the text of the UID
uid_text : plainly_on owned_by_uid (words "getsubids -P R -g a")
    ≡ reported 0 "0: a 5 1|1: a 7 2"
unfolding digits
uid_text = refl

-- `getsubids -P R a`
absent_table : plainly_on owned_by_uid (words "getsubids -P R a")
    ≡ refused 1 (NoRanges (codes "a")) "getsubids: no ranges for a"
unfolding digits
absent_table = refl

-- `getsubids -P R -g 1000`: without a user of the name the owner field alone counts
name_alone : plainly_on owned_by_uid (words "getsubids -P R -g 1000")
    ≡ reported 0 "0: 1000 5 1"
unfolding digits
name_alone = refl
