-- The reader of each format finds exactly the record that a text is.
use Rattle.std.proofs.Common.{◌≡◌, ◌+◌, ◌-◌, ◌||◌, ℕ, Bool, true, false, not, List, [], ◌∷◌, refl, ◌∙◌, ap, subst, lt_irrefl}
use Rattle.std.specs.Prelude.{◌==◌, Option, Some, None, nat_le, option_map, if◌then◌else◌}
use Rattle.std.proofs.lemmas.Bool.{ne_eqb, leb-true, le-leb}
use Rattle.account_model.specs.declared.records.PasswdRecord.{PasswdRecord}
use Rattle.account_model.specs.declared.records.ShadowRecord.{ShadowRecord}
use Rattle.account_model.specs.declared.records.GroupRecord.{GroupRecord}
use Rattle.account_model.specs.declared.records.GshadowRecord.{GshadowRecord}
use Rattle.account_model.specs.declared.records.SubidRecord.{SubidRecord}
use Rattle.acct_text.specs.Bytes.{colon, is_empty}
use Rattle.acct_text.specs.Pieces.{cut_at, AreCutAt}
use Rattle.acct_text.specs.Numbers.{number_within}
use Rattle.account_model.specs.Records.{greatest_id, read_id, read_days, read_names, passwd_format, passwd_of_fields, passwd_with, shadow_format, shadow_of_fields, shadow_with, group_format, group_of_fields, gshadow_format, gshadow_of_fields, subid_format, subid_of_fields, subid_with}
use Rattle.account_model.specs.Reads.{ReadsPasswd, ReadsShadow, ReadsGroup, ReadsGshadow, ReadsSubid}
use Rattle.account_model.proofs.FieldReads.{names-found, names-are, days-found, days-is, some-number}
use Rattle.acct_text.proofs.NumberLaws.{some-inj, empty-no, empty-some, number-found, number-is}
use Rattle.acct_text.proofs.Cut.{cut_at-is, cut_at-only}

-- ---- group

-- a text that is a record of group reads as it
pub group-found :
    (text : List ℕ) (r : GroupRecord)
    → ReadsGroup text r
    → group_format.read text ≡ Some r
group-found text r reads =
    ap group_of_fields (cut_at-only colon text
    (r.name ∷ r.password ∷ reads.gid ∷ reads.members ∷ []) reads.cut)
    ∙ (rw (
      empty-no r.name reads.named,
      number-found greatest_id reads.gid r.gid reads.gid_reads,
      names-found reads.members r.members reads.members_read,
    ) refl)

-- what the fields of group read as, by what each reads as
group-by : (text name password gid members : List ℕ) (r : GroupRecord)
    (empty : Bool) (id : Option ℕ)
    → AreCutAt colon text (name ∷ password ∷ gid ∷ members ∷ []) → is_empty name
    ≡ empty → read_id gid ≡ id
    → (if empty then None else option_map (λ g.
    record {
      name = name;
      password = password;
      gid = g;
      members = read_names
          members;
    }) id) ≡ Some r
    → ReadsGroup text r
group-by text name password gid members r true id cut empty number found = cc
group-by text name password gid members r false None cut empty number found = cc
group-by text name password gid members r false (Some id) cut empty number found =
    let reads : ReadsGroup text (record {
      name = name;
      password = password;
      gid = id;
      members = read_names members;
    }) = record {
      gid = gid;
      members = members;
      cut = cut;
      named = empty-some name empty;
      gid_reads = number-is greatest_id gid id number;
      members_read = names-are members;
    }
    in subst (λ s. ReadsGroup text s) (some-inj found) reads

-- what the pieces of a text read as, it is as a record of group
group-of :
    (text : List ℕ) (pieces : List (List ℕ)) (r : GroupRecord)
    → AreCutAt colon text pieces
    → group_of_fields pieces ≡ Some r
    → ReadsGroup text r
group-of text (name ∷ password ∷ gid ∷ members ∷ []) r cut found =
    group-by text name password gid members r (is_empty name) (read_id gid) cut refl refl found
group-of text pieces r cut found = cc

-- a text is the record of group that it reads as
pub group-is :
    (text : List ℕ) (r : GroupRecord)
    → group_format.read text ≡ Some r
    → ReadsGroup text r
group-is text r found = group-of text (cut_at colon text) r (cut_at-is colon text) found

-- ---- passwd

-- a text that is a record of passwd reads as it
pub passwd-found :
    (text : List ℕ) (r : PasswdRecord)
    → ReadsPasswd text r
    → passwd_format.read text ≡ Some r
passwd-found text r reads =
    ap passwd_of_fields (cut_at-only colon text
    (r.name ∷ r.password ∷ reads.uid ∷ reads.gid ∷ r.comment ∷ r.home ∷ r.shell ∷ []) reads.cut)
    ∙ (rw (
      number-found greatest_id reads.uid r.uid reads.uid_reads,
      number-found greatest_id reads.gid r.gid reads.gid_reads,
      empty-no r.name reads.named,
    ) refl)

-- what the fields of passwd read as, by what each reads as
passwd-by :
    (text name password uid gid comment home shell : List ℕ) (r : PasswdRecord)
    (u g : Option ℕ) (empty : Bool)
    → AreCutAt colon text (name ∷ password ∷ uid ∷ gid ∷ comment ∷ home ∷ shell ∷ [])
    → read_id uid ≡ u
    → read_id gid ≡ g
    → is_empty name ≡ empty
    → passwd_with name password u g comment home shell ≡ Some r
    → ReadsPasswd text r
passwd-by text name password uid gid comment home shell r (Some u) (Some g) true cut is_uid is_gid
    none found = let e = rw none at found in cc
passwd-by text name password uid gid comment home shell r (Some u) (Some g) false cut
    is_uid is_gid none found =
    let reads : ReadsPasswd text (record {
      name = name;
      password = password;
      uid = u;
      gid = g;
      comment = comment;
      home = home;
      shell = shell;
    }) = record {
      uid = uid;
      gid = gid;
      cut = cut;
      named = empty-some name none;
      uid_reads = number-is greatest_id uid u is_uid;
      gid_reads = number-is greatest_id gid g is_gid;
    }
    in subst (λ s. ReadsPasswd text s) (some-inj (rw none at found)) reads
passwd-by text name password uid gid comment home shell r u g empty cut is_uid is_gid none found =
    cc

-- what the pieces of a text read as, it is as a record of passwd
passwd-of :
    (text : List ℕ) (pieces : List (List ℕ)) (r : PasswdRecord)
    → AreCutAt colon text pieces
    → passwd_of_fields pieces ≡ Some r
    → ReadsPasswd text r
passwd-of text (name ∷ password ∷ uid ∷ gid ∷ comment ∷ home ∷ shell ∷ []) r cut found =
    passwd-by text name password uid gid comment home shell r (read_id uid) (read_id gid)
    (is_empty name) cut refl refl refl found
passwd-of text pieces r cut found = cc

-- a text is the record of passwd that it reads as
pub passwd-is :
    (text : List ℕ) (r : PasswdRecord)
    → passwd_format.read text ≡ Some r
    → ReadsPasswd text r
passwd-is text r found = passwd-of text (cut_at colon text) r (cut_at-is colon text) found

-- ---- gshadow

-- a text that is a record of gshadow reads as it
pub gshadow-found :
    (text : List ℕ) (r : GshadowRecord)
    → ReadsGshadow text r
    → gshadow_format.read text ≡ Some r
gshadow-found text r reads =
    ap gshadow_of_fields (cut_at-only colon text
    (r.name ∷ r.password ∷ reads.administrators ∷ reads.members ∷ []) reads.cut)
    ∙ (rw (
      empty-no r.name reads.named,
      names-found reads.administrators r.administrators reads.administrators_read,
      names-found reads.members r.members reads.members_read,
    ) refl)

-- what the fields of gshadow read as, by what each reads as
gshadow-by : (text name password administrators members : List ℕ) (r : GshadowRecord) (empty : Bool)
    → AreCutAt colon text (name ∷ password ∷ administrators ∷ members ∷ []) → is_empty name ≡ empty
    → (if empty then None else Some (record {
      name = name;
      password = password;
      administrators = read_names administrators;
      members = read_names members;
    })) ≡ Some r
    → ReadsGshadow text r
gshadow-by text name password administrators members r true cut empty found = cc
gshadow-by text name password administrators members r false cut empty found =
    let reads : ReadsGshadow text (record {
      name = name;
      password = password;
      administrators = read_names administrators;
      members = read_names members;
    }) = record {
      administrators = administrators;
      members = members;
      cut = cut;
      named = empty-some name empty;
      administrators_read = names-are administrators;
      members_read = names-are members;
    }
    in subst (λ s. ReadsGshadow text s) (some-inj found) reads

-- what the pieces of a text read as, it is as a record of gshadow
gshadow-of :
    (text : List ℕ) (pieces : List (List ℕ)) (r : GshadowRecord)
    → AreCutAt colon text pieces
    → gshadow_of_fields pieces ≡ Some r
    → ReadsGshadow text r
gshadow-of text (name ∷ password ∷ administrators ∷ members ∷ []) r cut found =
    gshadow-by text name password administrators members r (is_empty name) cut refl found
gshadow-of text pieces r cut found = cc

-- a text is the record of gshadow that it reads as
pub gshadow-is :
    (text : List ℕ) (r : GshadowRecord)
    → gshadow_format.read text ≡ Some r
    → ReadsGshadow text r
gshadow-is text r found = gshadow-of text (cut_at colon text) r (cut_at-is colon text) found

-- ---- shadow

-- a text that is a record of shadow reads as it
pub shadow-found :
    (text : List ℕ) (r : ShadowRecord)
    → ReadsShadow text r
    → shadow_format.read text ≡ Some r
shadow-found text r reads =
    ap shadow_of_fields (cut_at-only colon text
    (r.name ∷ r.hash ∷ reads.last_change ∷ reads.minimum ∷ reads.maximum ∷ reads.warning
    ∷ reads.inactive ∷ reads.expiration ∷ r.rest ∷ []) reads.cut)
    ∙ (rw (
      days-found reads.last_change r.last_change reads.last_change_reads,
      days-found reads.minimum r.minimum reads.minimum_reads,
      days-found reads.maximum r.maximum reads.maximum_reads,
      days-found reads.warning r.warning reads.warning_reads,
      days-found reads.inactive r.inactive reads.inactive_reads,
      days-found reads.expiration r.expiration reads.expiration_reads,
      empty-no r.name reads.named,
    ) refl)

-- what the fields of shadow read as, by what each reads as
shadow-by :
    (text name hash last_change minimum maximum warning inactive expiration rest : List ℕ)
    (r : ShadowRecord) (oa ob oc od oe of : Option (Option ℕ)) (empty : Bool)
    → AreCutAt colon text (name ∷ hash ∷ last_change ∷ minimum ∷ maximum ∷ warning ∷ inactive
    ∷ expiration ∷ rest ∷ [])
    → read_days last_change ≡ oa
    → read_days minimum ≡ ob
    → read_days maximum ≡ oc
    → read_days warning ≡ od
    → read_days inactive ≡ oe
    → read_days expiration ≡ of
    → is_empty name ≡ empty
    → shadow_with name hash oa ob oc od oe of rest ≡ Some r
    → ReadsShadow text r
shadow-by text name hash last_change minimum maximum warning inactive expiration rest r (Some a)
    (Some b) (Some c) (Some d) (Some e) (Some f) true cut is_a is_b is_c is_d is_e is_f none found =
    let wrong = rw none at found in cc
shadow-by text name hash last_change minimum maximum warning inactive expiration rest r (Some a)
    (Some b) (Some c) (Some d) (Some e) (Some f) false cut is_a is_b is_c is_d
    is_e is_f none found =
    let reads : ReadsShadow text (record {
      name = name;
      hash = hash;
      last_change = a;
      minimum = b;
      maximum = c;
      warning = d;
      inactive = e;
      expiration = f;
      rest = rest;
    }) = record {
      last_change = last_change;
      minimum = minimum;
      maximum = maximum;
      warning = warning;
      inactive = inactive;
      expiration = expiration;
      cut = cut;
      named = empty-some name none;
      last_change_reads = days-is last_change a is_a;
      minimum_reads = days-is minimum b is_b;
      maximum_reads = days-is maximum c is_c;
      warning_reads = days-is warning d is_d;
      inactive_reads = days-is inactive e is_e;
      expiration_reads = days-is expiration f is_f;
    }
    in subst (λ s. ReadsShadow text s) (some-inj (rw none at found)) reads
shadow-by text name hash last_change minimum maximum warning inactive expiration rest r oa ob oc
    od oe of empty cut is_a is_b is_c is_d is_e is_f none found = cc

-- what the pieces of a text read as, it is as a record of shadow
shadow-of :
    (text : List ℕ) (pieces : List (List ℕ)) (r : ShadowRecord)
    → AreCutAt colon text pieces
    → shadow_of_fields pieces ≡ Some r
    → ReadsShadow text r
shadow-of text (name ∷ hash ∷ last_change ∷ minimum ∷ maximum ∷ warning ∷ inactive ∷ expiration
    ∷ rest ∷ []) r cut found =
    shadow-by text name hash last_change minimum maximum warning inactive expiration rest r
    (read_days last_change) (read_days minimum) (read_days maximum) (read_days warning)
    (read_days inactive) (read_days expiration) (is_empty name) cut refl refl refl refl
    refl refl refl found
shadow-of text pieces r cut found = cc

-- a text is the record of shadow that it reads as
pub shadow-is :
    (text : List ℕ) (r : ShadowRecord)
    → shadow_format.read text ≡ Some r
    → ReadsShadow text r
shadow-is text r found = shadow-of text (cut_at colon text) r (cut_at-is colon text) found

-- ---- subuid and subgid

-- a text that is a record of subuid or subgid reads as it
pub subid-found :
    (text : List ℕ) (r : SubidRecord)
    → ReadsSubid text r
    → subid_format.read text ≡ Some r
subid-found text r reads =
    ap subid_of_fields (cut_at-only colon text (r.owner ∷ reads.first ∷ reads.count ∷ []) reads.cut)
    ∙ (rw (
      number-found greatest_id reads.first r.first reads.first_reads,
      number-found (greatest_id + 1) reads.count r.count reads.count_reads,
      empty-no r.owner reads.named,
      ne_eqb r.count 0 (λ e. lt_irrefl 0 (rw e at reads.some)),
      le-leb (r.first + r.count - 1) greatest_id reads.last,
    ) refl)

-- what three fields with numbers read as, by the tests of owner and range
subid-tests : (text owner first count : List ℕ) (r : SubidRecord) (f n : ℕ)
    (empty none small : Bool) → AreCutAt colon text (owner ∷ first ∷ count ∷ [])
    → read_id first ≡ Some f → number_within (greatest_id + 1) count ≡ Some n → is_empty owner
    ≡ empty → (n == 0) ≡ none → nat_le (f + n - 1) greatest_id ≡ small
    → (if empty || (none || not small) then None
    else Some (record { owner = owner; first = f; count = n })) ≡ Some r → ReadsSubid text r
subid-tests text owner first count r f n true none small cut is_first is_count unnamed
    at_zero within found = cc
subid-tests text owner first count r f n false true small cut is_first is_count unnamed
    at_zero within found = cc
subid-tests text owner first count r f n false false false cut is_first is_count unnamed
    at_zero within found = cc
subid-tests text owner first count r f n false false true cut is_first is_count unnamed
    at_zero within found =
    let reads : ReadsSubid text (record { owner = owner; first = f; count = n }) = record {
      first = first;
      count = count;
      cut = cut;
      named = empty-some owner unnamed;
      first_reads = number-is greatest_id first f is_first;
      count_reads = number-is (greatest_id + 1) count n is_count;
      some = some-number n at_zero;
      last = leb-true (f + n - 1) greatest_id within;
    }
    in subst (λ s. ReadsSubid text s) (some-inj found) reads

-- what the fields of subuid or subgid read as, by what each reads as
subid-by :
    (text owner first count : List ℕ) (r : SubidRecord) (f n : Option ℕ)
    → AreCutAt colon text (owner ∷ first ∷ count ∷ [])
    → read_id first ≡ f
    → number_within (greatest_id + 1) count ≡ n
    → subid_with owner f n ≡ Some r
    → ReadsSubid text r
subid-by text owner first count r None n cut is_first is_count found = cc
subid-by text owner first count r (Some f) None cut is_first is_count found = cc
subid-by text owner first count r (Some f) (Some n) cut is_first is_count found =
    subid-tests text owner first count r f n (is_empty owner) (n == 0)
    (nat_le (f + n - 1) greatest_id) cut is_first is_count refl refl refl found

-- what the pieces of a text read as, it is as a record of subuid or subgid
subid-of :
    (text : List ℕ) (pieces : List (List ℕ)) (r : SubidRecord)
    → AreCutAt colon text pieces
    → subid_of_fields pieces ≡ Some r
    → ReadsSubid text r
subid-of text (owner ∷ first ∷ count ∷ []) r cut found =
    subid-by text owner first count r (read_id first)
    (number_within (greatest_id + 1) count) cut refl refl found
subid-of text pieces r cut found = cc

-- a text is the record of subuid or subgid that it reads as
pub subid-is :
    (text : List ℕ) (r : SubidRecord)
    → subid_format.read text ≡ Some r
    → ReadsSubid text r
subid-is text r found = subid-of text (cut_at colon text) r (cut_at-is colon text) found
