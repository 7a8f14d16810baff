-- What the laws aren't empty of, each row decided by computing: two users one after another get different UIDs, GIDs and
-- ranges, and `-o` gives one UID to two; where root and toor have one UID, only `-o` gives it to a third.
use Rattle.std.specs.Prelude.{◌≡◌, ℕ, true, false, List, [], ◌∷◌, ◌++◌, map, codes, refl, Some, None, unwrap_or}
use Rattle.std.specs.Fmt.{digits}
use Rattle.std.specs.Str.{byte}
use Rattle.acct_text.specs.Bytes.{newline}
use Rattle.acct_text.specs.declared.files.Files.{Files}
use Rattle.account_model.specs.declared.given.Given.{Given}
use Rattle.account_model.specs.declared.tool.Tool.TheVariants.{Batch, Useradd, Usermod}
use Rattle.account_model.specs.Request.{Request}
use Rattle.account_model.specs.Tables.{group_records, subuid_records}
use Rattle.account_model.specs.Ids.{used_uids}
use Rattle.account_model.specs.Answer.{deed}
use Rattle.ids_apart.specs.Holders.{shares_uid, uid_holders}

-- four tables without lines
abbrev empty : Files
empty = record {
  passwd = Some [];
  shadow = None;
  group = Some [];
  gshadow = None;
  subuid = Some [];
  subgid = None;
}

-- useradd with these options
abbrev useradds : List Given → List ℕ → Request
useradds options login =
    record {
      tool = Useradd;
      prefix = codes "R";
      options = options;
      operands = login ∷ [];
      plan = None;
    }

-- `-U`
abbrev own_group : Given
own_group = record { letter = byte "U"; value = None }

-- the files after a request, on 2024-10-04 and without settings
abbrev after_request : Files → Request → Files
after_request files request = unwrap_or (deed request [] 20000 files None) files

-- `useradd -P R -U ann`, and then `useradd -P R -U bob`
abbrev two_users : Files
two_users = after_request (after_request empty (useradds (own_group ∷ []) (codes "ann")))
    (useradds (own_group ∷ []) (codes "bob"))

two_uids : used_uids two_users ≡ 1000 ∷ 1001 ∷ []
unfolding digits
two_uids = refl

two_gids : map (λ group. group.gid) (group_records two_users) ≡ 1000 ∷ 1001 ∷ []
unfolding digits
two_gids = refl

two_ranges : map (λ range. range.first) (subuid_records two_users) ≡ 100000 ∷ 165536 ∷ []
unfolding digits
two_ranges = refl

-- `batch -P R` with the lines `useradd -U ann` and `useradd -U bob`: the second chooses beside the first
abbrev batch_of_two : Files
batch_of_two = unwrap_or (deed
    (record {
      tool = Batch;
      prefix = codes "R";
      options = [];
      operands = [];
      plan = None;
    })
    (codes "useradd -U ann" ++ newline ∷ codes "useradd -U bob") 20000 empty None) empty

uids_of_batch : used_uids batch_of_two ≡ 1000 ∷ 1001 ∷ []
unfolding digits
uids_of_batch = refl

ranges_of_batch : map (λ range. range.first) (subuid_records batch_of_two) ≡ 100000 ∷ 165536 ∷ []
unfolding digits
ranges_of_batch = refl

-- `useradd -P R -U ann`, and then `useradd -P R -N -o -u 1000 bob`: with `-o` both have one UID
shared_uid : used_uids
    (after_request (after_request empty (useradds (own_group ∷ []) (codes "ann")))
    (useradds (record { letter = byte "N"; value = None }
    ∷ record { letter = byte "o"; value = None }
    ∷ record { letter = byte "u"; value = Some (codes "1000") }
    ∷ []) (codes "bob"))) ≡ 1000 ∷ 1000 ∷ []
unfolding digits
shared_uid = refl

-- ---- root and toor

-- two users of UID 0, and another
abbrev root_and_toor : Files
root_and_toor = record empty {
  passwd = Some (codes "root:!:0:0::/:" ++ newline ∷ codes "toor:!:0:0::/:" ++ newline
      ∷ codes "ann:!:7:7::/:" ++ newline ∷ []);
}

-- usermod with these options
abbrev usermods : List Given → List ℕ → Request
usermods options login =
    record {
      tool = Usermod;
      prefix = codes "R";
      options = options;
      operands = login ∷ [];
      plan = None;
    }

-- `-u 0`, `-o`, `-N` and `-l sue`
abbrev uid_zero : Given
uid_zero = record { letter = byte "u"; value = Some (codes "0") }

abbrev sharing : Given
sharing = record { letter = byte "o"; value = None }

abbrev no_group : Given
no_group = record { letter = byte "N"; value = None }

abbrev named_sue : Given
named_sue = record { letter = byte "l"; value = Some (codes "sue") }

-- another user: `useradd -P R -N bob`
third_user : uid_holders 0 (after_request root_and_toor (useradds (no_group ∷ []) (codes "bob")))
    ≡ 2
unfolding digits
third_user = refl

-- another name: `usermod -P R -l sue toor`
renamed_user : uid_holders 0 (after_request root_and_toor (usermods (named_sue ∷ []) (codes "toor")))
    ≡ 2
unfolding digits
renamed_user = refl

-- `usermod -P R -u 0 ann` is refused
taken_uid : uid_holders 0 (after_request root_and_toor (usermods (uid_zero ∷ []) (codes "ann")))
    ≡ 2
unfolding digits
taken_uid = refl

-- `usermod -P R -o -u 0 ann` names it, and so may share it
named_uid : uid_holders 0
    (after_request root_and_toor (usermods (sharing ∷ uid_zero ∷ []) (codes "ann"))) ≡ 3
unfolding digits
named_uid = refl

named_shares : shares_uid 0 (usermods (sharing ∷ uid_zero ∷ []) (codes "ann")) ≡ true
unfolding digits
named_shares = refl

-- and shares no other
other_shares : shares_uid 7 (usermods (sharing ∷ uid_zero ∷ []) (codes "ann")) ≡ false
unfolding digits
other_shares = refl
