-- A text is a record exactly where it has no fault.
use Rattle.std.proofs.Common.{◌≡◌, ℕ, ◌+◌, ◌-◌, Bool, true, false, ◌||◌, not, List, [], ◌∷◌, length, refl, arith}
use Rattle.std.specs.Prelude.{Option, Some, None, is_some, is_none, nat_le, ◌==◌, option_map, if◌then◌else◌}
use Rattle.std.proofs.lemmas.Bool.{ne_eqb}
use Rattle.account_model.specs.declared.records.GroupRecord.{GroupRecord}
use Rattle.account_model.specs.declared.records.SubidRecord.{SubidRecord}
use Rattle.account_model.specs.declared.fault.LineFault.TheVariants.{BadNumber, EmptyName, BadRange}
use Rattle.acct_text.specs.Bytes.{is_empty, colon}
use Rattle.acct_text.specs.Pieces.{cut_at}
use Rattle.account_model.specs.Text.{first_some}
use Rattle.account_model.specs.Records.{greatest_id, read_id, read_days, read_count, read_names, passwd_with, passwd_of_fields, shadow_with, shadow_of_fields, group_of_fields, gshadow_of_fields, subid_with, subid_of_fields, passwd_format, shadow_format, group_format, gshadow_format, subid_format, is_id}
use Rattle.account_model.specs.Faults.{field_at, fields_fault, is_days_text, is_count_text, range_fault, passwd_fault, shadow_fault, group_fault, gshadow_fault, subid_fault}

-- ---- passwd

-- a record of passwd is there exactly where no field of it has a fault, by what these read as
passwd-at :
    (password comment home shell : List ℕ) (u g : Option ℕ) (name : List ℕ)
    → is_some (passwd_with name password u g comment home shell)
    ≡ is_none (first_some ((if is_some u then None else Some (BadNumber 3))
    ∷ (if is_some g then None else Some (BadNumber 4))
    ∷ (if is_empty name then Some EmptyName else None) ∷ None ∷ []))
passwd-at password comment home shell (Some u) (Some g) [] = refl
passwd-at password comment home shell u g name = refl

-- pieces are a record of passwd exactly where they have no fault
passwd-by :
    (pieces : List (List ℕ))
    → is_some (passwd_of_fields pieces) ≡ is_none
    (fields_fault 7 ((3, is_id) ∷ (4, is_id) ∷ []) None pieces)
passwd-by (name ∷ password ∷ uid ∷ gid ∷ comment ∷ home ∷ shell ∷ []) =
    passwd-at password comment home shell (read_id uid) (read_id gid) name
passwd-by pieces = rw (ne_eqb (length pieces) 7 (λ e. omega (arith, e))) refl

-- a text is a record of passwd exactly where it has no fault
pub passwd-fault : (text : List ℕ) → is_some (passwd_format.read text) ≡ is_none (passwd_fault text)
passwd-fault text = passwd-by (cut_at colon text)

-- ---- shadow

-- a record of shadow is there exactly where no field of it has a fault, by what these read as
shadow-at :
    (hash rest : List ℕ) (a b c d e f : Option (Option ℕ)) (name : List ℕ)
    → is_some (shadow_with name hash a b c d e f rest)
    ≡ is_none (first_some ((if is_some a then None else Some (BadNumber 3))
    ∷ (if is_some b then None else Some (BadNumber 4))
    ∷ (if is_some c then None else Some (BadNumber 5))
    ∷ (if is_some d then None else Some (BadNumber 6))
    ∷ (if is_some e then None else Some (BadNumber 7))
    ∷ (if is_some f then None else Some (BadNumber 8))
    ∷ (if is_empty name then Some EmptyName else None) ∷ None ∷ []))
shadow-at hash rest (Some a) (Some b) (Some c) (Some d) (Some e) (Some f) [] = refl
shadow-at hash rest a b c d e f name = refl

-- pieces are a record of shadow exactly where they have no fault
shadow-by :
    (pieces : List (List ℕ))
    → is_some (shadow_of_fields pieces) ≡ is_none
    (fields_fault 9 ((3, is_days_text) ∷ (4, is_days_text) ∷ (5, is_days_text)
    ∷ (6, is_days_text) ∷ (7, is_days_text) ∷ (8, is_days_text) ∷ []) None pieces)
shadow-by (name ∷ hash ∷ last_change ∷ minimum ∷ maximum ∷ warning ∷ inactive
    ∷ expiration ∷ rest ∷ []) =
    shadow-at hash rest (read_days last_change) (read_days minimum) (read_days maximum)
    (read_days warning) (read_days inactive) (read_days expiration) name
shadow-by pieces = rw (ne_eqb (length pieces) 9 (λ e. omega (arith, e))) refl

-- a text is a record of shadow exactly where it has no fault
pub shadow-fault : (text : List ℕ) → is_some (shadow_format.read text) ≡ is_none (shadow_fault text)
shadow-fault text = shadow-by (cut_at colon text)

-- ---- group

-- a record of group is there exactly where no field of it has a fault, by what these read as
group-at : (name password members : List ℕ) (o : Option ℕ)
    → is_some {T = GroupRecord} (if is_empty name then None
    else option_map (λ g. record {
      name = name;
      password = password;
      gid = g;
      members = read_names members;
    }) o)
    ≡ is_none (first_some ((if is_some o then None else Some (BadNumber 3))
    ∷ (if is_empty name then Some EmptyName else None) ∷ None ∷ []))
group-at [] password members None = refl
group-at [] password members (Some g) = refl
group-at (b ∷ name) password members None = refl
group-at (b ∷ name) password members (Some g) = refl

-- pieces are a record of group exactly where they have no fault
group-by :
    (pieces : List (List ℕ))
    → is_some (group_of_fields pieces) ≡ is_none (fields_fault 4 ((3, is_id) ∷ []) None pieces)
group-by (name ∷ password ∷ gid ∷ members ∷ []) = group-at name password members (read_id gid)
group-by pieces = rw (ne_eqb (length pieces) 4 (λ e. omega (arith, e))) refl

-- a text is a record of group exactly where it has no fault
pub group-fault : (text : List ℕ) → is_some (group_format.read text) ≡ is_none (group_fault text)
group-fault text = group-by (cut_at colon text)

-- ---- gshadow

-- pieces are a record of gshadow exactly where they have no fault
gshadow-by :
    (pieces : List (List ℕ))
    → is_some (gshadow_of_fields pieces) ≡ is_none (fields_fault 4 [] None pieces)
gshadow-by ([] ∷ password ∷ administrators ∷ members ∷ []) = refl
gshadow-by ((b ∷ name) ∷ password ∷ administrators ∷ members ∷ []) = refl
gshadow-by pieces = rw (ne_eqb (length pieces) 4 (λ e. omega (arith, e))) refl

-- a text is a record of gshadow exactly where it has no fault
pub gshadow-fault :
    (text : List ℕ)
    → is_some (gshadow_format.read text) ≡ is_none (gshadow_fault text)
gshadow-fault text = gshadow-by (cut_at colon text)

-- ---- subuid and subgid

-- an owner with a range is a record exactly where neither has a fault
subid-tests : (owner : List ℕ) (f n : ℕ) (none small : Bool)
    → is_some {T = SubidRecord} (if is_empty owner || (none || not small) then None
    else Some (record { owner = owner; first = f; count = n }))
    ≡ is_none (first_some (None ∷ None ∷ (if is_empty owner then Some EmptyName else None)
    ∷ (if none || not small then Some BadRange else None) ∷ []))
subid-tests (b ∷ owner) f n false true = refl
subid-tests owner f n none small = refl

-- a record of subuid or subgid is there exactly where no field of it has a fault, by what these read as
subid-at :
    (owner : List ℕ) (f n : Option ℕ)
    → is_some (subid_with owner f n) ≡ is_none
    (first_some ((if is_some f then None else Some (BadNumber 2))
    ∷ (if is_some n then None else Some (BadNumber 3))
    ∷ (if is_empty owner then Some EmptyName else None) ∷ range_fault f n ∷ []))
subid-at owner None n = refl
subid-at owner (Some f) None = refl
subid-at owner (Some f) (Some n) = subid-tests owner f n (n == 0) (nat_le (f + n - 1) greatest_id)

-- pieces are a record of subuid or subgid exactly where they have no fault
subid-by :
    (pieces : List (List ℕ))
    → is_some (subid_of_fields pieces) ≡ is_none
    (fields_fault 3 ((2, is_id) ∷ (3, is_count_text) ∷ [])
    (range_fault (read_id (field_at 2 pieces)) (read_count (field_at 3 pieces))) pieces)
subid-by (owner ∷ first ∷ count ∷ []) = subid-at owner (read_id first) (read_count count)
subid-by pieces = rw (ne_eqb (length pieces) 3 (λ e. omega (arith, e))) refl

-- a text is a record of subuid or subgid exactly where it has no fault
pub subid-fault : (text : List ℕ) → is_some (subid_format.read text) ≡ is_none (subid_fault text)
subid-fault text = subid-by (cut_at colon text)
