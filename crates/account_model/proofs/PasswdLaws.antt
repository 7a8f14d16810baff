-- Claim: a password that is locked and then unlocked gives back the files (`lock-then-unlock`). Way: the hash stands in
-- shadow (`in-shadow`) or, without that, in passwd (`in-passwd`); in that table LockLaws has it, and no other changes.
use Rattle.std.proofs.Common.{◌≡◌, ℕ, Bool, true, false, not, List, [], ◌∷◌, refl, sym, ◌∙◌, ap, subst, Ok}
use Rattle.std.specs.Prelude.{Option, Some, None, bytes_eq, codes, is_some, option_map, unwrap_or}
use Rattle.acct_text.specs.declared.files.Files.{Files}
use Rattle.acct_text.specs.declared.Tab.TheVariants.{Passwd, Shadow}
use Rattle.acct_text.specs.Bytes.{is_empty}
use Rattle.acct_text.specs.Lines.{lines_of, file_bytes}
use Rattle.account_model.specs.declared.tool.Tool.{Tool}
use Rattle.account_model.specs.declared.records.PasswdRecord.{PasswdRecord}
use Rattle.account_model.specs.declared.records.ShadowRecord.{ShadowRecord}
use Rattle.account_model.specs.declared.refusal.Refusal.TheVariants.{NoUser, Multiple}
use Rattle.account_model.specs.Text.{begins_with, exclamation, first_some}
use Rattle.account_model.specs.Format.{is_named, find_named}
use Rattle.account_model.specs.Edits.{Edit, each_where, edited_by}
use Rattle.account_model.specs.Records.{passwd_format, shadow_format, group_format, gshadow_format, subid_format}
use Rattle.account_model.specs.Tables.{Script, no_edits, files_after, table_after, table_records, passwd_records, shadow_records, group_records, gshadow_records}
use Rattle.account_model.specs.WrittenScript.{IsWrittenScript}
use Rattle.account_model.specs.Action.{Action, Made, made_by, multiple_in, multiple_entries, outcome_of}
use Rattle.account_model.specs.Hashes.{locked, demand_shadow, each_password, lacks_shadow}
use Rattle.account_model.specs.Users.{has_user, hash_of, passwd_field}
use Rattle.account_model.specs.UsermodHash.{locked_hash, unlocked_hash}
use Rattle.account_model.specs.Passwd.{passwd}
use Rattle.account_model.specs.PasswdLaws.{flag_alone, HasOpenHash, LockThenUnlock}
use Rattle.account_model.proofs.BatchLaws.{outcome-made}
use Rattle.account_model.proofs.DeedLaws.{first-none}
use Rattle.account_model.proofs.LockLaws.{unmapped, unlocked-again, locked-found, unlock-single}
use Rattle.account_model.proofs.NoEdits.{table-stays, none-touched}
use Rattle.account_model.proofs.PasswdScripts.{passwd-written}
use Rattle.account_model.proofs.RefusalFacts.{refuse-none}
use Rattle.account_model.proofs.SameLaws.{passwd-tells, shadow-tells}

-- what may be there, where it is there
some-of : {X : Type 0} (o : Option X) → is_some o ≡ true → (x : X) × (o ≡ Some x)
some-of None there = cc
some-of (Some x) there = (x, refl)

-- what isn't lacking is there
there-of : (b : Bool) → not b ≡ false → b ≡ true
there-of true is = refl
there-of false is = cc

-- the locked hash isn't `!` alone
not-mark :
    (hash : List ℕ)
    → begins_with exclamation hash ≡ false
    → is_empty hash ≡ false
    → bytes_eq (locked_hash hash) locked ≡ false
not-mark [] unlocked some = cc
not-mark (byte ∷ rest) unlocked some = rw (locked_hash, unlocked) refl

-- an action that nothing refuses makes its edits
outcome-is :
    (action : Action) (files : Files)
    → first_some action.refusals ≡ None
    → multiple_entries action.script files ≡ None
    → outcome_of action files ≡ Ok (made_by action files)
outcome-is action files passes single = rw (outcome_of, passes, single) refl

-- edits of shadow alone
shadow-alone :
    (edits : List (Edit ShadowRecord)) (files : Files)
    → files_after (record no_edits { shadow = edits }) files
    ≡ record files { shadow = table_after shadow_format edits files.shadow }
shadow-alone edits files = λ i. record {
  passwd = table-stays passwd_format files.passwd i;
  shadow = table_after shadow_format edits files.shadow;
  group = table-stays group_format files.group i;
  gshadow = table-stays gshadow_format files.gshadow i;
  subuid = table-stays subid_format files.subuid i;
  subgid = table-stays subid_format files.subgid i;
}

-- and those of passwd
passwd-alone :
    (edits : List (Edit PasswdRecord)) (files : Files)
    → files_after (record no_edits { passwd = edits }) files
    ≡ record files { passwd = table_after passwd_format edits files.passwd }
passwd-alone edits files = λ i. record {
  passwd = table_after passwd_format edits files.passwd;
  shadow = table-stays shadow_format files.shadow i;
  group = table-stays group_format files.group i;
  gshadow = table-stays gshadow_format files.gshadow i;
  subuid = table-stays subid_format files.subuid i;
  subgid = table-stays subid_format files.subgid i;
}

-- the first of options is the only one
first-alone :
    {X : Type 0} (o : Option X) (rest : List (Option X))
    → first_some rest ≡ None
    → first_some (o ∷ rest) ≡ o
first-alone None rest none = none
first-alone (Some x) rest none = refl

-- edits of passwd alone meet multiple entries there alone
passwd-multiple :
    (edits : List (Edit PasswdRecord)) (files : Files)
    → multiple_entries (record no_edits { passwd = edits }) files
    ≡ multiple_in Passwd passwd_format edits (passwd_records files)
passwd-multiple edits files =
    let shadow = none-touched shadow_format (shadow_records files)
    in let group = none-touched group_format (group_records files)
    in let gshadow = none-touched gshadow_format (gshadow_records files)
    in rw (multiple_entries, shadow, group, gshadow)
    (first-alone (multiple_in Passwd passwd_format edits (passwd_records files)) _ refl)

-- and those of shadow alone there
shadow-multiple :
    (edits : List (Edit ShadowRecord)) (files : Files)
    → multiple_entries (record no_edits { shadow = edits }) files
    ≡ multiple_in Shadow shadow_format edits (shadow_records files)
shadow-multiple edits files =
    let passwd = none-touched passwd_format (passwd_records files)
    in let group = none-touched group_format (group_records files)
    in let gshadow = none-touched gshadow_format (gshadow_records files)
    in rw (multiple_entries, passwd, group, gshadow)
    (first-alone (multiple_in Shadow shadow_format edits (shadow_records files)) _ refl)

module _ (tool : Tool) (prefix user : List ℕ) (files : Files) where
  -- both commands
  abbrev lock_by : Files → Action
  lock_by from = passwd (flag_alone tool prefix (codes "l") user) from

  abbrev unlock_by : Files → Action
  unlock_by from = passwd (flag_alone tool prefix (codes "u") user) from

  -- what the unlock is to make
  abbrev Back : Files → Files → Type 0
  Back old middle = outcome_of (unlock_by middle) middle
      ≡ Ok (record { files = old; status = 0; output = []; notices = [] })

  -- the unlock passes its refusals, and makes the files
  unlock-back :
      (old middle : Files)
      → has_user user middle ≡ true
      → bytes_eq (hash_of user middle) locked ≡ false
      → multiple_entries (unlock_by middle).script middle ≡ None
      → files_after (unlock_by middle).script middle ≡ old
      → Back old middle
  unlock-back old middle there some single back =
      outcome-is (unlock_by middle) middle (rw (there, some) refl) single
      ∙ ap (λ (new : Files). Ok (record { files = new; status = 0; output = []; notices = [] }))
      back

  -- ---- In shadow

  -- the edit of shadow alone
  abbrev shadow_edits : (List ℕ → List ℕ) → List (Edit ShadowRecord)
  shadow_edits f = each_where (is_named shadow_format user) (λ r. record r { hash = f r.hash }) ∷ []

  -- a user that shadow has needs no line on demand
  lock-shadow-script :
      (bytes : List ℕ)
      → lacks_shadow user (record files { shadow = Some bytes }) ≡ false
      → (lock_by (record files { shadow = Some bytes })).script
      ≡ record no_edits { shadow = shadow_edits locked_hash }
  lock-shadow-script bytes lacks = rw (demand_shadow, lacks) refl

  unlock-shadow-script :
      (bytes : List ℕ)
      → lacks_shadow user (record files { shadow = Some bytes }) ≡ false
      → (unlock_by (record files { shadow = Some bytes })).script
      ≡ record no_edits { shadow = shadow_edits unlocked_hash }
  unlock-shadow-script bytes lacks = rw (demand_shadow, lacks) refl

  -- what the hash in shadow is
  shadow-hash :
      (bytes : List ℕ) (one : ShadowRecord)
      → find_named shadow_format user (table_records shadow_format (Some bytes)) ≡ Some one
      → hash_of user (record files { shadow = Some bytes }) ≡ one.hash
  shadow-hash bytes one found = ap (λ (o : Option ShadowRecord). unwrap_or
      (option_map (λ r. r.hash) o) (passwd_field user files)) found

  -- a lock in shadow
  in-shadow :
      (bytes : List ℕ) (one : ShadowRecord) (made : Made)
      → find_named shadow_format user (table_records shadow_format (Some bytes)) ≡ Some one
      → HasOpenHash user (record files { shadow = Some bytes })
      → outcome_of (lock_by (record files { shadow = Some bytes }))
      (record files { shadow = Some bytes }) ≡ Ok made
      → Back (record files { shadow = Some bytes }) made.files
  in-shadow bytes one made found is outcome =
      let old : Files = record files { shadow = Some bytes }
      in let is_made = outcome-made (lock_by old) old made outcome
      in let script = lock-shadow-script bytes is.in_place
      in let hash = shadow-hash bytes one found
      in let unlocked = subst (λ h. begins_with exclamation h ≡ false) hash is.unlocked
      in let single = subst (λ (edits : Script). multiple_entries edits old ≡ None) script
      is_made.single
      in let shadow_single = unmapped (λ name. Multiple Shadow name) _
      (sym (shadow-multiple (shadow_edits locked_hash) old) ∙ single)
      in let written = (subst IsWrittenScript script
      (passwd-written (flag_alone tool prefix (codes "l") user) old)).shadow.0
      in let middle : Files = record files {
        shadow = table_after shadow_format (shadow_edits locked_hash) (Some bytes);
      }
      in let middle_is : middle ≡ made.files =
      sym (shadow-alone (shadow_edits locked_hash) old)
      ∙ ap (λ edits. files_after edits old) (sym script)
      ∙ ap (λ (one : Made). one.files) is_made.makes
      in let locked_one = locked-found shadow_format shadow-tells refl (λ r. r.hash)
      (λ h r. record r { hash = h }) (λ h r. refl) (λ h r. refl) (λ h o r. refl) (λ r. refl)
      user bytes one found unlocked shadow_single is.shadow_lines written
      in let there : has_user user middle ≡ true =
      refuse-none (has_user user old) (NoUser user) (first-none _ _ is_made.passes).0
      in let lacks : lacks_shadow user middle ≡ false =
      ap (λ (o : Option ShadowRecord). not (is_some o)) locked_one
      in let back_script = unlock-shadow-script
      (file_bytes (edited_by shadow_format (shadow_edits locked_hash) (lines_of bytes))) lacks
      in subst (Back old) middle_is (unlock-back old middle there
      (subst (λ h. bytes_eq h locked ≡ false) (sym (shadow-hash
      (file_bytes (edited_by shadow_format (shadow_edits locked_hash) (lines_of bytes)))
      (record one { hash = locked_hash one.hash }) locked_one))
      (not-mark one.hash unlocked (subst (λ h. is_empty h ≡ false) hash is.some)))
      (subst (λ (edits : Script). multiple_entries edits middle ≡ None) (sym back_script)
      (shadow-multiple (shadow_edits unlocked_hash) middle
      ∙ ap (option_map (λ name. Multiple Shadow name)) (unlock-single shadow_format shadow-tells refl (λ r. r.hash)
      (λ h r. record r { hash = h }) (λ h r. refl) (λ h r. refl) (λ h o r. refl) (λ r. refl)
      user bytes one found unlocked shadow_single is.shadow_lines written)))
      (ap (λ edits. files_after edits middle) back_script
      ∙ shadow-alone (shadow_edits unlocked_hash) middle
      ∙ ap (λ (o : Option (List ℕ)). record files { shadow = o })
      (unlocked-again shadow_format shadow-tells refl (λ r. r.hash)
      (λ h r. record r { hash = h }) (λ h r. refl) (λ h r. refl) (λ h o r. refl) (λ r. refl)
      user bytes one found unlocked shadow_single is.shadow_lines written)))

  -- ---- In passwd

  -- the edit of passwd alone
  abbrev passwd_edits : (List ℕ → List ℕ) → List (Edit PasswdRecord)
  passwd_edits f = each_password user f ∷ []

  -- a lock in passwd
  in-passwd :
      (bytes : List ℕ) (one : PasswdRecord) (made : Made)
      → find_named passwd_format user (table_records passwd_format (Some bytes)) ≡ Some one
      → HasOpenHash user (record files { passwd = Some bytes; shadow = None })
      → outcome_of (lock_by (record files { passwd = Some bytes; shadow = None }))
      (record files { passwd = Some bytes; shadow = None }) ≡ Ok made
      → Back (record files { passwd = Some bytes; shadow = None }) made.files
  in-passwd bytes one made found is outcome =
      let old : Files = record files { passwd = Some bytes; shadow = None }
      in let is_made = outcome-made (lock_by old) old made outcome
      in let hash : hash_of user old ≡ one.password =
      ap (λ (o : Option PasswdRecord). unwrap_or (option_map (λ r. r.password) o) []) found
      in let unlocked = subst (λ h. begins_with exclamation h ≡ false) hash is.unlocked
      in let single = unmapped (λ name. Multiple Passwd name) _
      (sym (passwd-multiple (passwd_edits locked_hash) old) ∙ is_made.single)
      in let written = (passwd-written (flag_alone tool prefix (codes "l") user) old).passwd.0
      in let middle : Files = record files {
        passwd = table_after passwd_format (passwd_edits locked_hash) (Some bytes);
        shadow = None;
      }
      in let middle_is : middle ≡ made.files =
      sym (passwd-alone (passwd_edits locked_hash) old)
      ∙ ap (λ (one : Made). one.files) is_made.makes
      in let locked_one = locked-found passwd_format passwd-tells refl (λ r. r.password)
      (λ h r. record r { password = h }) (λ h r. refl) (λ h r. refl) (λ h o r. refl) (λ r. refl)
      user bytes one found unlocked single is.passwd_lines written
      in let locked_hash_is : hash_of user middle ≡ locked_hash one.password =
      ap (λ (o : Option PasswdRecord). unwrap_or (option_map (λ r. r.password) o) []) locked_one
      in subst (Back old) middle_is (unlock-back old middle
      (ap (λ (o : Option PasswdRecord). is_some o) locked_one)
      (subst (λ h. bytes_eq h locked ≡ false) (sym locked_hash_is)
      (not-mark one.password unlocked (subst (λ h. is_empty h ≡ false) hash is.some)))
      (passwd-multiple (passwd_edits unlocked_hash) middle
      ∙ ap (option_map (λ name. Multiple Passwd name)) (unlock-single passwd_format passwd-tells refl (λ r. r.password)
      (λ h r. record r { password = h }) (λ h r. refl) (λ h r. refl) (λ h o r. refl) (λ r. refl)
      user bytes one found unlocked single is.passwd_lines written))
      (passwd-alone (passwd_edits unlocked_hash) middle
      ∙ ap (λ (o : Option (List ℕ)). record files { passwd = o; shadow = None })
      (unlocked-again passwd_format passwd-tells refl (λ r. r.password)
      (λ h r. record r { password = h }) (λ h r. refl) (λ h r. refl) (λ h o r. refl) (λ r. refl)
      user bytes one found unlocked single is.passwd_lines written)))

  -- without passwd the user isn't there
  lock-without-shadow :
      (made : Made) (passwd : Option (List ℕ))
      → HasOpenHash user (record files { passwd = passwd; shadow = None })
      → outcome_of (lock_by (record files { passwd = passwd; shadow = None }))
      (record files { passwd = passwd; shadow = None }) ≡ Ok made
      → Back (record files { passwd = passwd; shadow = None }) made.files
  lock-without-shadow made None is outcome = cc
  lock-without-shadow made (Some bytes) is outcome =
      let old : Files = record files { passwd = Some bytes; shadow = None }
      in let is_made = outcome-made (lock_by old) old made outcome
      in let there = some-of (find_named passwd_format user
      (table_records passwd_format (Some bytes)))
      (refuse-none (has_user user old) (NoUser user) (first-none _ _ is_made.passes).0)
      in in-passwd bytes there.0 made there.1 is outcome

  -- either way
  lock-back :
      (made : Made) (shadow : Option (List ℕ))
      → HasOpenHash user (record files { shadow = shadow })
      → outcome_of (lock_by (record files { shadow = shadow })) (record files { shadow = shadow })
      ≡ Ok made
      → Back (record files { shadow = shadow }) made.files
  lock-back made None is outcome = lock-without-shadow made files.passwd is outcome
  lock-back made (Some bytes) is outcome =
      let there = some-of (find_named shadow_format user (table_records shadow_format (Some bytes)))
      (there-of _ is.in_place)
      in in-shadow bytes there.0 made there.1 is outcome

-- the whole
pub lock-then-unlock : LockThenUnlock
lock-then-unlock tool prefix user files made is outcome =
    lock-back tool prefix user files made files.shadow is outcome
