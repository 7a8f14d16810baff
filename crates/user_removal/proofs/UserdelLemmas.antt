-- Claim: another user is found by an ID among the others exactly where it is found among all by its
-- name and the ID (`others-found`). So a group is kept for its members, or else for such a user
-- (`kept-members`, `kept-never`, `kept-primary`). Way: one by one; then test by test.
use Rattle.std.proofs.Common.{◌≡◌, ℕ, Bool, true, false, List, [], ◌∷◌, refl, sym, ap, ◌∙◌, inl, inr, not}
use Rattle.std.specs.Prelude.{Option, Some, None, option_map, find, filter, ◌&&◌, bytes_eq, codes}
use Rattle.std.proofs.lemmas.Bool.{cases_Bool}
use Rattle.acct_text.specs.Bytes.{is_empty}
use Rattle.acct_text.specs.declared.files.Files.{Files}
use Rattle.account_model.specs.declared.records.GroupRecord.{GroupRecord}
use Rattle.account_model.specs.declared.records.PasswdRecord.{PasswdRecord}
use Rattle.account_model.specs.Members.{without_name}
use Rattle.account_model.specs.Request.{Request, has_option, operand}
use Rattle.account_model.specs.Userdel.{reason_to_keep}
use Rattle.account_model.specs.Userdel.KeptGroup.{has_members, is_primary_of}
use Rattle.account_model.specs.Users.{other_users}
use Rattle.user_removal.specs.KeptGroups.{has_others}
use Rattle.user_removal.specs.Others.{has_id}
use Rattle.user_removal.specs.declared.others.AccountId.TheVariants.{Gid}

module _ {X : Type 0} (keeps test : X → Bool) where
  -- what is found among those kept is what is found by both tests
  pub others-found :
      (xs : List X)
      → find (λ x. keeps x && test x) xs ≡ find test (filter keeps xs)
  others-found [] = refl
  others-found (x ∷ xs) = elim (cases_Bool (keeps x)) [
    | inl kept ↦ elim (cases_Bool (test x)) [
      | inl passes ↦ rw (kept, passes) refl
      | inr fails ↦ rw (kept, fails) (others-found xs)
    ]
    | inr dropped ↦ rw dropped (others-found xs)
  ]

-- ---- The group

-- a list has another name where it isn't empty without the user's
others-left :
    (user : List ℕ) (names : List (List ℕ))
    → has_others user names ≡ not (is_empty (without_name user names))
others-left user [] = refl
others-left user (name ∷ names) = elim (cases_Bool (not (bytes_eq name user))) [
  | inl other ↦ rw other refl
  | inr same ↦ rw same (others-left user names)
]

module _ (request : Request) (files : Files) (group : GroupRecord) where
  -- members that are left keep it
  pub kept-members :
      has_others (operand request) group.members ≡ true
      → Some has_members ≡ reason_to_keep request files group
  kept-members others =
      rw (sym (others-left (operand request) group.members) ∙ others) refl

  -- with `-f` nothing else does
  pub kept-never :
      has_others (operand request) group.members ≡ false
      → has_option (codes "f") request ≡ true
      → None ≡ reason_to_keep request files group
  kept-never others forced =
      rw (sym (others-left (operand request) group.members) ∙ others, forced) refl

  -- without it another user does whose primary group it is
  pub kept-primary :
      (other : Option PasswdRecord)
      → has_others (operand request) group.members ≡ false
      → has_option (codes "f") request ≡ false
      → other ≡ find (has_id (Gid group.gid)) (other_users (operand request) files)
      → option_map (λ user. is_primary_of user.name) other ≡ reason_to_keep request files group
  kept-primary other others forced found =
      ap (option_map (λ user. is_primary_of user.name)) found
      ∙ rw (sym (others-left (operand request) group.members) ∙ others, forced) refl
