-- Claims: the ID that is asked for is the number of the test for another user with it (`uid-of-other`,
-- `gid-of-other`), and a GID is its key (`key-of-other`). Way: the line of a user has its UID and its
-- primary GID in decimal, and who passes has the ID.
use Rattle.std.proofs.Common.{◌≡◌, ◌∙◌, ℕ, true, false, List, [], ◌∷◌, not, sym, ap}
use Rattle.std.specs.Prelude.{◌==◌, ◌||◌}
use Rattle.std.proofs.lemmas.Bool.{and_parts, eqb-true, or_right}
use Rattle.account_model.specs.Format.{is_named}
use Rattle.account_model.specs.Records.{passwd_format}
use Rattle.account_model.specs.declared.records.PasswdRecord.{PasswdRecord}
use Rattle.acct_tables.proofs.FieldMarks.{holds-primary, holds-uid}
use Rattle.acct_tables.specs.KeyPlaces.{has_key}
use Rattle.table.specs.Keys.{own_key, user_keys}
use Rattle.table.specs.Accepting.{IsKeyOf, IsNumberOf}
use Rattle.table.proofs.NumberLemmas.{number-of}
use Rattle.user_removal.specs.Others.{has_id, is_other_with}
use Rattle.user_removal.specs.declared.others.AccountId.{AccountId}
use Rattle.user_removal.specs.declared.others.AccountId.TheVariants.{Uid, Gid}

module _ (name : List ℕ) (id : AccountId) where
  -- who passes has the ID
  has-passing : (user : PasswdRecord) → is_other_with name id user ≡ true → has_id id user ≡ true
  has-passing user passes =
      (and_parts (not (is_named passwd_format name user)) (has_id id user) passes).1

  -- a UID
  pub uid-of-other :
      (uid : ℕ) → id ≡ Uid uid → IsNumberOf passwd_format (is_other_with name id) uid
  uid-of-other uid is =
      number-of passwd_format (is_other_with name id) uid (λ user. user.uid) holds-uid
      (λ user passes. eqb-true user.uid uid
      (sym (ap (λ other. has_id other user) is) ∙ has-passing user passes))

  -- the GID of a primary group
  pub gid-of-other :
      (gid : ℕ) → id ≡ Gid gid → IsNumberOf passwd_format (is_other_with name id) gid
  gid-of-other gid is =
      number-of passwd_format (is_other_with name id) gid (λ user. user.gid) holds-primary
      (λ user passes. eqb-true user.gid gid
      (sym (ap (λ other. has_id other user) is) ∙ has-passing user passes))

  -- which is a key of users, beside that of the name
  pub key-of-other : (gid : ℕ) → id ≡ Gid gid → IsKeyOf user_keys (is_other_with name id) gid
  key-of-other gid is = λ user passes.
      or_right (own_key user.name == gid) (has_key gid (user.gid ∷ []))
      (ap (λ same. same || false)
      (sym (ap (λ other. has_id other user) is) ∙ has-passing user passes))
