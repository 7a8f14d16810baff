-- The hash of a user whom usermod changes (usermod(8), `-p`, `-L` and `-U`; shadow(5)).
use Rattle.std.specs.Prelude.{ℕ, Bool, ◌||◌, if◌then◌else◌, List, [], ◌∷◌, ◌++◌, drop, codes}
use Rattle.acct_text.specs.declared.files.Files.{Files}
use Rattle.account_model.specs.Text.{begins_with, exclamation}
use Rattle.account_model.specs.Tables.{Script, no_edits, in_order}
use Rattle.account_model.specs.Values.{text_value}
use Rattle.account_model.specs.Hashes.{locked, demand_shadow, each_user_hash}
use Rattle.account_model.specs.Request.{Request, has_option, operand}

-- `-p`, `-L` and `-U` set the hash, also where it stays as it is
abbrev pub sets_hash : Request → Bool
sets_hash request =
    has_option (codes "p") request || has_option (codes "L") request
    || has_option (codes "U") request

-- `-e` and `-f` set the aging
abbrev pub sets_aging : Request → Bool
sets_aging request = has_option (codes "e") request || has_option (codes "f") request

-- `-L` puts `!` before a hash that doesn't begin with it
abbrev pub locked_hash : List ℕ → List ℕ
locked_hash hash = if begins_with exclamation hash then hash else locked ++ hash

-- `-U` takes one leading `!` away
abbrev pub unlocked_hash : List ℕ → List ℕ
unlocked_hash hash = if begins_with exclamation hash then drop 1 hash else hash

-- the hash that `-L` and `-U` leave
abbrev pub relocked_hash : Request → List ℕ → List ℕ
relocked_hash request hash = if has_option (codes "L") request then locked_hash hash else
    (if has_option (codes "U") request then unlocked_hash hash else hash)

-- the hash of `-p`, and else what `-L` and `-U` leave of the old one
abbrev pub hash_after : Request → List ℕ → List ℕ
hash_after request hash = text_value (codes "p") request (relocked_hash request hash)

-- the line of shadow on demand, and then the hash
abbrev pub hash_script : Request → Files → Script
hash_script request files = in_order
    ((if sets_hash request || sets_aging request
    then demand_shadow (operand request) files
    else no_edits)
    ∷ (if sets_hash request
    then each_user_hash (operand request) (hash_after request) files
    else no_edits)
    ∷ [])
