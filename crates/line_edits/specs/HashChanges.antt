-- What becomes of the hash of a user (usermod(8), `-p`, `-L` and `-U`).
use Rattle.std.specs.Prelude.{ℕ, List}
use Rattle.account_model.specs.UsermodHash.{locked_hash, unlocked_hash}
use Rattle.line_edits.specs.declared.hash_change.HashChange.{HashChange}
use Rattle.line_edits.specs.declared.hash_change.HashChange.TheVariants.{Set, Lock, Unlock, Keep}

-- the hash after the change
abbrev pub hash_by : HashChange → List ℕ → List ℕ
hash_by (Set new) hash = new
hash_by Lock hash = locked_hash hash
hash_by Unlock hash = unlocked_hash hash
hash_by Keep hash = hash
