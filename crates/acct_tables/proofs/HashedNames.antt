-- Claim: a name's hash begins with that of no bytes (`hash-none`) and goes on byte by byte
-- (`hash-more`).
use Rattle.std.proofs.Common.{◌≡◌, ℕ, List, [], ◌∷◌, ◌++◌, refl}
use Rattle.acct_tables.specs.NameHashes.{hash_with, name_hash, next_hash}

-- the hash of no bytes
pub hash-none : 14695981039346656037 ≡ name_hash []
unfolding hash_with
hash-none = refl

-- a hash goes on over one byte more
pub hash-more :
    (hash : ℕ) (bytes : List ℕ) (byte : ℕ)
    → hash_with hash (bytes ++ byte ∷ []) ≡ next_hash (hash_with hash bytes) byte
unfolding hash_with
hash-more hash [] byte = refl
hash-more hash (first ∷ rest) byte = hash-more (next_hash hash first) rest byte
