-- The hash of a name, by which records are found (FNV-1a; passwd(5), and likewise the other five tables).
use Rattle.std.specs.Prelude.{ℕ, ◌*◌, ◌%◌, ◌^◌, bit_xor, List, [], ◌∷◌}

-- the hash with one byte more
abbrev pub next_hash : ℕ → ℕ → ℕ
next_hash hash byte = bit_xor hash byte * 1099511628211 % 2 ^ 64

-- the hash with more bytes
unfoldable pub hash_with : ℕ → List ℕ → ℕ
hash_with hash [] = hash
hash_with hash (byte ∷ rest) = hash_with (next_hash hash byte) rest

-- that of a name
abbrev pub name_hash : List ℕ → ℕ
name_hash name = hash_with 14695981039346656037 name
