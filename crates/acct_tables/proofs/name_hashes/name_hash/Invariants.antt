use Rattle.std.proofs.Common.{◌≡◌, take}
use Rattle.acct_tables.specs.NameHashes.{name_hash}
use Rattle.acct_tables.proofs.name_hashes.name_hash.Given as goal

-- the hash of the bytes so far
abbrev pub invariant-bytes : goal.invariant-bytes
invariant-bytes l = l.hash ≡ name_hash (take l.byte-index l.name)
