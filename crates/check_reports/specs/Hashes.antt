-- What pwck looks at in a line of shadow (shadow(5), pwck(8)).
use Rattle.std.specs.Prelude.{ℕ, List, Option, option_map}
use Rattle.account_model.specs.Records.{shadow_format}
use Rattle.check_reports.specs.declared.hashes.Hash.{Hash}

-- the name of its record, and the day of the last change
abbrev pub hash_in : List ℕ → Option (List ℕ × Option ℕ)
hash_in text = option_map (λ r. (r.name, r.last_change)) (shadow_format.read text)

-- the same of what was read
abbrev pub seen_hash : Hash → List ℕ × Option ℕ
seen_hash hash = (hash.name.now, hash.last_change)
