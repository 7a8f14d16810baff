-- Which token a folder in memory gives to the next session: the first of `m1`, `m2` and so on that
-- is unused.
use Rattle.std.specs.Prelude.{◌≡◌, ◌≤◌, ◌<◌, ℕ, false, List, [], ◌++◌, Some, codes, decimal}
use Rattle.acct_outside.specs.declared.Name.TheVariants.{Lock}
use Rattle.acct_outside.specs.Tokens.{Token, held_text}
use Rattle.acct_outside.specs.Folder.{Folder}
use Rattle.acct_outside.specs.History.{own_events}
use Rattle.acct_outside.specs.Moment.{Past}
use Rattle.memory_folder.specs.Events.{has_token}

-- the token `mN` of the number N
abbrev pub numbered_token : ℕ → Token
numbered_token number = codes "m" ++ decimal number

-- a lock stands with the text of the token
abbrev pub IsNamed : Token → Folder → Type 0
IsNamed token folder = (number : ℕ) × (folder.file (Lock number) ≡ Some (held_text token))

-- no lock names the token at the first moment, no event has it, and none of these outsiders has it
pub record IsUnused (past : Past) (outsiders : List Token) (token : Token) : Type 0 where
  pub no_lock : ¬ (IsNamed token past.first)
  pub no_event : own_events token past.history ≡ []
  pub no_outsider : has_token token outsiders ≡ false

-- the token is the first of `m1`, `m2` and so on that is unused
pub record IsFirstUnused (past : Past) (outsiders : List Token) (token : Token) : Type 0 where
  pub number : ℕ
  pub is : token ≡ numbered_token number
  pub low : 1 ≤ number
  pub unused : IsUnused past outsiders token
  pub first : (other : ℕ) → 1 ≤ other → other < number
      → ¬ (IsUnused past outsiders (numbered_token other))
