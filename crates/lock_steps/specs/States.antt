-- What contracts see of a typed state: the token of its session, and what it keeps of the session's
-- own events.
use Rattle.std.specs.Prelude.{ℕ, List}
use Rattle.acct_outside.specs.Tokens.{Token}

-- a session that has listed the locks, of which this is the greatest, 0 for none
pub record Lister : Type 0 where
  pub token : Token
  pub greatest : ℕ

-- one that has read the greatest lock as held by another session
pub record Asker : Type 0 where
  pub token : Token
  pub greatest : ℕ
  pub asked : Token

-- one that has made the lock of this number
pub record Maker : Type 0 where
  pub token : Token
  pub number : ℕ

-- one whose lock was outrun by this greatest one
pub record Overtaken : Type 0 where
  pub token : Token
  pub number : ℕ
  pub greatest : ℕ

-- a keeper of this number, with the lower locks that it has still to remove
pub record Kept : Type 0 where
  pub token : Token
  pub number : ℕ
  pub lower : List ℕ
