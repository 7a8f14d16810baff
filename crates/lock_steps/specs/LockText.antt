-- The text of a lock: `free`, or `held` with a token, each with one newline (docs/LOCK.md).
use Rattle.std.specs.Prelude.{◌≡◌, ◌≢◌}
use Rattle.acct_text.specs.Bytes.{Bytes}
use Rattle.acct_outside.specs.Tokens.{Token, IsToken, held_text, free_text}
use Rattle.lock_steps.specs.declared.lock_text.LockText.{LockText}
use Rattle.lock_steps.specs.declared.lock_text.LockText.TheVariants.{Free, Held, Damaged}

-- the text of a lock that this session holds
pub record IsHeldBy (text : Bytes) (token : Token) : Type 0 where
  pub is_token : IsToken token
  pub is_text : text ≡ held_text token

-- neither of the two texts
pub record IsDamaged (text : Bytes) : Type 0 where
  pub not_free : text ≢ free_text
  pub not_held : (token : Token) → IsHeldBy text token → ⊥

-- the text says this
abbrev pub TextSays : Bytes → LockText → Type 0
TextSays text Free = text ≡ free_text
TextSays text (Held token) = IsHeldBy text token
TextSays text Damaged = IsDamaged text
