-- A line whose newline is kept until its reason is known.
use Rattle.std.specs.Prelude.{◌≡◌, ◌++◌, [], ◌∷◌, Bool, true, false}
use Rattle.acct_text.specs.Bytes.{Bytes, newline}

-- the newline that an open line lacks
abbrev pub owed : Bool → Bytes
owed true = newline ∷ []
owed false = []

-- what stands below, with what it is owed, is what stood there, with what it was owed, and the piece
abbrev pub PassesOn : (was_open is_open : Bool) → Bytes → Bytes → Bytes → Type 0
PassesOn was_open is_open piece before now =
    now ++ owed is_open ≡ (before ++ owed was_open) ++ piece
