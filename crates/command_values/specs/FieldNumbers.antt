-- A number of a field as a text or a setting gives it: nothing is -1 (shadow(5), login.defs(5)).
use Rattle.std.specs.Prelude.{◌≡◌, ◌<◌, ℕ, ◌^◌, Option, Some, None, ℤ, pos, negsuc}

-- the number stands for this one of at most 32 bits
abbrev pub IsFieldNumber : ℤ → Option ℕ → Type 0
IsFieldNumber number None = number ≡ negsuc 0
IsFieldNumber number (Some n) = (number ≡ pos n) × (n < 2 ^ 32)
