-- Bytes by their names, and what the formats and the options need of texts and of lists of names.
use Rattle.std.specs.Prelude.{filter, ℕ, Bool, false, not, List, [], ◌∷◌, Option, Some, None, bytes_eq, ◌==◌, if◌then◌else◌}
use Rattle.std.specs.List.{list_any}
use lib.Pointwise.{pointwise}
use Rattle.acct_text.specs.Bytes.{is_empty}

-- a tab parts the words of login.defs(5), as a blank does
abbrev pub tab : ℕ
tab = 9

-- a `!` before a hash locks it (shadow(5), usermod(8) `-L`)
abbrev pub exclamation : ℕ
exclamation = 33

-- a value of login.defs(5) may stand between two `"`
abbrev pub quote : ℕ
quote = 34

-- a `#` begins a comment of login.defs(5)
abbrev pub hash_mark : ℕ
hash_mark = 35

-- a `$` may end a name (useradd(8), "CAVEATS")
abbrev pub dollar : ℕ
dollar = 36

-- a `*` stands in place of a hash that no password has (shadow(5))
abbrev pub asterisk : ℕ
asterisk = 42

-- a comma parts the names of a list (group(5))
abbrev pub comma : ℕ
comma = 44

-- a `-` begins an option, and so no name
abbrev pub hyphen : ℕ
hyphen = 45

-- a `.` may stand in a name
abbrev pub dot : ℕ
dot = 46

-- a `/` begins a path
abbrev pub slash : ℕ
slash = 47

-- a `=` parts the key and the value of a `-K` word (useradd(8))
abbrev pub equals_sign : ℕ
equals_sign = 61

-- a `_` may stand in a name
abbrev pub underscore : ℕ
underscore = 95

-- whether the text has such a byte
abbrev pub has_byte : ℕ → List ℕ → Bool
has_byte byte text = list_any (λ b. b == byte) text

-- whether the name stands in the list
abbrev pub is_listed : List ℕ → List (List ℕ) → Bool
is_listed name names = list_any (bytes_eq name) names

-- whether two lists have the same names in the same order
abbrev pub names_eq : List (List ℕ) → List (List ℕ) → Bool
names_eq = pointwise bytes_eq

-- the text without this byte at its front, where it is there
abbrev pub without_first : ℕ → List ℕ → List ℕ
without_first byte [] = []
without_first byte (b ∷ rest) = if b == byte then rest else b ∷ rest

-- the text without this byte at its end, where it is there
abbrev pub without_last : ℕ → List ℕ → List ℕ
without_last byte [] = []
without_last byte (b ∷ []) = if b == byte then [] else b ∷ []
without_last byte (b ∷ c ∷ rest) = b ∷ without_last byte (c ∷ rest)

-- whether the text begins with this byte
abbrev pub begins_with : ℕ → List ℕ → Bool
begins_with byte [] = false
begins_with byte (b ∷ rest) = b == byte

-- the pieces that aren't empty
abbrev pub nonempty : List (List ℕ) → List (List ℕ)
nonempty pieces = filter (λ piece. not (is_empty piece)) pieces

-- of equal names the first
abbrev pub distinct : List (List ℕ) → List (List ℕ)
distinct [] = []
distinct (name ∷ rest) = name ∷ filter (λ other. not (bytes_eq name other)) (distinct rest)

-- the last item
abbrev pub last_of : List (List ℕ) → Option (List ℕ)
last_of [] = None
last_of (x ∷ []) = Some x
last_of (x ∷ y ∷ rest) = last_of (y ∷ rest)

-- the first that there is
abbrev pub first_some : {X : Type 0} → List (Option X) → Option X
first_some [] = None
first_some (None ∷ rest) = first_some rest
first_some (Some x ∷ rest) = Some x
