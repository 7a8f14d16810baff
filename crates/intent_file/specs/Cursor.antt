-- What a cursor takes of a text: the part that its bytes begin with, or nothing.
use Rattle.std.specs.Prelude.{◌≡◌, ◌≢◌, ℕ, ◌+◌, ◌<◌, ◌≤◌, Bool, true, nat_lt, List, [], ◌∷◌, ◌++◌, length, Option, MatchOption, slice_index, codes, decimal, ⊤}
use Rattle.acct_text.specs.declared.Tab.{Tab}
use Rattle.acct_text.specs.Bytes.{Bytes, blank, zero_digit}
use Rattle.acct_text.specs.Tables.{table_name, table_place}
use Rattle.intent_file.specs.declared.IntentFault.{IntentFault}
use Rattle.intent_file.specs.declared.Version.{Version}
use Rattle.intent_file.specs.declared.IntentFault.TheVariants.{Part, Memory}
use Rattle.intent_file.specs.Intent.{NewTable, table_part, table_parts, total_word, version_number}
use Rattle.intent_file.specs.Parts.{BeginsWith, BeginsWithNone, AreListed, MayBeListed}

-- the cursor took the value whose part its bytes began with, and the rest is left to it;
-- or none, and they begin with the part of no value that may stand there
abbrev pub TakesValue :
    {Value : Type 0} → (Value → Type 0) → (Value → Bytes)
    → Bytes → Option Value → Bytes → Type 0
TakesValue {Value} MayStand part old result new =
    MatchOption result
    (BeginsWithNone MayStand part old)
    (λ value. BeginsWith MayStand part old value new)

-- the same for a part that says how many bytes follow it
abbrev pub TakesBefore :
    {Value : Type 0} → (Value → Type 0) → (ℕ → Value → Bytes)
    → Bytes → Option Value → Bytes → Type 0
TakesBefore {Value} MayStand part old result new =
    MatchOption result
    ((value : Value) (rest : Bytes)
    → BeginsWith MayStand (part (length rest)) old value rest
    → ⊥)
    (λ value. BeginsWith MayStand (part (length new)) old value new)

-- the text is the part of a value that may stand there, this one; or of none
abbrev pub ReadsAs :
    {Value : Type 0} → (Value → Type 0) → (Value → Bytes) → Bytes → Option Value → Type 0
ReadsAs {Value} MayStand part text result =
    MatchOption result
    ((value : Value) → MayStand value → text ≢ part value)
    (λ value. MayStand value × (text ≡ part value))

-- there are more digits than one, and the first is `0`
abbrev pub HasLeadingZero : Bytes → Type 0
HasLeadingZero digits = (1 < length digits) × (slice_index digits 0 ≡ zero_digit)

-- the number keeps both bounds
abbrev pub IsBetween : ℕ → ℕ → ℕ → Type 0
IsBetween least greatest number = (least ≤ number) × (number ≤ greatest)

-- there are so many bytes
abbrev pub HasLength : ℕ → Bytes → Type 0
HasLength size bytes = length bytes ≡ size

-- the table comes later in the fixed order than the last of these
abbrev pub comes_behind : Tab → List NewTable → Bool
comes_behind table [] = true
comes_behind table (last ∷ []) = nat_lt (table_place last.table) (table_place table)
comes_behind table (first ∷ next ∷ rest) = comes_behind table (next ∷ rest)

-- a word, and the byte that ends it
abbrev pub word_part : ℕ → Bytes → Bytes
word_part end word = word ++ end ∷ []

-- a number in decimal, and the byte that ends it
abbrev pub number_part : ℕ → ℕ → Bytes
number_part end number = word_part end (decimal number)

-- the first words of a header
abbrev pub version_part : Version → Bytes
version_part version = codes "accounts-intent " ++ number_part blank (version_number version)

-- the count of a header, and what ends its line in front of so many bytes
abbrev pub count_part : Version → ℕ → ℕ → Bytes
count_part version total count = decimal count ++ (total_word version total ++ codes "\n")

-- the name of a table, and a blank
abbrev pub name_part : Tab → Bytes
name_part table = word_part blank (table_name table)

-- the cursor took so many tables
pub record TakesTables (old : Bytes) (count : ℕ) (tables : List NewTable) (new : Bytes)
    : Type 0 where
  pub counted : length tables ≡ count
  pub listed : BeginsWith AreListed table_parts old tables new

-- the bytes begin with fewer tables than so many, and the part behind them is no further one
pub record LacksTable (bytes : Bytes) (count part : ℕ) : Type 0 where
  pub tables : List NewTable
  pub rest : Bytes
  pub listed : BeginsWith AreListed table_parts bytes tables rest
  pub fewer : length tables < count
  pub none : BeginsWithNone (MayBeListed tables) table_part rest
  pub part_is : part ≡ length tables + 1

-- what a fault tells of bytes that were to begin with so many tables
abbrev pub TellsLack : Bytes → ℕ → IntentFault → Type 0
TellsLack bytes count (Part part) = LacksTable bytes count part
TellsLack bytes count Memory = ⊤
