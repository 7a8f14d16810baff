-- The parts of an intent's text, and the first that doesn't stand. The header is part 0, which in
-- version 2 stands only in front of as many bytes as it says; the tables are the parts from 1 to its
-- count, and the end with all that follows is the last.
use Rattle.std.specs.Prelude.{◌≡◌, ◌≢◌, ℕ, ◌+◌, ◌<◌, ◌≤◌, true, List, [], ◌∷◌, ◌++◌, length, ⊤}
use Rattle.acct_text.specs.Bytes.{Bytes}
use Rattle.intent_file.specs.declared.IntentFault.{IntentFault}
use Rattle.intent_file.specs.declared.IntentFault.TheVariants.{Part, Memory}
use Rattle.intent_file.specs.declared.cursor.Header.{Header}
use Rattle.intent_file.specs.Intent.{NewTable, header, table_part, table_parts, end_part, is_in_order, is_within_limit, is_lock_number}

-- the bytes begin with the part that writes a value, one that may stand there, and the rest follows
pub record BeginsWith {Value : Type 0} (MayStand : Value → Type 0) (part : Value → Bytes)
    (bytes : Bytes) (value : Value) (rest : Bytes) : Type 0 where
  pub stands : MayStand value
  pub whole : bytes ≡ part value ++ rest

-- the bytes begin with the part of no value that may stand there
abbrev pub BeginsWithNone :
    {Value : Type 0} → (Value → Type 0) → (Value → Bytes) → Bytes → Type 0
BeginsWithNone {Value} MayStand part bytes =
    (value : Value) (rest : Bytes) → BeginsWith MayStand part bytes value rest → ⊥

-- the line of a header in front of so many bytes
abbrev pub header_part : ℕ → Header → Bytes
header_part total head = header head.version head.number head.count total

-- the number is a lock's, and one to six tables follow
pub record IsHeader (head : Header) : Type 0 where
  pub number : is_lock_number head.number ≡ true
  pub at_least_one : 1 ≤ head.count
  pub at_most_six : head.count ≤ 6

-- the bytes are a header, in version 2 one that says how many bytes follow, and what follows it
abbrev pub Headed : Bytes → Header → Bytes → Type 0
Headed bytes head behind = BeginsWith IsHeader (header_part (length behind)) bytes head behind

-- the bytes are those of no header and what follows it
abbrev pub HeadedByNone : Bytes → Type 0
HeadedByNone bytes = (head : Header) (behind : Bytes) → Headed bytes head behind → ⊥

-- the tables stand in the fixed order, each at most once and within its limit
pub record AreListed (tables : List NewTable) : Type 0 where
  pub in_order : is_in_order tables ≡ true
  pub within_limit : is_within_limit tables ≡ true

-- the table may be listed behind these
pub record MayBeListed (tables : List NewTable) (next : NewTable) : Type 0 where
  pub in_order : is_in_order (tables ++ next ∷ []) ≡ true
  pub within_limit : is_within_limit (next ∷ []) ≡ true

-- the bytes begin with a header and then with some table parts, and the rest follows
pub record Front (bytes : Bytes) : Type 0 where
  pub head : Header
  -- what follows the header
  pub behind : Bytes
  pub tables : List NewTable
  -- what follows these tables
  pub rest : Bytes
  pub header : Headed bytes head behind
  pub listed : BeginsWith AreListed table_parts behind tables rest

-- the part is the first that doesn't stand: there is no header; no further table, though the header
-- counts more; or all tables, and then not just the end
pub data FirstFault (bytes : Bytes) : ℕ → Type 0 where
  no_header : HeadedByNone bytes → FirstFault bytes 0
  no_table :
      (front : Front bytes)
      → length front.tables < front.head.count
      → BeginsWithNone (MayBeListed front.tables) table_part front.rest
      → FirstFault bytes (length front.tables + 1)
  no_end :
      (front : Front bytes)
      → length front.tables ≡ front.head.count
      → front.rest ≢ end_part
      → FirstFault bytes (front.head.count + 1)

-- what the fault of a reading tells: at a part, that it is the first that doesn't stand
abbrev pub TellsFault : Bytes → IntentFault → Type 0
TellsFault bytes (Part part) = FirstFault bytes part
TellsFault bytes Memory = ⊤
