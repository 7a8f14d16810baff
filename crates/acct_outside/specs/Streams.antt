-- What a stream has left or holds, where it tells, and what a clock gives.
use Rattle.std.specs.Prelude.{◌≡◌, ⊤, ℕ, ◌<◌, [], ◌++◌, Option, None, Some, Result, Ok, Err}
use Rattle.acct_text.specs.Bytes.{Bytes}
use Rattle.acct_outside.specs.declared.streams.SinkFault.{SinkFault}
use Rattle.acct_outside.specs.declared.streams.SinkFault.TheVariants.{Failed, Memory}
use Rattle.acct_outside.specs.declared.streams.SourceFault.{SourceFault}
use Rattle.acct_outside.specs.Faults.{Faults}

-- what a source has left where it tells, and its faults
pub record SourceMoment : Type 0 where
  pub left : Option Bytes
  pub faults : Faults

-- what a sink holds where it tells, and how often it failed
pub record SinkMoment : Type 0 where
  pub holds : Option Bytes
  pub faults : ℕ

-- the day that a clock last gave, the day that it always gives where it tells one, and its faults
pub record ClockMoment : Type 0 where
  pub gave : Option ℕ
  pub always : Option ℕ
  pub faults : Faults

-- what holds of the bytes before and after the call, where they are told
abbrev pub WhereBytesTold : Option Bytes → Option Bytes → (Bytes → Bytes → Type 0) → Type 0
WhereBytesTold None None P = ⊤
WhereBytesTold (Some before) (Some now) P = P before now
WhereBytesTold _ _ P = ⊥

-- The piece was the front of what was left. An empty one is the end, where there was room for more.
-- After a fault all is left as it was.
abbrev pub Takes : ℕ → Result Bytes SourceFault → Bytes → Bytes → Type 0
Takes room (Ok piece) before now = (before ≡ piece ++ now) × (0 < room → piece ≡ [] → before ≡ [])
Takes room (Err fault) before now = now ≡ before

-- The sink holds the piece behind what it held. After a failure it holds a front of the piece
-- there, and after want of memory nothing more.
abbrev pub Puts : Bytes → Result (Unit {0}) SinkFault → Bytes → Bytes → Type 0
Puts piece (Ok _) before now = now ≡ before ++ piece
Puts piece (Err Failed) before now =
    (front : Bytes) × (rest : Bytes) × (piece ≡ front ++ rest) × (now ≡ before ++ front)
Puts piece (Err Memory) before now = now ≡ before
