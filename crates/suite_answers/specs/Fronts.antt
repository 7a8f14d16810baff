-- What a stream holds of a text that is put in pieces.
use Rattle.std.specs.Prelude.{◌≡◌, ◌++◌, Result, Ok, Err}
use Rattle.acct_text.specs.Bytes.{Bytes}
use Rattle.acct_outside.specs.declared.streams.SinkFault.{SinkFault}

-- a front of the text came behind what stood before
abbrev pub HoldsFront : Bytes → Bytes → Bytes → Type 0
HoldsFront text before now =
    (front : Bytes) × (rest : Bytes) × (text ≡ front ++ rest) × (now ≡ before ++ front)

-- the text came whole, or a front of it where the stream failed or found no memory
abbrev pub PutsFront : Bytes → Result (Unit {0}) SinkFault → Bytes → Bytes → Type 0
PutsFront text (Ok unit) before now = now ≡ before ++ text
PutsFront text (Err fault) before now = HoldsFront text before now
