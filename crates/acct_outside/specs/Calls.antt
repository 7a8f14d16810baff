-- The calls of a folder, what each answers, and what became of one.
use Rattle.std.specs.Prelude.{ℕ, nat_lt, if◌then◌else◌, List, length, Option, Some, None}
use Rattle.acct_text.specs.Bytes.{Bytes}
use Rattle.acct_outside.specs.declared.Name.{Name}
use Rattle.acct_outside.specs.declared.Name.TheVariants.{Lock}
use Rattle.acct_outside.specs.declared.Verdict.{Verdict}
use Rattle.acct_outside.specs.declared.Created.{Created}
use Rattle.acct_outside.specs.declared.Created.TheVariants.{Exists}
use Rattle.acct_outside.specs.Tokens.{Token, held_text}
use Rattle.acct_outside.specs.Folder.{Folder, with_file, appended, moved}

-- what a session was asked to do: its words, its input and its day, counted from 1970-01-01
pub record Command : Type 0 where
  pub words : List Bytes
  pub input : Bytes
  pub day : ℕ

-- the calls of the trait `Folder` that make an event
pub data Call : Type 0 where
  begins : Command → Call
  lists : Call
  reads : Name → Call
  asks : Token → Call
  creates : ℕ → Call
  writes : Name → Bytes → Call
  appends : Name → Bytes → Call
  renames : Name → Name → Call
  removes : Name → Call
  answers : ℕ → Call

-- what a read found
pub data Found : Type 0 where
  found_absent : Found
  found_bytes : Bytes → Found
  found_too_large : Found

-- what a read with this limit finds of what stands at its name
abbrev pub found_within : ℕ → Option Bytes → Found
found_within limit None = found_absent
found_within limit (Some bytes) =
    if nat_lt limit (length bytes) then found_too_large else found_bytes bytes

-- what a call answers once it is done: a listing its numbers, a read what it found, an ask the
-- verdict, a create whether it made the lock
abbrev pub Answer : Call → Type 0
Answer lists = List ℕ
Answer (reads name) = Found
Answer (asks token) = Verdict
Answer (creates n) = Created
Answer _ = Unit {0}

-- what a call did that failed, or within which its session died. `left` is of a write or an append
-- alone: these bytes, or nothing, stand at its name
pub data Effect : Type 0 where
  happened : Effect
  nothing : Effect
  left : Option Bytes → Effect

-- how a call came to its end
pub data CallResult (A : Type 0) : Type 0 where
  done : A → CallResult A
  failed : Effect → CallResult A
  died : Effect → CallResult A

-- a done call happened, but for a create that answered Exists
abbrev pub effect_of_answer : (call : Call) → Answer call → Effect
effect_of_answer (creates n) Exists = nothing
effect_of_answer _ _ = happened

-- what a call with this result did
abbrev pub effect_of : (call : Call) → CallResult (Answer call) → Effect
effect_of call (done answer) = effect_of_answer call answer
effect_of call (failed effect) = effect
effect_of call (died effect) = effect

-- the folder after a call of the session with this effect; reading calls change nothing
abbrev pub changed_by : Token → Call → Effect → Folder → Folder
changed_by token (creates n) happened folder = with_file (Lock n) (Some (held_text token)) folder
changed_by token (writes name bytes) happened folder = with_file name (Some bytes) folder
changed_by token (writes name bytes) (left content) folder = with_file name content folder
changed_by token (appends name piece) happened folder = appended name piece folder
changed_by token (appends name piece) (left content) folder = with_file name content folder
changed_by token (renames from to) happened folder = moved from to folder
changed_by token (removes name) happened folder = with_file name None folder
changed_by _ _ _ folder = folder
