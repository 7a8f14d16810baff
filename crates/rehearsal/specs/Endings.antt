-- How a rehearsal ends, as a table: to which words an ending comes, its status, and what the two streams
-- get behind what they held.
use Rattle.std.specs.Prelude.{◌≡◌, ◌⊎◌, ℕ, List, [], ◌∷◌, ◌++◌, codes, Result, Ok, Err}
use Rattle.acct_text.specs.Bytes.{Bytes, newline}
use Rattle.acct_outside.specs.declared.streams.SinkFault.{SinkFault}
use Rattle.acct_outside.specs.declared.streams.SinkFault.TheVariants.{Failed, Memory}
use Rattle.acct_outside.specs.Faults.{CountsFailure}
use Rattle.acct_outside.specs.Streams.{Puts, SinkMoment, WhereBytesTold}
use Rattle.account_model.specs.Options.{Word}
use Rattle.suite_answers.specs.Fronts.{HoldsFront}
use Rattle.suite_course.specs.Streams.{FailsAt, Streams}
use Rattle.rehearsal.specs.declared.asked.Rehearsal.{Rehearsal}
use Rattle.rehearsal.specs.Asked.{AsksFor}
use Rattle.rehearsal.specs.Summary.{summary_of}

-- ---- The table

-- how the mode is called
abbrev pub usage_line : Bytes
usage_line = codes "rehearse: expected SEED and COUNT" ++ newline ∷ []

-- that there is no memory
abbrev pub memory_line : Bytes
memory_line = codes "rehearse: want of memory" ++ newline ∷ []

-- what a rehearsal comes to, unless a stream fails
pub data Ending : Type 0 where
  -- it is summed up
  sums_up : Rehearsal → Ending
  -- the words aren't of its form, and how it is called is told
  tells_use : Ending
  -- there is no memory, for this rehearsal or to tell how it is called
  lacks_memory : Rehearsal → Ending
  lacks_memory_for_use : Ending

-- the words ask for no rehearsal
abbrev pub AsksForNone : List Word → Type 0
AsksForNone words = (asked : Rehearsal) → AsksFor words asked → ⊥

-- to which words it comes
abbrev pub ComesTo : List Word → Ending → Type 0
ComesTo words (sums_up asked) = AsksFor words asked
ComesTo words tells_use = AsksForNone words
ComesTo words (lacks_memory asked) = AsksFor words asked
ComesTo words lacks_memory_for_use = AsksForNone words

-- its status
abbrev pub ending_status : Ending → ℕ
ending_status (sums_up asked) = 0
ending_status tells_use = 2
ending_status (lacks_memory asked) = 100
ending_status lacks_memory_for_use = 100

-- what the output stream gets: the summary, or nothing
abbrev pub out_text : Ending → Bytes
out_text (sums_up asked) = summary_of asked
out_text tells_use = []
out_text (lacks_memory asked) = summary_of asked
out_text lacks_memory_for_use = []

-- what the error stream gets: how the mode is called, that there is no memory, or nothing
abbrev pub err_text : Ending → Bytes
err_text (sums_up asked) = []
err_text tells_use = usage_line
err_text (lacks_memory asked) = memory_line
err_text lacks_memory_for_use = usage_line

-- ---- What the streams get

-- each got its text whole
pub record GetWhole (ending : Ending) (was holds : Streams) : Type 0 where
  pub out : WhereBytesTold was.out holds.out (λ before now. now ≡ before ++ out_text ending)
  pub err : WhereBytesTold was.err holds.err (λ before now. now ≡ before ++ err_text ending)

-- each got a front of its text
pub record GetFronts (ending : Ending) (was holds : Streams) : Type 0 where
  pub out : WhereBytesTold was.out holds.out (HoldsFront (out_text ending))
  pub err : WhereBytesTold was.err holds.err (HoldsFront (err_text ending))

-- without memory fronts came, and else all
abbrev pub Get : Ending → Streams → Streams → Type 0
Get (sums_up asked) was holds = GetWhole (sums_up asked) was holds
Get tells_use was holds = GetWhole tells_use was holds
Get ending was holds = GetFronts ending was holds

-- one of the streams failed, and that one had a text to take
abbrev pub OneFails : Ending → Streams → Streams → Type 0
OneFails ending was holds = FailsAt (out_text ending) was.out_faults holds.out_faults
    ⊎ FailsAt (err_text ending) was.err_faults holds.err_faults

-- the status where a stream fails
abbrev pub failed_status : ℕ
failed_status = 102

-- it ends with its status; or a stream failed, and fronts of its texts came
abbrev pub EndsAs : Ending → Streams → Streams → ℕ → Type 0
EndsAs ending was holds status = ((status ≡ ending_status ending) × Get ending was holds)
    ⊎ ((status ≡ failed_status) × GetFronts ending was holds × OneFails ending was holds)

-- the words come to an ending, and so it ends
pub record Ends (words : List Word) (was holds : Streams) (status : ℕ) : Type 0 where
  pub ending : Ending
  pub comes : ComesTo words ending
  pub ends : EndsAs ending was holds status

-- ---- One line

-- the status after a line was put, where this one is due
abbrev pub status_after : Result (Unit {0}) SinkFault → ℕ → ℕ
status_after (Ok unit) due = due
status_after (Err Failed) due = failed_status
status_after (Err Memory) due = 100

-- the line was put, and the status is what that left of the one that was due
pub record PutsLine (line : Bytes) (due : ℕ) (before now : SinkMoment) (status : ℕ) : Type 0 where
  pub put : Result (Unit {0}) SinkFault
  pub holds : WhereBytesTold before.holds now.holds (Puts line put)
  pub faults : CountsFailure Failed before.faults now.faults put
  pub left : status ≡ status_after put due
