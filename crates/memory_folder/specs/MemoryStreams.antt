-- What streams and a clock in memory tell, and which of their calls fail.
use Rattle.std.specs.Prelude.{ℕ, List, Option, Some, drop, Contains}
use Rattle.acct_text.specs.Bytes.{Bytes}
use Rattle.memory_folder.specs.declared.failing.Failing.{Failing}
use Rattle.memory_folder.specs.declared.memory_streams.MemorySource.{MemorySource}
use Rattle.memory_folder.specs.declared.memory_streams.MemorySink.{MemorySink}
use Rattle.memory_folder.specs.declared.memory_streams.MemoryClock.{MemoryClock}
use Rattle.acct_outside.specs.Faults.{Faults, next_count}
use Rattle.acct_outside.specs.Streams.{ClockMoment, SinkMoment, SourceMoment}

-- the numbers of the calls that fail, and how many calls came
pub record Calls : Type 0 where
  pub failing : List ℕ
  pub count : ℕ

-- no call came yet
abbrev pub no_calls : List ℕ → Calls
no_calls failing = record { failing = failing; count = 0 }

-- one call more
abbrev pub with_next : Calls → Calls
with_next calls = record { failing = calls.failing; count = next_count calls.count }

-- the next call is one of those that fail
abbrev pub Fails : Calls → Type 0
Fails calls = Contains calls.failing (next_count calls.count)

-- the calls that a list of failing ones has counted
abbrev pub calls_in : Failing → Calls
calls_in failing = record { failing = failing.failing.items; count = failing.calls }

-- what the source has left
abbrev pub left_of : MemorySource → Bytes
left_of source = drop source.taken source.text

-- what the sink holds
abbrev pub held_of : MemorySink → Bytes
held_of sink = sink.held

-- the day that each call of the clock gives
abbrev pub clock_day : MemoryClock → ℕ
clock_day clock = clock.day

-- the day that the clock last gave
abbrev pub given_of : MemoryClock → Option ℕ
given_of clock = clock.gave

-- the calls of the source
abbrev pub source_calls : MemorySource → Calls
source_calls source = calls_in source.failing

-- the calls of the sink
abbrev pub sink_calls : MemorySink → Calls
sink_calls sink = calls_in sink.failing

-- the calls of the clock
abbrev pub clock_calls : MemoryClock → Calls
clock_calls clock = calls_in clock.failing

-- the faults that a list of failing calls has counted
abbrev pub faults_in : Failing → Faults
faults_in failing = record { count = failing.faults; last_failed = failing.last_failed }

-- the faults of the source
abbrev pub source_faults : MemorySource → Faults
source_faults source = faults_in source.failing

-- how often the sink has failed
abbrev pub sink_faults : MemorySink → ℕ
sink_faults sink = sink.failing.faults

-- the faults of the clock
abbrev pub clock_faults : MemoryClock → Faults
clock_faults clock = faults_in clock.failing

-- what the source tells of itself
abbrev pub source_moment : MemorySource → SourceMoment
source_moment source = record { left = Some (left_of source); faults = source_faults source }

-- what the sink tells of itself
abbrev pub sink_moment : MemorySink → SinkMoment
sink_moment sink = record { holds = Some (held_of sink); faults = sink_faults sink }

-- what the clock tells of itself
abbrev pub clock_moment : MemoryClock → ClockMoment
clock_moment clock = record {
  gave = given_of clock;
  always = Some (clock_day clock);
  faults = clock_faults clock;
}
