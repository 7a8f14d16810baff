-- The clock of a rehearsal: on each call it gives one day.
use Rattle.std.specs.Prelude.{if◌then◌else◌, Some, None}
use Rattle.acct_outside.specs.Faults.{no_faults}
use Rattle.acct_outside.specs.Streams.{ClockMoment}
use Rattle.rehearsal.specs.declared.clock.RehearsalClock.{RehearsalClock}
use Rattle.rehearsal.specs.Course.{rehearsal_day}

-- what the clock tells of itself: it gave its day, or it wasn't asked yet
abbrev pub clock_moment : RehearsalClock → ClockMoment
clock_moment clock = record {
  gave = if clock.asked then Some rehearsal_day else None;
  always = Some rehearsal_day;
  faults = no_faults;
}
