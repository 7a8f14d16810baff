-- What the folder, the streams and the clock of a system tell of themselves: how often they failed, what
-- the folder was asked, and the day that was last given; neither a history nor bytes.
use Rattle.std.specs.Prelude.{ℕ, List, Option, None, is_some}
use Rattle.acct_outside.specs.Faults.{Faults}
use Rattle.acct_outside.specs.Journal.{Entry}
use Rattle.acct_outside.specs.Moment.{Moment}
use Rattle.acct_outside.specs.Streams.{ClockMoment, SinkMoment, SourceMoment}
use Rattle.real_folder.specs.declared.faults.Faults.{Faults as Noted}

-- a folder that has failed so often, and was asked this
abbrev pub untold : ℕ → List Entry → Moment
untold faults journal = record {
  admits = λ history event. ⊥;
  told = None;
  faults = faults;
  journal = journal;
}

-- the count of the faults that were noted; the last call failed where its error is kept
abbrev pub noted_faults : Noted → Faults
noted_faults noted = record { count = noted.count; last_failed = is_some noted.last }

-- a source with these faults
abbrev pub untold_source : Noted → SourceMoment
untold_source noted = record { left = None; faults = noted_faults noted }

-- a sink that has failed so often
abbrev pub untold_sink : ℕ → SinkMoment
untold_sink faults = record { holds = None; faults = faults }

-- a clock that last gave this day, if any, with these faults
abbrev pub untold_clock : Option ℕ → Noted → ClockMoment
untold_clock gave noted = record { gave = gave; always = None; faults = noted_faults noted }
