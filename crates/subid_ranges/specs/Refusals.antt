-- Which refusal each change of ranges has. It is answered exactly where there is one; want of
-- memory comes only where there is none (useradd(8), usermod(8)).
use Rattle.std.specs.Prelude.{◌≡◌, ℕ, List, Option, Some, None, Result, Ok, Err, is_none, option_map, if◌then◌else◌}
use Rattle.acct_text.specs.Lines.{Line}
use Rattle.account_model.specs.FreeRange.{free_range}
use Rattle.subid_ranges.specs.declared.fault.RangeFault.{RangeFault}
use Rattle.subid_ranges.specs.declared.fault.RangeFault.TheVariants.{NoGap, Overlap, BadRange, Memory}
use Rattle.subid_ranges.specs.RangeLines.{is_bad, meeting_line, ranges_of}

-- a change with this refusal, or none, answers so
abbrev pub AnswersRange : {X : Type 0} → Result X RangeFault → Option RangeFault → Type 0
AnswersRange (Ok done) refusal = refusal ≡ None
AnswersRange (Err Memory) refusal = refusal ≡ None
AnswersRange (Err fault) refusal = refusal ≡ Some fault

-- the refusal of IDs that are no range
abbrev pub bad_refusal : ℕ → ℕ → Option RangeFault
bad_refusal first last = if is_bad first last then Some BadRange else None

-- the refusal of a new range: it is none, or it meets a line
abbrev pub add_refusal : ℕ → ℕ → List Line → Option RangeFault
add_refusal first last lines =
    if is_bad first last then Some BadRange else option_map Overlap (meeting_line first last lines)

-- the refusal of so many IDs within bounds
abbrev pub gap_refusal : ℕ → ℕ → ℕ → List Line → Option RangeFault
gap_refusal low high count lines =
    if is_none (free_range low high count (ranges_of lines)) then Some NoGap else None
