use Rattle.std.proofs.Common.{◌∙◌, sym, ap}
use Rattle.acct_text.specs.Lines.{lines_of}
use Rattle.subid_ranges.specs.RangeLines.{meeting_line}
use Rattle.subid_ranges.proofs.LeastStart.{free-none}
use Rattle.subid_ranges.proofs.PlacedRanges.{meeting-free}
use Rattle.subid_ranges.proofs.ranges.Ranges.overlap.Goals as goal

pub returns-in_err-last_met : goal.returns-in_err-last_met
returns-in_err-last_met c =
    let first = c.args.first
    in let last = c.args.last
    in let lines = lines_of c.self.inside.text
    in let none = meeting-free first last lines
    (free-none lines c.self.inside.taken c.self.invariant first last c.requires
    c.in_err-last_met.ensures)
    in c.from_residual.ensures
    ∙ sym (ap (meeting_line first last) (sym c.self.view_is) ∙ none)
