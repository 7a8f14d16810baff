use Rattle.std.proofs.Common.{◌∙◌, sym, ap}
use Rattle.acct_text.specs.Lines.{lines_of}
use Rattle.account_model.specs.UsermodRanges.{has_range}
use Rattle.subid_ranges.specs.RangeLines.{ids_from, owner_of}
use Rattle.subid_ranges.proofs.LeastStart.{free-none}
use Rattle.subid_ranges.proofs.PlacedRanges.{held-free}
use Rattle.subid_ranges.proofs.ranges.Ranges.has_range.Goals as goal

pub returns-in-None : goal.returns-in-None
returns-in-None c =
    let name = c.args.owner.now in
    let first = c.args.first in
    let last = c.args.last in
    let lines = lines_of c.self.inside.text in
    sym (ap (has_range (owner_of name c.args.uid) (ids_from first last)) (sym c.self.view_is)
    ∙ held-free name c.args.uid first last lines c.requires
    (free-none lines c.self.inside.taken c.self.invariant first last c.requires c.in-None.ensures))
