use Rattle.std.proofs.Common.{sym}
use Rattle.account_model.proofs.HeldLaws.{subid-holds}
use Rattle.acct_lines.specs.Shown.{subid_shown}
use Rattle.subid_ranges.proofs.ranges.holds_in.Goals as goal

pub end_of-requires : goal.end_of-requires
end_of-requires c =
    let range = subid_shown c.in-Some.range in
    let held = subid-holds.read c.args.line.now.text.now range c.requires (sym c.in-Some.ensures) in
    record { some = held.some; last = held.last }
