use Rattle.std.proofs.Common.{refl}
use Rattle.aging_commands.proofs.listing.aging_report.Goals as goal

-- line by line, from the last back to the first
pub returns : goal.returns
returns c = rw (
  c.in_ok-push_date.ensures,
  c.in_ok-push_days-4.ensures,
  c.in_ok-push_days-3.ensures,
  c.in_ok-push_days-2.ensures,
  c.in_ok-push_days.ensures,
  c.in_ok-push_expiry.ensures,
  c.in_ok-push_last_change.ensures,
  c.new-lines.ensures,
) refl
