use Rattle.std.proofs.Common.{◌∙◌, sym}
use Rattle.subid_ranges.proofs.PlacedRanges.{other-owned}
use Rattle.subid_ranges.proofs.owned.owned_in.Goals as goal

pub returns-then-not-is_owner : goal.returns-then-not-is_owner
returns-then-not-is_owner c =
    other-owned c.args.owner.now c.args.uid c.args.line.now
    (λ r owner. sym (c.is_owner.ensures r (owner ∙ sym c.first_field.ensures))
    ∙ c.if-not-is_owner.true)
