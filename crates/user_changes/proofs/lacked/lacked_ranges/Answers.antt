use Rattle.std.proofs.Common.{◌∙◌, ◌+◌, ◌-◌, ◌∷◌, [], map, sym, ap, arith}
use Rattle.std.proofs.lemmas.List.{map-append}
use Rattle.account_model.specs.UsermodRanges.{has_range, new_ranges}
use Rattle.command_values.specs.Ranges.{ids_named}
use Rattle.subid_ranges.specs.RangeLines.{owner_of as range_owner, with_range}
use Rattle.user_changes.specs.Ranges.{owner_in}
use Rattle.user_changes.proofs.LackedLemmas.{held-on, lacked-on}
use Rattle.user_changes.proofs.lacked.lacked_ranges.Goals as goal

pub loop-ids-preserved-then-has_range : goal.loop-ids-preserved-then-has_range
loop-ids-preserved-then-has_range c =
    let ranges = c.args.ranges.now in
    let owner = owner_in ranges in
    let items = c.deref-ids-items.result.now in
    let ids = c.ids-item.result in
    let lines = c.loop-ids.lines in
    held-on owner items c.loop-ids.ids-index ids lines (map ids_named c.loop-ids.lacked.items)
    (new_ranges owner (map ids_named items) c.in_ok-lines.lines) (omega arith) c.ids-item.is
    c.loop-ids.invariant
    (ap (λ name. has_range (range_owner name ranges.uid) (ids_named ids) lines)
    (sym c.as_slice-owner.ensures)
    ∙ sym c.has_range.ensures ∙ c.if-has_range.true)

pub loop-ids-preserved : goal.loop-ids-preserved
loop-ids-preserved c =
    let ranges = c.args.ranges.now in
    let owner = owner_in ranges in
    let items = c.deref-ids-items.result.now in
    let ids = c.ids-item.result in
    let lines = c.loop-ids.lines in
    let lacked = c.loop-ids.lacked.items in
    lacked-on owner items c.loop-ids.ids-index ids lines (map ids_named lacked)
    (new_ranges owner (map ids_named items) c.in_ok-lines.lines) (omega arith) c.ids-item.is
    c.loop-ids.invariant
    c.append.new.self (map ids_named c.push.new.self.items)
    (ap (λ name. has_range (range_owner name ranges.uid) (ids_named ids) lines)
    (sym c.as_slice-owner.ensures)
    ∙ sym c.has_range.ensures ∙ c.if-has_range.false)
    (c.in_ok-append.ensures.appended
    ∙ ap (λ name. with_range name ids.first (ids.last - ids.first + 1) lines)
    c.as_slice-owner.ensures)
    (ap (map ids_named) (c.in_ok-push.ensures {u = tt}).items
    ∙ map-append ids_named lacked (ids ∷ []))
