use Rattle.std.proofs.Common.{◌≡◌, ◌∙◌, ap}
use Rattle.acct_text.specs.Lines.{file_bytes, lines_of}
use Rattle.subid_ranges.specs.RangeLines.{without_range}
use Rattle.subid_ranges.proofs.FileLines.{cut-found, cut-written}
use Rattle.subid_ranges.proofs.ranges.Ranges.take_away.Goals as goal

pub changed_text-requires : goal.changed_text-requires
changed_text-requires c = cut-written c.in_ok-of.field-0 c.args.uid c.args.first c.args.last

pub returns-clause-taken : goal.returns-clause-taken
returns-clause-taken c =
    let cut = c.args in
    let text = c.self.inside.text in
    let left = c.in_ok-left.left in
    let taken : left ≡ file_bytes (without_range c.in_ok-of.field-0 cut.uid cut.first cut.last
    (lines_of c.as_slice.result.now)) = c.in_ok-left.ensures {u = tt} in
    cut-found cut.owner.now cut.uid cut.first cut.last text left
    (taken
    ∙ ap (λ text. file_bytes
    (without_range c.in_ok-of.field-0 cut.uid cut.first cut.last (lines_of text))) c.as_slice.ensures
    ∙ ap (λ owner. file_bytes (without_range owner cut.uid cut.first cut.last (lines_of text)))
    (c.in_ok-of.ensures {u = tt}))
    ∙ ap (without_range cut.owner.now cut.uid cut.first cut.last) c.self.view_is
