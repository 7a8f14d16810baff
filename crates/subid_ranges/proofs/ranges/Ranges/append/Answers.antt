use Rattle.std.proofs.Common.{◌≡◌, ◌∙◌, ap, arith}
use Rattle.acct_text.specs.Lines.{file_bytes, lines_of}
use Rattle.account_model.specs.Edits.{with_line}
use Rattle.account_model.specs.Records.{subid_format}
use Rattle.subid_ranges.specs.RangeLines.{new_range, with_range}
use Rattle.subid_ranges.proofs.FileLines.{range-found}
use Rattle.subid_ranges.proofs.TellLemmas.{range-takes}
use Rattle.subid_ranges.proofs.ranges.Ranges.append.Goals as goal

pub returns-clause-appended : goal.returns-clause-appended
returns-clause-appended c =
    let owner = c.args.owner.now in
    let text = c.self.inside.text in
    let new = c.append_line.new.text in
    let is : new ≡ file_bytes (with_range owner c.args.first c.args.count (lines_of text)) =
    c.in_ok-append_line.ensures.appended
    ∙ ap (λ line. file_bytes (with_line line (lines_of text)))
    (c.as_slice.ensures ∙ c.in_ok-line.ensures
    ∙ ap (λ name. subid_format.print (new_range name c.args.first c.args.count)) c.in_ok-owner.ensures)
    in range-found owner c.args.first c.args.count text new c.requires is
    ∙ ap (with_range owner c.args.first c.args.count) c.self.view_is

pub invariant_of-self-2 : goal.invariant_of-self-2
invariant_of-self-2 c =
    let owner = c.args.owner.now in
    let text = c.self.inside.text in
    let new = c.append_line.new.text in
    let is : new ≡ file_bytes (with_range owner c.args.first c.args.count (lines_of text)) =
    c.in_ok-append_line.ensures.appended
    ∙ ap (λ line. file_bytes (with_line line (lines_of text)))
    (c.as_slice.ensures ∙ c.in_ok-line.ensures
    ∙ ap (λ name. subid_format.print (new_range name c.args.first c.args.count)) c.in_ok-owner.ensures)
    in range-takes owner c.args.first c.args.count _ text new c.self.inside.taken c.settle.new.self
    c.put.new.self c.self.invariant c.requires (omega (arith, c.requires.some))
    c.in_ok-settle.ensures.same is c.put.ensures
