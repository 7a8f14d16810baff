use Rattle.std.proofs.Common.{◌≡◌, ℕ, length, take, sym, subst, arith}
use Rattle.std.specs.List.{AllByRecursion}
use Rattle.carried_tables.specs.RangeRemovals.{KeepsApart}
use Rattle.line_edits.specs.SeenEdits.{seen_edit, seen_edits}
use Rattle.line_edits.specs.SubidChanges.{subid_becomes}
use Rattle.line_edits.proofs.EditLists.{seen-up_to}
use Rattle.carried_tables.proofs.RemovalLemmas.{keep-all}
use Rattle.carried_tables.proofs.range_edits.removals_of.Goals as goal

pub edits-preserved : goal.edits-preserved
edits-preserved c =
    let edits = c.args.edits.now in
    let index = c.edits.index in
    let edit = c.index-edits-index.result in
    let owner = c.as_slice-owner.result.now in
    let uid = c.args.cut.now.uid in
    subst (AllByRecursion (KeepsApart owner uid c.add.new.self))
    (sym (seen-up_to subid_becomes edits index edit (omega arith) c.index-edits-index.is))
    (keep-all owner uid c.edits.ids c.add.new.self c.in-Some.lost.first c.in-Some.lost.last
    (seen_edits subid_becomes (take index edits)) (seen_edit subid_becomes edit)
    c.in-Some.ensures c.in_ok-add.ensures.added c.edits.invariant)

pub returns-clause-kept : goal.returns-clause-kept
returns-clause-kept c =
    let edits = c.args.edits.now in
    let all : c.edits.index ≡ length edits = omega arith in
    subst (λ (count : ℕ). AllByRecursion
    (KeepsApart c.as_slice-owner.result.now c.args.cut.now.uid c.edits.ids)
    (seen_edits subid_becomes (take count edits)))
    all c.edits.invariant
