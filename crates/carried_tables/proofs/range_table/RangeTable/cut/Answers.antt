use Rattle.std.proofs.Common.{◌∙◌, [], ◌∷◌, ap, sym, subst}
use Rattle.std.specs.Prelude.{IfSome, None}
use Rattle.std.proofs.lemmas.Result.{on_ok_weaker}
use Rattle.account_model.specs.Edits.Edit.{Become}
use Rattle.account_model.specs.Records.{subid_format}
use Rattle.account_model.specs.Tables.{table_after}
use Rattle.line_edits.specs.SeenEdits.{records_in}
use Rattle.line_edits.specs.SubidChanges.{subid_becomes}
use Rattle.line_edits.specs.declared.subid_changes.SubidChange.TheVariants.{Remove}
use Rattle.carried_tables.specs.RangeNumbers.{AreNumbersIn}
use Rattle.carried_tables.proofs.CutLemmas.{cut-gone, cut-made, cut-put, edit-cut, found-only, left-owned, left-written, only-written, written-cut}
use Rattle.carried_tables.proofs.range_table.RangeTable.cut.Goals as goal

-- the range stands in a line
pub becoming-requires : goal.becoming-requires
becoming-requires c =
    let cut = c.args.cut.now in
    let range = c.in-Some.range in
    let file = c.self.inside.table in
    only-written cut range file (found-only cut range file c.in_ok-range.field-0 c.args.self.now
    c.self.view_is c.in-Some.is (c.in_ok-range.ensures {u = tt}))

-- what is left of it can be written
pub numbers_and-requires : goal.numbers_and-requires
numbers_and-requires c =
    let cut = c.args.cut.now in
    let range = c.in-Some.range in
    let file = c.self.inside.table in
    left-written cut range file (found-only cut range file c.in_ok-range.field-0 c.args.self.now
    c.self.view_is c.in-Some.is (c.in_ok-range.ensures {u = tt})) c.in-Changes.left
    (written-cut cut _ c.args.one.now c.requires.by c.requires.written)
    (ap (λ change. subid_becomes change range) (sym c.requires.by.cuts)
    ∙ sym (c.in_ok-left.ensures {u = tt}) ∙ ap (records_in range) c.in-Changes.is)

-- and with it the numbers of the others are followed
pub edit_lines-requires-in-Changes : goal.edit_lines-requires-in-Changes
edit_lines-requires-in-Changes c =
    let cut = c.args.cut.now in
    let range = c.in-Some.range in
    let file = c.self.inside.table in
    let is = found-only cut range file c.in_ok-range.field-0 c.args.self.now c.self.view_is
    c.in-Some.is (c.in_ok-range.ensures {u = tt}) in
    let written = written-cut cut _ c.args.one.now c.requires.by c.requires.written in
    let made = ap (λ change. subid_becomes change range) (sym c.requires.by.cuts)
    ∙ sym (c.in_ok-left.ensures {u = tt}) ∙ ap (records_in range) c.in-Changes.is in
    record {
      written = (left-written cut range file is c.in-Changes.left written made, tt);
      after = cut-made cut range file is c.in-Changes.left c.in_ok-others.others
          c.in_ok-after-in-Changes.after written made
          (left-owned cut range file is c.in-Changes.left made)
          (subst (λ owner. IfSome c.in_ok-others.others (AreNumbersIn (table_after subid_format
          (Become (subid_becomes (Remove owner None)) ∷ []) file))) c.as_slice.ensures
          (c.in_ok-others.ensures {u = tt}))
          (c.in_ok-after-in-Changes.ensures {u = tt});
    }

-- where nothing is left, they are those behind the removal
pub remove_lines-requires : goal.remove_lines-requires
remove_lines-requires c =
    subst (λ owner. IfSome c.in_ok-others.others (AreNumbersIn (table_after subid_format
    (Become (subid_becomes (Remove owner None)) ∷ []) c.self.inside.table)))
    (c.as_slice.ensures ∙ sym (c.in_ok-copy-in-Goes.ensures {u = tt}))
    (c.in_ok-others.ensures {u = tt})

-- the table is the one with what is left
pub returns-in_ok-after-in-Changes : goal.returns-in_ok-after-in-Changes
returns-in_ok-after-in-Changes c =
    let cut = c.args.cut.now in
    let range = c.in-Some.range in
    let file = c.self.inside.table in
    let is = found-only cut range file c.in_ok-range.field-0 c.args.self.now c.self.view_is
    c.in-Some.is (c.in_ok-range.ensures {u = tt}) in
    let made = ap (λ change. subid_becomes change range) (sym c.requires.by.cuts)
    ∙ sym (c.in_ok-left.ensures {u = tt}) ∙ ap (records_in range) c.in-Changes.is in
    on_ok_weaker c.edit_lines-in-Changes.result (λ put.
    put
    ∙ cut-put cut range file is c.in-Changes.left made
    (left-owned cut range file is c.in-Changes.left made)
    ∙ edit-cut cut c.args.change.now c.args.one.now c.requires.by file c.args.self.now
    c.self.view_is)
    c.edit_lines-in-Changes.ensures

-- or the one without the owner's ranges
pub returns-in_ok-copy-in-Goes : goal.returns-in_ok-copy-in-Goes
returns-in_ok-copy-in-Goes c =
    let cut = c.args.cut.now in
    let range = c.in-Some.range in
    let file = c.self.inside.table in
    let is = found-only cut range file c.in_ok-range.field-0 c.args.self.now c.self.view_is
    c.in-Some.is (c.in_ok-range.ensures {u = tt}) in
    let gone = ap (λ change. subid_becomes change range) (sym c.requires.by.cuts)
    ∙ sym (c.in_ok-left.ensures {u = tt}) ∙ ap (records_in range) c.in-Goes.is in
    on_ok_weaker c.remove_lines.result (λ removed.
    removed
    ∙ ap (λ owner. table_after subid_format (Become (subid_becomes (Remove owner None)) ∷ []) file)
    (c.in_ok-copy-in-Goes.ensures {u = tt})
    ∙ cut-gone cut range file is gone
    ∙ edit-cut cut c.args.change.now c.args.one.now c.requires.by file c.args.self.now
    c.self.view_is)
    c.remove_lines.ensures
