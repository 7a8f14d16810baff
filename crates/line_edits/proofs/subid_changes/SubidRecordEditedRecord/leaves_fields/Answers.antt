use Rattle.std.proofs.Common.{[], ◌∷◌, ap, sym, ◌∙◌, if◌then◌else◌}
use Rattle.account_model.specs.SubidOwner.{is_owned, left_without}
use Rattle.account_model.proofs.NamingLaws.{subid-names_first}
use Rattle.line_edits.specs.SubidChanges.{subid_becomes}
use Rattle.line_edits.specs.declared.subid_changes.SubidChange.TheVariants.{Remove}
use Rattle.line_edits.proofs.LeftLemmas.{isn't}
use Rattle.line_edits.proofs.subid_changes.SubidRecordEditedRecord.leaves_fields.Goals as goal

pub returns-in-Remove : goal.returns-in-Remove
returns-in-Remove c = λ no r read.
    let owner = sym (c.first_field.ensures ∙ subid-names_first c.args.line.now r read) in
    let other = sym (c.is_owner.ensures r owner) ∙ isn't c.is_owner.result no in
    ap (λ change. subid_becomes change r) c.in-Remove.is
    ∙ ap (λ user. subid_becomes (Remove user c.in-Remove.uid) r) (sym c.as_slice.ensures)
    ∙ ap (λ owned. if owned then [] else r ∷ []) other

pub returns-in-Cut : goal.returns-in-Cut
returns-in-Cut c = λ no r read.
    let cut = c.in-Cut.cut in
    let owner = sym (c.first_field-in-Cut.ensures ∙ subid-names_first c.args.line.now r read) in
    let other = sym (c.is_owner-in-Cut.ensures r owner) ∙ isn't c.is_owner-in-Cut.result no in
    ap (λ change. subid_becomes change r) c.in-Cut.is
    ∙ ap (λ user. if is_owned user cut.uid r then left_without cut.first cut.last r else r ∷ [])
    (sym c.as_slice-in-Cut.ensures)
    ∙ ap (λ owned. if owned then left_without cut.first cut.last r else r ∷ []) other
