use Rattle.std.proofs.Common.{◌∙◌, [], ◌∷◌, ap, sym}
use Rattle.account_model.specs.Records.{group_format}
use Rattle.account_model.specs.Text.{is_listed}
use Rattle.acct_lines.specs.Shown.{group_shown}
use Rattle.line_edits.specs.GroupChanges.{group_becomes}
use Rattle.line_edits.specs.declared.group_changes.GroupChange.TheVariants.{All}
use Rattle.line_edits.proofs.LeftLemmas.{isn't, leaves-shown, left-group}
use Rattle.line_edits.proofs.MarkLemmas.{left-unlisted-group}
use Rattle.line_edits.proofs.group_changes.GroupRecordEditedRecord.leaves_fields.Goals as goal

pub returns-in-RemoveMember : goal.returns-in-RemoveMember
returns-in-RemoveMember c = λ no.
    let group = group_shown c.in-All-Ok.group in
    let user = c.in-RemoveMember.user in
    leaves-shown group_format (group_becomes c.args.change.now) c.args.line.now group
    c.in-All-Ok.ensures
    (ap (λ change. group_becomes change group) (c.in-All-Ok.is-0 ∙ ap All c.in-RemoveMember.is)
    ∙ left-unlisted-group user group
    (ap (λ user. is_listed user group.members) (sym c.as_slice.ensures)
    ∙ sym c.lists.ensures ∙ isn't c.lists.result no))

pub returns-then-not-joins : goal.returns-then-not-joins
returns-then-not-joins c = λ no.
    let group = group_shown c.in-All-Ok.group in
    let membership = c.in-SetMembership.membership in
    leaves-shown group_format (group_becomes c.args.change.now) c.args.line.now group
    c.in-All-Ok.ensures
    (ap (λ change. group_becomes change group) (c.in-All-Ok.is-0 ∙ ap All c.in-SetMembership.is)
    ∙ ap (λ group. group ∷ [])
    (left-group membership group (sym c.joins.ensures ∙ c.if-not-joins.true)
    (ap (λ user. is_listed user group.members) (sym c.as_slice-then-not-joins.ensures)
    ∙ sym c.lists-then-not-joins.ensures ∙ isn't c.lists-then-not-joins.result no)))
