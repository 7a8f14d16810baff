use Rattle.std.proofs.Common.{◌∙◌, [], ◌∷◌, ap, sym}
use Rattle.std.specs.Prelude.{◌||◌}
use Rattle.account_model.specs.Records.{gshadow_format}
use Rattle.account_model.specs.Text.{is_listed}
use Rattle.acct_lines.specs.Shown.{gshadow_shown}
use Rattle.line_edits.specs.GshadowChanges.{gshadow_becomes}
use Rattle.line_edits.specs.declared.gshadow_changes.GshadowChange.TheVariants.{All}
use Rattle.line_edits.proofs.LeftLemmas.{isn't, leaves-shown, left-gshadow, neither}
use Rattle.line_edits.proofs.MarkLemmas.{left-unlisted-gshadow}
use Rattle.line_edits.proofs.gshadow_changes.GshadowRecordEditedRecord.leaves_fields.Goals as goal

pub returns-in-RemoveUser : goal.returns-in-RemoveUser
returns-in-RemoveUser c = λ no.
    let group = gshadow_shown c.in-All-Ok.group in
    let user = c.in-RemoveUser.user in
    let both = neither (is_listed user group.administrators) (is_listed user group.members)
    (ap (λ user. is_listed user group.administrators || is_listed user group.members)
    (sym c.as_slice.ensures) ∙ sym c.has_user.ensures ∙ isn't c.has_user.result no) in
    leaves-shown gshadow_format (gshadow_becomes c.args.change.now) c.args.line.now group
    c.in-All-Ok.ensures
    (ap (λ change. gshadow_becomes change group) (c.in-All-Ok.is-0 ∙ ap All c.in-RemoveUser.is)
    ∙ left-unlisted-gshadow user group both.0 both.1)

pub returns-then-not-joins : goal.returns-then-not-joins
returns-then-not-joins c = λ no.
    let group = gshadow_shown c.in-All-Ok.group in
    let membership = c.in-SetMembership.membership in
    let user = membership.user in
    let both = neither (is_listed user group.administrators) (is_listed user group.members)
    (ap (λ user. is_listed user group.administrators || is_listed user group.members)
    (sym c.as_slice-then-not-joins.ensures)
    ∙ sym c.has_user-then-not-joins.ensures ∙ isn't c.has_user-then-not-joins.result no) in
    leaves-shown gshadow_format (gshadow_becomes c.args.change.now) c.args.line.now group
    c.in-All-Ok.ensures
    (ap (λ change. gshadow_becomes change group) (c.in-All-Ok.is-0 ∙ ap All c.in-SetMembership.is)
    ∙ ap (λ group. group ∷ []) (left-gshadow membership group
    (sym c.joins.ensures ∙ c.if-not-joins.true) both.0 both.1))
