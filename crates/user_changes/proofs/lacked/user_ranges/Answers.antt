use Rattle.std.proofs.Common.{◌∙◌, sym, ap, subst}
use Rattle.acct_text.specs.Files.{table_of}
use Rattle.account_model.specs.UsermodRanges.{change_in}
use Rattle.account_model.specs.Written.{IsNameField}
use Rattle.user_changes.specs.Ranges.{owner_by, owner_in, range_table, ranges_asked}
use Rattle.user_changes.proofs.lacked.user_ranges.Goals as goal

pub leave_held-requires : goal.leave_held-requires
leave_held-requires c =
    let is = c.in_ok-ranges.ensures {u = tt} in
    subst IsNameField (sym (ap (λ owner. owner.new_name) is.owner)) c.requires.named

pub returns-clause-owner : goal.returns-clause-owner
returns-clause-owner c =
    let is = c.in_ok-ranges.ensures {u = tt} in
    c.in_ok-leave_held.ensures.owner ∙ is.owner ∙ ap (owner_by c.args.asked.now) c.requires.uid

pub returns-clause-change : goal.returns-clause-change
returns-clause-change c =
    let asked = c.args.asked.now in
    let change = ranges_asked c.args.sort asked in
    let is = c.in_ok-ranges.ensures {u = tt} in
    let file = table_of c.args.tables.now (range_table c.args.sort) in
    c.in_ok-leave_held.ensures.change
    ∙ ap (λ change. change_in file (owner_in c.in_ok-ranges.ranges) change) is.change
    ∙ ap (λ owner. change_in file owner change) is.owner
    ∙ ap (λ uid. change_in file (owner_by asked uid) change) c.requires.uid
