use Rattle.std.proofs.Common.{◌≤◌, sym, subst}
use Rattle.account_model.specs.Records.{greatest_id}
use Rattle.account_model.proofs.SettingBounds.{subgid-maximum}
use Rattle.user_creation.proofs.ranges.gid_bounds.Goals as goal

pub returns-clause-small : goal.returns-clause-small
returns-clause-small c =
    let settings = c.requires.held.settings in
    subst (λ n. n ≤ greatest_id) (sym (c.id_number-2.ensures settings c.requires.held.held))
    (subgid-maximum settings)
