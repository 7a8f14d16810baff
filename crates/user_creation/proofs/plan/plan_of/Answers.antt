use Rattle.std.proofs.Common.{◌≡◌, ◌∙◌}
use Rattle.account_model.specs.Useradd.{new_uid}
use Rattle.user_creation.specs.Allotments.{uid_bounds_under, gid_bounds_under}
use Rattle.user_creation.proofs.RangeLemmas.{same-allotment}
use Rattle.user_creation.proofs.plan.plan_of.Goals as goal

pub returns : goal.returns
returns c = λ under has.
    let asked = c.args.asked.now in
    let tables = c.args.tables.now in
    let uid : c.in_ok-uid.uid ≡ new_uid asked tables under = c.in_ok-uid.ensures {u = tt} under has in
    let subuid = c.in_ok-allotment_of.ensures {u = tt}
    ∙ same-allotment asked c.in_ok-uid.uid (new_uid asked tables under)
    c.subuid_ranges.result.now tables.subuid c.uid_bounds.result (uid_bounds_under under) uid
    c.subuid_ranges.ensures (c.uid_bounds.ensures.given under has) in
    let subgid = c.in_ok-allotment_of-2.ensures {u = tt}
    ∙ same-allotment asked c.in_ok-uid.uid (new_uid asked tables under)
    c.subgid_ranges.result.now tables.subgid c.gid_bounds.result (gid_bounds_under under) uid
    c.subgid_ranges.ensures (c.gid_bounds.ensures.given under has) in
    λ i. record {
      own_group = c.makes_group.ensures under has i;
      uid = uid i;
      gid = c.in_ok-primary_gid.ensures {u = tt} under has uid i;
      subuid = subuid i;
      subgid = subgid i;
    }
