use Rattle.std.proofs.Common.{◌≡◌, ◌∙◌, not, refl, rules, sym, true, ap}
use Rattle.std.specs.Prelude.{Option, Some, None, is_none, is_some, option_and_then, if◌then◌else◌}
use Rattle.acct_text.specs.Numbers.{is_digits}
use Rattle.account_model.specs.Format.{find_named}
use Rattle.account_model.specs.GivenGroups.{find_gid, find_group}
use Rattle.account_model.specs.Records.{group_format, read_id}
use Rattle.account_model.specs.Tables.{group_records}
use Rattle.account_model.specs.declared.records.GroupRecord.{GroupRecord}
use Rattle.carried_tables.proofs.KeptIdLemmas.{used-found}
use Rattle.table_edits.proofs.given_groups.is_unknown.Goals as goal

-- what isn't there is none
absent : {X : Type 0} (found : Option X) → not (is_some found) ≡ is_none found
absent None = refl
absent (Some x) = refl

-- a GID names no group where it isn't used
pub returns-in_ok-is_gid_used-in-Some : goal.returns-in_ok-is_gid_used-in-Some
returns-in_ok-is_gid_used-in-Some c =
    let word = c.args.word.now in
    let gid = c.in-Some.gid in
    let groups = group_records c.args.tables.now in
    let digits : is_digits word ≡ true = search rules in
    let read : read_id word ≡ Some gid = sym c.read_id.ensures ∙ c.in-Some.is in
    let by_gid = option_and_then (λ gid. find_gid gid groups) in
    let same : find_group word groups ≡ find_gid gid groups =
    ap (λ is. if is then by_gid (read_id word) else find_named group_format word groups) digits
    ∙ ap by_gid read in
    ap not (c.in_ok-is_gid_used-in-Some.ensures {u = tt}
    ∙ sym (used-found (λ (group : GroupRecord). group.gid) gid groups))
    ∙ absent (find_gid gid groups)
    ∙ ap is_none (sym same)
