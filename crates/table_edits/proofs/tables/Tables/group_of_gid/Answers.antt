use Rattle.std.proofs.Common.{◌≡◌, ◌∙◌, false, Option, Some, None, ap, refl}
use Rattle.std.specs.Prelude.{is_some}
use Rattle.acct_text.specs.declared.files.Files.{Files}
use Rattle.account_model.specs.Records.{group_format}
use Rattle.account_model.specs.Tables.{table_records}
use Rattle.account_model.specs.declared.records.GroupRecord.{GroupRecord}
use Rattle.account_model.specs.GivenGroups.{find_gid}
use Rattle.carried_tables.proofs.KeptIdLemmas.{used-found}
use Rattle.table_edits.proofs.tables.Tables.group_of_gid.Goals as goal

-- what isn't there is nothing
is-none : {X : Type 0} (found : Option X) → is_some found ≡ false → None ≡ found
is-none None none = refl
is-none (Some x) none = absurd cc

-- of a GID that isn't used no group is found
pub returns-then-lacks : goal.returns-then-lacks
returns-then-lacks c =
    let gid = c.args.gid in
    let groups = table_records group_format c.group.result.now in
    is-none (find_gid gid groups)
    (used-found (λ (group : GroupRecord). group.gid) gid groups ∙ c.lacks.ensures c.if-lacks.true)
    ∙ ap (λ file. find_gid gid (table_records group_format file))
    (c.group.ensures ∙ ap (λ (files : Files). files.group) c.self.view_is)
