use Rattle.std.proofs.Common.{◌∙◌, Some, ap, sym, subst}
use Rattle.std.specs.Prelude.{option_map}
use Rattle.std.proofs.lemmas.Bool.{leb-false}
use Rattle.std.proofs.lemmas.Result.{IfOk-weaker}
use Rattle.account_model.specs.Tables.{table_records}
use Rattle.carried_tables.specs.KeptIds.{AreIdsOf, counts_of}
use Rattle.carried_tables.proofs.KeptIdLemmas.{none-stays, one-swaps}
use Rattle.carried_tables.proofs.id_table.renumber.Goals as goal

-- no record has the name
pub returns-in_default : goal.returns-in_default
returns-in_default g c = λ told change renumbers are.
    let format = g.R.TableRecord.format in
    let id_of = g.R.NumberedRecord.id_of in
    let records = table_records format c.args.table.now in
    subst (λ ids. AreIdsOf c.args.ids.now (counts_of ids))
    (sym (none-stays format id_of change c.args.renumbering.name.now c.args.renumbering.new_id
    renumbers records (sym c.in_ok-found.ensures ∙ c.in_default.is))) are

-- one has it
pub returns : goal.returns
returns g c =
    let format = g.R.TableRecord.format in
    let id_of = g.R.NumberedRecord.id_of in
    let records = table_records format c.args.table.now in
    IfOk-weaker c.swap.result _ _ (λ is_known follow told change renumbers are.
    follow told _ _ are (λ id.
    one-swaps format id_of change c.args.renumbering.name.now c.args.renumbering.new_id renumbers
    records c.id.result id
    (ap (option_map id_of) (sym c.in_ok-found.ensures ∙ c.in-Some.is) ∙ ap Some (sym c.id.ensures))
    (leb-false 2 _ (sym (c.in_ok-has_several.ensures {u = tt}) ∙ c.if-branch.false))))
    c.swap.ensures
