use Rattle.std.proofs.Common.{◌≡◌, ◌∙◌, [], ◌∷◌, ap}
use Rattle.std.specs.Option.{option_copied}
use Rattle.std.proofs.lemmas.Result.{IfOk-weaker}
use Rattle.account_model.specs.Edits.{Arrange}
use Rattle.account_model.specs.Tables.{table_after, table_records}
use Rattle.check_reports.specs.Sorted.{kept_place, place_in}
use Rattle.check_reports.proofs.PlaceLemmas.{place-or-count}
use Rattle.check_reports.proofs.sorting.sorted_like.Goals as goal

pub returns : goal.returns
returns g c =
    let main = g.M.TableRecord.format in
    let format = g.R.TableRecord.format in
    let records = table_records main c.args.main.now in
    let order = c.in_ok-order.order in
    let key_is :
    (λ r. kept_place order (format.name r)) ≡ place_in main records format =
    λ i r. place-or-count main records order (format.name r) c.in_ok-order.ensures i in
    IfOk-weaker c.sorted_file.result _ _
    (λ sorted is. is
    ∙ ap (λ key. table_after format (Arrange key ∷ []) (option_copied c.args.file)) key_is)
    c.sorted_file.ensures
