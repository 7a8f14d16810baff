use Rattle.std.proofs.Common.{◌∙◌, true, [], ◌∷◌, sym, ap}
use Rattle.std.specs.Prelude.{if◌then◌else◌}
use Rattle.std.proofs.lemmas.Result.{IfOk-weaker}
use Rattle.account_model.specs.Conversion.{emptied}
use Rattle.account_model.specs.Tables.{table_after, table_records}
use Rattle.check_reports.specs.Converted.{pair_multiple}
use Rattle.check_reports.specs.Secrets.{shown_by}
use Rattle.check_reports.proofs.ChangeLemmas.{found-named, shown-edits, table-walked}
use Rattle.check_reports.proofs.DecisionLemmas.{multiple-decides}
use Rattle.check_reports.proofs.conversion.shown.Goals as goal

pub returns-in-Some : goal.returns-in-Some
returns-in-Some g c =
    let main = g.M.TableRecord.format in
    let format = g.H.TableRecord.format in
    let secret = g.L.AccountLine.secret in
    let pair = c.args.pair.now in
    let records = table_records format pair.hashes.now in
    let secrets = c.in_ok-hashes.hashes.secrets in
    let edits = shown-edits main format g.P.AccountLine.secret g.P.AccountLine.with_secret secret
    records secrets (λ m. found-named format secret records secrets (main.name m)
    c.in_ok-hashes.ensures.secrets) in
    IfOk-weaker c.refuse.result _ _
    (λ decision is files script converts.
    multiple-decides c.args.tool script files decision c.in-Some.refusal
    (converts.multiple ∙ ap (λ e. pair_multiple main format e emptied pair) edits
    ∙ sym c.in_ok-met.ensures ∙ c.in-Some.is) is)
    c.refuse.ensures

pub returns : goal.returns
returns g c =
    let main = g.M.TableRecord.format in
    let format = g.H.TableRecord.format in
    let secret = g.L.AccountLine.secret in
    let pair = c.args.pair.now in
    let records = table_records format pair.hashes.now in
    let secrets = c.in_ok-hashes.hashes.secrets in
    let with_secret = g.P.AccountLine.with_secret in
    let edits = shown-edits main format g.P.AccountLine.secret with_secret secret
    records secrets (λ m. found-named format secret records secrets (main.name m)
    c.in_ok-hashes.ensures.secrets) in
    IfOk-weaker c.decided.result _ _
    (λ decision decides files script converts.
    decides c.args.tool script files converts.of_files
    (converts.multiple ∙ ap (λ e. pair_multiple main format e emptied pair) edits
    ∙ sym c.in_ok-met.ensures ∙ c.in_default.is)
    (converts.main ∙ ap (λ e. table_after main e pair.main.now) edits
    ∙ table-walked main (λ m. shown_by main with_secret secrets m ∷ []) pair.main.now _
    (c.into_text.ensures ∙ c.in_ok-main.ensures.text) ∙ sym c.file_with-new_main.ensures)
    (converts.hashes ∙ table-walked format (λ h. if true then [] else h ∷ []) pair.hashes.now _
    (c.into_text-2.ensures ∙ c.in_ok-hashes.ensures.text) ∙ sym c.file_with-new_hashes.ensures) converts.others)
    c.decided.ensures
