use Rattle.std.proofs.Common.{◌∙◌, [], ◌∷◌, sym, ap}
use Rattle.std.proofs.lemmas.Result.{IfOk-weaker}
use Rattle.acct_text.specs.Lines.{file_bytes, lines_of}
use Rattle.account_model.specs.Action.{multiple_in}
use Rattle.account_model.specs.Edits.{edited_by}
use Rattle.account_model.specs.Hashes.{elsewhere}
use Rattle.account_model.specs.Conversion.{hidden}
use Rattle.account_model.specs.Tables.{table_records}
use Rattle.account_model.specs.Text.{first_some}
use Rattle.check_reports.specs.Converted.{accounts_of}
use Rattle.check_reports.specs.Gathered.{made_edits}
use Rattle.check_reports.proofs.ChangeLemmas.{found-named, table-walked}
use Rattle.check_reports.proofs.DecisionLemmas.{multiple-decides}
use Rattle.check_reports.proofs.GatheredLemmas.{gathered-after, gathered-multiple, gathered-walked, gathered-written}
use Rattle.check_reports.proofs.pwconv.gathered.Goals as goal

pub returns-in-Some : goal.returns-in-Some
returns-in-Some g c =
    let main = g.M.TableRecord.format in
    let format = g.H.TableRecord.format in
    let pair = c.args.pair.now in
    let accounts = accounts_of main format g.P.AccountLine.secret g.P.AccountLine.with_secret
    g.L.AccountLine.secret in
    let take = g.T.Taking.take c.args.taking.now in
    let make = g.T.Making.make c.args.taking.now in
    let mains = table_records main pair.main.now in
    let fields = c.in_ok-main.main.secrets in
    let multiple = gathered-multiple accounts fields take make mains
    (λ name. found-named main g.P.AccountLine.secret mains fields name c.in_ok-main.ensures.secrets)
    g.met.H.TableRecord.is_line_format.same pair.hashes_tab (table_records format pair.hashes.now)
    in
    IfOk-weaker c.refuse.result _ _
    (λ decision is files script converts.
    multiple-decides c.args.tool script files decision c.in-Some.refusal
    (converts.multiple
    ∙ ap (λ found. first_some
    (multiple_in pair.main_tab main (hidden accounts) mains ∷ found ∷ [])) multiple
    ∙ sym c.in_ok-met.ensures ∙ c.in-Some.is) is)
    c.refuse.ensures

pub returns : goal.returns
returns g c =
    let main = g.M.TableRecord.format in
    let format = g.H.TableRecord.format in
    let pair = c.args.pair.now in
    let accounts = accounts_of main format g.P.AccountLine.secret g.P.AccountLine.with_secret
    g.L.AccountLine.secret in
    let take = g.T.Taking.take c.args.taking.now in
    let make = g.T.Making.make c.args.taking.now in
    let mains = table_records main pair.main.now in
    let fields = c.in_ok-main.main.secrets in
    let multiple = gathered-multiple accounts fields take make mains
    (λ name. found-named main g.P.AccountLine.secret mains fields name c.in_ok-main.ensures.secrets)
    g.met.H.TableRecord.is_line_format.same pair.hashes_tab (table_records format pair.hashes.now)
    in
    let after = gathered-after accounts fields take make mains
    (λ name. found-named main g.P.AccountLine.secret mains fields name c.in_ok-main.ensures.secrets)
    g.met.H.TableRecord.is_line_format.same pair.hashes.now in
    let written = gathered-written accounts fields take make mains
    (λ name. found-named main g.P.AccountLine.secret mains fields name c.in_ok-main.ensures.secrets)
    c.requires in
    IfOk-weaker c.decided.result _ _
    (λ decision decides files script converts.
    decides c.args.tool script files converts.of_files
    (converts.multiple
    ∙ ap (λ found. first_some
    (multiple_in pair.main_tab main (hidden accounts) mains ∷ found ∷ [])) multiple
    ∙ sym c.in_ok-met.ensures ∙ c.in_default.is)
    (converts.main ∙ table-walked main (λ m. g.P.AccountLine.with_secret elsewhere m ∷ [])
    pair.main.now _ (c.into_text.ensures ∙ c.in_ok-main.ensures.text) ∙ sym c.file_with-new_main.ensures)
    (converts.hashes ∙ after
    ∙ gathered-walked format fields take make mains g.met.T.Making.is_making.no_blank written
    pair.hashes.now c.in_ok-hashes.hashes.text c.in_ok-grown.grown c.in_ok-hashes.ensures.text
    (c.in_ok-grown.ensures
    ∙ ap (λ text. file_bytes (edited_by format (made_edits make mains) (lines_of text)))
    c.as_slice-kept.ensures)
    ∙ sym c.file_with-new_hashes.ensures) converts.others)
    c.decided.ensures
