use Rattle.std.proofs.Common.{◌∙◌, length, sym, ap}
use Rattle.std.specs.Prelude.{◌||◌, is_some}
use Rattle.account_model.specs.Format.{has_named}
use Rattle.acct_tables.specs.NameIndex.{begins_before, told}
use Rattle.check_reports.proofs.GrownLemmas.{second-false}
use Rattle.check_reports.proofs.PlaceLemmas.{told-front}
use Rattle.check_reports.proofs.making.is_known.Goals as goal

pub returns-then-has_near : goal.returns-then-has_near
returns-then-has_near g c = λ before rest is grown.
    let main = g.M.TableRecord.format in
    let there = c.args.grown.now.there in
    let name = main.name (g.P.AccountLine.shown c.args.main.now) in
    let told-there = ap (λ name. is_some (told there name)) (sym c.name-name.ensures)
    ∙ sym c.has_near.ensures ∙ c.if-has_near.true in
    sym (grown.names name ∙ ap (λ b. b || has_named main name before) told-there)

pub returns : goal.returns
returns g c = λ before rest is grown.
    let main = g.M.TableRecord.format in
    let r = g.P.AccountLine.shown c.args.main.now in
    let there = c.args.grown.now.there in
    let order = c.args.order.now in
    let name = main.name r in
    let untold = ap (λ name. is_some (told there name)) (sym c.name-name.ensures)
    ∙ sym c.has_near.ensures ∙ c.if-has_near.false in
    c.has_before.ensures
    ∙ ap (λ place. begins_before place (told order.names c.name-name.result.now)) grown.counted
    ∙ ap (λ name. begins_before (length before) (told order.names name)) c.name-name.ensures
    ∙ told-front main before rest r order is
    ∙ sym (second-false (is_some (told there name)) (has_named main name before) untold)
    ∙ sym (grown.names name)
