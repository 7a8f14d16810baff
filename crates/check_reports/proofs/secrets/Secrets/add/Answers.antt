use Rattle.std.proofs.Common.{◌∙◌, ◌++◌, [], ◌∷◌, map, sym, ap}
use Rattle.std.proofs.lemmas.List.{map-append}
use Rattle.check_reports.proofs.PlaceLemmas.{order-placed}
use Rattle.check_reports.proofs.secrets.Secrets.add.Goals as goal

pub returns : goal.returns
returns g c = λ records has.
    let secret = g.L.AccountLine.secret in
    let r = g.L.AccountLine.shown c.args.account.now in
    record {
      order = order-placed g.R.TableRecord.format records r _ _ _ c.name.ensures has.order
          c.in_ok-add.ensures;
      texts = ap (map (λ text. text.now)) c.in_ok-push.ensures.items
          ∙ map-append (λ text. text.now) _ _
          ∙ ap (λ texts. texts ++ c.secret.result.now ∷ []) has.texts
          ∙ ap (λ text. map secret records ++ text ∷ []) c.secret.ensures
          ∙ sym (map-append secret records (r ∷ []));
    }
