use Rattle.std.proofs.Common.{◌∙◌, List, not, ap, sym, arith}
use Rattle.std.specs.Prelude.{bytes_eq}
use Rattle.std.specs.List.{filter}
use Rattle.std.proofs.lemmas.List.{get_or_default}
use Rattle.acct_outside.specs.Tokens.{Token}
use Rattle.memory_folder.specs.Events.{has_token}
use Rattle.acct_outside.proofs.TokenLemmas.{bytes_eq-true}
use Rattle.memory_folder.proofs.TokenLemmas.{taken-out, without}
use Rattle.memory_folder.proofs.tokens.take_token.Goals as goal

pub returns-clause-value : goal.returns-clause-value
returns-clause-value c =
    let tokens = c.args.tokens.now.items in
    c.remove-taken.ensures.value
    ∙ get_or_default tokens c.place_of-place.result c.remove-taken.result c.args.token.now
    (omega (arith, c.args.tokens.now.ok.0, c.place_of-place.ensures.within))
    ∙ bytes_eq-true _ _ c.place_of-place.ensures.at

pub returns-clause-rest : goal.returns-clause-rest
returns-clause-rest c = λ other.
    let token = c.args.token.now in
    let kept : List Token → List Token = filter (λ x. not (bytes_eq x token)) in
    c.drop_token.ensures.rest other
    ∙ sym (without token other c.remove-taken.new.self.items)
    ∙ ap (λ (tokens : List Token). has_token other (kept tokens)) c.remove-taken.ensures.items
    ∙ taken-out token other c.args.tokens.now.items c.place_of-place.result
    (omega (arith, c.args.tokens.now.ok.0, c.place_of-place.ensures.within))
    c.place_of-place.ensures.at
