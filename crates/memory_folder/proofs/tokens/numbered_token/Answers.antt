use Rattle.std.proofs.Common.{◌∙◌, ◌++◌, ap, decimal, subst, sym}
use Rattle.acct_outside.specs.Tokens.{Token, IsToken}
use Rattle.memory_folder.proofs.NewTokenLemmas.{IsToken-numbered, match-none}
use Rattle.memory_folder.proofs.tokens.numbered_token.Goals as goal

pub unreachable-requires : goal.unreachable-requires
unreachable-requires c =
    match-none _ _ _ c.in_ok-token.ensures c.in-None.is
    (subst IsToken
    (sym (c.as_slice.ensures ∙ c.in_ok-push_decimal.ensures.ok
    ∙ ap (λ (text : Token). text ++ decimal c.args.number) c.in_ok-text.ensures))
    (IsToken-numbered c.args.number c.ranges.number.fits))
