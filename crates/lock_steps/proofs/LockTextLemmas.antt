-- Which text stands between `held ` and the newline (`named`).
use Rattle.std.proofs.Common.{◌≡◌, ◌≢◌, sym, ap, ◌∙◌, ℕ, List, ◌++◌, Option, Some, None, Bor, MatchOption, codes}
use Rattle.std.proofs.lemmas.List.{append_cancel_left}
use Rattle.acct_text.specs.Bytes.{Bytes}
use Rattle.acct_outside.specs.Tokens.{Token, held_text}

-- a text whose rest behind `held ` ends with a newline is held by what stands between
pub named : (text rest : Bytes) → text ≡ codes "held " ++ rest → (found : Option (Bor (List ℕ))) →
    MatchOption found ((front : List ℕ) → rest ≢ front ++ codes "\n")
    (λ part. rest ≡ part.now ++ codes "\n") →
    MatchOption found ((token : Token) → text ≢ held_text token)
    (λ part. text ≡ held_text part.now)
named text rest is None none = λ token held.
    none token (append_cancel_left (codes "held ") rest (token ++ codes "\n") (sym is ∙ held))
named text rest is (Some part) ends = is ∙ ap (λ (end : List ℕ). codes "held " ++ end) ends
