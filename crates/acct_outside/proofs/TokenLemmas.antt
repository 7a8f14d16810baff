-- Tokens that are one by the test of their bytes, and the life of a token without an event.
use Rattle.std.proofs.Common.{◌≡◌, ℕ, true, List, [], ◌∷◌, refl, sym, ◌∙◌, inl, inr}
use Rattle.std.specs.Prelude.{bytes_eq}
use Rattle.std.proofs.lemmas.Bool.{cases_Bool, cond-true, cond-false}
use Rattle.std.proofs.lemmas.Slice.Eq.{bytes_eq-Decides}
use Rattle.acct_outside.specs.Tokens.{Token}
use Rattle.acct_outside.specs.History.{History, is_of, own_events}
use Rattle.acct_outside.specs.Life.{unbegun, life}

-- texts that pass the test are one
pub bytes_eq-true : (a b : List ℕ) → bytes_eq a b ≡ true → a ≡ b
bytes_eq-true a b same = (bytes_eq-Decides a b).0 same

-- a text passes the test with itself
pub bytes_eq-self : (a : List ℕ) → bytes_eq a a ≡ true
bytes_eq-self a = (bytes_eq-Decides a a).1 refl

-- a session without an event has not begun
pub unbegun-without :
    (token : Token) (history : History)
    → own_events token history ≡ []
    → life token history ≡ unbegun
unbegun-without token [] none = refl
unbegun-without token (e ∷ history) none =
    let later = own_events token history in
    elim (cases_Bool (is_of token e)) [
      | inl own ↦
          absurd (cc (none, cond-true {A = History} (is_of token e) (e ∷ later) later own))
      | inr other ↦
          cond-false _ _ _ other ∙ unbegun-without token history
          (sym (cond-false {A = History} (is_of token e) (e ∷ later) later other) ∙ none)
    ]
