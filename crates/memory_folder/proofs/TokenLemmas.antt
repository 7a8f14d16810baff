-- Lists of tokens, and the sessions that run after a begin.
use Rattle.std.proofs.Common.{◌≡◌, ℕ, zero, suc, ◌<◌, Bool, true, false, not, ◌||◌, ◌&&◌, List, [], ◌∷◌, ◌++◌, length, take, drop, get_or, refl, sym, ◌∙◌, ap, subst, inl, inr, arith}
use Rattle.std.specs.Prelude.{bytes_eq}
use Rattle.std.specs.List.{filter}
use Rattle.std.proofs.lemmas.Bool.{cases_Bool}
use Rattle.acct_outside.specs.Tokens.{Token}
use Rattle.acct_outside.specs.Calls.{Command, begins, done}
use Rattle.acct_outside.specs.History.{History, own_events}
use Rattle.acct_outside.proofs.TokenLemmas.{bytes_eq-self, bytes_eq-true, unbegun-without}
use Rattle.acct_outside.specs.Life.{unbegun, life, is_running}
use Rattle.memory_folder.specs.Events.{has_token}

-- a token that isn't one isn't it the other way round either
pub bytes_eq-other : (a b : List ℕ) → bytes_eq a b ≡ false → bytes_eq b a ≡ false
bytes_eq-other a b other = elim (cases_Bool (bytes_eq b a)) [
  | inl hit ↦ absurd (
      let back : bytes_eq a b ≡ true =
      subst (λ (x : List ℕ). bytes_eq x b ≡ true) (bytes_eq-true b a hit) (bytes_eq-self b) in
      cc (back, other))
  | inr miss ↦ miss
]

-- one of two that isn't the first is the second
either_not : (e h : Bool) → (e || h) && not e ≡ h && not e
either_not true true = refl
either_not true false = refl
either_not false true = refl
either_not false false = refl

-- no test and a second pass both
and_false : (h : Bool) → h && false ≡ false
and_false true = refl
and_false false = refl

-- nor does one that fails, as the other of two
or_false : (h : Bool) → h || false ≡ h
or_false true = refl
or_false false = refl

-- one of two passes, where the second does
pub or_true : (h : Bool) → h || true ≡ true
or_true true = refl
or_true false = refl

module _ (token other : Token) where
  -- without a token stand those that aren't it
  pub without :
      (tokens : List Token)
      → has_token other (filter (λ x. not (bytes_eq x token)) tokens)
      ≡ has_token other tokens && not (bytes_eq token other)
  without [] = refl
  without (x ∷ tokens) = elim (cases_Bool (bytes_eq x token)) [
    | inl hit ↦
        rw hit (without tokens ∙ sym (either_not (bytes_eq token other) (has_token other tokens))
        ∙ ap
        (λ (t : Token). (bytes_eq t other || has_token other tokens) && not (bytes_eq token other))
        (sym (bytes_eq-true x token hit)))
    | inr miss ↦ rw miss (elim (cases_Bool (bytes_eq x other)) [
      | inl here ↦
          let apart : bytes_eq token other ≡ false =
          subst (λ (t : Token). bytes_eq token t ≡ false)
          (bytes_eq-true x other here) (bytes_eq-other x token miss) in
          rw (here, apart) refl
      | inr not_here ↦ rw not_here (without tokens)
    ])
  ]

  -- without one that isn't the other
  others_stay :
      bytes_eq token other ≡ false
      → (tokens : List Token) (place : ℕ)
      → place < length tokens
      → bytes_eq (get_or tokens place token) token ≡ true
      → has_token other (take place tokens ++ drop (suc place) tokens) ≡ has_token other tokens
  others_stay apart [] place low at = absurd (omega arith)
  others_stay apart (x ∷ tokens) zero low at =
      let far : bytes_eq x other ≡ false =
      subst (λ (t : Token). bytes_eq t other ≡ false) (sym (bytes_eq-true x token at)) apart in
      sym (ap (λ (b : Bool). b || has_token other tokens) far)
  others_stay apart (x ∷ tokens) (suc place) low at =
      ap (λ (b : Bool). bytes_eq x other || b) (others_stay apart tokens place (omega arith) at)

  -- the tokens after one was taken out with all that are the same
  pub taken-out :
      (tokens : List Token) (place : ℕ)
      → place < length tokens
      → bytes_eq (get_or tokens place token) token ≡ true
      → has_token other
      (filter (λ x. not (bytes_eq x token)) (take place tokens ++ drop (suc place) tokens))
      ≡ has_token other tokens && not (bytes_eq token other)
  taken-out tokens place low at =
      let left = take place tokens ++ drop (suc place) tokens in
      without left ∙ elim (cases_Bool (bytes_eq token other)) [
        | inl same ↦
            rw same (and_false (has_token other left) ∙ sym (and_false (has_token other tokens)))
        | inr apart ↦
            ap (λ (b : Bool). b && not (bytes_eq token other))
            (others_stay apart tokens place low at)
      ]

-- one token more stands beside the others
pub has_token-push :
    (tokens : List Token) (token other : Token)
    → has_token other (tokens ++ token ∷ []) ≡ has_token other tokens || bytes_eq token other
has_token-push [] token other = or_false (bytes_eq token other)
has_token-push (x ∷ tokens) token other = elim (cases_Bool (bytes_eq x other)) [
  | inl here ↦ rw here refl
  | inr not_here ↦ rw not_here (has_token-push tokens token other)
]

-- the sessions that run after a begin
pub begin-runs :
    (token : Token) (command : Command) (history : History)
    → own_events token history ≡ []
    → (other : Token)
    → is_running other
    (record { token = token; call = begins command; result = done tt } ∷ history)
    ≡ is_running other history || bytes_eq token other
begin-runs token command history none other = elim (cases_Bool (bytes_eq token other)) [
  | inl same ↦
      let at : life other history ≡ unbegun =
      subst (λ (t : Token). life t history ≡ unbegun)
      (bytes_eq-true token other same) (unbegun-without token history none) in
      rw (same, at) refl
  | inr apart ↦ rw apart (sym (or_false (is_running other history)))
]
