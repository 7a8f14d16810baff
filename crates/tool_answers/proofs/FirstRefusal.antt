-- Claim: of things that are tested one by one, the first that doesn't pass refuses
-- (`refused-first`), and one that passes leaves it to those behind it (`passed-first`). So it is
-- with the refusals of a tool in their order (`refuses-first`).
use Rattle.std.proofs.Common.{◌≡◌, Bool, List, ◌∷◌, refl, sym, subst, inl, inr}
use Rattle.std.specs.Prelude.{Option, Some, None, Result, Ok, Err, IsErrAnd, find, option_map}
use Rattle.std.proofs.lemmas.Bool.{cases_Bool}
use Rattle.account_model.specs.declared.refusal.Refusal.{Refusal}
use Rattle.account_model.specs.Refusals.{refuse_if}
use Rattle.account_model.specs.Text.{first_some}
use Rattle.tool_answers.specs.declared.tool_fault.ToolFault.{ToolFault}
use Rattle.tool_answers.specs.declared.tool_fault.ToolFault.TheVariants.{Refused, Memory}
use Rattle.tool_answers.specs.Refusing.{IsFaultOf, RefusesBy}

-- nothing is refused without a refusal
never : (fault : ToolFault) → IsFaultOf None fault → ⊥
never (Refused found) is = absurd cc
never Memory is = absurd cc

-- a fault that is handed on is the answer
pub handed-on :
    {X : Type 0} (refusal : Option Refusal) (result : Result X ToolFault) (fault : ToolFault)
    → IsErrAnd result (λ found. found ≡ fault)
    → IsFaultOf refusal fault
    → RefusesBy refusal result
handed-on refusal (Ok done) fault handed is = absurd handed
handed-on refusal (Err found) fault handed is = subst (IsFaultOf refusal) (sym handed) is

module _ {X : Type 0} (test : X → Bool) (refusal : X → Refusal) (x : X) (xs : List X) where
  -- what passes isn't the first that doesn't
  pub passed-first : refuse_if (test x) (refusal x) ≡ None → find test (x ∷ xs) ≡ find test xs
  passed-first passes = elim (cases_Bool (test x)) [
    | inl refused ↦ let wrong : Some (refusal x) ≡ None = rw refused at passes in absurd (cc)
    | inr passed ↦ rw passed refl
  ]

  -- what refuses is the first that doesn't pass
  pub refused-first :
      (fault : ToolFault)
      → IsFaultOf (refuse_if (test x) (refusal x)) fault
      → IsFaultOf (option_map refusal (find test (x ∷ xs))) fault
  refused-first fault is = elim (cases_Bool (test x)) [
    | inl refused ↦ rw refused (rw refused at is)
    | inr passed ↦ absurd (never fault (rw passed at is))
  ]

-- the first refusal of a tool's list is the one that a check has
pub refuses-first :
    (refusal : Option Refusal) (rest : List (Option Refusal)) (fault : ToolFault)
    → IsFaultOf refusal fault
    → IsFaultOf (first_some (refusal ∷ rest)) fault
refuses-first None rest fault is = absurd (never fault is)
refuses-first (Some refusal) rest fault is = is
