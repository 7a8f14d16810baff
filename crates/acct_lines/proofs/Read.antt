-- What `?` makes of a fault (`told-first`), and what a reading tells of the fault of its text
-- (`fault-told`).
use Rattle.std.proofs.Common.{◌≡◌, ℕ, true, List, ◌∙◌, ap, Option, Result, Ok, Err, Some, None, refl, sym, subst}
use Rattle.std.specs.Result.{result_err}
use Rattle.std.specs.Prelude.{IsErrAnd, MatchResult, is_some, is_none}
use Rattle.account_model.specs.declared.fault.LineFault.{LineFault}
use Rattle.account_model.specs.Format.{Format}
use Rattle.account_model.specs.LineFormat.{IsLineFormat}

-- what `?` passes on tells the first fault
pub told-first :
    {X : Type 0} (result : Result X LineFault) (first : LineFault)
    (Good : X → Type 0) (Bad : LineFault → Type 0)
    → IsErrAnd result (λ fault. fault ≡ first)
    → Bad first
    → MatchResult result Good Bad
told-first (Ok x) first Good Bad told bad = absurd told
told-first (Err fault) first Good Bad told bad = subst Bad (sym told) bad

-- what isn't there is none
first-none : (found : Option LineFault) → is_none found ≡ true → None ≡ found
first-none None none = refl
first-none (Some fault) none = absurd cc

-- what a reading of a text tells of its fault
pub fault-told :
    {R X : Type 0} (format : Format R) (fault : List ℕ → Option LineFault) (text : List ℕ)
    (shown : X → R) (result : Result X LineFault)
    → IsLineFormat format fault
    → MatchResult result (λ x. format.read text ≡ Some (shown x)) (λ first. fault text ≡ Some first)
    → result_err result ≡ fault text
fault-told format fault text shown (Ok x) is_format read =
    let none : is_none (fault text) ≡ true = sym (is_format.faulted text) ∙ ap is_some read in
    first-none (fault text) none
fault-told format fault text shown (Err first) is_format bad = sym bad
