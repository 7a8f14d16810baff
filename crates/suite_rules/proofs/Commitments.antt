-- Lists of commitments: what one more does to rising numbers (`rises-append`), to the fold
-- (`fold-append`) and to the backups (`before-append`), and which of them are a place
-- (`place-below`, `place-append`).
use Rattle.std.proofs.Common.{◌≡◌, refl, ap, ℕ, ◌<◌, ◌≤◌, Bool, true, false, cond, if◌then◌else◌, nat_lt, List, [], ◌∷◌, ◌++◌, All, Option, arith}
use Rattle.std.specs.List.{AllByRecursion}
use Rattle.std.proofs.lemmas.Bool.Decides.{nat_tests}
use Rattle.std.proofs.lemmas.List.Elements.{All-nil, All-cons}
use Rattle.acct_text.specs.declared.Tab.{Tab}
use Rattle.acct_text.specs.Bytes.{Bytes}
use Rattle.acct_text.specs.Contents.{Contents, same_content}
use Rattle.suite_rules.specs.Deeds.{SuiteDeeds}
use Rattle.suite_rules.specs.Committed.{Commitment, Rises, place, after_deed, fold_deeds}
use Rattle.suite_rules.specs.Backups.{before_last_change}

-- what holds of each of two lists holds of both together
pub each-append : (P : Commitment → Type 0) (list more : List Commitment) →
    AllByRecursion P list → AllByRecursion P more → AllByRecursion P (list ++ more)
each-append P [] more all others = others
each-append P (one ∷ list) more all others = (all.0, each-append P list more all.1 others)

-- what holds of each holds of each what follows from it
pub each-follows : (P Q : Commitment → Type 0) (list : List Commitment) →
    ((one : Commitment) → P one → Q one) → AllByRecursion P list → AllByRecursion Q list
each-follows P Q [] follows all = tt
each-follows P Q (one ∷ list) follows all =
    (follows one all.0, each-follows P Q list follows all.1)

-- the same by the place in the list
pub each-all : (P : Commitment → Type 0) (list : List Commitment) → AllByRecursion P list →
    All P list
each-all P [] all = All-nil P
each-all P (one ∷ list) all = All-cons P one list all.0 (each-all P list all.1)

-- rising numbers rise with a greater one behind them
pub rises-append : (list : List Commitment) (last : Commitment) → Rises list →
    AllByRecursion (λ one. one.number < last.number) list → Rises (list ++ last ∷ [])
rises-append [] last rises below = tt
rises-append (one ∷ []) last rises below = (below.0, tt)
rises-append (one ∷ next ∷ list) last rises below =
    (rises.0, rises-append (next ∷ list) last rises.1 below.1)

module _ (deeds : SuiteDeeds) (defs : Option Bytes) where
  -- a fold goes on with what comes behind
  pub fold-append : (files : Contents) (list more : List Commitment) →
      fold_deeds deeds defs files (list ++ more)
      ≡ fold_deeds deeds defs (fold_deeds deeds defs files list) more
  fold-append files [] more = refl
  fold-append files (one ∷ list) more =
      fold-append (after_deed deeds defs files one.command) list more

  -- so do the backups
  pub before-append : (table : Tab) (held : Option Bytes) (files : Contents)
      (list more : List Commitment) →
      before_last_change deeds defs table held files (list ++ more)
      ≡ before_last_change deeds defs table
      (before_last_change deeds defs table held files list) (fold_deeds deeds defs files list) more
  before-append table held files [] more = refl
  before-append table held files (one ∷ list) more =
      before-append table
      (if same_content (files table) (after_deed deeds defs files one.command table)
      then held else files table)
      (after_deed deeds defs files one.command) list more

-- all that lie below a number are its place
pub place-below : (number : ℕ) (list : List Commitment) →
    AllByRecursion (λ one. one.number < number) list → place number list ≡ list
place-below number [] below = refl
place-below number (one ∷ list) below =
    cases (nat_lt one.number number) refl (place-below number list below.1) below.0
  where
    cases : (less : Bool) → nat_lt one.number number ≡ less → place number list ≡ list →
        one.number < number →
        cond less (one ∷ place number list) (place number list) ≡ one ∷ list
    cases true is rest lower = ap (λ (others : List Commitment). one ∷ others) rest
    cases false is rest lower = absurd (grind (arith, nat_tests))

-- what doesn't lie below a number adds nothing to its place
pub place-append : (number : ℕ) (list more : List Commitment) →
    AllByRecursion (λ one. number ≤ one.number) more →
    place number (list ++ more) ≡ place number list
place-append number [] [] above = refl
place-append number [] (one ∷ more) above =
    cases (nat_lt one.number number) refl (place-append number [] more above.1) above.0
  where
    cases : (less : Bool) → nat_lt one.number number ≡ less → place number more ≡ [] →
        number ≤ one.number → cond less (one ∷ place number more) (place number more) ≡ []
    cases true is rest least = absurd (grind (arith, nat_tests))
    cases false is rest least = rest
place-append number (one ∷ list) more above =
    cases (nat_lt one.number number) (place-append number list more above)
  where
    cases : (less : Bool) → place number (list ++ more) ≡ place number list →
        cond less (one ∷ place number (list ++ more)) (place number (list ++ more))
        ≡ cond less (one ∷ place number list) (place number list)
    cases true rest = ap (λ (others : List Commitment). one ∷ others) rest
    cases false rest = rest
