-- The tokens `m1`, `m2` and so on, and which of them are unused.
use Rattle.std.proofs.Common.{◌≡◌, ℕ, ◌<◌, ◌≤◌, ◌^◌, ◌∙◌, Option, None, Some, ap, arith, decimal, All}
use Rattle.std.specs.Option.{MatchOption, is_some}
use Rattle.std.proofs.lemmas.Fmt.{decimal_is_IsNumeral, length-decimal-le}
use Rattle.std.proofs.lemmas.Str.Parse.{digit_at}
use Rattle.std.proofs.lemmas.List.Elements.{All-cons, All-from_get_or}
use Rattle.acct_outside.specs.declared.Name.TheVariants.{Lock}
use Rattle.acct_outside.specs.Tokens.{Token, IsToken, held_text}
use Rattle.acct_outside.specs.Folder.{Folder, IsFolder}
use Rattle.memory_folder.specs.NewTokens.{numbered_token, IsNamed}
use Rattle.memory_folder.proofs.NumberLemmas.{All-has}

-- a byte that a token may have
abbrev IsVisible : ℕ → Type 0
IsVisible byte = (0x21 ≤ byte) × (byte ≤ 0x7e)

-- the token of a number is one
pub IsToken-numbered : (number : ℕ) → number < 2 ^ 64 → IsToken (numbered_token number)
IsToken-numbered number small = record {
  not_empty = omega arith;
  short = omega (arith, length-decimal-le 20 number (omega arith) (omega arith) small);
  visible =
      All-cons IsVisible 109 (decimal number) (omega arith, omega arith)
      (All-from_get_or IsVisible (decimal number) 0
      (λ place low.
      let digit = digit_at (decimal number) place (decimal_is_IsNumeral number small).0.1 low in
      (omega (arith, digit.0), omega (arith, digit.1))));
}

-- what holds where nothing was found holds of what is nothing
pub match-none : {A : Type 0} (found : Option A) (P : Type 0) (Q : A → Type 0)
    → MatchOption found P Q
    → found ≡ None
    → P
match-none None P Q holds is = holds
match-none (Some value) P Q holds is = absurd cc

-- no lock names the token, where none of those that stand does
pub unnamed : (folder : Folder) (token : Token)
    → IsFolder folder
    → All (λ n. ¬ (folder.file (Lock n) ≡ Some (held_text token))) folder.locks
    → ¬ (IsNamed token folder)
unnamed folder token is lacks named =
    All-has (λ n. ¬ (folder.file (Lock n) ≡ Some (held_text token))) (named.0) folder.locks lacks
    (is.standing (named.0) ∙ ap is_some (named.1)) (named.1)
