-- Claim: where no range has the number of an owner, and one alone the name, that is its only one
-- (`only-popped`). Way: range by range.
use Rattle.std.proofs.Common.{◌≡◌, ◌∙◌, ℕ, Bool, true, false, List, [], ◌∷◌, ◌++◌, cond, length, refl, sym, ap, subst, inl, inr, arith}
use Rattle.std.specs.Prelude.{◌||◌, Option, Some, None, IfSome, bytes_eq, decimal, filter}
use Rattle.std.specs.List.{list_any}
use Rattle.std.specs.Option.{option_to_list}
use Rattle.std.proofs.lemmas.List.{length-append}
use Rattle.std.proofs.lemmas.Bool.{cases_Bool, or_parts}
use Rattle.std.proofs.lemmas.Slice.Eq.{bytes_eq-Decides}
use Rattle.account_model.specs.declared.records.SubidRecord.{SubidRecord}
use Rattle.account_model.specs.Format.{is_named}
use Rattle.account_model.specs.Records.{subid_format}
use Rattle.account_model.specs.SubidOwner.{is_owned}
use Rattle.carried_tables.specs.RangeNumbers.{IsOnlyOf, is_numbered}

-- by whether the first range is the owner's, whose number isn't
owned-first :
    (name number : Bool) (r : SubidRecord) (rest others : List SubidRecord)
    → number ≡ false
    → rest ≡ others
    → cond (name || number) (r ∷ rest) rest ≡ cond name (r ∷ others) others
owned-first true number r rest others none same = ap (λ rest. r ∷ rest) same
owned-first false true r rest others none same = absurd cc
owned-first false false r rest others none same = same

-- where no range has the number, those of the owner have the name
unnumbered :
    (name : List ℕ) (uid : Option ℕ) (ranges : List SubidRecord)
    → list_any (is_numbered uid) ranges ≡ false
    → filter (is_owned name uid) ranges ≡ filter (is_named subid_format name) ranges
unnumbered name None ranges none = refl
unnumbered name (Some uid) [] none = refl
unnumbered name (Some uid) (r ∷ ranges) none =
    let parts = or_parts (is_numbered (Some uid) r) (list_any (is_numbered (Some uid)) ranges) none in
    owned-first (bytes_eq r.owner name) (bytes_eq r.owner (decimal uid)) r
    (filter (is_owned name (Some uid)) ranges) (filter (is_named subid_format name) ranges)
    parts.0 (unnumbered name (Some uid) ranges parts.1)

-- what a test accepts alone, it accepts
accepts-only :
    (test : SubidRecord → Bool) (only : SubidRecord) (ranges : List SubidRecord)
    → filter test ranges ≡ only ∷ []
    → test only ≡ true
accepts-only test only [] is = absurd cc
accepts-only test only (r ∷ ranges) is = elim (cases_Bool (test r)) [
  | inl accepted ↦
      let parts : r ∷ filter test ranges ≡ only ∷ [] = rw accepted at is in
      let first : r ≡ only = cc in
      subst (λ r. test r ≡ true) first accepted
  | inr refused ↦ accepts-only test only ranges (rw refused at is)
]

-- the one range of the name is the only one of the owner, where none has the number
only-found :
    (name : List ℕ) (uid : Option ℕ) (ranges : List SubidRecord) (only : SubidRecord)
    → list_any (is_numbered uid) ranges ≡ false
    → filter (is_named subid_format name) ranges ≡ only ∷ []
    → IsOnlyOf name uid ranges only
only-found name uid ranges only none one = record {
  alone = unnumbered name uid ranges none ∙ one;
  named = (bytes_eq-Decides only.owner name).0
      (accepts-only (is_named subid_format name) only ranges one);
}

-- where the one of the name is taken out of a list of one, it is that
pub only-popped :
    (name : List ℕ) (uid : Option ℕ) (ranges named left : List SubidRecord)
    (popped : Option SubidRecord)
    → list_any (is_numbered uid) ranges ≡ false
    → named ≡ filter (is_named subid_format name) ranges
    → length named ≡ 1
    → named ≡ left ++ option_to_list popped
    → IfSome popped (IsOnlyOf name uid ranges)
only-popped name uid ranges named left None none are one taken = tt
only-popped name uid ranges named [] (Some only) none are one taken =
    only-found name uid ranges only none (sym are ∙ taken)
only-popped name uid ranges named (first ∷ left) (Some only) none are one taken =
    absurd (omega (arith, one, ap length taken, length-append left (only ∷ [])))

-- no range has a number that isn't known
pub none-numbered : (ranges : List SubidRecord) → list_any (is_numbered None) ranges ≡ false
none-numbered [] = refl
none-numbered (r ∷ ranges) = none-numbered ranges
