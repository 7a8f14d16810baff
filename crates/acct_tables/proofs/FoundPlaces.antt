-- Claim: the places of a list, sorted and each once, are those that are told, from the first to the last
-- (`found-places`). Way: sorting moves places, and what is dropped is there still.
use Rattle.std.proofs.Common.{◌≡◌, ◌∙◌, ℕ, true, List, sym, subst}
use Rattle.std.specs.Prelude.{◌==◌, IfSome, Option, Some, nat_eq}
use Rattle.std.specs.List.{dedup}
use Rattle.std.specs.List.Sorted.{IsPermutation, IsSorted}
use Rattle.std.specs.Ordering.{nat_cmp}
use Rattle.std.proofs.lemmas.List.Kept.{AllPairs-from_increasing, Contains-dedup_nat, Contains-from_dedup}
use Rattle.std.proofs.lemmas.List.Sorted.{list_any-IsPermutation}
use Rattle.std.proofs.lemmas.Map.Keys.{IsStrictlyIncreasing-dedup}
use Rattle.account_model.specs.Ids.{is_used}
use Rattle.account_model.proofs.Sets.{contains-in, in-contains, in-used, used-in}
use Rattle.acct_tables.specs.KeyPlaces.{ArePlacesOf}

-- moved places are the same ones
used-moved :
    (places moved : List ℕ) (place : ℕ)
    → IsPermutation places moved
    → is_used places place ≡ is_used moved place
used-moved places moved place same =
    list_any-IsPermutation (λ other. other == place) places moved same

-- what stands more than once is there still
used-once :
    (places : List ℕ) (place : ℕ)
    → is_used places place ≡ true
    → is_used (dedup nat_eq places) place ≡ true
used-once places place used =
    in-used (dedup nat_eq places) place
    (contains-in (dedup nat_eq places) place
    (Contains-dedup_nat places place (in-contains places place (used-in places place used))))

-- and nothing else is
once-used :
    (places : List ℕ) (place : ℕ)
    → is_used (dedup nat_eq places) place ≡ true
    → is_used places place ≡ true
once-used places place used =
    in-used places place
    (contains-in places place
    (Contains-from_dedup nat_eq places place
    (in-contains (dedup nat_eq places) place (used-in (dedup nat_eq places) place used))))

-- the places that are told, in their order
pub found-places :
    (told : ℕ → Option (List ℕ)) (key : ℕ) (noted sorted : List ℕ)
    → told key ≡ Some noted
    → IsPermutation noted sorted
    → IsSorted nat_cmp sorted
    → ArePlacesOf told key (dedup nat_eq sorted)
found-places told key noted sorted is moved ascends =
    record {
      all = λ place may.
          used-once sorted place
          (sym (used-moved noted sorted place moved)
          ∙ subst (λ places. IfSome places (λ places. is_used places place ≡ true)) is may);
      only = λ place used.
          subst (λ places. IfSome places (λ places. is_used places place ≡ true)) (sym is)
          (used-moved noted sorted place moved ∙ once-used sorted place used);
      ascending = AllPairs-from_increasing (dedup nat_eq sorted)
          (IsStrictlyIncreasing-dedup sorted ascends);
    }
