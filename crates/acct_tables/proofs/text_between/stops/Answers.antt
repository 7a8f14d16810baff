use Rattle.std.proofs.Common.{◌≡◌, ◌∙◌, ℕ, ◌<◌, true, false, List, [], ◌∷◌, ◌++◌, sym, ap, subst, inl, inr}
use Rattle.std.specs.Prelude.{◌==◌, AllPairs, nat_eq}
use Rattle.std.specs.HashMap.{keys}
use Rattle.std.specs.List.{dedup}
use Rattle.std.proofs.lemmas.Bool.{cases_Bool, or_parts}
use Rattle.std.proofs.lemmas.List.Filters.{dedup_is}
use Rattle.std.proofs.lemmas.List.Folds.{list_any-append}
use Rattle.std.proofs.lemmas.List.Kept.{AllPairs-from_increasing, Contains-dedup_nat}
use Rattle.std.proofs.lemmas.List.Sorted.{list_any-IsPermutation}
use Rattle.std.proofs.lemmas.Map.Keys.{IsStrictlyIncreasing-dedup}
use Rattle.account_model.specs.Ids.{is_used}
use Rattle.account_model.proofs.Sets.{contains-in, in-contains, in-used, used-in}
use Rattle.acct_tables.proofs.StandingText.{unused-none}
use Rattle.acct_tables.proofs.text_between.stops.Goals as goal

-- a place that stands more than once stands there still
used-once :
    (places : List ℕ) (place : ℕ)
    → is_used places place ≡ true
    → is_used (dedup nat_eq places) place ≡ true
used-once places place used =
    in-used (dedup nat_eq places) place
    (contains-in (dedup nat_eq places) place
    (Contains-dedup_nat places place (in-contains places place (used-in places place used))))

-- each is a key of the map
pub returns-clause-told : goal.returns-clause-told
returns-clause-told c = λ place from unused.
    let noted = c.push.new.self.items in
    let found = keys c.args.patched.now in
    let items : noted ≡ found ++ c.last_line.result ∷ [] =
    c.in_ok-push.ensures.items ∙ ap (λ places. places ++ c.last_line.result ∷ [])
    (c.in_ok-places.ensures {u = tt}) in
    let sorted = c.sort_unstable.new.self.items in
    unused-none c.args.patched.now.entries place
    (or_parts (is_used found place) (is_used (c.last_line.result ∷ []) place)
    (sym (list_any-append (λ other. other == place) found (c.last_line.result ∷ []))
    ∙ ap (λ noted. is_used noted place) (sym items)
    ∙ list_any-IsPermutation (λ other. other == place) noted sorted
    c.sort_unstable.ensures.permutation
    ∙ (elim (cases_Bool (is_used sorted place)) [
      | inl used ↦
          let both : true ≡ false =
          sym (used-once sorted place used)
          ∙ ap (λ places. is_used places place) (sym (dedup_is nat_eq _ _ c.dedup.ensures.filtered))
          ∙ unused in
          absurd cc
      | inr is ↦ is
    ]))).0

-- they go up
pub returns-clause-ascending : goal.returns-clause-ascending
returns-clause-ascending c =
    subst (AllPairs (λ earlier later. earlier < later))
    (sym (dedup_is nat_eq _ _ c.dedup.ensures.filtered))
    (AllPairs-from_increasing (dedup nat_eq c.sort_unstable.new.self.items)
    (IsStrictlyIncreasing-dedup c.sort_unstable.new.self.items c.sort_unstable.ensures.sorted))
