-- Claim: what an addition leaves has the old numbers and the new ones (`all-added`). Way: a run
-- that the joined one doesn't hold stays, and the joined one has the added numbers and old ones
-- alone.
use Rattle.std.proofs.Common.{◌≡◌, ℕ, ◌<◌, ◌≤◌, Bool, true, false, refl, sym, ◌∙◌, ap, arith, inl, inr, lt_irrefl}
use Rattle.std.specs.Prelude.{Some, nat_le, ◌⊎◌, ◌||◌}
use Rattle.std.specs.BTreeMap.{BTreeMap, Updates, get, is_at}
use Rattle.std.specs.Ordering.{nat_cmp}
use Rattle.std.proofs.lemmas.Bool.{cases_lt, cases_order, le-ltb, lt-ltb, ne_eqb, or_cases, or_left, or_right, le-leb, leb-true, and_parts, and_from}
use Rattle.std.proofs.lemmas.Option.{none-some, same_Some}
use Rattle.account_model.specs.Ids.{in_range, is_used}
use Rattle.id_choice.specs.RunMaps.{IsRunMap, BeginsAt, EndsAt, IsWithoutRuns, LiesIn, numbers_of}
use Rattle.id_choice.specs.Runs.{AddsAll}
use Rattle.id_choice.proofs.RunLemmas.{lies-used, used-lies}

-- the same value at two tests that agree
pub tests-agree : (a b : Bool) → (a ≡ true → b ≡ true) → (b ≡ true → a ≡ true) → a ≡ b
tests-agree true b there back = sym (there refl)
tests-agree false true there back = back refl
tests-agree false false there back = refl

-- another number isn't the key
other-key : (key number : ℕ) → (key ≡ number → ⊥) → is_at (nat_cmp key) number ≡ false
other-key key number apart = elim (cases_order key number) [
  | inl same ↦ absurd (apart same)
  | inr (inl less) ↦ rw (lt-ltb key number less) refl
  | inr (inr more) ↦ rw (le-ltb key number (omega (arith, more)), ne_eqb key number apart) refl
]

-- a number of a range passes its test
pub in-bounds :
    (first last number : ℕ)
    → first ≤ number
    → number ≤ last
    → in_range first last number ≡ true
in-bounds first last number above below =
    and_from (nat_le first number) (nat_le number last) (le-leb first number above)
    (le-leb number last below)

module _
    (old mid new : BTreeMap ℕ ℕ) (first last begin end : ℕ)
    (apart : IsRunMap old)
    (begins : BeginsAt old first begin)
    (ends : EndsAt old last end)
    (updates : Updates nat_cmp old mid begin (Some end))
    (without : IsWithoutRuns mid new begin end) where
  -- a run that begins before the joined one stays
  before-stays : (f : ℕ) → f < begin → get nat_cmp new f ≡ get nat_cmp old f
  before-stays f less =
      without.before f (omega (arith, less))
      ∙ updates.2 f (other-key begin f (λ same. lt_irrefl f (omega (arith, less, same))))

  -- and one behind it
  past-stays : (f : ℕ) → begin ≤ end → end < f → get nat_cmp new f ≡ get nat_cmp old f
  past-stays f held more =
      without.past f more
      ∙ updates.2 f (other-key begin f (λ same. lt_irrefl f (omega (arith, held, more, same))))

  -- the joined run is there
  joined-there : get nat_cmp new begin ≡ Some end
  joined-there = without.before begin (omega arith) ∙ updates.1

  -- its numbers are the added ones or old ones
  joined-from :
      (number : ℕ)
      → begin ≤ number
      → number ≤ end
      → (in_range first last number ≡ true) ⊎ LiesIn old number
  joined-from number above below = elim (cases_lt number first) [
    | inl less ↦ inr (begins.filled number above less)
    | inr more ↦ elim (cases_lt last number) [
      | inl past ↦ inr (ends.filled number past below)
      | inr inside ↦ inl (in-bounds first last number more inside)
    ]
  ]

  -- a number of the new runs is an added one or an old one
  new-from :
      (number : ℕ)
      → begin ≤ end
      → LiesIn new number
      → (in_range first last number ≡ true) ⊎ LiesIn old number
  new-from number held lies = elim (cases_order lies.first begin) [
    | inl same ↦
        let is = sym (ap (get nat_cmp new) same) ∙ lies.run
        in let end_is = same_Some lies.last end (sym is ∙ joined-there)
        in joined-from number (omega (arith, same, lies.begins)) (omega (arith, end_is, lies.ends))
    | inr (inl less) ↦ inr (record {
      first = lies.first;
      last = lies.last;
      run = sym (before-stays lies.first less) ∙ lies.run;
      begins = lies.begins;
      ends = lies.ends;
    })
    | inr (inr more) ↦ elim (cases_lt end lies.first) [
      | inl past ↦ inr (record {
        first = lies.first;
        last = lies.last;
        run = sym (past-stays lies.first held past) ∙ lies.run;
        begins = lies.begins;
        ends = lies.ends;
      })
      | inr inside ↦
          absurd (none-some lies.last (sym (without.removed lies.first more inside) ∙ lies.run))
    ]
  ]

  -- the joined run holds a number
  joined-holds : (number : ℕ) → begin ≤ number → number ≤ end → LiesIn new number
  joined-holds number above below =
      record { first = begin; last = end; run = joined-there; begins = above; ends = below }

  -- an old number is a new one
  old-there : (number : ℕ) → begin ≤ end → LiesIn old number → LiesIn new number
  old-there number held lies = elim (cases_lt lies.first begin) [
    | inl less ↦ record {
      first = lies.first;
      last = lies.last;
      run = before-stays lies.first less ∙ lies.run;
      begins = lies.begins;
      ends = lies.ends;
    }
    | inr more ↦ elim (cases_lt end lies.first) [
      | inl past ↦ record {
        first = lies.first;
        last = lies.last;
        run = past-stays lies.first held past ∙ lies.run;
        begins = lies.begins;
        ends = lies.ends;
      }
      | inr inside ↦
          let short = ends.apart lies.first lies.last lies.run (omega (arith, inside))
          in joined-holds number (omega (arith, more, lies.begins))
          (omega (arith, short, lies.ends))
    ]
  ]

  -- the new numbers are the old ones and the added ones
  pub all-added :
      first ≤ last
      → AddsAll (numbers_of old.entries) first last (numbers_of new.entries)
  all-added ordered = λ number.
      let held : begin ≤ end = omega (arith, begins.not_behind, ends.not_before, ordered)
      in let added = in_range first last number
      in let there = is_used (numbers_of old.entries) number
      in tests-agree (is_used (numbers_of new.entries) number) (added || there)
      (λ is. elim (new-from number held (used-lies new without.ordered number is)) [
        | inl within ↦ or_left added there within
        | inr lies ↦ or_right added there (lies-used old apart.keys number lies)
      ])
      (λ is. lies-used new without.ordered number (elim (or_cases added there is) [
        | inl within ↦
            let bounds = and_parts (nat_le first number) (nat_le number last) within
            in let above = leb-true first number bounds.0
            in let below = leb-true number last bounds.1
            in joined-holds number (omega (arith, above, begins.not_behind))
            (omega (arith, below, ends.not_before))
        | inr stays ↦ old-there number held (used-lies old apart.keys number stays)
      ]))
