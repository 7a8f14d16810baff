-- The free range is the least place that fits.
use Rattle.std.proofs.Common.{◌≡◌, zero, suc, ℕ, ◌+◌, ◌-◌, ◌<◌, ◌≤◌, Bool, true, false, ◌&&◌, ◌||◌, not, List, [], ◌∷◌, map, refl, sym, ◌∙◌, ap, subst, arith, inl, inr}
use Rattle.std.specs.Prelude.{Option, Some, None, filter, nat_le}
use Rattle.std.specs.List.{list_any, AllByRecursion}
use Rattle.std.proofs.Math.Nat.{le_antisymm}
use Rattle.std.proofs.lemmas.Bool.{leb-true, le-leb, and_parts, cases_lt, not-false, not-true, true≢false}
use Rattle.account_model.specs.declared.records.SubidRecord.{SubidRecord}
use Rattle.account_model.specs.Records.{last_id}
use Rattle.account_model.specs.FreeRange.{Meeting, FitsAt, IsFreeRange, meets, fits_at, free_range}
use Rattle.account_model.proofs.Sets.{In, in-filter, filter-in, least-in, least-below, least-none}

-- numbers in common pass the test
meets-yes : (first last : ℕ) (r : SubidRecord) → Meeting first last r → meets first last r ≡ true
meets-yes first last r meeting = rw (
  le-leb r.first last meeting.begins_before,
  le-leb first
      (last_id r) meeting.ends_behind,
) refl

-- what passes the test has numbers in common
meets-is : (first last : ℕ) (r : SubidRecord) → meets first last r ≡ true → Meeting first last r
meets-is first last r e =
    let parts = and_parts (nat_le r.first last) (nat_le first (last_id r)) e
    in record {
      begins_before = leb-true r.first last parts.0;
      ends_behind = leb-true first
          (last_id r) parts.1;
    }

-- without numbers in common the test fails
meets-no :
    (first last : ℕ) (r : SubidRecord) (b : Bool)
    → meets first last r ≡ b
    → (Meeting first last r → ⊥)
    → meets first last r ≡ false
meets-no first last r true m apart = absurd (apart (meets-is first last r m))
meets-no first last r false m apart = m

-- ranges apart from all fail all tests
apart-yes :
    (first last : ℕ) (records : List SubidRecord)
    → AllByRecursion (λ r. Meeting first last r → ⊥) records
    → list_any (meets first last) records ≡ false
apart-yes first last [] apart = refl
apart-yes first last (r ∷ records) apart =
    rw (meets-no first last r (meets first last r) refl apart.0)
    (apart-yes first last records apart.1)

-- the first range, by the test
apart-by :
    (first last : ℕ) (r : SubidRecord) (records : List SubidRecord) (b : Bool)
    → meets first last r ≡ b
    → (b || list_any (meets first last) records) ≡ false
    → (list_any (meets first last) records ≡ false
    → AllByRecursion (λ r. Meeting first last r → ⊥) records)
    → AllByRecursion (λ r. Meeting first last r → ⊥) (r ∷ records)
apart-by first last r records true m e rest = cc
apart-by first last r records false m e rest =
    ((λ meeting. true≢false (sym (meets-yes first last r meeting) ∙ m)), rest e)

-- what fails all tests is apart from all
pub apart-is :
    (first last : ℕ) (records : List SubidRecord)
    → list_any (meets first last) records ≡ false
    → AllByRecursion (λ r. Meeting first last r → ⊥) records
apart-is first last [] e = tt
apart-is first last (r ∷ records) e =
    apart-by first last r records (meets first last r) refl e (apart-is first last records)

-- a place that fits passes the test
fits-yes :
    (low high count : ℕ) (records : List SubidRecord) (start : ℕ)
    → FitsAt low high count records start
    → fits_at low high count records start ≡ true
fits-yes low high count records start fits =
    rw (
      le-leb low start fits.not_below,
      le-leb (start + count - 1) high fits.not_above,
      apart-yes
          start (start + count - 1) records fits.apart,
    ) refl

-- what passes the test is a place that fits
fits-is :
    (low high count : ℕ) (records : List SubidRecord) (start : ℕ)
    → fits_at low high count records start ≡ true
    → FitsAt low high count records start
fits-is low high count records start e =
    let parts = and_parts (nat_le low start && nat_le (start + count - 1) high)
    (not (list_any (meets start (start + count - 1)) records)) e
    in let bounds = and_parts (nat_le low start) (nat_le (start + count - 1) high) parts.0
    in record {
      not_below = leb-true low start bounds.0;
      not_above = leb-true (start + count - 1) high bounds.1;
      apart = apart-is start (start + count - 1) records
          (not-true (list_any (meets start (start + count - 1)) records) parts.1);
    }

-- ---- A place that fits has a candidate at it or before it

-- the numbers behind the ranges
abbrev behind : List SubidRecord → List ℕ
behind records = map (λ r. last_id r + 1) records

-- a place that fits is a candidate, or has one before it
fitting :
    (low high count : ℕ) (records : List SubidRecord) (start : ℕ)
    → FitsAt low high count records start
    → In start (low ∷ behind records)
    → In start (filter (fits_at low high count records) (low ∷ behind records))
fitting low high count records start fits listed =
    in-filter (fits_at low high count records) (low ∷ behind records) start listed
    (fits-yes low high count records start fits)

-- where the numbers from t on meet a range and those from t + 1 on don't, the range ends at t
behind-by :
    (t count : ℕ)
    → 0 < count
    → (r : SubidRecord) (records : List SubidRecord)
    → AllByRecursion (λ r. Meeting (t + 1) (t + 1 + count - 1) r → ⊥) (r ∷ records)
    → (b : Bool)
    → meets t (t + count - 1) r ≡ b
    → (b || list_any (meets t (t + count - 1)) records) ≡ true
    → (list_any (meets t (t + count - 1)) records ≡ true → In (t + 1) (behind records))
    → In (t + 1) (behind (r ∷ records))
behind-by t count some r records apart false m e rest = inr (rest e)
behind-by t count some r records apart true m e rest =
    let meeting = meets-is t (t + count - 1) r m
    in elim (cases_lt t (last_id r)) [
      | inl past ↦ absurd (apart.0 (record {
        begins_before = omega
            (arith, meeting.begins_before, some);
        ends_behind = omega (arith, past);
      }))
      | inr at ↦ let end : t ≡ last_id r = le_antisymm meeting.ends_behind at in inl
          (ap (λ n. n + 1) end)
    ]

-- what can't move one down ends a range before it
meeting-behind :
    (t count : ℕ)
    → 0 < count
    → (records : List SubidRecord)
    → AllByRecursion (λ r. Meeting (t + 1) (t + 1 + count - 1) r → ⊥) records
    → list_any (meets t (t + count - 1)) records ≡ true
    → In (t + 1) (behind records)
meeting-behind t count some [] apart e = cc
meeting-behind t count some (r ∷ records) apart e = behind-by t count some r records apart
    (meets t (t + count - 1) r) refl e (meeting-behind t count some records apart.1)

-- a place within the bounds that doesn't fit meets a range
only-last :
    (low high count : ℕ) (records : List SubidRecord) (start : ℕ)
    → low ≤ start
    → start + count - 1 ≤ high
    → fits_at low high count records start ≡ false
    → not (list_any (meets start (start + count - 1)) records) ≡ false
only-last low high count records start above below e =
    rw (le-leb low start above, le-leb (start + count - 1) high below) at e

-- the place before start either fits, or meets a range that ends there
candidate-by :
    (low high count : ℕ)
    → 0 < count
    → (records : List SubidRecord) (k start : ℕ)
    → start ≡ low + k + 1
    → FitsAt low high count records start
    → (b : Bool)
    → fits_at low high count records (low + k) ≡ b
    → (FitsAt low high count records (low + k) → (c : ℕ) × (c ≤ low + k)
    × In c (filter (fits_at low high count records) (low ∷ behind records)))
    → (c : ℕ) × (c ≤ start) × In c (filter (fits_at low high count records) (low ∷ behind records))
candidate-by low high count some records k start next fits true e before =
    let found = before (fits-is low high count records (low + k) e)
    in (found.0, omega (arith, found.1, next), found.2)
candidate-by low high count some records k start next fits false e before =
    let blocked : not (list_any (meets (low + k) (low + k + count - 1)) records)
    ≡ false = only-last low high count records (low + k) (omega arith)
    (omega (arith, next, fits.not_above)) e
    in let apart : AllByRecursion (λ r. Meeting (low + k + 1)
    (low + k + 1 + count - 1) r → ⊥) records =
    subst (λ n. AllByRecursion (λ r. Meeting n (n + count - 1) r → ⊥) records) next fits.apart
    in let listed : In start (behind records) = subst (λ n. In n (behind records)) (sym next)
    (meeting-behind (low + k) count some records apart
    (not-false (list_any (meets (low + k) (low + k + count - 1)) records) blocked))
    in (start, omega arith, fitting low high count records start fits (inr listed))

-- before a place that fits is a candidate that fits
candidate :
    (low high count : ℕ)
    → 0 < count
    → (records : List SubidRecord) (k start : ℕ)
    → start ≡ low + k
    → FitsAt low high count records start
    → (c : ℕ) × (c ≤ start) × In c (filter (fits_at low high count records) (low ∷ behind records))
candidate low high count some records zero start e fits =
    let at : start ≡ low = omega (arith, e)
    in (start, omega arith, fitting low high count records start fits (inl at))
candidate low high count some records (suc k) start e fits =
    let next : start ≡ low + k + 1 = omega (arith, e)
    in candidate-by low high count some records k start next fits
    (fits_at low high count records (low + k)) refl
    (candidate low high count some records k (low + k) refl)

-- what is computed is the free range
free-is :
    (low high count : ℕ)
    → 0 < count
    → (records : List SubidRecord) (choice : Option ℕ)
    → free_range low high count records ≡ choice
    → IsFreeRange low high count records choice
free-is low high count some records None e = λ start fits.
    let found = candidate low high count some records (start - low) start
    (omega (arith, fits.not_below)) fits
    in least-none (filter (fits_at low high count records) (low ∷ behind records)) found.0 e found.2
free-is low high count some records (Some start) e = record {
  member = fits-is low high count records start
      (filter-in (fits_at low high count records) (low ∷ behind records) start
      (least-in (filter (fits_at low high count records) (low ∷ behind records)) start e)).0;
  least = λ other fits.
      let found = candidate low high count some records (other - low) other
      (omega (arith, fits.not_below)) fits
      in let below : start ≤ found.0 = least-below
      (filter (fits_at low high count records) (low ∷ behind records)) start found.0 e found.2
      in omega (arith, below, found.1);
}

-- the free range is computed
pub free_range-is :
    (low high count : ℕ)
    → 0 < count
    → (records : List SubidRecord)
    → IsFreeRange low high count records (free_range low high count records)
free_range-is low high count some records =
    free-is low high count some records (free_range low high count records) refl

-- there is one free range
pub free_range-one :
    (low high count : ℕ) (records : List SubidRecord) (a b : Option ℕ)
    → IsFreeRange low high count records a
    → IsFreeRange low high count records b
    → a ≡ b
free_range-one low high count records None None is_a is_b = refl
free_range-one low high count records None (Some b) is_a is_b = absurd (is_a b is_b.member)
free_range-one low high count records (Some a) None is_a is_b = absurd (is_b a is_a.member)
free_range-one low high count records (Some a) (Some b) is_a is_b =
    ap Some (le_antisymm (is_a.least b is_b.member) (is_b.least a is_a.member))
