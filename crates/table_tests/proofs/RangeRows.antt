-- Rows of the first of the least free range, beside those of account_model: the bounds and the count of a
-- new range, over files in several orders (useradd(8), subuid(5)).
use Rattle.std.specs.Prelude.{◌≡◌, ℕ, List, Option, [], ◌∷◌, codes, refl, Some, None, map}
use Rattle.account_model.specs.declared.records.SubidRecord.{SubidRecord}
use Rattle.account_model.specs.FreeRange.{free_range}

abbrev held : ℕ → ℕ → SubidRecord
held first count = record { owner = codes "a"; first = first; count = count }

-- where a range of each case begins: the bounds, and the count
abbrev starts : List (ℕ × ℕ × ℕ) → List SubidRecord → List (Option ℕ)
starts cases records = map (λ c. free_range c.0 c.1 c.2 records) cases

-- ---- a file with two gaps

least :
    starts ((100000, 600100000, 65536) ∷ (100000, 600100000, 65537) ∷ (100000, 232080, 65536)
    ∷ (100000, 232079, 65536) ∷ (0, 99999, 100000) ∷ (166544, 166544, 1)
    ∷ (0, 4294967294, 4294967295) ∷ [])
    (held 100000 66535 ∷ held 166535 10 ∷ held 232081 1 ∷ [])
    ≡ Some 166545 ∷ Some 232082 ∷ Some 166545 ∷ None ∷ Some 0 ∷ None ∷ None ∷ []
least = refl

-- ---- ranges that touch, overlap, lie in one another, and one apart: their order doesn't count

abbrev cases : List (ℕ × ℕ × ℕ)
cases = (0, 99, 100) ∷ (0, 99, 101) ∷ (50, 1000, 50) ∷ (51, 1000, 50) ∷ (100, 1000, 10)
    ∷ (100, 1000, 11) ∷ (100, 209, 10) ∷ (100, 208, 10) ∷ (205, 1000, 5) ∷ (206, 1000, 5)
    ∷ (299, 299, 1) ∷ (300, 299, 1) ∷ []

abbrev wanted : List (Option ℕ)
wanted = Some 0 ∷ None ∷ Some 50 ∷ Some 300 ∷ Some 200 ∷ Some 300 ∷ Some 200 ∷ None ∷ Some 205
    ∷ Some 300 ∷ None ∷ None ∷ []

in_order : starts cases (held 100 50 ∷ held 150 50 ∷ held 120 60 ∷ held 110 5 ∷ held 210 90 ∷ [])
    ≡ wanted
in_order = refl

last_first : starts cases (held 210 90 ∷ held 110 5 ∷ held 120 60 ∷ held 150 50 ∷ held 100 50 ∷ [])
    ≡ wanted
last_first = refl

widest_first : starts cases (held 120 60 ∷ held 210 90 ∷ held 100 50 ∷ held 110 5 ∷ held 150 50 ∷ [])
    ≡ wanted
widest_first = refl

narrowest_first :
    starts cases (held 110 5 ∷ held 100 50 ∷ held 210 90 ∷ held 150 50 ∷ held 120 60 ∷ [])
    ≡ wanted
narrowest_first = refl

-- ---- a gap ends at the greatest ID

behind_most :
    starts ((0, 4294967294, 1) ∷ (0, 4294967294, 2) ∷ (0, 4294967294, 3) ∷ (0, 4294967290, 1)
    ∷ (0, 4294967290, 2) ∷ [])
    (held 0 4294967290 ∷ held 4294967292 1 ∷ [])
    ≡ Some 4294967290 ∷ Some 4294967290 ∷ None ∷ Some 4294967290 ∷ None ∷ []
behind_most = refl

all_held : starts ((0, 4294967294, 1) ∷ []) (held 4294967294 1 ∷ held 0 4294967294 ∷ []) ≡ None ∷ []
all_held = refl
