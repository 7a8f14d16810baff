-- Rows of chosen IDs, beside those of account_model: the used IDs, the range, the kind and what is
-- preferred (useradd(8), groupadd(8)).
use Rattle.std.specs.Prelude.{◌≡◌, ℕ, List, [], ◌∷◌, refl, Some, None}
use Rattle.account_model.specs.declared.settings.Kind.TheVariants.{Regular, System}
use Rattle.account_model.specs.Ids.{chosen_id}
use Rattle.id_choice.specs.Used.{id_for}

-- in no order, and one of them twice
abbrev some_used : List ℕ
some_used = 0 ∷ 1000 ∷ 1003 ∷ 1003 ∷ 65534 ∷ []

least_gap : chosen_id Regular (Some (1000, 1003)) some_used ≡ Some 1001
least_gap = refl

unused_range : chosen_id Regular (Some (2000, 60000)) some_used ≡ Some 2000
unused_range = refl

one_used_id : chosen_id Regular (Some (1003, 1003)) some_used ≡ None
one_used_id = refl

greatest_unused : chosen_id System (Some (101, 1000)) some_used ≡ Some 999
greatest_unused = refl

greatest_gap : chosen_id System (Some (1000, 1003)) some_used ≡ Some 1002
greatest_gap = refl

empty_range : chosen_id System (Some (1, 0)) some_used ≡ None
empty_range = refl

no_range : chosen_id Regular None some_used ≡ None
no_range = refl

preferred : id_for (Some 1001) Regular None some_used ≡ Some 1001
preferred = refl

used_preferred : id_for (Some 1000) Regular (Some (1000, 60000)) some_used ≡ Some 1004
used_preferred = refl

-- ---- 1000 to 1008 without 1004, in an order of their own

abbrev all_but_one : List ℕ
all_but_one = 1003 ∷ 1005 ∷ 1002 ∷ 1006 ∷ 1001 ∷ 1007 ∷ 1000 ∷ 1008 ∷ []

the_one : chosen_id Regular (Some (1000, 1008)) all_but_one ≡ Some 1004
the_one = refl

the_one_down : chosen_id System (Some (1000, 1008)) all_but_one ≡ Some 1004
the_one_down = refl

none_behind : chosen_id Regular (Some (1005, 1008)) all_but_one ≡ None
none_behind = refl

none_behind_down : chosen_id System (Some (1005, 1008)) all_but_one ≡ None
none_behind_down = refl

above : chosen_id Regular (Some (999, 1009)) all_but_one ≡ Some 1009
above = refl

below : chosen_id System (Some (999, 1009)) all_but_one ≡ Some 999
below = refl

-- ---- up to the greatest ID

least_of_all : chosen_id Regular (Some (0, 4294967294)) [] ≡ Some 0
least_of_all = refl

greatest_of_all : chosen_id System (Some (0, 4294967294)) [] ≡ Some 4294967294
greatest_of_all = refl

abbrev ends_used : List ℕ
ends_used = 4294967295 ∷ 4294967294 ∷ 0 ∷ []

only_zero : chosen_id System (Some (0, 0)) ends_used ≡ None
only_zero = refl

no_last_two : chosen_id Regular (Some (4294967294, 4294967295)) ends_used ≡ None
no_last_two = refl

one_of_the_last : chosen_id Regular (Some (4294967292, 4294967295)) (4294967293 ∷ ends_used)
    ≡ Some 4294967292
one_of_the_last = refl

one_of_the_last_down : chosen_id System (Some (4294967292, 4294967295)) (4294967293 ∷ ends_used)
    ≡ Some 4294967292
one_of_the_last_down = refl
