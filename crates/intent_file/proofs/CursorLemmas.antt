-- What a cursor takes as it goes: a text as it is (`literal-taken`), and words, which read as a
-- number or the name of a table (`word_read`). Way: the bytes begin with one word at most, and a
-- word reads as one value at most.
use Rattle.std.proofs.Common.{nat_eq, take, drop, ◌-◌, zero, suc, ◌≡◌, ◌≢◌, refl, sym, ap, ap₂, ◌∙◌, ℕ, ◌<◌, ◌≤◌, ◌^◌, Bool, true, false, nat_lt, cond, List, [], ◌∷◌, ◌++◌, length, Option, Some, None, Ok, decimal, arith, lit<, true≢false, bytes_eq, get_or}
use Rattle.std.specs.Prelude.{⊤, find, MatchOption, slice_get}
use Rattle.std.specs.List.{AllByRecursion}
use Rattle.std.specs.Option.{ok_or}
use Rattle.std.specs.Result.{result_ok}
use Rattle.std.specs.Str.Parse.{AllDigits}
use Rattle.std.proofs.lemmas.Fmt.{decimal_is_IsNumeral, decimal_injective, decimal-digits_value, decimal_digit, first_decimal}
use Rattle.std.proofs.lemmas.List.{take-append-drop}
use Rattle.std.proofs.Math.Seq.{take-append_seam}
use Rattle.std.specs.Cmp.Lexicographic.{pointwise, same_text, other_text}
use Rattle.std.proofs.lemmas.Slice.Eq.{bytes_eq-Decides}
use Rattle.std.proofs.lemmas.Str.Parse.{numerals_by_value, tells_digits}
use Rattle.acct_text.specs.declared.Tab.{Tab}
use Rattle.acct_text.specs.declared.Tab.TheVariants.{Passwd, Shadow, Group, Gshadow, Subuid, Subgid}
use Rattle.acct_text.specs.declared.numbers.NumberFault.{NumberFault}
use Rattle.acct_text.specs.Bytes.{Bytes, zero_digit}
use Rattle.std.specs.Ordering.{partial_lt}
use Rattle.acct_text.specs.contracts.TabPartialOrd.TheImpl.{partial_cmp-value}
use Rattle.acct_text.specs.Numbers.{number_of, number_within, number_fault}
use Rattle.acct_text.specs.Pieces.{Lacks}
use Rattle.acct_text.specs.Tables.{all_tables, table_name, table_place}
use Rattle.acct_text.proofs.NumberLaws.{number_of-within, number-is}
use Rattle.intent_file.specs.Cursor.{TakesValue, ReadsAs, HasLeadingZero, IsBetween, comes_behind, word_part}
use Rattle.intent_file.specs.Intent.{NewTable}
use Rattle.intent_file.specs.Parts.{BeginsWith, BeginsWithNone}
use Rattle.intent_file.proofs.PartsLemmas.{word_cut, decimal_lacks}

-- A value that is a word: no value is taken where no word is, and a word is taken as what it reads as.
module _ {Value : Type 0} (end : ℕ) (MayStand : Value → Type 0) (part : Value → Bytes)
    (lacks : (value : Value) → MayStand value → Lacks end (part value)) (old : Bytes) where
  -- the part of a value with the end behind it
  abbrev ended : Value → Bytes
  ended value = word_part end (part value)

  -- where there is no word, there is no value
  pub no_word : BeginsWithNone (Lacks end) (word_part end) old → BeginsWithNone MayStand ended old
  no_word none value rest begins =
      none (part value) rest (record { stands = lacks value begins.stands; whole = begins.whole })

  -- where there is a word, there is the value that it reads as
  pub word_read :
      (word new : Bytes) (result : Option Value)
      → BeginsWith (Lacks end) (word_part end) old word new
      → ReadsAs MayStand part word result
      → TakesValue MayStand ended old result new
  word_read word new (Some value) begins reads = record {
    stands = reads.0;
    whole = begins.whole ∙ ap (λ w. word_part end w ++ new) reads.1;
  }
  word_read word new None begins reads = λ value rest other.
      let cut = word_cut end word (part value) new rest begins.stands (lacks value other.stands)
      (sym begins.whole ∙ other.whole) in
      reads value other.stands cut.values

-- Numbers.

-- a number in decimal reads as it
number_of-decimal :
    (greatest number : ℕ)
    → number ≤ greatest
    → greatest < 2 ^ 64
    → number_of greatest (decimal number) ≡ Ok number
number_of-decimal greatest number most small =
    let numeral = decimal_is_IsNumeral number (omega arith) in
    number_of-within greatest (decimal number) numeral.0 (omega (arith, numeral.1, most))
    ∙ ap Ok numeral.1

-- a number in decimal has no leading zero
pub no_leading_zero : (number : ℕ) → number < 2 ^ 64 → HasLeadingZero (decimal number) → ⊥
no_leading_zero zero small zero_leads =
    let one_digit = ap length (decimal_digit 0 (lit< tt)) in
    let long = zero_leads.0 in omega arith
no_leading_zero (suc number) small zero_leads =
    let first = first_decimal (suc number) (omega arith) small in
    let is_zero = zero_leads.1 in omega arith

-- a first `0` that doesn't lead stands alone
stands_alone :
    (digits : Bytes)
    → 0 < length digits
    → (HasLeadingZero digits → ⊥)
    → get_or digits 0 0 ≡ zero_digit
    → length digits ≡ 1
stands_alone [] some none first = absurd (omega arith)
stands_alone (digit ∷ []) some none first = refl
stands_alone (digit ∷ next ∷ digits) some none first = absurd (none (omega arith, first))

-- a number that is told is there
within-ok :
    (number : ℕ) (within : Option ℕ) (fault : NumberFault)
    → result_ok (ok_or within fault) ≡ Some number
    → within ≡ Some number
within-ok number None fault ok = cc
within-ok number (Some other) fault ok = cc

-- digits without a leading zero are the number that they read as in decimal
pub digits-decimal :
    (greatest number : ℕ) (digits : Bytes)
    → greatest < 2 ^ 64
    → (HasLeadingZero digits → ⊥)
    → result_ok (number_of greatest digits) ≡ Some number
    → (number ≤ greatest) × (digits ≡ decimal number)
digits-decimal greatest number digits small none reads =
    let is = number-is greatest digits number
    (within-ok number (number_within greatest digits) (number_fault digits) reads) in
    let value = is.value in
    let most = is.bounded in
    let written = decimal-digits_value (numerals_by_value (AllDigits 10) tells_digits) digits
    is.digits.1 is.digits.0 (stands_alone digits is.digits.0 none) (omega (arith, value, most)) in
    (most, sym written ∙ ap decimal value)

-- digits that read as one number are no other
pub read-decimal :
    (greatest number other : ℕ) (digits : Bytes)
    → greatest < 2 ^ 64
    → (HasLeadingZero digits → ⊥)
    → result_ok (number_of greatest digits) ≡ Some number
    → other ≤ greatest
    → digits ≡ decimal other
    → number ≡ other
read-decimal greatest number other digits small none reads most written =
    let read = digits-decimal greatest number digits small none reads in
    let first = read.0 in
    decimal_injective number other (omega arith) (omega arith) (sym read.1 ∙ written)

-- digits that read as no number are none in decimal
pub other-decimal :
    (greatest number : ℕ) (digits : Bytes)
    → greatest < 2 ^ 64
    → number ≤ greatest
    → result_ok (number_of greatest digits) ≡ None
    → digits ≢ decimal number
other-decimal greatest number digits small most none same =
    let ok = ap result_ok
    (ap (number_of greatest) same ∙ number_of-decimal greatest number most small) in cc

-- a number between bounds has no byte below the digits
pub between-lacks :
    (end least greatest : ℕ)
    → end < zero_digit
    → (number : ℕ)
    → IsBetween least greatest number
    → Lacks end (decimal number)
between-lacks end least greatest low number between = decimal_lacks end number low

-- Names.

-- among some tables the one found by its name has it, and where none is found none has it
named-among :
    (tables : List Tab) (name : Bytes)
    → MatchOption (find (λ t. bytes_eq (table_name t) name) tables)
    (AllByRecursion (λ t. name ≢ table_name t) tables)
    (λ t. name ≡ table_name t)
named-among [] name = tt
named-among (table ∷ tables) name =
    by_test (bytes_eq (table_name table) name) refl (named-among tables name)
  where
    later : Option Tab
    later = find (λ t. bytes_eq (table_name t) name) tables

    by_test :
        (is_named : Bool)
        → bytes_eq (table_name table) name ≡ is_named
        → MatchOption later (AllByRecursion (λ t. name ≢ table_name t) tables)
        (λ t. name ≡ table_name t)
        → MatchOption (cond is_named (Some table) later)
        (AllByRecursion (λ t. name ≢ table_name t) (table ∷ tables))
        (λ t. name ≡ table_name t)
    by_test true named found = sym ((bytes_eq-Decides (table_name table) name).0 named)
    by_test false other found = among_later later found
      where
        among_later :
            (found : Option Tab)
            → MatchOption found (AllByRecursion (λ t. name ≢ table_name t) tables)
            (λ t. name ≡ table_name t)
            → MatchOption found
            (AllByRecursion (λ t. name ≢ table_name t) (table ∷ tables))
            (λ t. name ≡ table_name t)
        among_later None none = (
          (λ same. true≢false
              (sym ((bytes_eq-Decides (table_name table) name).1 (sym same)) ∙ other)),
          none,
        )
        among_later (Some found) named = named

-- the table found by its name is the one that the name reads as
pub name-read :
    (name : Bytes)
    → ReadsAs (λ _. ⊤) table_name name (find (λ table. bytes_eq (table_name table) name) all_tables)
name-read name =
    told (find (λ table. bytes_eq (table_name table) name) all_tables) (named-among all_tables name)
  where
    told :
        (found : Option Tab)
        → MatchOption found (AllByRecursion (λ t. name ≢ table_name t) all_tables)
        (λ t. name ≡ table_name t)
        → ReadsAs (λ _. ⊤) table_name name found
    told None none = λ table _. each table
      where
        each : (t : Tab) → name ≢ table_name t
        each Passwd = none.0
        each Shadow = none.1.0
        each Group = none.1.1.0
        each Gshadow = none.1.1.1.0
        each Subuid = none.1.1.1.1.0
        each Subgid = none.1.1.1.1.1.0
    told (Some table) named = (tt, named)

-- Bytes that are taken as they are.

-- where the first bytes are a text, it is taken
pub literal-taken :
    (text bytes new : Bytes)
    → pointwise nat_eq (take (length text) bytes) text ≡ true
    → new ≡ drop (length text) bytes
    → bytes ≡ text ++ new
literal-taken text bytes new same new_is =
    sym (take-append-drop (length text) bytes)
    ∙ ap₂ (λ (front back : Bytes). front ++ back)
    (same_text (take (length text) bytes) text (sym same)) (sym new_is)

-- where they are another text, it isn't there
pub literal-missed :
    (text bytes : Bytes)
    → pointwise nat_eq (take (length text) bytes) text ≡ false
    → BeginsWithNone {Value = Unit {0}} (λ _. ⊤) (λ _. text) bytes
literal-missed text bytes other value rest begins =
    other_text (take (length text) bytes) text (sym other)
    (ap (take (length text)) begins.whole ∙ take-append_seam text rest)

-- The last of some tables.

-- whether a table comes behind them is told by the last
pub comes_behind-last :
    (table : Tab) (tables : List NewTable) (last : NewTable)
    → slice_get tables (length tables - 1) ≡ Some last
    → comes_behind table tables ≡ nat_lt (table_place last.table) (table_place table)
comes_behind-last table [] last is_last = absurd (cc)
comes_behind-last table (only ∷ []) last is_last =
    let same : only ≡ last = cc in
    ap (λ listed. nat_lt (table_place listed.table) (table_place table)) same
comes_behind-last table (first ∷ second ∷ tables) last is_last =
    comes_behind-last table (second ∷ tables) last (place (length tables) is_last)
  where
    place :
        (count : ℕ)
        → slice_get (first ∷ second ∷ tables) (suc (suc count) - 1) ≡ Some last
        → slice_get (second ∷ tables) (suc count - 1) ≡ Some last
    place count at =
        let less : suc count - 1 ≡ count = omega arith in
        let more : suc (suc count) - 1 ≡ suc count = omega arith in
        ap (slice_get (second ∷ tables)) less
        ∙ (sym (ap (slice_get (first ∷ second ∷ tables)) more) ∙ at)

-- an order of the enum is the fixed order
pub lt-place :
    (table other : Tab)
    → partial_lt partial_cmp-value.it table other ≡ nat_lt (table_place table) (table_place other)
lt-place Passwd Passwd = refl
lt-place Shadow Shadow = refl
lt-place Group Group = refl
lt-place Gshadow Gshadow = refl
lt-place Subuid Subuid = refl
lt-place Subgid Subgid = refl
lt-place table other = refl
