-- What a cursor takes, word by word. A header is taken where its words are, and where one of them
-- isn't there, there is no header (`header-..`); the same for its version (`version-..`), its count
-- with the total (`count-..`, `total-..`), and for a table part (`table-..`).
-- Way: bytes that begin with the whole begin with its words, and each word is one only.
use Rattle.std.proofs.Common.{length-append, append_assoc, ◌≡◌, ◌≢◌, ◌==◌, refl, sym, ap, ◌∙◌, ℕ, ◌+◌, ◌<◌, ◌≤◌, Bool, true, false, if◌then◌else◌, nat_le, nat_lt, List, [], ◌∷◌, ◌++◌, length, decimal, arith, lit<, lit≤, true≢false}
use Rattle.std.specs.Prelude.{⊤}
use Rattle.std.proofs.lemmas.Bool.{and_parts}
use Rattle.std.proofs.lemmas.Bool.Decides.{nat_tests}
use Rattle.std.proofs.lemmas.List.{append_cancel_left}
use Rattle.acct_text.specs.declared.Tab.{Tab}
use Rattle.acct_text.specs.Bytes.{Bytes, newline, blank}
use Rattle.acct_text.specs.Limits.{table_limit}
use Rattle.acct_text.specs.Pieces.{Lacks}
use Rattle.acct_text.specs.Tables.{table_place}
use Rattle.acct_outside.specs.Names.{greatest_lock}
use Rattle.intent_file.specs.declared.Version.{Version}
use Rattle.intent_file.specs.declared.Version.TheVariants.{One, Two}
use Rattle.intent_file.specs.declared.cursor.Header.{Header}
use Rattle.intent_file.specs.Cursor.{TakesTables, LacksTable, IsBetween, comes_behind, word_part, number_part, version_part, count_part, name_part}
use Rattle.intent_file.specs.Intent.{NewTable, table_part, is_in_order, is_within_limit, is_lock_number, version_number, version_of}
use Rattle.intent_file.specs.Parts.{BeginsWith, BeginsWithNone, Headed, HeadedByNone, MayBeListed}
use Rattle.intent_file.proofs.PartsLemmas.{SameCut, within-limit, listed-more, word_cut, number_cut, version_cut, name_cut, bytes_cut, header_words, count_words, table_words, first_word, decimal_lacks, lock-small, within-small}

-- Headers.

-- a lock's number keeps the bounds of one
pub lock-between : (number : ℕ) → is_lock_number number ≡ true → IsBetween 1 greatest_lock number
lock-between number is_lock =
    let parts = and_parts (nat_le 1 number) (nat_le number greatest_lock) is_lock in
    (grind (arith, nat_tests, parts.0), grind (arith, nat_tests, parts.1))

-- a number between the bounds is a lock's
pub between-lock : (number : ℕ) → IsBetween 1 greatest_lock number → is_lock_number number ≡ true
between-lock number between = rw (at_least, at_most) refl
  where
    at_least : nat_le 1 number ≡ true
    at_least = grind (arith, nat_tests, between.0)

    at_most : nat_le number greatest_lock ≡ true
    at_most = grind (arith, nat_tests, between.1)

-- a number that may be a version's is one
version-number : (number : ℕ) → IsBetween 1 2 number → number ≡ version_number (version_of number)
version-number number between = by_test (number == 1) refl
  where
    by_test :
        (is_one : Bool)
        → (number == 1) ≡ is_one
        → number ≡ version_number (if is_one then One else Two)
    by_test true is_one = grind (arith, nat_tests, is_one)
    by_test false is_other = grind (arith, nat_tests, is_other, between.0, between.1)

-- a version's number is 1 or 2
version-between : (version : Version) → IsBetween 1 2 (version_number version)
version-between One = (lit≤ tt, lit≤ tt)
version-between Two = (lit≤ tt, lit≤ tt)

module _ (bytes : Bytes) where
  -- without the first word there is no version
  pub version-no_word :
      BeginsWithNone {Value = Unit {0}} (λ _. ⊤) (λ _. first_word) bytes
      → BeginsWithNone (λ _. ⊤) version_part bytes
  version-no_word none version rest begins = none tt _ (record {
    stands = tt;
    whole = begins.whole
        ∙ append_assoc first_word (number_part blank (version_number version)) rest;
  })

  module _ (behind : Bytes) (begins_word : bytes ≡ first_word ++ behind) where
    -- without its number there is none
    pub version-no_number :
        BeginsWithNone (IsBetween 1 2) (number_part blank) behind
        → BeginsWithNone (λ _. ⊤) version_part bytes
    version-no_number none version rest begins = none (version_number version) rest (record {
      stands = version-between version;
      whole = append_cancel_left first_word behind _ (sym begins_word ∙ (begins.whole
          ∙ append_assoc first_word (number_part blank (version_number version)) rest));
    })

    -- with both there is one
    pub version-stands :
        (number : ℕ) (rest : Bytes)
        → BeginsWith (IsBetween 1 2) (number_part blank) behind number rest
        → BeginsWith (λ _. ⊤) version_part bytes (version_of number) rest
    version-stands number rest begins = record {
      stands = tt;
      whole = begins_word ∙ (ap (λ b. first_word ++ b) (begins.whole
          ∙ ap (λ n. number_part blank n ++ rest) (version-number number begins.stands))
          ∙ sym (append_assoc first_word (number_part blank (version_number (version_of number)))
          rest));
    }

-- The total.

-- the bytes begin with no number of those that follow it
abbrev pub NoTotal : Bytes → Type 0
NoTotal bytes = (rest : Bytes) → bytes ≢ number_part newline (length rest) ++ rest

-- without a word there is no total
pub total-no_word : (bytes : Bytes)
    → BeginsWithNone (Lacks newline) (word_part newline) bytes
    → NoTotal bytes
total-no_word bytes none rest is = none (decimal (length rest)) rest (record {
  stands = decimal_lacks newline (length rest) (lit< tt);
  whole = is;
})

module _ (bytes word behind : Bytes)
    (begins : BeginsWith (Lacks newline) (word_part newline) bytes word behind) where
  -- with another word than the number of the bytes behind it there is no total
  pub total-other :
      ((total : ℕ) → IsBetween (length behind) (length behind) total → word ≢ decimal total)
      → NoTotal bytes
  total-other other rest is =
      let cut = word_cut newline word (decimal (length rest)) behind rest begins.stands
      (decimal_lacks newline (length rest) (lit< tt)) (sym begins.whole ∙ is) in
      other (length behind) (omega arith, omega arith)
      (cut.values ∙ ap (λ b. decimal (length b)) (sym cut.rests))

  -- with that number it is there
  pub total-stands : (total : ℕ)
      → IsBetween (length behind) (length behind) total
      → word ≡ decimal total
      → bytes ≡ number_part newline (length behind) ++ behind
  total-stands total between is =
      let least = between.0 in
      let most = between.1 in
      let same : total ≡ length behind = omega arith in
      begins.whole ∙ ap (λ w. word_part newline w ++ behind) (is ∙ ap decimal same)

-- The count of version 2.

-- the bytes begin with no count of the version and what it says of the bytes that follow
abbrev pub NoCount : Version → Bytes → Type 0
NoCount version bytes =
    (count : ℕ) (rest : Bytes)
    → BeginsWith (IsBetween 1 6) (count_part version (length rest)) bytes count rest
    → ⊥

-- without its number there is none
pub count-no_number : (bytes : Bytes)
    → BeginsWithNone (IsBetween 1 6) (number_part blank) bytes
    → NoCount Two bytes
count-no_number bytes none count rest begins = none count _ (record {
  stands = begins.stands;
  whole = begins.whole ∙ count_words count (length rest) rest;
})

module _ (bytes behind : Bytes) (count : ℕ)
    (begins : BeginsWith (IsBetween 1 6) (number_part blank) bytes count behind) where
  -- without a total there is none
  pub count-no_total : NoTotal behind → NoCount Two bytes
  count-no_total none other rest begun =
      let most = begins.stands.1 in
      let most' = begun.stands.1 in
      none rest (number_cut blank count other behind (number_part newline (length rest) ++ rest)
      (lit< tt) (omega (arith, most)) (omega (arith, most'))
      (sym begins.whole ∙ (begun.whole ∙ count_words other (length rest) rest))).rests

  -- with both there is one
  pub count-stands : (rest : Bytes)
      → behind ≡ number_part newline (length rest) ++ rest
      → BeginsWith (IsBetween 1 6) (count_part Two (length rest)) bytes count rest
  count-stands rest is = record {
    stands = begins.stands;
    whole = begins.whole ∙ (ap (λ b. number_part blank count ++ b) is
        ∙ sym (count_words count (length rest) rest));
  }

-- The header.
module _ (bytes : Bytes) where
  -- without a version there is no header
  pub header-no_version : BeginsWithNone (λ _. ⊤) version_part bytes → HeadedByNone bytes
  header-no_version none head rest begins = none head.version _ (record {
    stands = tt;
    whole = begins.whole ∙ header_words head (length rest) rest;
  })

  module _ (version : Version) (behind : Bytes)
      (begins_version : BeginsWith (λ _. ⊤) version_part bytes version behind) where
    -- what follows the version of a header
    after_version :
        (head : Header) (rest : Bytes)
        → Headed bytes head rest
        → SameCut version head.version behind
        (number_part blank head.number
        ++ (count_part head.version (length rest) head.count ++ rest))
    after_version head rest begins =
        version_cut version head.version behind _
        (sym begins_version.whole ∙ (begins.whole ∙ header_words head (length rest) rest))

    -- without a number there is no header
    pub header-no_number :
        BeginsWithNone (IsBetween 1 greatest_lock) (number_part blank) behind
        → HeadedByNone bytes
    header-no_number none head rest begins = none head.number _ (record {
      stands = lock-between head.number begins.stands.number;
      whole = (after_version head rest begins).rests;
    })

    module _ (number : ℕ) (behind_number : Bytes)
        (begins_number : BeginsWith (IsBetween 1 greatest_lock)
        (number_part blank) behind number behind_number) where
      -- without a count there is no header
      pub header-no_count : NoCount version behind_number → HeadedByNone bytes
      header-no_count none head rest begins =
          let most = begins_number.stands.1 in
          let versions = after_version head rest begins in
          let cut =
          number_cut blank number head.number behind_number
          (count_part head.version (length rest) head.count ++ rest)
          (lit< tt) (omega (arith, most)) (lock-small head.number begins.stands.number)
          (sym begins_number.whole ∙ versions.rests) in
          none head.count rest (record {
            stands = (begins.stands.at_least_one, begins.stands.at_most_six);
            whole = cut.rests
                ∙ ap (λ v. count_part v (length rest) head.count ++ rest) (sym versions.values);
          })

      -- with all of them there is one
      pub header-stands :
          (count : ℕ) (rest : Bytes)
          → BeginsWith (IsBetween 1 6) (count_part version (length rest)) behind_number count rest
          → Headed bytes (record { version = version; number = number; count = count }) rest
      header-stands count rest begins_count =
          let head : Header = record { version = version; number = number; count = count } in
          record {
            stands = record {
              number = between-lock number begins_number.stands;
              at_least_one = begins_count.stands.0;
              at_most_six = begins_count.stands.1;
            };
            whole = begins_version.whole
                ∙ (ap (λ b. version_part version ++ b)
                (begins_number.whole ∙ ap (λ b. number_part blank number ++ b) begins_count.whole)
                ∙ sym (header_words head (length rest) rest));
          }

-- Table parts.

-- what may stand behind tables comes behind the last of them
next-behind :
    (tables : List NewTable) (next : NewTable)
    → is_in_order (tables ++ next ∷ []) ≡ true
    → comes_behind next.table tables ≡ true
next-behind [] next order = refl
next-behind (last ∷ []) next order =
    (and_parts (nat_lt (table_place last.table) (table_place next.table)) true order).0
next-behind (first ∷ second ∷ tables) next order =
    next-behind (second ∷ tables) next
    (and_parts (nat_lt (table_place first.table) (table_place second.table))
    (is_in_order (second ∷ (tables ++ next ∷ []))) order).1

-- what comes behind the last of tables in order may stand behind them
behind-next :
    (tables : List NewTable) (next : NewTable)
    → is_in_order tables ≡ true
    → comes_behind next.table tables ≡ true
    → is_in_order (tables ++ next ∷ []) ≡ true
behind-next [] next order behind = refl
behind-next (last ∷ []) next order behind = rw behind refl
behind-next (first ∷ second ∷ tables) next order behind =
    let parts =
    and_parts (nat_lt (table_place first.table) (table_place second.table))
    (is_in_order (second ∷ tables)) order in
    rw (parts.0, behind-next (second ∷ tables) next parts.1 behind) refl

-- a table with no more bytes than it may have is within its limit
limit-within : (new : NewTable) → length new.bytes ≤ table_limit → is_within_limit (new ∷ []) ≡ true
limit-within new most = rw below refl
  where
    below : nat_le (length new.bytes) table_limit ≡ true
    below = grind (arith, nat_tests, most)

module _ (before : List NewTable) (bytes : Bytes) where
  -- without a name there is no table part
  pub table-no_name :
      BeginsWithNone (λ _. ⊤) name_part bytes
      → BeginsWithNone (MayBeListed before) table_part bytes
  table-no_name none next rest begins =
      none next.table _ (record { stands = tt; whole = begins.whole ∙ table_words next rest })

  module _ (table : Tab) (behind_name : Bytes)
      (begins_name : BeginsWith (λ _. ⊤) name_part bytes table behind_name) where
    -- what follows the name of a table part
    after_name :
        (next : NewTable) (rest : Bytes)
        → BeginsWith (MayBeListed before) table_part bytes next rest
        → SameCut table next.table behind_name
        (number_part newline (length next.bytes) ++ (next.bytes ++ newline ∷ rest))
    after_name next rest begins =
        name_cut table next.table behind_name _
        (sym begins_name.whole ∙ (begins.whole ∙ table_words next rest))

    -- a table that doesn't come behind those before it is no next one
    pub table-not_behind :
        comes_behind table before ≡ false
        → BeginsWithNone (MayBeListed before) table_part bytes
    table-not_behind not_behind next rest begins =
        let same = (after_name next rest begins).values in
        true≢false (sym (next-behind before next begins.stands.in_order)
        ∙ (ap (λ t. comes_behind t before) (sym same) ∙ not_behind))

    -- without a length there is no table part
    pub table-no_length :
        BeginsWithNone (IsBetween 0 table_limit) (number_part newline) behind_name
        → BeginsWithNone (MayBeListed before) table_part bytes
    table-no_length none next rest begins = none (length next.bytes) _ (record {
      stands = (omega arith, within-limit next begins.stands.within_limit);
      whole = (after_name next rest begins).rests;
    })

    module _ (size : ℕ) (behind_length : Bytes)
        (begins_length : BeginsWith (IsBetween 0 table_limit)
        (number_part newline) behind_name size behind_length) where
      -- what follows the line of a table part
      after_length :
          (next : NewTable) (rest : Bytes)
          → BeginsWith (MayBeListed before) table_part bytes next rest
          → SameCut size (length next.bytes) behind_length (next.bytes ++ newline ∷ rest)
      after_length next rest begins =
          let most = begins_length.stands.1 in
          number_cut newline size (length next.bytes) behind_length _ (lit< tt)
          (omega (arith, most))
          (within-small next begins.stands.within_limit)
          (sym begins_length.whole ∙ (after_name next rest begins).rests)

      -- with too few bytes there is no table part
      pub table-no_bytes :
          BeginsWithNone (λ text. length text ≡ size) (λ text. text) behind_length
          → BeginsWithNone (MayBeListed before) table_part bytes
      table-no_bytes none next rest begins =
          let cut = after_length next rest begins in
          none next.bytes (newline ∷ rest) (record { stands = sym cut.values; whole = cut.rests })

      module _ (text behind_bytes : Bytes)
          (begins_bytes : BeginsWith (λ t. length t ≡ size)
          (λ t. t) behind_length text behind_bytes) where
        -- without a newline behind the bytes there is no table part
        pub table-no_newline :
            BeginsWithNone {Value = Unit {0}} (λ _. ⊤) (λ _. newline ∷ []) behind_bytes
            → BeginsWithNone (MayBeListed before) table_part bytes
        table-no_newline none next rest begins =
            let cut = after_length next rest begins in
            let sizes = begins_bytes.stands ∙ cut.values in
            let texts =
            bytes_cut text next.bytes behind_bytes (newline ∷ rest) sizes
            (sym begins_bytes.whole ∙ cut.rests) in
            none tt rest (record { stands = tt; whole = texts.rests })

        -- with all of them there is one
        pub table-stands :
            (rest : Bytes)
            → is_in_order before ≡ true
            → comes_behind table before ≡ true
            → BeginsWith {Value = Unit {0}} (λ _. ⊤) (λ _. newline ∷ []) behind_bytes tt rest
            → BeginsWith (MayBeListed before) table_part bytes
            (record { table = table; bytes = text }) rest
        table-stands rest order behind begins_newline =
            let new : NewTable = record { table = table; bytes = text } in record {
              stands = record {
                in_order = behind-next before new order behind;
                within_limit = limit-within new
                    (omega (arith, sized, most));
              };
              whole = begins_name.whole ∙ (ap (λ b. name_part table ++ b)
                  (begins_length.whole
                  ∙ (ap (λ n. number_part newline n ++ behind_length) (sym sized)
                  ∙ ap (λ b. number_part newline (length text) ++ b)
                  (begins_bytes.whole ∙ ap (λ b. text ++ b) begins_newline.whole)))
                  ∙ sym (table_words new rest));
            }
          where
            sized : length text ≡ size
            sized = begins_bytes.stands

            most : size ≤ table_limit
            most = begins_length.stands.1

-- Tables.

-- with the next table, one more is taken
pub tables-more :
    (old behind new : Bytes) (count : ℕ) (tables : List NewTable) (next : NewTable)
    → TakesTables old count tables behind
    → BeginsWith (MayBeListed tables) table_part behind next new
    → TakesTables old (count + 1) (tables ++ next ∷ []) new
tables-more old behind new count tables next takes begins = record {
  counted = length-append tables (next ∷ []) ∙ ap (λ n. n + 1) takes.counted;
  listed = listed-more old behind new tables next takes.listed begins;
}

-- without a next table, fewer are there
pub tables-lack :
    (old behind : Bytes) (taken count : ℕ) (tables : List NewTable)
    → TakesTables old taken tables behind
    → taken < count
    → BeginsWithNone (MayBeListed tables) table_part behind
    → LacksTable old count (taken + 1)
tables-lack old behind taken count tables takes fewer none =
    let size = takes.counted in
    record {
      tables = tables;
      rest = behind;
      listed = takes.listed;
      fewer = omega arith;
      none = none;
      part_is = omega arith;
    }
