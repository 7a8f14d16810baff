-- The parts of an intent's text can be told apart: bytes begin with one header at most, and with
-- one table part at most, and then what follows is the same (`header_cut`, `table_cut`). What a
-- header says of the bytes that follow it plays no part in this.
-- Way: a word ends with the first byte that ends words (`word_cut`); numbers and names are words;
-- the bytes of a table are as many as its line says.
use Rattle.std.proofs.Common.{append-nil, not, ◌==◌, ◌≡◌, refl, sym, ap, ap₂, ◌∙◌, ℕ, zero, suc, ◌+◌, ◌/◌, ◌%◌, ◌<◌, ◌≤◌, ◌^◌, Bool, true, false, if◌then◌else◌, nat_le, nat_lt, List, [], ◌∷◌, ◌++◌, length, codes, decimal, append_assoc, arith, lit<}
use Rattle.std.specs.List.{list_all}
use Rattle.std.specs.Fmt.{digits, digits_onto, digit_glyph}
use Rattle.std.proofs.lemmas.Bool.{and_parts}
use Rattle.std.proofs.lemmas.Grind.{flat_map-append}
use Rattle.std.proofs.lemmas.Fmt.{decimal_injective}
use Rattle.std.proofs.lemmas.List.{append_cancel_left}
use Rattle.std.proofs.lemmas.Bool.Decides.{nat_tests}
use Rattle.acct_text.specs.declared.Tab.{Tab}
use Rattle.acct_text.specs.declared.Tab.TheVariants.{Passwd}
use Rattle.acct_text.specs.Bytes.{Bytes, newline, blank, zero_digit}
use Rattle.acct_text.specs.Limits.{table_limit}
use Rattle.acct_text.specs.Pieces.{Lacks}
use Rattle.acct_text.specs.Tables.{table_name}
use Rattle.acct_outside.specs.Names.{greatest_lock}
use Rattle.intent_file.specs.declared.Version.{Version}
use Rattle.intent_file.specs.declared.Version.TheVariants.{One, Two}
use Rattle.intent_file.specs.declared.cursor.Header.{Header}
use Rattle.intent_file.specs.Cursor.{word_part, number_part, version_part, count_part, name_part}
use Rattle.intent_file.specs.Intent.{NewTable, table_part, table_parts, is_within_limit, is_lock_number, table_of_name, version_number, version_of}
use Rattle.intent_file.specs.Parts.{BeginsWith, AreListed, IsHeader, MayBeListed, header_part}

-- two parts and what follows them are the same
pub record SameCut {Value : Type 0} (value other : Value) (rest tail : Bytes) : Type 0 where
  pub values : value ≡ other
  pub rests : rest ≡ tail

-- bytes begin with one word at most before the byte that ends it
pub word_cut :
    (end : ℕ) (word other rest tail : Bytes)
    → Lacks end word
    → Lacks end other
    → word_part end word ++ rest ≡ word_part end other ++ tail
    → SameCut word other rest tail
word_cut end [] [] rest tail lacks lacks' same = record { values = refl; rests = cc }
word_cut end [] (byte ∷ other) rest tail lacks lacks' same = absurd (lacks'.0 (cc))
word_cut end (byte ∷ word) [] rest tail lacks lacks' same = absurd (lacks.0 (cc))
word_cut end (byte ∷ word) (first ∷ other) rest tail lacks lacks' same =
    let first_is : byte ≡ first = cc in
    let cut = word_cut end word other rest tail lacks.1 lacks'.1 (cc) in
    record { values = ap₂ (λ (b : ℕ) (w : Bytes). b ∷ w) first_is cut.values; rests = cut.rests }

-- bytes of one length are one in front of any rest
pub bytes_cut :
    (bytes other rest tail : Bytes)
    → length bytes ≡ length other
    → bytes ++ rest ≡ other ++ tail
    → SameCut bytes other rest tail
bytes_cut [] [] rest tail size same = record { values = refl; rests = same }
bytes_cut [] (byte ∷ other) rest tail size same = absurd (omega arith)
bytes_cut (byte ∷ bytes) [] rest tail size same = absurd (omega arith)
bytes_cut (byte ∷ bytes) (first ∷ other) rest tail size same =
    let first_is : byte ≡ first = cc in
    let cut = bytes_cut bytes other rest tail (omega arith) (cc) in
    record { values = ap₂ (λ (b : ℕ) (w : Bytes). b ∷ w) first_is cut.values; rests = cut.rests }

-- no digit is a byte below the digits
glyph_above : (digit : ℕ) → zero_digit ≤ digit_glyph false digit
glyph_above digit = by_test (nat_lt digit 10)
  where
    by_test : (is_small : Bool) → zero_digit ≤ (if is_small then 48 + digit else 87 + digit)
    by_test true = omega arith
    by_test false = omega arith

-- digits that are written in front of others have none either
onto_lacks :
    (end count number : ℕ) (digits : Bytes)
    → end < zero_digit
    → Lacks end digits
    → Lacks end (digits_onto count 10 false number digits)
onto_lacks end zero number digits low lacks = lacks
onto_lacks end (suc count) number digits low lacks =
    either (number / 10 == 0) more (onto_lacks end count (number / 10) (glyph ∷ digits) low more)
  where
    glyph : ℕ
    glyph = digit_glyph false (number % 10)

    more : Lacks end (glyph ∷ digits)
    more = (
      λ same. absurd (let above = glyph_above (number % 10) in omega (arith, same, above, low)),
      lacks,
    )

    either : (is_last : Bool) → Lacks end (glyph ∷ digits)
        → Lacks end (digits_onto count 10 false (number / 10) (glyph ∷ digits))
        → Lacks end (if is_last then glyph ∷ digits
        else digits_onto count 10 false (number / 10) (glyph ∷ digits))
    either true here later = here
    either false here later = later

-- a number in decimal has no byte below the digits
pub decimal_lacks : (end number : ℕ) → end < zero_digit → Lacks end (decimal number)
unfolding digits
decimal_lacks end number low = onto_lacks end 64 number [] low tt

-- bytes begin with one number at most before the byte that ends it
pub number_cut :
    (end number other : ℕ) (rest tail : Bytes)
    → end < zero_digit
    → number < 2 ^ 64
    → other < 2 ^ 64
    → number_part end number ++ rest ≡ number_part end other ++ tail
    → SameCut number other rest tail
number_cut end number other rest tail low small small' same =
    let cut = word_cut end (decimal number) (decimal other) rest tail (decimal_lacks end number low)
    (decimal_lacks end other low) same in
    record { values = decimal_injective number other small small' cut.values; rests = cut.rests }

-- a text none of whose bytes is the end lacks it
lacks_by_test :
    (end : ℕ) (text : Bytes)
    → list_all (λ byte. not (byte == end)) text ≡ true
    → Lacks end text
lacks_by_test end [] differ = tt
lacks_by_test end (byte ∷ text) differ =
    let parts = and_parts (not (byte == end)) (list_all (λ b. not (b == end)) text) differ in
    (grind (arith, nat_tests, parts.0), lacks_by_test end text parts.1)

-- no name of a table has a blank
pub name_lacks : (table : Tab) → Lacks blank (table_name table)
name_lacks table = lacks_by_test blank (table_name table) (no_blank table)
  where
    no_blank : (t : Tab) → list_all (λ byte. not (byte == blank)) (table_name t) ≡ true
    no_blank Passwd = refl
    no_blank t = refl

-- a table is found by its name
pub table_of_name-name : (table : Tab) → table_of_name (table_name table) ≡ table
table_of_name-name Passwd = refl
table_of_name-name table = refl

-- no two tables have one name
pub name-injective : (table other : Tab) → table_name table ≡ table_name other → table ≡ other
name-injective table other same =
    sym (table_of_name-name table) ∙ (ap table_of_name same ∙ table_of_name-name other)

-- bytes begin with the name of one table at most
pub name_cut :
    (table other : Tab) (rest tail : Bytes)
    → name_part table ++ rest ≡ name_part other ++ tail
    → SameCut table other rest tail
name_cut table other rest tail same =
    let names = table_name table in
    let cut =
    word_cut blank names (table_name other) rest tail (name_lacks table)
    (name_lacks other) same in
    record { values = name-injective table other cut.values; rests = cut.rests }

-- the first word of a header
abbrev pub first_word : Bytes
first_word = codes "accounts-intent "

-- a header is its version, its number and its count with what ends it
pub header_words :
    (head : Header) (total : ℕ) (rest : Bytes)
    → header_part total head ++ rest
    ≡ version_part head.version
    ++ (number_part blank head.number ++ (count_part head.version total head.count ++ rest))
header_words head total rest = simp append_assoc refl

-- in version 2 the total stands behind the count
pub count_words :
    (count total : ℕ) (rest : Bytes)
    → count_part Two total count ++ rest
    ≡ number_part blank count ++ (number_part newline total ++ rest)
count_words count total rest = simp append_assoc refl

-- a version is found by its number
pub version_of-number : (version : Version) → version_of (version_number version) ≡ version
version_of-number One = refl
version_of-number Two = refl

-- the number of a version is small
pub version-small : (version : Version) → version_number version < 2 ^ 64
version-small One = lit< tt
version-small Two = lit< tt

-- a table part is a name, a length, the bytes and a newline
pub table_words :
    (new : NewTable) (rest : Bytes)
    → table_part new ++ rest
    ≡ name_part new.table ++
    (number_part newline (length new.bytes) ++ (new.bytes ++ newline ∷ rest))
table_words new rest = simp append_assoc refl

-- the number of a lock is small
pub lock-small : (number : ℕ) → is_lock_number number ≡ true → number < 2 ^ 64
lock-small number is_lock =
    let most : number ≤ greatest_lock =
    bound (and_parts (nat_le 1 number) (nat_le number greatest_lock) is_lock).1 in
    omega arith
  where
    bound : nat_le number greatest_lock ≡ true → number ≤ greatest_lock
    bound is_below = grind (arith, nat_tests)

-- bytes begin with one version at most
pub version_cut :
    (version other : Version) (rest tail : Bytes)
    → version_part version ++ rest ≡ version_part other ++ tail
    → SameCut version other rest tail
version_cut version other rest tail same =
    let first = append_assoc first_word (number_part blank (version_number version)) rest in
    let first' = append_assoc first_word (number_part blank (version_number other)) tail in
    let cut = number_cut blank (version_number version) (version_number other) rest tail (lit< tt)
    (version-small version) (version-small other)
    (append_cancel_left first_word _ _ (sym first ∙ (same ∙ first'))) in
    record {
      values = sym (version_of-number version)
          ∙ (ap version_of cut.values ∙ version_of-number other);
      rests = cut.rests;
    }

-- and with one count at most, whatever its total
pub count_cut :
    (version : Version) (count other total total' : ℕ) (rest tail : Bytes)
    → count < 2 ^ 64
    → other < 2 ^ 64
    → count_part version total count ++ rest ≡ count_part version total' other ++ tail
    → SameCut count other rest tail
count_cut One count other total total' rest tail small small' same =
    number_cut newline count other rest tail (lit< tt) small small' same
count_cut Two count other total total' rest tail small small' same =
    let counts = number_cut blank count other (number_part newline total ++ rest)
    (number_part newline total' ++ tail) (lit< tt) small small'
    (sym (count_words count total rest) ∙ (same ∙ count_words other total' tail)) in
    record {
      values = counts.values;
      rests = (word_cut newline (decimal total) (decimal total') rest tail
          (decimal_lacks newline total (lit< tt)) (decimal_lacks newline total' (lit< tt))
          counts.rests).rests;
    }

-- bytes begin with one header at most, whatever its total
pub header_cut :
    (head other : Header) (total total' : ℕ) (rest tail : Bytes)
    → IsHeader head
    → IsHeader other
    → header_part total head ++ rest ≡ header_part total' other ++ tail
    → SameCut head other rest tail
header_cut head other total total' rest tail is_header is_header' same =
    let versions = version_cut head.version other.version
    (number_part blank head.number ++ (count_part head.version total head.count ++ rest))
    (number_part blank other.number ++ (count_part other.version total' other.count ++ tail))
    (sym (header_words head total rest) ∙ (same ∙ header_words other total' tail)) in
    let numbers = number_cut blank head.number other.number
    (count_part head.version total head.count ++ rest)
    (count_part other.version total' other.count ++ tail) (lit< tt)
    (lock-small head.number is_header.number) (lock-small other.number is_header'.number)
    versions.rests in
    let counts = count_cut head.version head.count other.count total total' rest tail
    (small head is_header) (small other is_header')
    (numbers.rests
    ∙ ap (λ v. count_part v total' other.count ++ tail) (sym versions.values)) in
    record {
      values = λ i. record {
        version = versions.values i;
        number = numbers.values i;
        count = counts.values i;
      };
      rests = counts.rests;
    }
  where
    small : (h : Header) → IsHeader h → h.count < 2 ^ 64
    small h is_h = let most = is_h.at_most_six in omega (arith, most)

-- a table within its limit has no more bytes than it may have
pub within-limit :
    (new : NewTable)
    → is_within_limit (new ∷ []) ≡ true
    → length new.bytes ≤ table_limit
within-limit new within =
    let parts = and_parts (nat_le (length new.bytes) table_limit) true within in
    grind (arith, nat_tests, parts.0)

-- its length is small
pub within-small : (new : NewTable) → is_within_limit (new ∷ []) ≡ true → length new.bytes < 2 ^ 64
within-small new within = let most = within-limit new within in omega arith

-- bytes begin with one table part at most
pub table_cut :
    (new other : NewTable) (rest tail : Bytes)
    → is_within_limit (new ∷ []) ≡ true
    → is_within_limit (other ∷ []) ≡ true
    → table_part new ++ rest ≡ table_part other ++ tail
    → SameCut new other rest tail
table_cut new other rest tail within within' same =
    let words = sym (table_words new rest) ∙ (same ∙ table_words other tail) in
    let names = name_cut new.table other.table
    (number_part newline (length new.bytes) ++ (new.bytes ++ newline ∷ rest))
    (number_part newline (length other.bytes) ++ (other.bytes ++ newline ∷ tail)) words in
    let sizes = number_cut newline (length new.bytes) (length other.bytes)
    (new.bytes ++ newline ∷ rest) (other.bytes ++ newline ∷ tail) (lit< tt)
    (within-small new within) (within-small other within') names.rests in
    let cut =
    bytes_cut new.bytes other.bytes (newline ∷ rest)
    (newline ∷ tail) sizes.values sizes.rests in
    record {
      values = λ i. record { table = names.values i; bytes = cut.values i };
      rests = cc;
    }

-- tables within their limit and one more are within it
within-more :
    (tables : List NewTable) (next : NewTable)
    → is_within_limit tables ≡ true
    → is_within_limit (next ∷ []) ≡ true
    → is_within_limit (tables ++ next ∷ []) ≡ true
within-more [] next within within' = within'
within-more (first ∷ tables) next within within' =
    let parts =
    and_parts (nat_le (length first.bytes) table_limit) (is_within_limit tables) within in
    rw (parts.0, within-more tables next parts.1 within') refl

-- bytes that begin with tables and then with a next one, begin with one more
pub listed-more :
    (bytes rest behind : Bytes) (tables : List NewTable) (next : NewTable)
    → BeginsWith AreListed table_parts bytes tables rest
    → BeginsWith (MayBeListed tables) table_part rest next behind
    → BeginsWith AreListed table_parts bytes (tables ++ next ∷ []) behind
listed-more bytes rest behind tables next listed begins = record {
  stands = record {
    in_order = begins.stands.in_order;
    within_limit = within-more tables next listed.stands.within_limit begins.stands.within_limit;
  };
  whole = listed.whole ∙ (ap (λ b. table_parts tables ++ b) begins.whole
      ∙ (sym (append_assoc (table_parts tables) (table_part next) behind)
      ∙ ap (λ b. b ++ behind) (sym parts)));
}
  where
    parts : table_parts (tables ++ next ∷ []) ≡ table_parts tables ++ table_part next
    parts = flat_map-append table_part tables (next ∷ [])
        ∙ ap (λ b. table_parts tables ++ b) (append-nil (table_part next))

-- bytes begin with no tables
pub listed-none : (bytes : Bytes) → BeginsWith AreListed table_parts bytes [] bytes
listed-none bytes =
    record { stands = record { in_order = refl; within_limit = refl }; whole = refl }
