-- What bytes spell: where they begin with a header or with table parts, these are the ones that
-- they spell (`spelled_header-part`, `spelled_table-part`, `spelled_tables-parts`). Way: before the
-- first end stands the word, and behind it what follows.
use Rattle.std.proofs.Common.{◌≡◌, ◌≢◌, refl, sym, ap, ap₂, ◌∙◌, ℕ, suc, ◌<◌, ◌^◌, true, false, ◌==◌, nat_le, List, [], ◌∷◌, ◌++◌, length, take, drop, decimal, append_assoc, arith, lit<}
use Rattle.std.specs.Str.Parse.{digits_value}
use Rattle.std.proofs.lemmas.Bool.{and_parts}
use Rattle.std.proofs.lemmas.Bool.Decides.{nat_tests}
use Rattle.std.proofs.lemmas.Fmt.{decimal_is_IsNumeral}
use Rattle.acct_text.specs.Bytes.{Bytes, newline, blank}
use Rattle.acct_text.specs.Limits.{table_limit}
use Rattle.acct_text.specs.Pieces.{Lacks}
use Rattle.acct_text.specs.Tables.{table_name}
use Rattle.intent_file.specs.declared.Version.{Version}
use Rattle.intent_file.specs.declared.Version.TheVariants.{One, Two}
use Rattle.intent_file.specs.declared.cursor.Header.{Header}
use Rattle.intent_file.specs.Cursor.{word_part, number_part, count_part}
use Rattle.intent_file.specs.Intent.{NewTable, table_part, table_parts, is_within_limit, before_byte, after_byte, table_of_name, listed_length, after_line, spelled_table, after_table, spelled_tables, version_number, version_of, after_first, spelled_version, after_version, spelled_number, after_number, count_end, spelled_count, after_count, after_header}
use Rattle.intent_file.specs.Parts.{header_part}
use Rattle.intent_file.proofs.PartsLemmas.{first_word, header_words, count_words, table_words, decimal_lacks, name_lacks, table_of_name-name, within-small, version-small, version_of-number}

-- other bytes are told apart by the test
other_byte : (byte end : ℕ) → byte ≢ end → (byte == end) ≡ false
other_byte byte end other = grind (arith, nat_tests, other)

-- before the end stands the word
before_byte-word :
    (end : ℕ) (word rest : Bytes)
    → Lacks end word
    → before_byte end (word_part end word ++ rest) ≡ word
before_byte-word end [] rest lacks = rw (same end) refl
  where
    same : (byte : ℕ) → (byte == byte) ≡ true
    same byte = grind (arith, nat_tests)
before_byte-word end (byte ∷ word) rest lacks =
    rw (other_byte byte end lacks.0)
    (ap (λ (w : Bytes). byte ∷ w) (before_byte-word end word rest lacks.1))

-- what follows a word is what is left without it and its end
drop-word :
    (end : ℕ) (word rest : Bytes)
    → drop (suc (length word)) (word_part end word ++ rest) ≡ rest
drop-word end [] rest = refl
drop-word end (byte ∷ word) rest = drop-word end word rest

-- behind the end stands what follows
after_byte-word :
    (end : ℕ) (word rest : Bytes)
    → Lacks end word
    → after_byte end (word_part end word ++ rest) ≡ rest
after_byte-word end word rest lacks =
    ap (λ (w : Bytes). drop (suc (length w)) (word_part end word ++ rest))
    (before_byte-word end word rest lacks)
    ∙ drop-word end word rest

-- the first bytes, as many as a text has
take-text : (text rest : Bytes) → take (length text) (text ++ rest) ≡ text
take-text [] rest = refl
take-text (byte ∷ text) rest = ap (λ (w : Bytes). byte ∷ w) (take-text text rest)

-- Numbers.
module _ (end number : ℕ) (rest : Bytes) (low : end < 48) (small : number < 2 ^ 64) where
  -- the digits before the end are the number
  digits_value-number : digits_value 10 (before_byte end (number_part end number ++ rest)) ≡ number
  digits_value-number =
      ap (digits_value 10)
      (before_byte-word end (decimal number) rest (decimal_lacks end number low))
      ∙ (decimal_is_IsNumeral number small).1

  -- behind the end stands what follows
  after_byte-number : after_byte end (number_part end number ++ rest) ≡ rest
  after_byte-number = after_byte-word end (decimal number) rest (decimal_lacks end number low)

-- Table parts.
module _ (new : NewTable) (rest : Bytes) (small : length new.bytes < 2 ^ 64) where
  -- the bytes with what follows
  abbrev behind_length : Bytes
  behind_length = new.bytes ++ newline ∷ rest

  -- the length with what follows
  abbrev behind_name : Bytes
  behind_name = number_part newline (length new.bytes) ++ behind_length

  -- behind the name stands the length
  after_name : after_byte blank (table_part new ++ rest) ≡ behind_name
  after_name =
      ap (after_byte blank) (table_words new rest)
      ∙ after_byte-word blank (table_name new.table) behind_name (name_lacks new.table)

  -- the name is that of the table
  name_is : table_of_name (before_byte blank (table_part new ++ rest)) ≡ new.table
  name_is =
      ap (λ b. table_of_name (before_byte blank b)) (table_words new rest)
      ∙ (ap table_of_name
      (before_byte-word blank (table_name new.table) behind_name (name_lacks new.table))
      ∙ table_of_name-name new.table)

  -- the length is that of the bytes
  length_is : listed_length (table_part new ++ rest) ≡ length new.bytes
  length_is =
      ap (λ b. digits_value 10 (before_byte newline b)) after_name
      ∙ digits_value-number newline (length new.bytes) behind_length (lit< tt) small

  -- behind the line stand the bytes
  after_line_is : after_line (table_part new ++ rest) ≡ behind_length
  after_line_is =
      ap (after_byte newline) after_name
      ∙ after_byte-number newline (length new.bytes) behind_length (lit< tt) small

  -- bytes that begin with a table part spell its table
  pub spelled_table-part : spelled_table (table_part new ++ rest) ≡ new
  spelled_table-part =
      let bytes_are = ap₂ (λ (n : ℕ) (b : Bytes). take n b) length_is after_line_is
      ∙ take-text new.bytes (newline ∷ rest) in
      λ i. record { table = name_is i; bytes = bytes_are i }

  -- and what follows it is behind that table
  pub after_table-part : after_table (table_part new ++ rest) ≡ rest
  after_table-part =
      ap₂ (λ (n : ℕ) (b : Bytes). drop (suc n) b) length_is after_line_is
      ∙ (ap (drop (suc (length new.bytes))) (sym (append_assoc new.bytes (newline ∷ []) rest))
      ∙ drop-word newline new.bytes rest)

-- bytes that begin with table parts spell their tables
pub spelled_tables-parts :
    (tables : List NewTable) (rest : Bytes)
    → is_within_limit tables ≡ true
    → spelled_tables (length tables) (table_parts tables ++ rest) ≡ tables
spelled_tables-parts [] rest within = refl
spelled_tables-parts (first ∷ tables) rest within =
    let parts =
    and_parts (nat_le (length first.bytes) table_limit) (is_within_limit tables) within in
    let small = within-small first (rw parts.0 refl) in
    let behind = table_parts tables ++ rest in
    ap (spelled_tables (suc (length tables)))
    (append_assoc (table_part first) (table_parts tables) rest)
    ∙ (ap₂ (λ (t : NewTable) (b : Bytes). t ∷ spelled_tables (length tables) b)
    (spelled_table-part first behind small) (after_table-part first behind small)
    ∙ ap (λ (ts : List NewTable). first ∷ ts) (spelled_tables-parts tables rest parts.1))

-- Headers.
module _ (head : Header) (total : ℕ) (rest : Bytes) (small_number : head.number < 2 ^ 64)
    (small_count : head.count < 2 ^ 64) where
  -- a header with what follows it
  abbrev whole : Bytes
  whole = header_part total head ++ rest

  -- the count and the total with what follows
  abbrev behind_number : Bytes
  behind_number = count_part head.version total head.count ++ rest

  -- the number with what follows
  abbrev behind_version : Bytes
  behind_version = number_part blank head.number ++ behind_number

  -- behind the first word stands the version
  first_is :
      after_first whole ≡ number_part blank (version_number head.version) ++ behind_version
  first_is =
      ap after_first (header_words head total rest
      ∙ append_assoc first_word (number_part blank (version_number head.version)) behind_version)

  -- bytes that begin with a header spell its version
  pub spelled_version-part : spelled_version whole ≡ head.version
  spelled_version-part =
      ap (λ b. version_of (digits_value 10 (before_byte blank b))) first_is
      ∙ (ap version_of (digits_value-number blank (version_number head.version) behind_version
      (lit< tt) (version-small head.version))
      ∙ version_of-number head.version)

  -- behind the version stands the number
  version_is : after_version whole ≡ behind_version
  version_is =
      ap (after_byte blank) first_is
      ∙ after_byte-number blank (version_number head.version) behind_version (lit< tt)
      (version-small head.version)

  -- and its number
  pub spelled_number-part : spelled_number whole ≡ head.number
  spelled_number-part =
      ap (λ b. digits_value 10 (before_byte blank b)) version_is
      ∙ digits_value-number blank head.number behind_number (lit< tt) small_number

  -- behind the number stands the count
  number_then : after_number whole ≡ behind_number
  number_then =
      ap (after_byte blank) version_is
      ∙ after_byte-number blank head.number behind_number (lit< tt) small_number

  -- the digits before the end of the count are its digits
  count_is :
      (version : Version)
      → digits_value 10 (before_byte (count_end version)
      (count_part version total head.count ++ rest))
      ≡ head.count
  count_is One = digits_value-number newline head.count rest (lit< tt) small_count
  count_is Two =
      ap (λ b. digits_value 10 (before_byte blank b)) (count_words head.count total rest)
      ∙ digits_value-number blank head.count (number_part newline total ++ rest) (lit< tt)
      small_count

  -- behind the count and the total stands what follows
  count_then :
      (version : Version)
      → after_count version (count_part version total head.count ++ rest) ≡ rest
  count_then One = after_byte-number newline head.count rest (lit< tt) small_count
  count_then Two =
      ap (λ b. after_byte newline (after_byte blank b)) (count_words head.count total rest)
      ∙ (ap (after_byte newline) (after_byte-number blank head.count
      (number_part newline total ++ rest) (lit< tt) small_count)
      ∙ after_byte-word newline (decimal total) rest (decimal_lacks newline total (lit< tt)))

  -- and its count
  pub spelled_count-part : spelled_count head.version whole ≡ head.count
  spelled_count-part =
      ap (λ b. digits_value 10 (before_byte (count_end head.version) b)) number_then
      ∙ count_is head.version

  -- and what follows it is behind that header
  pub after_header-part : after_header head.version whole ≡ rest
  after_header-part = ap (after_count head.version) number_then ∙ count_then head.version
