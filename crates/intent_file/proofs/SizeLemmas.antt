-- Claims: the lines of an intent are short (`header-most`, `line-most`), so each is one piece, and the
-- text of an intent has at most 1,543 pieces (`pieces-most`) and bytes within a bound (`text-most`).
-- Way: numbers have few digits, and each of six tables at most has 256 pieces.
use Rattle.std.proofs.Common.{◌≡◌, refl, sym, ap, ◌∙◌, ℕ, suc, ◌+◌, ◌*◌, ◌<◌, ◌≤◌, true, nat_le, List, [], ◌∷◌, ◌++◌, length, drop, get_or, All, append_assoc, arith, lit<, lit≤}
use Rattle.std.specs.Prelude.{decimal, codes}
use Rattle.std.proofs.lemmas.Bool.{and_parts}
use Rattle.std.proofs.lemmas.Bool.Decides.{nat_tests}
use Rattle.std.proofs.lemmas.Fmt.{length-decimal-le}
use Rattle.std.proofs.lemmas.Grind.{div_ceil_times}
use Rattle.std.proofs.lemmas.List.{length-append, drop_more}
use Rattle.std.proofs.lemmas.List.Elements.{All-cons, All-nil}
use Rattle.std.proofs.lemmas.List.Sums.{sum_by-le}
use Rattle.acct_text.specs.declared.Tab.{Tab}
use Rattle.acct_text.specs.declared.Tab.TheVariants.{Passwd}
use Rattle.acct_text.specs.Bytes.{Bytes}
use Rattle.acct_text.specs.Limits.{table_limit}
use Rattle.acct_text.specs.Tables.{table_name}
use Rattle.acct_outside.specs.Names.{greatest_lock}
use Rattle.acct_outside.specs.Pieces.{piece_count, piece_limit}
use Rattle.intent_file.specs.declared.Version.{Version}
use Rattle.intent_file.specs.declared.Version.TheVariants.{One, Two}
use Rattle.intent_file.specs.Intent.{NewTable, Intended, header, header_of, body, table_part, table_parts, end_part, intent_text, total_word, version_number, is_allowed, is_in_order, is_within_limit, is_lock_number}
use Rattle.intent_file.specs.Pieces.{intent_pieces, lines_around, table_line}
use Rattle.intent_file.proofs.PieceLemmas.{lines-length, pieces-counted}
use Rattle.intent_file.proofs.Reading.{at_most_six, allowed_parts}

-- the name of a table is short
pub name-most : (table : Tab) → length (table_name table) ≤ 7
name-most Passwd = lit≤ tt
name-most table = lit≤ tt

-- the part of a table is its line, its bytes and a newline
pub part-length : (new : NewTable)
    → length (table_part new) ≡ length (table_line new) + (length new.bytes + 1)
part-length new =
    ap length (whole (table_name new.table) (decimal (length new.bytes)) new.bytes)
    ∙ (length-append (table_line new) (new.bytes ++ codes "\n")
    ∙ ap (λ (rest : ℕ). length (table_line new) + rest) (length-append new.bytes (codes "\n")))
  where
    whole : (name size bytes : Bytes)
        → name ++ (codes " " ++ (size ++ (codes "\n" ++ (bytes ++ codes "\n"))))
        ≡ (name ++ (codes " " ++ (size ++ codes "\n"))) ++ (bytes ++ codes "\n")
    whole name size bytes = simp append_assoc refl

-- the parts of the tables from a place on are the first of them and the others
pub parts-length : (tables : List NewTable) (place : ℕ) (new : NewTable) → place < length tables
    → new ≡ get_or tables place new
    → length (table_parts (drop place tables))
    ≡ length (table_part new) + length (table_parts (drop (place + 1) tables))
parts-length tables place new listed new_is =
    ap (λ (some : List NewTable). length (table_parts some)) (drop_more tables place new listed)
    ∙ (ap (λ (one : NewTable). length (table_parts (one ∷ drop (place + 1) tables))) (sym new_is)
    ∙ length-append (table_part new) (table_parts (drop (place + 1) tables)))

-- the line of a table is short
line-most : (new : NewTable) → length new.bytes ≤ table_limit → length (table_line new) ≤ 17
line-most new most =
    let name = name-most new.table in
    let digits : length (decimal (length new.bytes)) ≤ 8 =
    length-decimal-le 8 (length new.bytes) (lit≤ tt) (omega (arith, most)) (omega (arith, most)) in
    let whole : length (table_line new)
    ≡ length (table_name new.table) + suc (length (decimal (length new.bytes)) + 1) =
    length-append (table_name new.table) _
    ∙ ap (λ (rest : ℕ). length (table_name new.table) + suc rest)
    (length-append (decimal (length new.bytes)) (codes "\n")) in
    omega (arith, whole, name, digits)

-- what is within its limit by the test is so
least : (size : ℕ) → nat_le size table_limit ≡ true → size ≤ table_limit
least size is = grind (arith, nat_tests)

-- the parts of tables have short lines beside their bytes
parts-most : (tables : List NewTable) → is_within_limit tables ≡ true →
    length (table_parts tables) ≤ length tables * 16777234
parts-most [] within = lit≤ tt
parts-most (new ∷ tables) within =
    let both = and_parts (nat_le (length new.bytes) table_limit) (is_within_limit tables) within in
    let most = least (length new.bytes) both.0 in
    let line = line-most new most in
    let part = part-length new in
    let rest = parts-most tables both.1 in
    let whole = length-append (table_part new) (table_parts tables) in
    omega (arith, whole, most, line, part, rest)

-- what follows the header of an intent has some hundred million bytes at most
pub body-most : (tables : List NewTable) → is_in_order tables ≡ true →
    is_within_limit tables ≡ true → length (body tables) ≤ 100663408
body-most tables order within =
    let few = at_most_six tables order in
    let parts = parts-most tables within in
    let whole = length-append (table_parts tables) end_part in
    omega (arith, few, parts, whole)

-- what a header says of the total is short
total-most : (version : Version) (total : ℕ) → total ≤ 100663408 →
    length (total_word version total) ≤ 10
total-most One total most = lit≤ tt
total-most Two total most =
    let digits : length (decimal total) ≤ 9 =
    length-decimal-le 9 total (lit≤ tt) (omega (arith, most)) (omega (arith, most)) in
    omega (arith, digits)

-- the header is short
pub header-most : (version : Version) (number count total : ℕ) → is_lock_number number ≡ true →
    count ≤ 6 → total ≤ 100663408 → length (header version number count total) ≤ 49
header-most version number count total is few most =
    let both = and_parts (nat_le 1 number) (nat_le number greatest_lock) is in
    let greatest = below both.1 in
    let first : length (decimal (version_number version)) ≤ 1 = one_digit version in
    let digits : length (decimal number) ≤ 18 =
    length-decimal-le 18 number (lit≤ tt) (omega (arith, greatest)) (omega (arith, greatest)) in
    let digit : length (decimal count) ≤ 1 =
    length-decimal-le 1 count (lit≤ tt) (omega (arith, few)) (omega (arith, few)) in
    let last = total-most version total most in
    let words : length (codes "accounts-intent ") ≡ 16 = refl in
    let whole = header_length (codes "accounts-intent ") (decimal (version_number version))
    (decimal number) (decimal count) (total_word version total) in
    omega (arith, words, whole, first, digits, digit, last)
  where
    below : nat_le number greatest_lock ≡ true → number ≤ greatest_lock
    below is_most = grind (arith, nat_tests)

    one_digit : (some : Version) → length (decimal (version_number some)) ≤ 1
    one_digit One = length-decimal-le 1 1 (lit≤ tt) (lit< tt) (lit< tt)
    one_digit Two = length-decimal-le 1 2 (lit≤ tt) (lit< tt) (lit< tt)

    header_length : (word version number count total : Bytes)
        → length (word ++ (version ++ (codes " " ++ (number ++ (codes " " ++ (count
        ++ (total ++ codes "\n")))))))
        ≡ length word + (length version + suc (length number + suc (length count
        + (length total + 1))))
    header_length word version number count total =
        length-append word _
        ∙ ap (λ (rest : ℕ). length word + rest) (length-append version _
        ∙ ap (λ (rest : ℕ). length version + suc rest) (length-append number _
        ∙ ap (λ (rest : ℕ). length number + suc rest) (length-append count _
        ∙ ap (λ (rest : ℕ). length count + rest) (length-append total (codes "\n")))))

-- so is that of an intent
pub header_of-most : (intent : Intended) → is_allowed intent ≡ true →
    length (header_of intent.version intent.number intent.tables) ≤ 49
header_of-most intent allowed =
    let parts = allowed_parts intent allowed in
    header-most intent.version intent.number (length intent.tables) (length (body intent.tables))
    parts.number (at_most_six intent.tables parts.in_order)
    (body-most intent.tables parts.in_order parts.within_limit)

-- an intent that reads has at most so many bytes
pub text-most : (intent : Intended) → is_allowed intent ≡ true →
    length (intent_text intent) ≤ 100663457
text-most intent allowed =
    let parts = allowed_parts intent allowed in
    let head = header_of-most intent allowed in
    let rest = body-most intent.tables parts.in_order parts.within_limit in
    let whole = length-append (header_of intent.version intent.number intent.tables)
    (body intent.tables) in
    omega (arith, whole, head, rest)

-- a short line is one piece
one-piece : (line : Bytes) → length line ≤ 65536 → piece_count line ≤ 1
one-piece line short =
    let bounds = div_ceil_times (length line) piece_limit (omega arith) in
    let long : piece_count line * piece_limit < length line + piece_limit = bounds.1 in
    omega (arith, long, short)

-- a table within its limit has at most 256 pieces
pub table-pieces : (text : Bytes) → length text ≤ table_limit → piece_count text ≤ 256
table-pieces text most =
    let bounds = div_ceil_times (length text) piece_limit (omega arith) in
    let long : piece_count text * piece_limit < length text + piece_limit = bounds.1 in
    omega (arith, long, most)

-- each of the lines around the tables is one piece
lines-single : (before : Bytes) → length before ≤ 49 → (tables : List NewTable) →
    is_within_limit tables ≡ true →
    All (λ line. piece_count line ≤ 1) (lines_around before tables)
lines-single before short [] within =
    let size = length-append before end_part in
    let line = one-piece (before ++ end_part) (omega (arith, size, short)) in
    All-cons (λ (line : Bytes). piece_count line ≤ 1) (before ++ end_part) [] line
    (All-nil (λ (line : Bytes). piece_count line ≤ 1))
lines-single before short (new ∷ tables) within =
    let both = and_parts (nat_le (length new.bytes) table_limit) (is_within_limit tables) within in
    let here = line-most new (least (length new.bytes) both.0) in
    let size = length-append before (table_line new) in
    let line = one-piece (before ++ table_line new) (omega (arith, size, short, here)) in
    All-cons (λ (line : Bytes). piece_count line ≤ 1) (before ++ table_line new)
    (lines_around (codes "\n") tables) line
    (lines-single (codes "\n") (lit≤ tt) tables both.1)

-- each of the tables has at most 256
tables-few : (tables : List NewTable) → is_within_limit tables ≡ true →
    All (λ new. piece_count new.bytes ≤ 256) tables
tables-few [] within = All-nil (λ (new : NewTable). piece_count new.bytes ≤ 256)
tables-few (new ∷ tables) within =
    let both = and_parts (nat_le (length new.bytes) table_limit) (is_within_limit tables) within in
    All-cons (λ (new : NewTable). piece_count new.bytes ≤ 256) new tables
    (table-pieces new.bytes (least (length new.bytes) both.0)) (tables-few tables both.1)

-- the claim
pub pieces-most : (intent : Intended) → is_allowed intent ≡ true →
    length (intent_pieces intent) ≤ 1543
pieces-most intent allowed =
    let parts = allowed_parts intent allowed in
    let few = at_most_six intent.tables parts.in_order in
    let head = header_of intent.version intent.number intent.tables in
    let short = header_of-most intent allowed in
    let counted = pieces-counted head intent.tables in
    let lines = sum_by-le piece_count 1 (lines_around head intent.tables)
    (lines-single head short intent.tables parts.within_limit) in
    let tables = sum_by-le (λ (new : NewTable). piece_count new.bytes) 256 intent.tables
    (tables-few intent.tables parts.within_limit) in
    let size = lines-length head intent.tables in
    omega (arith, few, counted, lines, tables, size)
