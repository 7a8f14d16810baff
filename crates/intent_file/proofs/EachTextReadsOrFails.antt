-- Claim: bytes read as an intent, or have a first part that doesn't stand
-- (`each_text_reads_or_fails_holds`). Way: a part stands where the bytes begin with the one that
-- they spell, which a test decides (`header_decides`, `decides`); the tables are tested one after the
-- other.
use Rattle.std.proofs.Common.{◌≡◌, refl, sym, ap, ap₂, ◌∙◌, ℕ, zero, suc, ◌+◌, ◌<◌, ◌^◌, Bool, true, false, ◌&&◌, ◌⊎◌, inl, inr, nat_le, List, [], ◌∷◌, ◌++◌, length, take, drop, length-append, arith, true≢false, bytes_eq}
use Rattle.std.proofs.Math.Seq.{take-append_seam}
use Rattle.std.proofs.lemmas.List.{take-append-drop}
use Rattle.std.proofs.lemmas.Bool.{and_parts}
use Rattle.std.proofs.lemmas.Bool.Decides.{nat_tests}
use Rattle.std.proofs.lemmas.Slice.Eq.{bytes_eq-Decides}
use Rattle.acct_text.specs.Bytes.{Bytes}
use Rattle.intent_file.specs.declared.cursor.Header.{Header}
use Rattle.intent_file.specs.Cursor.{TakesTables}
use Rattle.intent_file.specs.Intent.{NewTable, Intended, table_part, table_parts, end_part, is_in_order, is_within_limit, is_lock_number, ReadsIntent, spelled_version, spelled_number, spelled_count, after_header, spelled_table}
use Rattle.intent_file.specs.Laws.{EachTextReadsOrFails}
use Rattle.intent_file.specs.Parts.{BeginsWith, BeginsWithNone, AreListed, Headed, HeadedByNone, IsHeader, MayBeListed, header_part, FirstFault, no_header, no_table}
use Rattle.intent_file.proofs.IntentLemmas.{front, end-fault, reads-intent}
use Rattle.intent_file.proofs.PartsLemmas.{lock-small, within-small, listed-more, listed-none}
use Rattle.intent_file.proofs.SpelledLemmas.{spelled_version-part, spelled_number-part, spelled_count-part, after_header-part, spelled_table-part}

-- the bytes begin with some part, or with none
data Begins {Value : Type 0} (MayStand : Value → Type 0) (part : Value → Bytes)
    (bytes : Bytes) : Type 0 where
  begins :
      (value : Value) (rest : Bytes)
      → BeginsWith MayStand part bytes value rest
      → Begins MayStand part bytes
  begins_not : BeginsWithNone MayStand part bytes → Begins MayStand part bytes

-- Bytes begin with the part that they spell, or with none.
module _ {Value : Type 0} (MayStand : Value → Type 0) (part : Value → Bytes)
    (spelled : Bytes → Value) (may_stand : Value → Bool)
    (stands : (value : Value) → may_stand value ≡ true → MayStand value)
    (tested : (value : Value) → MayStand value → may_stand value ≡ true)
    (spelled-part : (value : Value) (rest : Bytes) → MayStand value → spelled
    (part value ++ rest) ≡ value)
    (bytes : Bytes) where
  -- the first bytes, as many as the spelled part has
  abbrev front_bytes : Bytes
  front_bytes = take (length (part (spelled bytes))) bytes

  -- a part that the bytes begin with is the spelled one
  is_spelled :
      (value : Value) (rest : Bytes)
      → BeginsWith MayStand part bytes value rest
      → spelled bytes ≡ value
  is_spelled value rest begun = ap spelled begun.whole ∙ spelled-part value rest begun.stands

  -- and the first bytes are it
  front_is :
      (value : Value) (rest : Bytes)
      → BeginsWith MayStand part bytes value rest
      → front_bytes ≡ part (spelled bytes)
  front_is value rest begun =
      ap (λ v. take (length (part v)) bytes) (is_spelled value rest begun)
      ∙ (ap (take (length (part value))) begun.whole
      ∙ (take-append_seam (part value) rest ∙ ap part (sym (is_spelled value rest begun))))

  by_tests :
      (allowed same : Bool)
      → may_stand (spelled bytes) ≡ allowed
      → bytes_eq front_bytes (part (spelled bytes)) ≡ same
      → Begins MayStand part bytes
  by_tests true true allowed same =
      begins (spelled bytes) (drop (length (part (spelled bytes))) bytes) (record {
        stands = stands (spelled bytes) allowed;
        whole = sym (take-append-drop (length (part (spelled bytes))) bytes)
            ∙ ap (λ b. b ++ drop (length (part (spelled bytes))) bytes)
            ((bytes_eq-Decides front_bytes (part (spelled bytes))).0 same);
      })
  by_tests true false allowed other = begins_not (λ value rest begun.
      true≢false
      (sym ((bytes_eq-Decides front_bytes (part (spelled bytes))).1
      (front_is value rest begun)) ∙ other))
  by_tests false same refused same' = begins_not (λ value rest begun.
      true≢false
      (sym (ap may_stand (is_spelled value rest begun) ∙ tested value begun.stands) ∙ refused))

  -- the bytes begin with the spelled part, or with none
  decides : Begins MayStand part bytes
  decides =
      by_tests (may_stand (spelled bytes)) (bytes_eq front_bytes (part (spelled bytes))) refl refl

-- Headers.

-- the header that bytes spell
abbrev spelled_header : Bytes → Header
spelled_header bytes = record {
  version = spelled_version bytes;
  number = spelled_number bytes;
  count = spelled_count (spelled_version bytes) bytes;
}

-- what follows it
abbrev spelled_behind : Bytes → Bytes
spelled_behind bytes = after_header (spelled_version bytes) bytes

-- whether it may stand
abbrev may_be_header : Header → Bool
may_be_header head = is_lock_number head.number && (nat_le 1 head.count && nat_le head.count 6)

-- one that passes the test is a header
header_stands : (head : Header) → may_be_header head ≡ true → IsHeader head
header_stands head passes =
    let first =
    and_parts (is_lock_number head.number)
    (nat_le 1 head.count && nat_le head.count 6) passes in
    let second = and_parts (nat_le 1 head.count) (nat_le head.count 6) first.1 in
    record {
      number = first.0;
      at_least_one = grind (arith, nat_tests, second.0);
      at_most_six = grind (arith, nat_tests, second.1);
    }

-- a header passes the test
header_tested : (head : Header) → IsHeader head → may_be_header head ≡ true
header_tested head is_header = rw (is_header.number, least, most) refl
  where
    least : nat_le 1 head.count ≡ true
    least = grind (arith, nat_tests, is_header.at_least_one)

    most : nat_le head.count 6 ≡ true
    most = grind (arith, nat_tests, is_header.at_most_six)

-- bytes with a header, or with none
data HasHeader (bytes : Bytes) : Type 0 where
  headed : (head : Header) (behind : Bytes) → Headed bytes head behind → HasHeader bytes
  headed_by_none : HeadedByNone bytes → HasHeader bytes

-- a header and what follows it are spelled
record SpellsHeader (bytes : Bytes) (head : Header) (behind : Bytes) : Type 0 where
  header : spelled_header bytes ≡ head
  behind_is : spelled_behind bytes ≡ behind

-- so are those that bytes have
spelled_headed :
    (bytes : Bytes) (head : Header) (behind : Bytes)
    → Headed bytes head behind
    → SpellsHeader bytes head behind
spelled_headed bytes head behind begun =
    let total = length behind in
    let small = lock-small head.number begun.stands.number in
    let most = begun.stands.at_most_six in
    let few : head.count < 2 ^ 64 = omega arith in
    let versions = ap spelled_version begun.whole
    ∙ spelled_version-part head total behind small few in
    let numbers = ap spelled_number begun.whole ∙ spelled_number-part head total behind small few in
    let counts = ap₂ spelled_count versions begun.whole
    ∙ spelled_count-part head total behind small few in
    let follows = ap₂ after_header versions begun.whole
    ∙ after_header-part head total behind small few in
    record {
      header = λ i. record { version = versions i; number = numbers i; count = counts i };
      behind_is = follows;
    }

-- the spelled header in front of as many bytes as follow it, and these
abbrev pub spelled_whole : Bytes → Bytes
spelled_whole bytes =
    header_part (length (spelled_behind bytes)) (spelled_header bytes) ++ spelled_behind bytes

-- bytes with a header are these
pub headed_whole :
    (bytes : Bytes) (head : Header) (behind : Bytes)
    → Headed bytes head behind
    → bytes ≡ spelled_whole bytes
headed_whole bytes head behind begun =
    let spells = spelled_headed bytes head behind begun in
    begun.whole ∙ ap₂ (λ (h : Header) (b : Bytes). header_part (length b) h ++ b)
    (sym spells.header) (sym spells.behind_is)

-- bytes have the header that they spell, or none
header_decides : (bytes : Bytes) → HasHeader bytes
header_decides bytes =
    by_tests (may_be_header (spelled_header bytes)) (bytes_eq bytes (spelled_whole bytes)) refl refl
  where
    by_tests :
        (allowed same : Bool)
        → may_be_header (spelled_header bytes) ≡ allowed
        → bytes_eq bytes (spelled_whole bytes) ≡ same
        → HasHeader bytes
    by_tests true true allowed same =
        headed (spelled_header bytes) (spelled_behind bytes) (record {
          stands = header_stands (spelled_header bytes) allowed;
          whole = (bytes_eq-Decides bytes (spelled_whole bytes)).0 same;
        })
    by_tests true false allowed other = headed_by_none (λ head behind begun.
        true≢false (sym ((bytes_eq-Decides bytes (spelled_whole bytes)).1
        (headed_whole bytes head behind begun)) ∙ other))
    by_tests false same refused same' = headed_by_none (λ head behind begun.
        true≢false
        (sym (ap may_be_header (spelled_headed bytes head behind begun).header
        ∙ header_tested head begun.stands) ∙ refused))

-- Tables.
module _ (before : List NewTable) where
  -- whether a table may be listed behind these
  abbrev may_be_next : NewTable → Bool
  may_be_next next = is_in_order (before ++ next ∷ []) && is_within_limit (next ∷ [])

  -- one that passes the test may be
  next_stands : (next : NewTable) → may_be_next next ≡ true → MayBeListed before next
  next_stands next passes =
      let parts =
      and_parts (is_in_order (before ++ next ∷ [])) (is_within_limit (next ∷ [])) passes in
      record { in_order = parts.0; within_limit = parts.1 }

  -- one that may be listed passes the test
  next_tested : (next : NewTable) → MayBeListed before next → may_be_next next ≡ true
  next_tested next is_next = rw (is_next.in_order, is_next.within_limit) refl

  -- bytes that begin with its part spell it
  spelled_next-part :
      (next : NewTable) (rest : Bytes)
      → MayBeListed before next
      → spelled_table (table_part next ++ rest) ≡ next
  spelled_next-part next rest is_next =
      spelled_table-part next rest (within-small next is_next.within_limit)

-- The claim.

-- what bytes are: an intent, or with a first part that doesn't stand
abbrev ReadsOrFails : Bytes → Type 0
ReadsOrFails bytes =
    ((intent : Intended) × ReadsIntent bytes intent) ⊎ ((part : ℕ) × FirstFault bytes part)

module _ (bytes behind : Bytes) (head : Header)
    (begun : Headed bytes head behind) where
  -- bytes with all tables read, or the end doesn't stand
  with_all :
      (tables : List NewTable) (rest : Bytes)
      → TakesTables behind head.count tables rest
      → ReadsOrFails bytes
  with_all tables rest takes = by_test (bytes_eq rest end_part) refl
    where
      by_test : (is_end : Bool) → bytes_eq rest end_part ≡ is_end → ReadsOrFails bytes
      by_test true is_end = inl (
        _,
        reads-intent bytes behind head begun tables rest takes
            ((bytes_eq-Decides rest end_part).0 is_end),
      )
      by_test false other = inr (
        _,
        end-fault bytes behind head begun tables rest takes
            (λ is_end. true≢false (sym ((bytes_eq-Decides rest end_part).1 is_end) ∙ other)),
      )

  -- bytes with some tables, and so many that are left
  with_some :
      (left : ℕ) (tables : List NewTable) (rest : Bytes)
      → BeginsWith AreListed table_parts behind tables rest
      → length tables + left ≡ head.count
      → ReadsOrFails bytes
  with_some zero tables rest listed sizes =
      with_all tables rest (record { counted = omega arith; listed = listed })
  with_some (suc left) tables rest listed sizes =
      by_next (decides (MayBeListed tables) table_part spelled_table (may_be_next tables)
      (next_stands tables) (next_tested tables) (spelled_next-part tables) rest)
      (λ more begun sum. with_some left (tables ++ more.0 ∷ []) more.1 begun sum)
    where
      by_next :
          Begins (MayBeListed tables) table_part rest
          → ((more : NewTable × Bytes)
          → BeginsWith AreListed table_parts behind (tables ++ more.0 ∷ []) more.1
          → length (tables ++ more.0 ∷ []) + left ≡ head.count
          → ReadsOrFails bytes)
          → ReadsOrFails bytes
      by_next (begins next tail begun) go_on =
          let size = length-append tables (next ∷ []) in
          go_on (next, tail) (listed-more behind rest tail tables next listed begun)
          (omega (arith, size, sizes))
      by_next (begins_not none) go_on =
          inr (
            _,
            no_table (front bytes behind head begun tables rest listed)
                (omega (arith, sizes)) none,
          )

-- each text reads as an intent, or has a first part that fails
each_text : (bytes : Bytes) → ReadsOrFails bytes
each_text bytes = by_header (header_decides bytes)
  where
    by_header : HasHeader bytes → ReadsOrFails bytes
    by_header (headed head behind begun) =
        with_some bytes behind head begun head.count [] behind (listed-none behind) (omega arith)
    by_header (headed_by_none none) = inr (_, no_header none)

-- the law
pub each_text_reads_or_fails_holds : EachTextReadsOrFails
each_text_reads_or_fails_holds = each_text
