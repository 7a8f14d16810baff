-- Claim: bytes read as one intent at most, which `read_intent` computes, and no text of an intent
-- is a proper prefix of another (`reading_is_unique_holds`). Way: bytes that begin with the text of
-- an allowed intent spell it, whatever follows (`spelled_intent-text`).
use Rattle.std.proofs.Common.{◌≡◌, refl, sym, ap, ap₂, subst, ◌∙◌, ℕ, ◌+◌, ◌<◌, ◌≤◌, ◌^◌, min, Bool, true, false, ◌&&◌, if◌then◌else◌, nat_le, nat_lt, List, [], ◌∷◌, ◌++◌, length, Option, Some, None, unwrap_or, append_assoc, append-nil, arith, lit≤, bytes_eq}
use Rattle.std.proofs.lemmas.List.{append_cancel_left}
use Rattle.std.proofs.lemmas.Bool.{and_parts}
use Rattle.std.proofs.lemmas.Bool.Decides.{nat_tests}
use Rattle.std.proofs.lemmas.Slice.Eq.{bytes_eq-Decides}
use Rattle.acct_text.specs.declared.Tab.{Tab}
use Rattle.acct_text.specs.declared.Tab.TheVariants.{Passwd}
use Rattle.acct_text.specs.Bytes.{Bytes}
use Rattle.acct_text.specs.Tables.{table_place}
use Rattle.intent_file.specs.declared.cursor.Header.{Header}
use Rattle.intent_file.specs.Intent.{NewTable, Intended, table_parts, end_part, body, intent_text, is_in_order, is_within_limit, is_lock_number, is_allowed, ReadsIntent, spelled_tables, spelled_in, spelled_intent, checked_intent, read_intent}
use Rattle.intent_file.specs.Laws.{ReadingIsUnique}
use Rattle.intent_file.specs.Parts.{header_part}
use Rattle.intent_file.proofs.PartsLemmas.{lock-small}
use Rattle.intent_file.proofs.SpelledLemmas.{spelled_version-part, spelled_number-part, spelled_count-part, after_header-part, spelled_tables-parts}

-- a table's place is one of six
place-most : (table : Tab) → table_place table ≤ 5
place-most Passwd = lit≤ tt
place-most table = lit≤ tt

-- tables in the fixed order are no more than the places from the first one on
few_behind :
    (first : NewTable) (tables : List NewTable)
    → is_in_order (first ∷ tables) ≡ true
    → length tables + table_place first.table ≤ 5
few_behind first [] order = let most = place-most first.table in omega arith
few_behind first (next ∷ tables) order =
    let parts =
    and_parts (nat_lt (table_place first.table) (table_place next.table))
    (is_in_order (next ∷ tables)) order in
    let few = few_behind next tables parts.1 in
    let less = later parts.0 in
    omega arith
  where
    later :
        nat_lt (table_place first.table) (table_place next.table) ≡ true
        → table_place first.table < table_place next.table
    later is_less = grind (arith, nat_tests)

-- tables in the fixed order are at most six
pub at_most_six : (tables : List NewTable) → is_in_order tables ≡ true → length tables ≤ 6
at_most_six [] order = lit≤ tt
at_most_six (first ∷ tables) order = let few = few_behind first tables order in omega arith

-- what an allowed intent is, part by part
pub record Allowed (intent : Intended) : Type 0 where
  pub number : is_lock_number intent.number ≡ true
  pub some : nat_le 1 (length intent.tables) ≡ true
  pub in_order : is_in_order intent.tables ≡ true
  pub within_limit : is_within_limit intent.tables ≡ true

-- an allowed intent has all of these
pub allowed_parts : (intent : Intended) → is_allowed intent ≡ true → Allowed intent
allowed_parts intent allowed =
    let ordered = is_in_order intent.tables && is_within_limit intent.tables in
    let first =
    and_parts (is_lock_number intent.number)
    (nat_le 1 (length intent.tables) && ordered) allowed in
    let second = and_parts (nat_le 1 (length intent.tables)) ordered first.1 in
    let third = and_parts (is_in_order intent.tables) (is_within_limit intent.tables) second.1 in
    record { number = first.0; some = second.0; in_order = third.0; within_limit = third.1 }

-- bytes that begin with the text of an allowed intent spell it
spelled_intent-text :
    (intent : Intended) (rest : Bytes)
    → is_allowed intent ≡ true
    → spelled_intent (intent_text intent ++ rest) ≡ intent
spelled_intent-text intent rest allowed =
    let parts = allowed_parts intent allowed in
    let few = at_most_six intent.tables parts.in_order in
    let small = lock-small intent.number parts.number in
    let few_tables : length intent.tables < 2 ^ 64 = omega arith in
    let versions = spelled_version-part head total behind small few_tables in
    let numbers = spelled_number-part head total behind small few_tables in
    let counts = spelled_count-part head total behind small few_tables in
    let follows = after_header-part head total behind small few_tables in
    let all : min 6 (length intent.tables) ≡ length intent.tables = omega arith in
    ap spelled_intent (append_assoc (header_part total head) (body intent.tables) rest
    ∙ ap (λ b. header_part total head ++ b)
    (append_assoc (table_parts intent.tables) end_part rest))
    ∙ (ap (λ v. spelled_in v (header_part total head ++ behind)) versions
    ∙ ap₂ (λ (n : ℕ) (ts : List NewTable).
    record { version = intent.version; number = n; tables = ts }) numbers
    (ap₂ (λ (n : ℕ) (b : Bytes). spelled_tables (min 6 n) b) counts follows
    ∙ (ap (λ n. spelled_tables n behind) all
    ∙ spelled_tables-parts intent.tables (end_part ++ rest) parts.within_limit)))
  where
    head : Header
    head = record {
      version = intent.version;
      number = intent.number;
      count = length intent.tables;
    }

    total : ℕ
    total = length (body intent.tables)

    behind : Bytes
    behind = table_parts intent.tables ++ (end_part ++ rest)

-- bytes that read as an intent spell it
spelled_intent-reading :
    (bytes : Bytes) (intent : Intended)
    → ReadsIntent bytes intent
    → spelled_intent bytes ≡ intent
spelled_intent-reading bytes intent reads =
    ap spelled_intent (reads.text ∙ sym (append-nil (intent_text intent)))
    ∙ spelled_intent-text intent [] reads.allowed

-- bytes read as one intent at most
pub one_intent :
    (bytes : Bytes) (intent other : Intended)
    → ReadsIntent bytes intent
    → ReadsIntent bytes other
    → intent ≡ other
one_intent bytes intent other reads reads' =
    sym (spelled_intent-reading bytes intent reads) ∙ spelled_intent-reading bytes other reads'

-- the intent that bytes read as is computed
pub reads_computes :
    (bytes : Bytes) (intent : Intended)
    → ReadsIntent bytes intent
    → read_intent bytes ≡ Some intent
reads_computes bytes intent reads =
    ap (checked_intent bytes) (spelled_intent-reading bytes intent reads)
    ∙ rw (reads.allowed, (bytes_eq-Decides bytes (intent_text intent)).1 reads.text) refl

-- bytes read as the intent that is computed
pub computed_reads :
    (bytes : Bytes) (intent : Intended)
    → read_intent bytes ≡ Some intent
    → ReadsIntent bytes intent
computed_reads bytes intent computed =
    by_tests (is_allowed spelled) (bytes_eq bytes (intent_text spelled)) refl refl computed
  where
    spelled : Intended
    spelled = spelled_intent bytes

    by_tests :
        (allowed same : Bool)
        → is_allowed (spelled_intent bytes) ≡ allowed
        → bytes_eq bytes (intent_text (spelled_intent bytes)) ≡ same
        → (if allowed && same then Some (spelled_intent bytes) else None) ≡ Some intent
        → ReadsIntent bytes intent
    by_tests true true allowed same found =
        subst (λ (i : Intended). ReadsIntent bytes i)
        (ap (λ (o : Option Intended). unwrap_or o intent) found)
        (record {
          allowed = allowed;
          text =
              (bytes_eq-Decides bytes (intent_text (spelled_intent bytes))).0 same;
        })
    by_tests true false allowed same found = absurd (cc)
    by_tests false same' allowed same found = absurd (cc)

-- no text of an intent is a proper prefix of another
no_prefix :
    (bytes more : Bytes) (intent other : Intended)
    → ReadsIntent bytes intent
    → ReadsIntent (bytes ++ more) other
    → more ≡ []
no_prefix bytes more intent other reads longer =
    let same : other ≡ intent = sym (spelled_intent-reading (bytes ++ more) other longer)
    ∙ (ap (λ (b : Bytes). spelled_intent (b ++ more)) reads.text
    ∙ spelled_intent-text intent more reads.allowed) in
    append_cancel_left bytes more []
    (longer.text ∙ (ap intent_text same ∙ (sym reads.text ∙ sym (append-nil bytes))))

-- the law
pub reading_is_unique_holds : ReadingIsUnique
reading_is_unique_holds = record {
  one_intent = one_intent;
  computes = λ bytes intent. (reads_computes bytes intent, computed_reads bytes intent);
  no_prefix = no_prefix;
}
