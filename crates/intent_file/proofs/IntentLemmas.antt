-- An intent's text as it is written, what it lists, and what its reading tells.
use Rattle.std.proofs.Common.{take, ◌≡◌, ◌≢◌, refl, sym, ap, ap₂, subst, ◌∙◌, ℕ, ◌+◌, ◌<◌, ◌≤◌, Bool, true, false, nat_le, cond, List, [], ◌∷◌, ◌++◌, length, Option, Some, None, Result, Ok, Err, arith, get_or, if◌then◌else◌, option_map, add-one, append-nil, append_assoc}
use Rattle.std.specs.Prelude.{find, IfErr, IsErrAnd}
use Rattle.std.specs.Option.{ok_or}
use Rattle.std.proofs.lemmas.Bool.Decides.{nat_tests}
use Rattle.std.proofs.lemmas.List.{take_all}
use Rattle.std.proofs.Math.Seq.{take-suc}
use Rattle.acct_text.specs.declared.Tab.{Tab}
use Rattle.acct_text.specs.Bytes.{Bytes}
use Rattle.acct_text.specs.Tables.{same_table}
use Rattle.intent_file.specs.declared.IntentFault.{IntentFault}
use Rattle.intent_file.specs.declared.IntentFault.TheVariants.{Part, Memory}
use Rattle.intent_file.specs.declared.cursor.Header.{Header}
use Rattle.intent_file.specs.Cursor.{TakesTables, TellsLack}
use Rattle.intent_file.specs.Intent.{NewTable, header, header_of, table_part, table_parts, end_part, is_allowed, ReadsIntent, Intended, intent_text, listed_in}
use Rattle.intent_file.specs.Parts.{BeginsWith, AreListed, Headed, Front, FirstFault, no_table, no_end, TellsFault}
use Rattle.std.proofs.lemmas.Grind.{flat_map-append}

-- Texts.

-- the parts of one table more
pub table_parts-step :
    (tables : List NewTable) (place : ℕ) (default : NewTable)
    → place < length tables
    → table_parts (take (place + 1) tables) ≡ table_parts (take place tables) ++ table_part
    (get_or tables place default)
table_parts-step tables place default within =
    rw add-one (ap table_parts (take-suc tables place default within)
    ∙ (flat_map-append table_part (take place tables) (get_or tables place default ∷ [])
    ∙ ap (λ b. table_parts (take place tables) ++ b)
    (append-nil (table_part (get_or tables place default)))))

-- the text of an intent, from its front
pub intent_text-front :
    (intent : Intended) (front text : Bytes) (count : ℕ)
    → length intent.tables ≤ count
    → front ≡ header_of intent.version intent.number intent.tables
    ++ table_parts (take count intent.tables)
    → text ≡ front ++ end_part
    → text ≡ intent_text intent
intent_text-front intent front text count all front_is text_is =
    let head = header_of intent.version intent.number intent.tables in
    text_is ∙ (ap (λ (b : Bytes). b ++ end_part)
    (front_is
    ∙ ap (λ (tables : List NewTable). head ++ table_parts tables)
    (take_all count intent.tables all))
    ∙ append_assoc head (table_parts intent.tables) end_part)

-- what is listed for a table are the bytes of the one that is found
pub listed_in-find :
    (tables : List NewTable) (table : Tab) (found : Option NewTable)
    → find (λ listed. same_table listed.table table) tables ≡ found
    → listed_in tables table ≡ option_map (λ listed. listed.bytes) found
listed_in-find [] table found is = ap (option_map (λ listed. listed.bytes)) is
listed_in-find (first ∷ tables) table found is =
    by_test (same_table first.table table) (listed_in-find tables table) is
  where
    later : Option NewTable
    later = find (λ listed. same_table listed.table table) tables

    by_test :
        (is_same : Bool)
        → ((o : Option NewTable) → later ≡ o → listed_in tables table ≡ option_map
        (λ listed. listed.bytes) o)
        → cond is_same (Some first) later ≡ found
        → (if is_same then Some first.bytes else listed_in tables table) ≡ option_map
        (λ listed. listed.bytes) found
    by_test true others is_first = ap (option_map (λ listed. listed.bytes)) is_first
    by_test false others is_other = others found is_other

-- Faults.

-- a fault that is handed on tells what it told
pub told-fault :
    {Value : Type 0} (Tells : IntentFault → Type 0) (result : Result Value IntentFault)
    (fault : IntentFault)
    → IsErrAnd result (λ other. other ≡ fault)
    → Tells fault
    → IfErr result Tells
told-fault Tells (Ok value) fault is told = tt
told-fault Tells (Err other) fault is told = subst Tells (sym is) told

-- where nothing was taken, the fault that was to be told for it is told
pub missing-fault :
    {Value Other : Type 0} (Tells : IntentFault → Type 0) (taken : Option Value)
    (fault given : IntentFault) (result : Result Other IntentFault)
    → ◌≡◌ {A = Result Value IntentFault} (Err given) (ok_or taken fault)
    → taken ≡ None
    → IsErrAnd result (λ other. other ≡ given)
    → Tells fault
    → IfErr result Tells
missing-fault Tells None fault given result is_given none is_err told =
    let same : fault ≡ given = cc in told-fault Tells result given is_err (subst Tells same told)
missing-fault Tells (Some value) fault given result is_given none is_err told = absurd (cc)

-- Readings.
module _ (bytes behind : Bytes) (head : Header)
    (begins : Headed bytes head behind) where
  -- a header and tables are a front
  abbrev pub front :
      (tables : List NewTable) (rest : Bytes)
      → BeginsWith AreListed table_parts behind tables rest
      → Front bytes
  front tables rest listed = record {
    head = head;
    behind = behind;
    tables = tables;
    rest = rest;
    header = begins;
    listed = listed;
  }

  -- what a reading of the tables tells is told of the whole
  pub lack-fault :
      (fault : IntentFault)
      → TellsLack behind head.count fault
      → TellsFault bytes fault
  lack-fault (Part part) lack =
      subst (FirstFault bytes) (sym lack.part_is)
      (no_table (front lack.tables lack.rest lack.listed) lack.fewer lack.none)
  lack-fault Memory lack = tt

  module _ (tables : List NewTable) (rest : Bytes)
      (takes : TakesTables behind head.count tables rest) where
    -- where something else than the end follows all tables, the last part doesn't stand
    pub end-fault : rest ≢ end_part → FirstFault bytes (head.count + 1)
    end-fault other = no_end (front tables rest takes.listed) takes.counted other

    -- what was read
    abbrev pub intent_read : Intended
    intent_read = record { version = head.version; number = head.number; tables = tables }

    -- the tables are at least one, and allowed
    pub read-allowed : is_allowed intent_read ≡ true
    read-allowed =
        let size = takes.counted in
        let some = begins.stands.at_least_one in
        rw (
          begins.stands.number,
          at_least_one (length tables)
              (omega arith),
          takes.listed.stands.in_order,
          takes.listed.stands.within_limit,
        ) refl
      where
        at_least_one : (count : ℕ) → 1 ≤ count → nat_le 1 count ≡ true
        at_least_one count some = grind (arith, nat_tests, some)

    -- where the end follows, the bytes read as the intent
    pub reads-intent : rest ≡ end_part → ReadsIntent bytes intent_read
    reads-intent at_end = record {
      allowed = read-allowed;
      text = begins.whole
          ∙ ap₂ (λ (count : ℕ) (b : Bytes).
          header head.version head.number count (length b) ++ b) (sym takes.counted)
          (takes.listed.whole ∙ ap (λ b. table_parts tables ++ b) at_end);
    }
