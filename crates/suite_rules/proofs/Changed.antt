-- The tables that a deed changes, as an intent lists them: what is listed replaces the old files by
-- the new ones (`listed-changed`), and the list makes an intent that reads (`deed-intent`).
use Rattle.std.proofs.Common.{◌≡◌, ◌≢◌, refl, sym, ap, subst, ◌∙◌, ℕ, ◌<◌, ◌≤◌, Bool, true, false, ◌||◌, if◌then◌else◌, nat_le, List, [], ◌∷◌, Option, Some, None, is_some, true≢false, arith}
use Rattle.std.specs.Option.{option_or}
use Rattle.std.proofs.lemmas.Slice.Eq.{bytes_eq-Decides}
use Rattle.std.proofs.lemmas.Bool.Decides.{nat_tests}
use Rattle.acct_text.specs.declared.Tab.{Tab}
use Rattle.acct_text.specs.declared.Tab.TheVariants.{Passwd}
use Rattle.acct_text.specs.Bytes.{Bytes}
use Rattle.acct_text.specs.Tables.{all_tables, same_table}
use Rattle.acct_text.specs.Contents.{Contents, same_content, IsChange}
use Rattle.acct_outside.specs.Names.{greatest_lock}
use Rattle.intent_file.specs.Intent.{intent_of, intent_text, ReadsIntent, listed_in}
use Rattle.intent_file.proofs.ChangedTablesLemmas.{changed-allowed, content-is}
use Rattle.acct_text.specs.ChangedTables.{with_new_table, changed_among, changed_tables}
use Rattle.acct_outside.proofs.NameLemmas.{table-is, table-same}
use Rattle.suite_rules.proofs.Names.{table-turned}

-- different by the test, so different
pub content-differs : (old new : Option Bytes) → same_content old new ≡ false → new ≢ old
content-differs None None is same = true≢false is
content-differs (Some old) (Some new) is same =
    true≢false (sym ((bytes_eq-Decides old new).1 (cc)) ∙ is)
content-differs old new is same = cc

-- the table is one of these
abbrev has_table : Tab → List Tab → Bool
has_table asked [] = false
has_table asked (table ∷ tables) = same_table asked table || has_table asked tables

-- the fixed order has all tables
has-all : (table : Tab) → has_table table all_tables ≡ true
has-all Passwd = refl
has-all table = refl

module _ (old new : Contents) (stands : (table : Tab) →
    is_some (new table) ≡ is_some (old table)) where
  -- a table that stays absent doesn't differ
  absent-same : (table : Tab) → new table ≡ None → same_content (old table) (new table) ≡ true
  absent-same table none = cases (old table) refl
    where
      cases : (content : Option Bytes) → old table ≡ content →
          same_content (old table) (new table) ≡ true
      cases None is = rw (is, none) refl
      cases (Some bytes) is =
          absurd (true≢false (sym (ap is_some is) ∙ (sym (stands table) ∙ ap is_some none)))

  -- what is listed for a table among these is its new content, and the old stays for another
  listed-among : (tables : List Tab) (asked : Tab) →
      option_or (listed_in (changed_among tables old new) asked) (old asked)
      ≡ (if has_table asked tables then new asked else old asked)
  listed-among [] asked = refl
  listed-among (table ∷ tables) asked =
      cases (listed-among tables asked) (same_content (old table) (new table)) refl
      (same_table asked table) refl
    where
      both : (among : Bool) → old asked ≡ new asked →
          (if among then new asked else old asked) ≡ new asked
      both true same = refl
      both false same = same

      listed : (content : Option Bytes) → new table ≡ content →
          same_content (old table) (new table) ≡ false → (here : Bool) →
          same_table asked table ≡ here →
          option_or (listed_in (changed_among tables old new) asked) (old asked)
          ≡ (if has_table asked tables then new asked else old asked) →
          option_or (listed_in (with_new_table table content (changed_among tables old new)) asked)
          (old asked)
          ≡ (if here || has_table asked tables then new asked else old asked)
      listed None none differs here is rest =
          absurd (true≢false (sym (absent-same table none) ∙ differs))
      listed (Some bytes) some differs true is rest =
          rw (ap (same_table table) (table-is asked table is) ∙ table-same table)
          (sym some ∙ ap new (sym (table-is asked table is)))
      listed (Some bytes) some differs false is rest = rw (table-turned table asked is) rest

      cases : option_or (listed_in (changed_among tables old new) asked) (old asked)
          ≡ (if has_table asked tables then new asked else old asked) →
          (same : Bool) → same_content (old table) (new table) ≡ same →
          (here : Bool) → same_table asked table ≡ here →
          option_or (listed_in (if same then changed_among tables old new
          else with_new_table table (new table) (changed_among tables old new)) asked) (old asked)
          ≡ (if here || has_table asked tables then new asked else old asked)
      cases rest true same false is = rest
      cases rest true same true is = rest ∙ both (has_table asked tables)
          (subst (λ (one : Tab). old one ≡ new one) (sym (table-is asked table is))
          (sym (content-is (old table) (new table) same)))
      cases rest false differs here is = listed (new table) refl differs here is rest

  -- what is listed replaces the old files by the new ones
  pub listed-changed : (table : Tab) →
      option_or (listed_in (changed_tables old new) table) (old table) ≡ new table
  listed-changed table = listed-among all_tables table ∙ rw (has-all table) refl

-- the intent of a deed reads
pub deed-intent :
    (old new : Contents) (number : ℕ)
    → 0 < number
    → number ≤ greatest_lock
    → IsChange old new
    → ReadsIntent (intent_text (intent_of number old new)) (intent_of number old new)
deed-intent old new number above below change =
    record { allowed = changed-allowed number old new (rw (least, most) refl) change; text = refl }
  where
    least : nat_le 1 number ≡ true
    least = grind (arith, nat_tests, above)

    most : nat_le number greatest_lock ≡ true
    most = grind (arith, nat_tests, below)
