-- What it is to convert a table and that of its hashes (pwconv(8)).
use Rattle.std.specs.Prelude.{◌≡◌, ℕ, List, [], ◌∷◌, Option}
use Rattle.acct_text.specs.declared.files.Files.{Files}
use Rattle.acct_text.specs.ChangedTables.{changed_among, changed_tables}
use Rattle.acct_text.specs.Files.{table_of}
use Rattle.account_model.specs.declared.refusal.Refusal.{Refusal}
use Rattle.account_model.specs.Action.{multiple_entries, multiple_in}
use Rattle.account_model.specs.Conversion.{Accounts}
use Rattle.account_model.specs.Edits.{Edit}
use Rattle.account_model.specs.Format.{Format}
use Rattle.account_model.specs.Tables.{Script, files_after, table_after, table_records}
use Rattle.account_model.specs.Text.{first_some}
use Rattle.check_reports.specs.declared.conversion.Pair.{Pair}

-- the accounts whose fields and hashes these are
abbrev pub accounts_of :
    {M H : Type 0} → Format M → Format H → (M → List ℕ) → (List ℕ → M → M) → (H → List ℕ)
    → Accounts M H
accounts_of main hashes field with_field hash = record {
  main = main;
  hashes = hashes;
  field = field;
  with_field = with_field;
  hash = hash;
}

-- both tables are those of the files
pub record IsPairOf (files : Files) (pair : Pair) : Type 0 where
  pub main : pair.main.now ≡ table_of files pair.main_tab
  pub hashes : pair.hashes.now ≡ table_of files pair.hashes_tab

-- the first name that the edits touch and of which its table has several, in the main table and then in the other
abbrev pub pair_multiple :
    {M H : Type 0} → Format M → Format H → List (Edit M) → List (Edit H) → Pair → Option Refusal
pair_multiple main_format format main_edits edits pair = first_some
    (multiple_in pair.main_tab main_format main_edits (table_records main_format pair.main.now)
    ∷ multiple_in pair.hashes_tab format edits (table_records format pair.hashes.now) ∷ [])

-- the script makes these edits of both tables, and leaves the others
pub record Converts {M H : Type 0} (main_format : Format M) (format : Format H)
    (main_edits : List (Edit M)) (edits : List (Edit H)) (pair : Pair) (script : Script)
    (files : Files) : Type 0 where
  pub of_files : IsPairOf files pair
  pub main : table_of (files_after script files) pair.main_tab
      ≡ table_after main_format main_edits pair.main.now
  pub hashes : table_of (files_after script files) pair.hashes_tab
      ≡ table_after format edits pair.hashes.now
  pub others :
      changed_among (pair.main_tab ∷ pair.hashes_tab ∷ []) (table_of files)
      (table_of (files_after script files))
      ≡ changed_tables (table_of files) (table_of (files_after script files))
  pub multiple :
      multiple_entries script files ≡ pair_multiple main_format format main_edits edits pair
