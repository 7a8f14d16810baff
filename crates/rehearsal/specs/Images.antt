-- The tables between two commands, and the folder in which a command finds them.
use Rattle.std.specs.Prelude.{◌≡◌, ℕ, ◌+◌, Bool, true, if◌then◌else◌, List, [], map, None, is_some, unwrap_or}
use Rattle.acct_text.specs.Bytes.{Bytes}
use Rattle.acct_text.specs.declared.Tab.{Tab}
use Rattle.acct_text.specs.declared.files.Files.{Files}
use Rattle.acct_text.specs.Files.{table_of}
use Rattle.acct_text.specs.Tables.{all_tables}
use Rattle.acct_outside.specs.declared.Name.{Name}
use Rattle.acct_outside.specs.declared.Name.TheVariants.{Table, Intent}
use Rattle.memory_folder.specs.Logged.{folder_after}
use Rattle.acct_outside.specs.Moment.{Past}
use Rattle.account_model.specs.Options.{Word}
use Rattle.rehearsal.specs.Alone.{files_at}
use Rattle.rehearsal.specs.Course.{after_words}

-- all six tables stand
abbrev pub AllStand : Files → Type 0
AllStand files = (table : Tab) → is_some (table_of files table) ≡ true

-- the text of a table; an absent one counts as empty
abbrev pub text_of : Files → Tab → Bytes
text_of files table = unwrap_or (table_of files table) []

-- these tables by their names in the folder
abbrev pub contents_among : Files → List Tab → List (Name × Bytes)
contents_among files tables = map (λ table. (Table table, text_of files table)) tables

-- all tables
abbrev pub contents_of : Files → List (Name × Bytes)
contents_of files = contents_among files all_tables

-- A command with these words ran alone between two moments of a folder: what it found there became what
-- its answer makes of it, whatever had changed before; and no intent stands where none did.
pub record IsAnswered (words : List Word) (old new : Past) (changes : Bool) : Type 0 where
  pub intent : (folder_after old).file Intent ≡ None → (folder_after new).file Intent ≡ None
  pub leaves : (changed : ℕ) →
      after_words words (record { files = files_at old; changed = changed })
      ≡ record {
        files = files_at new;
        changed = if changes then changed + 1 else changed;
      }
