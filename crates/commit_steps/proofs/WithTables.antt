-- Claims: files with the new bytes of each table that differs are the new files (`with-changed`), so those
-- tables make the change (`makes-change`). Way: so it is for each of the six tables, since none is made
-- and none goes.
use Rattle.std.proofs.Common.{◌≡◌, ap, sym, subst}
use Rattle.std.specs.Option.{option_or}
use Rattle.acct_text.specs.declared.Tab.{Tab}
use Rattle.acct_text.specs.declared.Tab.TheVariants.{Passwd, Shadow, Group, Gshadow, Subuid, Subgid}
use Rattle.acct_text.specs.declared.files.Files.{Files}
use Rattle.acct_text.specs.ChangedTables.{changed_tables}
use Rattle.acct_text.specs.Contents.{IsChange}
use Rattle.acct_text.specs.Files.{table_of}
use Rattle.intent_file.specs.Intent.{listed_in}
use Rattle.suite_rules.proofs.Changed.{listed-changed}
use Rattle.commit_steps.specs.States.{MakesChange, with_tables}

module _ (old new : Files) (allowed : IsChange (table_of old) (table_of new)) where
  -- what is listed for a table, or else what stood there, is what will stand there
  listed-or-old : (table : Tab) →
      option_or (listed_in (changed_tables (table_of old) (table_of new)) table)
      (table_of old table)
      ≡ table_of new table
  listed-or-old table = listed-changed (table_of old) (table_of new) allowed.standing table

  -- the tables that differ make the new files
  pub with-changed : with_tables (changed_tables (table_of old) (table_of new)) old ≡ new
  with-changed = λ i. record {
    passwd = listed-or-old Passwd i;
    shadow = listed-or-old Shadow i;
    group = listed-or-old Group i;
    gshadow = listed-or-old Gshadow i;
    subuid = listed-or-old Subuid i;
    subgid = listed-or-old Subgid i;
  }

  -- and so they make the change
  pub makes-change : MakesChange (changed_tables (table_of old) (table_of new)) old
  makes-change = record {
    allowed = subst (λ (files : Files). IsChange (table_of old) (table_of files))
        (sym with-changed) allowed;
    listed = ap (λ (files : Files). changed_tables (table_of old) (table_of files))
        (sym with-changed);
  }
