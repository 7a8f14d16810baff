-- Which tables the answer of a command rests on, and the files as it sees them. A report reads no table but
-- these: getsubids(1) needs no shadow, which may not be readable for who asks (pwck(8), grpck(8),
-- getsubids(1), chage(1), passwd(1), groupmems(8)).
use Rattle.std.specs.Prelude.{if◌then◌else◌, List}
use Rattle.acct_text.specs.declared.Tab.{Tab}
use Rattle.acct_text.specs.declared.files.Files.{Files}
use Rattle.acct_text.specs.Tables.{all_tables}
use Rattle.acct_text.specs.SeenTables.{seen_through}
use Rattle.account_model.specs.Rows.{Reporting, always, never, row_of, where_given}
use Rattle.account_model.specs.Request.{Request, has_option, reports}

-- the tables that a report reads
abbrev pub reported_tables : Reporting → Request → List Tab
reported_tables never request = all_tables
reported_tables (where_given letter tables) request = tables
reported_tables (always letter tables others) request =
    if has_option letter request then tables else others

-- the tables that the command reads, also where it is planned: one that changes tables reads all
abbrev pub read_tables : Request → List Tab
read_tables request =
    let reporting = (row_of request.tool).reporting
    in if reports reporting request then reported_tables reporting request else all_tables

-- the files as the command sees them
abbrev pub seen_files : Request → Files → Files
seen_files request files = seen_through (read_tables request) files
