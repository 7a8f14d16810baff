use Rattle.std.proofs.Common.{◌≡◌, length}
use Rattle.acct_text.specs.Files.{no_files}
use Rattle.lock_steps.specs.Gathered.{with_listed}
use Rattle.lock_steps.proofs.gathered.files_of.Given as goal

abbrev pub decreases-tables : goal.decreases-tables
decreases-tables l = length l.tables.items

abbrev pub invariant-tables : goal.invariant-tables
invariant-tables l =
    with_listed l.tables.items l.files ≡ with_listed l.fn.tables.items no_files
