use Rattle.std.proofs.Common.{◌≡◌, drop}
use Rattle.std.specs.Prelude.{find}
use Rattle.suite_session.specs.Reporting.{is_unusable}
use Rattle.suite_session.proofs.reporting.first_bad.Given as goal

-- what is found among the tables left is what is found among all
abbrev pub invariant-loop-table : goal.invariant-loop-table
invariant-loop-table l =
    find (is_unusable l.shown.gathered) (drop l.table-index l.table-items)
    ≡ find (is_unusable l.shown.gathered) l.table-items
