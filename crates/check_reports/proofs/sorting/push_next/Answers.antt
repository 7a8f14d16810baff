use Rattle.std.proofs.Common.{◌∙◌, drop, map, ap}
use Rattle.std.specs.Prelude.{slice_get}
use Rattle.std.proofs.lemmas.List.{take_rest}
use Rattle.acct_tables.specs.SeenLines.{seen_line}
use Rattle.check_reports.specs.Sorted.{seen_keyed}
use Rattle.check_reports.proofs.KeyedLines.{none-found, placed-none}
use Rattle.check_reports.proofs.sorting.push_next.Goals as goal

pub returns-in_default-clause-placed : goal.returns-in_default-clause-placed
returns-in_default-clause-placed g c = λ rest.
    let keyed = c.args.keyed.now in
    placed-none g.R.TableRecord.format (seen_line c.args.line.now) rest c.args.made.now
    c.push_to.new.text (map seen_keyed (drop c.args.next keyed))
    (ap (map seen_keyed) (none-found (drop c.args.next keyed)
    (c.in_default.ensures.value ∙ ap (λ xs. slice_get xs 0) (take_rest keyed c.args.next))))
    c.in_ok-push_to.ensures
