use Rattle.std.proofs.Common.{◌≡◌, List, length}
use Rattle.account_model.specs.BatchLines.{line_requests}
use Rattle.account_model.specs.Settings.{Setting}
use Rattle.account_model.specs.Batch.{batch}
use Rattle.login_defs.specs.Held.{HasSettings}
use Rattle.option_words.specs.Batch.{requests_of}
use Rattle.carried_tables.specs.Changes.{UneditedStay}
use Rattle.suite_tools.specs.Writing.{seen_written}
use Rattle.suite_tools.proofs.LinesLemmas.{with_left}
use Rattle.suite_tools.proofs.lines.decide_lines.Given as goal

-- tables that no line touched are the first, and what is written, with what the lines that are left make of it, is the
-- batch
abbrev pub invariant-lines : goal.invariant-lines
invariant-lines l = record {
  left : UneditedStay l.written.touched l.files l.written.tables;
  written : (settings : List Setting)
      → HasSettings l.defs settings
      → with_left l.ensuring l.day settings (requests_of l.lines) (seen_written l.written)
      ≡ batch l.ensuring (line_requests l.input) l.day settings l.files;
}

abbrev pub decreases-lines : goal.decreases-lines
decreases-lines l = length (requests_of l.lines)
