use Rattle.std.proofs.Common.{◌≡◌, ◌≤◌, ◌+◌, ◌++◌, List, length}
use Rattle.acct_text.specs.Lines.{lines_of}
use Rattle.account_model.specs.Settings.{Setting, settings_of, bad_line, first_line_from, is_bad_line}
use Rattle.login_defs.specs.Held.{HasSettings}
use Rattle.login_defs.proofs.defs.Defs.read.Given as goal

abbrev pub invariant-lines : goal.invariant-lines
invariant-lines l = record {
  held : (before : List Setting) × HasSettings l.defs before
      × (before ++ settings_of l.rest ≡ settings_of l.text);
  bad : first_line_from l.number is_bad_line (lines_of l.rest) ≡ bad_line l.text;
  counted : l.number + length l.rest ≤ length l.text + 1;
}

abbrev pub decreases-lines : goal.decreases-lines
decreases-lines l = length l.rest
