use Rattle.std.proofs.Common.{◌≡◌, ◌≤◌, ◌<◌, ℕ, take, get_or}
use Rattle.std.specs.Char.{digit_value}
use Rattle.std.specs.Str.Parse.{digits_value}
use Rattle.login_defs.proofs.values.digits_within.Given as goal

abbrev pub invariant-loop-byte : goal.invariant-loop-byte
invariant-loop-byte l = record {
  value : l.value ≡ digits_value l.radix (take l.byte-index l.text);
  digits : (k : ℕ) → k < l.byte-index → digit_value (get_or l.text k 0) < l.radix;
  bounded : l.value ≤ l.greatest;
}
