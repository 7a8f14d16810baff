use Rattle.std.proofs.Common.{◌≡◌, ◌≤◌, take}
use Rattle.std.specs.Str.Parse.{digits_value}
use Rattle.acct_text.proofs.numbers.value_of.Given as goal

-- the value is that of the digits so far, and keeps the bound
abbrev pub invariant-loop-digit : goal.invariant-loop-digit
invariant-loop-digit l = record {
  value : l.value ≡ digits_value 10 (take l.digit-index l.text);
  small : l.value ≤ l.max;
}
