use Rattle.std.proofs.Common.{arith}
use Rattle.memory_folder.proofs.memory.MemoryFolder.fresh.Goals as goal

pub returns-then-branch : goal.returns-then-branch
returns-then-branch c = record {
  number = c.loop-number.number;
  is = c.in_ok-token.ensures;
  low = omega (arith, c.loop-number.auto.number);
  unused = c.in_ok-is_unused.ensures.0 c.if-branch.true;
  first = c.loop-number.invariant;
}
