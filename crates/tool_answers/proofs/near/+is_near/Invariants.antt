use Rattle.std.proofs.Common.{length}
use Rattle.tool_answers.proofs.near.+is_near.Given as goal

-- the word is one byte shorter each time
abbrev pub decreases-is_near : goal.decreases-is_near
decreases-is_near l = length l.word.now
