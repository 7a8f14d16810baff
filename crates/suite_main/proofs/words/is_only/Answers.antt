use Rattle.std.proofs.Common.{arith}
use Rattle.std.proofs.lemmas.Bool.Decides.{Decides-eqb}
use Rattle.std.proofs.lemmas.Grind.{common_steps}
use Rattle.std.proofs.lemmas.Slice.Eq.{slice_eq-Decides}
use Rattle.suite_main.proofs.words.is_only.Goals as goal

pub returns-then-is_empty : goal.returns-then-is_empty
returns-then-is_empty c =
    let same =
    slice_eq-Decides Decides-eqb c.as_slice.result.now c.args.wanted.now c.eq.result c.eq.ensures in
    grind (arith, common_steps, same)
