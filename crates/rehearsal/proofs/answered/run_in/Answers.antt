use Rattle.std.proofs.Common.{◌∙◌, Some, ap, refl}
use Rattle.acct_text.specs.Bytes.{Bytes}
use Rattle.memory_folder.specs.Memory.{past_of}
use Rattle.memory_folder.specs.MemoryStreams.{source_moment}
use Rattle.suite_course.specs.Supplies.{supplies}
use Rattle.rehearsal.specs.Clock.{clock_moment}
use Rattle.rehearsal.proofs.AnsweredLemmas.{if-answered}
use Rattle.rehearsal.proofs.answered.run_in.Goals as goal

pub returns : goal.returns
returns c = if-answered c.args.words.now (past_of c.args.folder.now)
    (past_of c.run_alone.new.folder) c.run_alone.result
    (supplies (source_moment c.new-3.result) (clock_moment c.new-8.result))
    (supplies (source_moment c.run_alone.new.input) (clock_moment c.run_alone.new.clock))
    c.run_alone.new.clock.asked c.requires.settings
    (ap (λ (left : Bytes). Some left) (c.new-3.ensures.left ∙ c.new.ensures)) refl
    c.is_changed.result c.is_changed.ensures c.run_alone.ensures.asks c.run_alone.ensures.step
