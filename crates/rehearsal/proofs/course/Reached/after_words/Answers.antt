use Rattle.rehearsal.proofs.CourseLemmas.{left-by}
use Rattle.rehearsal.proofs.course.Reached.after_words.Goals as goal

pub returns : goal.returns
returns c = left-by c.args.words.now c.args.self.now _ _ c.in_ok-changes.changes _ _
    c.in_ok-folder.ensures c.in_ok-changes.ensures c.in_ok-files.ensures c.counted-changed.ensures

pub files_in-requires : goal.files_in-requires
files_in-requires c = c.in_ok-changes.ensures.intent c.in_ok-folder.ensures.intent
