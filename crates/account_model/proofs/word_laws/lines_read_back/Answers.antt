use Rattle.account_model.proofs.ReadIsSplit.{printed-reads, reads-split}
use Rattle.account_model.proofs.SplitIsRead.{split-reads}
use Rattle.account_model.proofs.word_laws.lines_read_back.Goals as goal

pub returns-clause-split : goal.returns-clause-split
returns-clause-split c = λ line words. (reads-split line words, split-reads line words)

pub returns-clause-printed : goal.returns-clause-printed
returns-clause-printed c = printed-reads
