use Rattle.rehearsal.specs.Summary.{summary_of}
use Rattle.rehearsal.proofs.EndingLemmas.{uncounted, unput}
use Rattle.rehearsal.proofs.endings.put_summary.Goals as goal

pub returns-in-Err-clause-holds : goal.returns-in-Err-clause-holds
returns-in-Err-clause-holds g c =
    unput (summary_of c.args.asked) (g.O.Sink.moment c.args.out.now).holds

pub returns-in-Err-clause-faults : goal.returns-in-Err-clause-faults
returns-in-Err-clause-faults g c = uncounted (g.O.Sink.moment c.args.out.now).faults
