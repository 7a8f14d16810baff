use Rattle.rehearsal.proofs.EndingLemmas.{failed-ends, lacking-ends, summed-ends}
use Rattle.rehearsal.proofs.endings.rehearse_asked.Goals as goal

pub returns-in-Ok : goal.returns-in-Ok
returns-in-Ok g c = λ words asks. summed-ends words c.args.asked asks
    (g.O.Sink.moment c.args.out.now) (g.O.Sink.moment c.put_summary.new.out)
    (g.E.Sink.moment c.args.err.now) c.in-Ok.ensures.holds

pub returns-in-Err-Failed : goal.returns-in-Err-Failed
returns-in-Err-Failed g c = λ words asks. failed-ends words c.args.asked asks
    (g.O.Sink.moment c.args.out.now) (g.O.Sink.moment c.put_summary.new.out)
    (g.E.Sink.moment c.args.err.now)
    (rw c.in-Err-Failed.field-0-is at c.in-Err-Failed.ensures.holds)
    (rw c.in-Err-Failed.field-0-is at c.in-Err-Failed.ensures.faults)

pub returns-in-Err-Memory : goal.returns-in-Err-Memory
returns-in-Err-Memory g c = λ words asks. lacking-ends words c.args.asked asks
    (g.O.Sink.moment c.args.out.now) (g.O.Sink.moment c.put_summary.new.out)
    (g.E.Sink.moment c.args.err.now) (g.E.Sink.moment c.tell.new.err) c.tell.result
    (rw c.in-Err-Memory.field-0-is at c.in-Err-Memory.ensures.holds) c.tell.ensures
