use Rattle.rehearsal.proofs.AskedLemmas.{within-bounds}
use Rattle.rehearsal.proofs.EndingLemmas.{use-ends}
use Rattle.rehearsal.proofs.endings.rehearse.Goals as goal

pub rehearse_asked-requires : goal.rehearse_asked-requires
rehearse_asked-requires g c = within-bounds c.args.words.now c.in-Some.asked c.in-Some.ensures

pub returns-in-Some : goal.returns-in-Some
returns-in-Some g c = c.rehearse_asked.ensures c.args.words.now c.in-Some.ensures

pub returns-in-None : goal.returns-in-None
returns-in-None g c = use-ends c.args.words.now c.in-None.ensures
    (g.O.Sink.moment c.args.out.now) (g.E.Sink.moment c.args.err.now)
    (g.E.Sink.moment c.tell.new.err) c.tell.result c.tell.ensures
