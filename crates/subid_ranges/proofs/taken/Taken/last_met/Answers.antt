use Rattle.subid_ranges.proofs.TakenLemmas.{met-by, newest-met}
use Rattle.subid_ranges.proofs.taken.Taken.last_met.Goals as goal

pub returns-in-Some : goal.returns-in-Some
returns-in-Some c =
    newest-met c.args.self.now c.args.first c.args.last c.in-Some.end c.args.self.now.ordered
    c.in-Some.ensures

pub returns-in-None : goal.returns-in-None
returns-in-None c =
    met-by c.args.self.now c.args.first c.args.last c.last_up_to.result
    c.end_where_met-in-None.result c.last_up_to.ensures c.in-None.ensures
    c.end_where_met-in-None.ensures
