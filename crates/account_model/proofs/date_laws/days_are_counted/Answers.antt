use Rattle.account_model.proofs.CountedLaws.{days-count, counts-alone, next-counted}
use Rattle.account_model.proofs.date_laws.days_are_counted.Goals as goal

pub returns-clause-counts : goal.returns-clause-counts
returns-clause-counts c = days-count

pub returns-clause-only : goal.returns-clause-only
returns-clause-only c = counts-alone

pub returns-clause-next : goal.returns-clause-next
returns-clause-next c = next-counted
