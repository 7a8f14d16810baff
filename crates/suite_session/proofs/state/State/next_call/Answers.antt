use Rattle.std.proofs.Common.{refl}
use Rattle.acct_outside.specs.declared.Name.TheVariants.{Intent}
use Rattle.suite_rules.specs.Rules.{answer_rule, free_read}
use Rattle.suite_session.specs.declared.state.State.TheVariants.{Reading, Asking, Claiming, Withdrawing, ReadingIntent, Recovering, Moving, Loading, BackingUp, Committing, Installing, Unlocking, Freeing, Watching, Gathering, Answering}
use Rattle.suite_session.proofs.NextLemmas.{of-state, of-state-ok}
use Rattle.suite_session.proofs.state.State.next_call.Goals as goal

pub returns-in-Reading : goal.returns-in-Reading
returns-in-Reading c = of-state c.args.self.now (Reading c.in-Reading.seen) c.in-Reading.is
    c.next_call-in-Reading.ensures

pub returns-in-Asking : goal.returns-in-Asking
returns-in-Asking c =
    of-state-ok c.args.self.now (Asking c.in-Asking.asking) c.next_call-in-Asking.result
    c.in-Asking.is c.next_call-in-Asking.ensures

pub returns-in-Claiming : goal.returns-in-Claiming
returns-in-Claiming c = of-state c.args.self.now (Claiming c.in-Claiming.judged) c.in-Claiming.is
    c.next_call-in-Claiming.ensures

pub returns-in-Withdrawing : goal.returns-in-Withdrawing
returns-in-Withdrawing c =
    of-state c.args.self.now (Withdrawing c.in-Withdrawing.loser) c.in-Withdrawing.is
    c.next_call-in-Withdrawing.ensures

pub returns-in-ReadingIntent : goal.returns-in-ReadingIntent
returns-in-ReadingIntent c = of-state c.args.self.now (ReadingIntent c.in-ReadingIntent.field-0)
    c.in-ReadingIntent.is (record {
      names = refl;
      later = λ has. tt;
      permitted = λ deeds stood held. free_read Intent;
    })

pub returns-in-Recovering : goal.returns-in-Recovering
returns-in-Recovering c =
    of-state-ok c.args.self.now (Recovering c.in-Recovering.recovering)
    c.next_call-in-Recovering.result
    c.in-Recovering.is c.next_call-in-Recovering.ensures

pub returns-in-Moving : goal.returns-in-Moving
returns-in-Moving c = of-state-ok c.args.self.now (Moving c.in-Moving.moving)
    c.next_call-in-Moving.result c.in-Moving.is c.next_call-in-Moving.ensures

pub returns-in-Loading : goal.returns-in-Loading
returns-in-Loading c = of-state c.args.self.now (Loading c.in-Loading.loader) c.in-Loading.is
    c.next_call-in-Loading.ensures

pub returns-in-BackingUp : goal.returns-in-BackingUp
returns-in-BackingUp c =
    of-state-ok c.args.self.now (BackingUp c.in-BackingUp.backing _) c.next_call-in-BackingUp.result
    c.in-BackingUp.is c.next_call-in-BackingUp.ensures

pub returns-in-Committing : goal.returns-in-Committing
returns-in-Committing c = of-state-ok c.args.self.now (Committing c.in-Committing.staged _)
    c.next_call-in-Committing.result c.in-Committing.is c.next_call-in-Committing.ensures

pub returns-in-Installing : goal.returns-in-Installing
returns-in-Installing c =
    of-state-ok c.args.self.now (Installing c.in-Installing.installing _)
    c.next_call-in-Installing.result
    c.in-Installing.is c.next_call-in-Installing.ensures

pub returns-in-Unlocking : goal.returns-in-Unlocking
returns-in-Unlocking c =
    of-state-ok c.args.self.now (Unlocking c.in-Unlocking.keeper _) c.unlocking_call.result
    c.in-Unlocking.is c.unlocking_call.ensures

pub returns-in-Freeing : goal.returns-in-Freeing
returns-in-Freeing c = of-state c.args.self.now (Freeing c.in-Freeing.freeing _) c.in-Freeing.is
    c.next_call-in-Freeing.ensures

pub returns-in-Watching : goal.returns-in-Watching
returns-in-Watching c = of-state c.args.self.now (Watching c.in-Watching.watcher) c.in-Watching.is
    c.next_call-in-Watching.ensures

pub returns-in-Gathering : goal.returns-in-Gathering
returns-in-Gathering c = of-state c.args.self.now (Gathering c.in-Gathering.reading)
    c.in-Gathering.is c.next_call-in-Gathering.ensures

pub returns-in-Answering : goal.returns-in-Answering
returns-in-Answering c = of-state c.args.self.now (Answering c.in-Answering.answer)
    c.in-Answering.is (record {
      names = refl;
      later = λ has. tt;
      permitted = λ deeds stood rule. answer_rule c.in-Answering.answer.outcome.status rule;
    })
