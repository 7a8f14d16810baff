-- Claim: lawful histories can be cut (`lawful-cut`). Way: lawfulness is of one event after another;
-- the rules speak of a call and not of its result, so a call that is lawful as done is lawful
-- without an answer.
use Rattle.std.proofs.Common.{refl, [], ◌∷◌, ◌++◌}
use Rattle.acct_outside.specs.Tokens.{Token}
use Rattle.acct_outside.specs.Folder.{Folder}
use Rattle.acct_outside.specs.Calls.{Command, Call, Answer, CallResult, begins, done, failed, died}
use Rattle.acct_outside.specs.History.{History, after}
use Rattle.acct_outside.specs.Gives.{GivesResult}
use Rattle.suite_rules.specs.Deeds.{SuiteDeeds}
use Rattle.suite_rules.specs.Lawful.{KeepsRulesOrNone, IsNext, Lawful, goes_on}
use Rattle.suite_rules.specs.Laws.{IsUnanswered, LawfulCut}

-- a prefix of a lawful history is lawful
pub lawful-prefix : (deeds : SuiteDeeds) (first : Folder) (newer older : History) →
    Lawful deeds first (newer ++ older) → Lawful deeds first older
lawful-prefix deeds first [] older lawful = lawful
lawful-prefix deeds first (event ∷ newer) older (goes_on _ _ lawful next) =
    lawful-prefix deeds first newer older lawful

-- the rules allow a call with whatever result
keeps-unanswered : (deeds : SuiteDeeds) (history : History) (token : Token) (call : Call)
    (answer : Answer call) (result : CallResult (Answer call)) →
    KeepsRulesOrNone deeds history token call (done answer) →
    KeepsRulesOrNone deeds history token call result
keeps-unanswered deeds history token (begins command) answer (failed effect) keeps = tt
keeps-unanswered deeds history token (begins command) answer (died effect) keeps = tt
keeps-unanswered deeds history token call answer result keeps = keeps

-- a call that is lawful as done is lawful without an answer
unanswered : (deeds : SuiteDeeds) (first : Folder) (history : History) (token : Token)
    (call : Call) (answer : Answer call) (result : CallResult (Answer call)) →
    IsNext deeds first history (record { token = token; call = call; result = done answer }) →
    IsUnanswered result → GivesResult (after first history) history token call result →
    IsNext deeds first history (record { token = token; call = call; result = result })
unanswered deeds first history token call answer result next is gives = record {
  keeps = keeps-unanswered deeds history token call answer result next.keeps;
  gives = gives;
}

-- a begin may fail, or its session die in it, at any moment
begin-unanswered : (deeds : SuiteDeeds) (first : Folder) (history : History) (command : Command)
    (result : CallResult (Answer (begins command))) → IsUnanswered result →
    IsNext deeds first history (record { token = []; call = begins command; result = result })
begin-unanswered deeds first history command (failed effect) is =
    record { keeps = tt; gives = refl }
begin-unanswered deeds first history command (died effect) is =
    record { keeps = tt; gives = refl }
begin-unanswered deeds first history command (done answer) is = elim is [ ]

-- the law
pub lawful-cut : LawfulCut
lawful-cut = record {
  prefix = lawful-prefix;
  begin_unanswered = begin-unanswered;
  unanswered = unanswered;
}
