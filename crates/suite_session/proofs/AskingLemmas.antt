-- Claim: the call of a turn is all that it asks of the folder, and where that is refused the session
-- answers next (`asks-once`).
-- Way: a call that failed is told as whatever was met, which an answer alone can be; want of memory is told
-- by an answer.
use Rattle.std.proofs.Common.{◌≡◌, sym, subst, ◌∙◌, Result, Ok, Err}
use Rattle.acct_outside.specs.declared.FolderFault.{FolderFault}
use Rattle.acct_outside.specs.declared.FolderFault.TheVariants.{Failed, Memory as NoMemory}
use Rattle.acct_outside.specs.Tokens.{Token}
use Rattle.acct_outside.specs.Calls.{Answer, Call, lists}
use Rattle.acct_outside.specs.Journal.{makes, reply_of, was_refused}
use Rattle.acct_outside.specs.Moment.{Moment, Notes}
use Rattle.suite_rules.specs.Standing.{Standing}
use Rattle.suite_rules.specs.Steps.{MakesCall}
use Rattle.suite_answers.specs.declared.cause.Cause.{Cause}
use Rattle.suite_answers.specs.declared.cause.Cause.TheVariants.{Changed, Same}
use Rattle.suite_session.specs.declared.state.State.{State}
use Rattle.suite_session.specs.declared.state.State.TheVariants.{Withdrawing, Unlocking, Freeing, Answering}
use Rattle.suite_session.specs.NextCall.{state_call}
use Rattle.suite_session.specs.Stands.{AsksOnce, FindsNoMemory, IsAnswering}
use Rattle.suite_session.specs.Telling.{IsToTell}
use Rattle.suite_session.proofs.MeetingLemmas.{MeetsBy}

-- a call that was done wasn't refused
pub done-goes : (call : Call) (given : Answer call) → reply_of call (Ok given) ≡ was_refused → ⊥
done-goes lists given is = absurd (cc is)
done-goes call given is = absurd (cc is)

-- an answer alone tells whatever was met
tells-all : (state : State) → ((met : Cause) → IsToTell state met) → IsAnswering state
tells-all (Answering answer) tells = tt
tells-all (Withdrawing loser) tells = absurd (cc (tells Changed))
tells-all (Unlocking keeper answer) tells = absurd (cc (sym (tells Changed) ∙ tells Same))
tells-all (Freeing freeing answer) tells = absurd (cc (sym (tells Changed) ∙ tells Same))
tells-all state tells = absurd (tells Changed)

-- an answer alone tells of want of memory
tells-memory : (state : State) → FindsNoMemory state → IsAnswering state
tells-memory (Answering answer) tells = tt
tells-memory state tells = absurd tells

-- where a call was refused, an answer comes next
meets-refused : (call : Call) (answer : Result (Answer call) FolderFault) (Held : Standing → Type 0)
    (state : State) → MeetsBy call answer Held state → reply_of call answer ≡ was_refused →
    IsAnswering state
meets-refused call (Ok given) Held state meets is = absurd (done-goes call given is)
meets-refused call (Err Failed) Held state meets is = tells-all state meets
meets-refused call (Err NoMemory) Held state meets is = tells-memory state meets

-- the claim
pub asks-once : (before now : Moment) (token : Token) (call : Call)
    (Shows : Result (Answer call) FolderFault → Type 0)
    (made : MakesCall before now token call Shows)
    (Held : Standing → Type 0) (old state : State) → state_call old ≡ call →
    MeetsBy call made.answer Held state → AsksOnce before now (state_call old) (IsAnswering state)
asks-once before now token call Shows made Held old state is meets = record {
  reply = reply_of call made.answer;
  noted = subst (λ (one : Call). Notes before now (makes one (reply_of call made.answer))) (sym is)
      made.noted;
  refused = meets-refused call made.answer Held state meets;
}
