-- Claims: a turn of a session leaves together with it each other one that belonged to the folder so
-- (`stay-together`), and so of two that are turned in alternation (`both-turned`); the turns that are left
-- fall (`left-falls`); a lawful history settles to the fold (`settles-so`), and in it each session has
-- what the top call promises (`promised-so`).
-- Way: a folder in memory admits no event, so that a turn keeps its history lawful; the rest is what
-- `Session::turn` and the laws say.
use Rattle.std.proofs.Common.{◌≡◌, ◌≢◌, is_some, refl, sym, ap, subst, ◌<◌, ◌≤◌, ◌+◌, true, false, ◌||◌, Option, Some, None, IsSome, is_none, true≢false, arith}
use Rattle.memory_folder.specs.declared.memory.MemoryFolder.{MemoryFolder}
use Rattle.acct_outside.specs.Folder.{Folder}
use Rattle.acct_outside.specs.Moment.{Past}
use Rattle.memory_folder.specs.Memory.{moment_of, past_of}
use Rattle.suite_rules.specs.Lawful.{Lawful}
use Rattle.suite_rules.proofs.Settles.{lawful-settles}
use Rattle.suite_answers.specs.declared.answer.Answer.{Answer}
use Rattle.suite_session.specs.declared.session.Phase.{Phase}
use Rattle.suite_session.specs.declared.session.Phase.TheVariants.{Waiting, Begun, Over, Unbegun}
use Rattle.suite_session.specs.Belongs.{Belongs}
use Rattle.suite_session.specs.Session.{answer_of, outcome_of, phase_left}
use Rattle.suite_session.specs.Stands.{StaysOurs}
use Rattle.suite_session.specs.Turning.{KeepsOthers, SessionTurns}
use Rattle.suite_course.specs.Turned.{AnswersKeepPromises}
use Rattle.rehearsal.specs.Alone.{IsLawful}
use Rattle.rehearsal.specs.Together.{BelongTogether, HasPromised, IsFoldOfCommitted, StayTogether}
use Rattle.rehearsal.proofs.AloneLemmas.{none-admitted}

-- ---- A turn

module _ (before now : MemoryFolder) where
  -- what is told stays lawful
  stays-lawful : StaysOurs (moment_of before) (moment_of now) →
      IsLawful (past_of before) → IsLawful (past_of now)
  stays-lawful stays is =
      let told = stays is.0 is.1 in (
        is.0,
        is.1,
        subst (λ (first : Folder). Lawful is.0 first (past_of now).history) (sym told.0)
            (told.1 (none-admitted is.0 (past_of before).first) is.2),
      )

  -- also where it is as it was
  same-lawful : Some (past_of now) ≡ Some (past_of before) → IsLawful (past_of before) →
      IsLawful (past_of now)
  same-lawful same = subst IsLawful
      (let same_past : past_of before ≡ past_of now = cc (sym same) in same_past)

  -- so a turn keeps it lawful
  new-lawful : (old new : Phase) → SessionTurns (moment_of before) (moment_of now) old new →
      IsLawful (past_of before) → IsLawful (past_of now)
  new-lawful (Waiting asked) (Begun runner state) turns = stays-lawful turns.1.turns.lawful
  new-lawful (Waiting asked) (Unbegun tool answer) turns = stays-lawful turns.1.lawful
  new-lawful (Begun runner state) (Begun same next) turns = stays-lawful turns.1.turns.lawful
  new-lawful (Begun runner state) (Over same answer) turns = stays-lawful turns.2.lawful
  new-lawful (Over runner answer) (Over same given) turns = same-lawful turns.2.told
  new-lawful (Unbegun tool answer) (Unbegun same given) turns = same-lawful turns.2.told
  new-lawful old new turns = absurd turns

  -- the first claim
  pub stay-together : (old new : Phase) → SessionTurns (moment_of before) (moment_of now) old new →
      Belongs (moment_of now) new → KeepsOthers (moment_of before) (moment_of now) old new →
      StayTogether before now old new
  stay-together old new turns belongs others other together =
      let kept = others other together.other_belongs together.apart in
      record {
        lawful = new-lawful old new turns together.lawful;
        one_belongs = belongs;
        other_belongs = kept.belongs;
        apart = kept.apart;
      }

-- together in the one order, together in the other
pub together-also : (folder : MemoryFolder) (one other : Phase) → BelongTogether folder one other →
    BelongTogether folder other one
together-also folder one other together = record {
  lawful = together.lawful;
  one_belongs = together.other_belongs;
  other_belongs = together.one_belongs;
  apart = λ token is also. together.apart token also is;
}

-- the second claim: each of two was turned, one after the other
pub both-turned : (start between now : MemoryFolder) (one other new next : Phase) →
    BelongTogether start one other → StayTogether start between one new →
    StayTogether between now other next → BelongTogether now new next
both-turned start between now one other new next together first second =
    together-also now next new
    (second new (together-also between new other (first other together)))

-- ---- The end

-- a session that has answered has no turns left
answered-left : (new : Phase) → IsSome (outcome_of new) → phase_left new ≡ 0
answered-left (Waiting asked) is = absurd (cc)
answered-left (Begun runner state) is = absurd (cc)
answered-left (Over runner answer) is = refl
answered-left (Unbegun tool answer) is = refl

module _ (old new : Phase) (nearer : answer_of old ≡ None → phase_left new < phase_left old)
    (ends : IsSome (answer_of old) → IsSome (outcome_of new)) where
  -- the turns that are left don't rise
  never-rises : (given : Option Answer) → answer_of old ≡ given → phase_left new ≤ phase_left old
  never-rises None is = let less = nearer is in omega arith
  never-rises (Some answer) is =
      let none = answered-left new (ends (ap is_some is)) in omega arith

-- of two sessions, one of which has calls left before its answer, the turns that are left fall
module _ (one new other next : Phase)
    (nearer : answer_of one ≡ None → phase_left new < phase_left one)
    (ends : IsSome (answer_of one) → IsSome (outcome_of new))
    (closer : answer_of other ≡ None → phase_left next < phase_left other)
    (finishes : IsSome (answer_of other) → IsSome (outcome_of next)) where
  pub left-falls : (is_none (answer_of one) || is_none (answer_of other)) ≡ true →
      phase_left new + phase_left next < phase_left one + phase_left other
  left-falls going = by-answers (answer_of one) (answer_of other) refl refl going
    where
      most : phase_left new ≤ phase_left one
      most = never-rises one new nearer ends (answer_of one) refl

      also : phase_left next ≤ phase_left other
      also = never-rises other next closer finishes (answer_of other) refl

      by-answers : (given also_given : Option Answer) → answer_of one ≡ given →
          answer_of other ≡ also_given → (is_none given || is_none also_given) ≡ true →
          phase_left new + phase_left next < phase_left one + phase_left other
      by-answers None given is was any = let less = nearer is in omega (arith, also)
      by-answers (Some answer) None is was any = let less = closer was in omega (arith, most)
      by-answers (Some answer) (Some given) is was any = absurd (true≢false (sym any))

-- where none of two has calls left before its answer, the second has one
pub both-some : (given also : Option Answer) → (is_none given || is_none also) ≡ false → IsSome also
both-some (Some answer) (Some other) is = refl
both-some (Some answer) None is = absurd (true≢false is)
both-some None also is = absurd (true≢false is)

-- a lawful history settles to the fold
pub settles-so : (past : Past) → IsLawful past → IsFoldOfCommitted past
settles-so past is =
    (is.0, is.1, lawful-settles.is_fold is.0 past.first past.history is.2)

-- and in it each session that belongs to the folder has what the top call promises
pub promised-so : (folder : MemoryFolder) (session : Phase) → AnswersKeepPromises moment_of →
    IsLawful (past_of folder) → Belongs (moment_of folder) session →
    HasPromised (past_of folder) session
promised-so folder session keeps lawful belongs =
    (lawful.0, lawful.1, keeps lawful.0 lawful.1 folder session belongs lawful.2)
