-- What a command asks of its folder, call by call, be a history told or not: it names the folder by the
-- prefix of its request, once and before all else, and then makes its calls there. Lists of entries have
-- the newest first.
use Rattle.std.specs.Prelude.{◌≡◌, ◌⊎◌, ⊤, ℕ, ◌+◌, ◌≤◌, List, [], ◌∷◌, ◌++◌}
use Rattle.std.specs.List.{AllByRecursion}
use Rattle.acct_outside.specs.Calls.{Call, answers}
use Rattle.acct_outside.specs.Journal.{Entry, Reply, enters, makes, was_refused}
use Rattle.suite_session.specs.Runner.{Question}
use Rattle.suite_session.specs.Counts.{appends_by, last_lower, others_by}
use Rattle.suite_session.specs.Left.{most_appends, most_calls}
use Rattle.suite_session.specs.Texts.{StageTexts}

-- the folder was asked for a call, and was given no name
abbrev pub IsCall : Entry → Type 0
IsCall (makes call reply) = ⊤
IsCall (enters prefix reply) = ⊥

-- it was asked to take the answer of a session
abbrev pub IsAnswer : Entry → Type 0
IsAnswer (makes (answers status) reply) = ⊤
IsAnswer entry = ⊥

-- what it was asked for was done: it didn't fail, and found memory
abbrev pub WasDone : Entry → Type 0
WasDone (makes call was_refused) = ⊥
WasDone (enters prefix was_refused) = ⊥
WasDone entry = ⊤

-- after a call that failed or found no memory came no other but the answer
abbrev pub EndsWhereRefused : List Entry → Type 0
EndsWhereRefused [] = ⊤
EndsWhereRefused (entry ∷ older) =
    (AllByRecursion WasDone older ⊎ IsAnswer entry) × EndsWhereRefused older

-- the calls that it was asked for
abbrev pub calls_asked : List Entry → List Call
calls_asked [] = []
calls_asked (makes call reply ∷ older) = call ∷ calls_asked older
calls_asked (entry ∷ older) = calls_asked older

-- how many of the calls are appends
abbrev pub appends_asked : List Entry → ℕ
appends_asked [] = 0
appends_asked (makes call reply ∷ older) = appends_by call + appends_asked older
appends_asked (entry ∷ older) = appends_asked older

-- how many are others
abbrev pub others_asked : List Entry → ℕ
others_asked [] = 0
others_asked (makes call reply ∷ older) = others_by call + others_asked older
others_asked (entry ∷ older) = others_asked older

-- one of the calls showed so many lower locks than the greatest, or there are none
pub record ShowsLower (calls : List Entry) (lower : ℕ) : Type 0 where
  pub later : List Entry
  pub earlier : List Entry
  pub parts : calls ≡ later ++ earlier
  pub shown : lower ≡ last_lower earlier

-- The calls but appends are at most most_calls, and one for each lower lock that a listing among them
-- showed. What is written and appended is one text after another in its pieces, each piece once and in its
-- order, so an append for each piece behind the first of a text, and most_appends at most.
pub record AreWithin (calls : List Entry) : Type 0 where
  pub lower : ℕ
  pub shows : ShowsLower calls lower
  pub within : others_asked calls ≤ most_calls + lower
  pub stage : StageTexts (calls_asked calls)
  pub appended : appends_asked calls ≤ most_appends

-- Since the older journal the folder was asked for these calls alone: it was given no name, after one that
-- was refused came only the answer, and they are within the bound.
pub record MakesCalls (calls older newer : List Entry) : Type 0 where
  pub parts : newer ≡ calls ++ older
  pub are_calls : AllByRecursion IsCall calls
  pub stops : EndsWhereRefused calls
  pub within : AreWithin calls

-- Since the older journal the command named the folder by the prefix of its request, once and first. Then
-- came its calls; none where that was refused.
pub record AsksThere (asked : Question) (older newer : List Entry) : Type 0 where
  pub reply : Reply
  pub calls : List Entry
  pub makes_calls : MakesCalls calls (enters asked.request.prefix reply ∷ older) newer
  pub refused : reply ≡ was_refused → calls ≡ []
