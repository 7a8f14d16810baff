-- Claim: a turn of a session that has no answer yet is one call more, within the bound (`asked-turn`).
-- Way: each turn leaves a call fewer than there were left, the second listing with the lower locks that it
-- showed, so the calls that were made and those that are left stay within the bound.
use Rattle.std.proofs.Common.{◌≡◌, ◌⊎◌, refl, sym, ap, subst, ◌∙◌, ◌≤◌, ◌+◌, ◌++◌, ℕ, List, [], ◌∷◌, inl, inr, Option, Some, None, arith}
use Rattle.acct_outside.specs.Calls.{Call, Command, answers, begins}
use Rattle.acct_outside.specs.Journal.{Entry, Reply, makes, showed, was_done, was_refused}
use Rattle.acct_outside.specs.Moment.{Moment, Past}
use Rattle.suite_answers.specs.declared.answer.Answer.{Answer}
use Rattle.suite_session.specs.declared.state.State.{State}
use Rattle.suite_session.specs.declared.state.State.TheVariants.{Looking, Reading, Asking, Claiming, Confirming, Answering}
use Rattle.suite_session.specs.declared.session.Phase.{Phase}
use Rattle.suite_session.specs.declared.session.Phase.TheVariants.{Waiting, Begun, Over, Unbegun}
use Rattle.suite_session.specs.Runner.{Runner}
use Rattle.suite_session.specs.Counts.{CountsTo, IsToList, LeavesFewer, Nears, appends_by, last_lower, others_by}
use Rattle.suite_session.specs.Left.{appends_left, calls_left, most_lower, watching_calls}
use Rattle.suite_session.specs.NextCall.{state_call}
use Rattle.suite_session.specs.Session.{answer_of, given_in}
use Rattle.suite_session.specs.Stands.{AsksOnce, IsAnswering}
use Rattle.suite_session.specs.Texts.{GoesOn, LeadTo}
use Rattle.suite_session.specs.Turning.{IsFirst, SessionTurns}
use Rattle.suite_session.proofs.TextCalls.{lead-first, lead-last, lead-then, stages-texts}
use Rattle.suite_course.specs.Asked.{AreWithin, ShowsLower, WasDone, calls_asked}
use Rattle.suite_course.specs.Course.{HasAsked, HasMadeCalls, MadeWithin}

-- ---- The lower locks that were shown

-- no calls show none
pub none-shown : (calls : List Entry) → ShowsLower calls 0
none-shown calls = record {
  later = calls;
  earlier = [];
  parts = sym (append-none calls);
  shown = refl;
}
  where
    append-none : (entries : List Entry) → entries ++ [] ≡ entries
    append-none [] = refl
    append-none (entry ∷ entries) = ap (λ (rest : List Entry). entry ∷ rest) (append-none entries)

-- what was shown is so after another call
shown-on : (entry : Entry) (calls : List Entry) (lower : ℕ) → ShowsLower calls lower →
    ShowsLower (entry ∷ calls) lower
shown-on entry calls lower shows = record {
  later = entry ∷ shows.later;
  earlier = shows.earlier;
  parts = ap (λ (rest : List Entry). entry ∷ rest) shows.parts;
  shown = shows.shown;
}

-- the last call shows as many whatever came before it
last-head : (call : Call) (reply : Reply) (calls older : List Entry) →
    last_lower (makes call reply ∷ older) ≡ last_lower (makes call reply ∷ calls)
last-head call was_refused calls older = refl
last-head call reply calls older = refl

-- the last call shows these
last-shown : (call : Call) (reply : Reply) (calls older journal : List Entry) (lower : ℕ) →
    journal ≡ makes call reply ∷ older → (lower ≡ 0) ⊎ (lower ≡ last_lower journal) →
    ShowsLower (makes call reply ∷ calls) lower
last-shown call reply calls older journal lower is (inl none) =
    subst (ShowsLower (makes call reply ∷ calls)) (sym none) (none-shown (makes call reply ∷ calls))
last-shown call reply calls older journal lower is (inr shown) = record {
  later = [];
  earlier = makes call reply ∷ calls;
  parts = refl;
  shown = shown ∙ ap last_lower is ∙ last-head call reply calls older;
}

-- ---- How many calls there are

-- one call more before the second listing, towards that or past it
module _ (call : Call) (reply : Reply) (calls : List Entry) (one_other : others_by call ≡ 1)
    (no_append : appends_by call ≡ 0) where
  nears-made : (old next : State) → 53 + most_lower ≤ calls_left old → Nears old next →
      LeadTo (call ∷ calls_asked calls) next →
      HasMadeCalls old calls → HasMadeCalls next (makes call reply ∷ calls)
  nears-made old next early counts leads made = by-next counts.next
    where
      by-next : IsToList next ⊎ (calls_left next ≤ watching_calls) →
          HasMadeCalls next (makes call reply ∷ calls)
      by-next (inl to_list) = record {
        lower = made.lower;
        most = made.most;
        shows = inl to_list;
        within = (let within = made.within in let fewer = counts.fewer in
            omega (arith, one_other, within, fewer));
        leads = leads;
        appended = (let appended = made.appended in let fewer = counts.appends in
            omega (arith, no_append, appended, fewer));
      }
      by-next (inr few) = record {
        lower = 0;
        most = omega arith;
        shows = inr (none-shown (makes call reply ∷ calls));
        within = (let within = made.within in let most = made.most in
            omega (arith, one_other, within, most, early, few));
        leads = leads;
        appended = (let appended = made.appended in let fewer = counts.appends in
            omega (arith, no_append, appended, fewer));
      }

-- one call more behind it
fewer-made : (call : Call) (reply : Reply) (calls : List Entry) (old next : State) →
    state_call old ≡ call → (IsToList old → ⊥) → LeavesFewer old next →
    LeadTo (call ∷ calls_asked calls) next → HasMadeCalls old calls →
    HasMadeCalls next (makes call reply ∷ calls)
fewer-made call reply calls old next is behind fewer leads made = record {
  lower = made.lower;
  most = made.most;
  shows = by-shown made.shows;
  within = (let within = made.within in
      let few = subst (λ (one : Call). calls_left next + others_by one ≤ calls_left old) is
      fewer.calls in omega (arith, within, few));
  leads = leads;
  appended = (let appended = made.appended in
      let few = subst (λ (one : Call). appends_left next + appends_by one ≤ appends_left old) is
      fewer.appends in omega (arith, appended, few));
}
  where
    by-shown : IsToList old ⊎ ShowsLower calls made.lower →
        IsToList next ⊎ ShowsLower (makes call reply ∷ calls) made.lower
    by-shown (inl to_list) = absurd (behind to_list)
    by-shown (inr shows) = inr (shown-on (makes call reply) calls made.lower shows)

-- with the next call they lead to what the next state has staged
call-leads : (calls : List Entry) (old next : State) → GoesOn old next → HasMadeCalls old calls →
    LeadTo (state_call old ∷ calls_asked calls) next
call-leads calls old next goes_on made =
    lead-then (calls_asked calls) old next goes_on made.leads

-- each turn
turn-made : (told : Option Past) (runner : Runner) (reply : Reply)
    (calls older journal : List Entry)
    (old next : State) → journal ≡ makes (state_call old) reply ∷ older →
    CountsTo told journal runner old next → HasMadeCalls old calls →
    HasMadeCalls next (makes (state_call old) reply ∷ calls)
turn-made told runner reply calls older journal (Looking looking) next is counts made =
    nears-made _ reply calls refl refl (Looking looking) next (omega arith) counts
    (call-leads calls (Looking looking) next counts.goes_on made) made
turn-made told runner reply calls older journal (Reading seen) next is counts made =
    nears-made _ reply calls refl refl (Reading seen) next (omega arith) counts
    (call-leads calls (Reading seen) next counts.goes_on made) made
turn-made told runner reply calls older journal (Asking asking) next is counts made =
    nears-made _ reply calls refl refl (Asking asking) next (omega arith) counts
    (call-leads calls (Asking asking) next counts.goes_on made) made
turn-made told runner reply calls older journal (Claiming judged) next is counts made =
    nears-made _ reply calls refl refl (Claiming judged) next (omega arith) counts
    (call-leads calls (Claiming judged) next counts.goes_on made) made
turn-made told runner reply calls older journal (Confirming claimed) next is counts made = record {
  lower = counts.lower;
  most = counts.most;
  shows = inr (last-shown _ reply calls older journal counts.lower is counts.shown);
  within = (let within = made.within in let most = made.most in let fewer = counts.fewer in
      omega (arith, within, most, fewer));
  leads = call-leads calls (Confirming claimed) next counts.goes_on made;
  appended = (let appended = made.appended in let fewer = counts.appends in
      omega (arith, appended, fewer));
}
turn-made told runner reply calls older journal old next is counts made =
    fewer-made (state_call old) reply calls old next refl (λ never. never) counts
    (call-leads calls old next counts.goes_on made) made

-- the begin
first-made : (runner : Runner) (command : Command) (reply : Reply) (state : State) →
    IsFirst runner state → HasMadeCalls state (makes (begins command) reply ∷ [])
first-made runner command reply (Looking looking) is = record {
  lower = most_lower;
  most = omega arith;
  shows = inl tt;
  within = omega arith;
  leads = lead-first command (Looking looking) refl;
  appended = omega arith;
}
first-made runner command reply (Answering answer) is = record {
  lower = 0;
  most = omega arith;
  shows = inr (none-shown (makes (begins command) reply ∷ []));
  within = omega arith;
  leads = lead-first command (Answering answer) tt;
  appended = omega arith;
}
first-made runner command reply state is = absurd is

-- a begin that gave no token
one-within : (command : Command) (reply : Reply) → AreWithin (makes (begins command) reply ∷ [])
one-within command reply = record {
  lower = 0;
  shows = none-shown (makes (begins command) reply ∷ []);
  within = omega arith;
  stage = stages-texts (begins command ∷ []) None (None, refl, (refl, refl));
  appended = omega arith;
}

-- the answer
pub last-made : (reply : Reply) (status : ℕ) (calls : List Entry) (answer : Answer) →
    HasMadeCalls (Answering answer) calls → AreWithin (makes (answers status) reply ∷ calls)
last-made reply status calls answer made = record {
  lower = made.lower;
  shows = shown-on (makes (answers status) reply) calls made.lower (by-shown made.shows);
  within = (let within = made.within in omega (arith, within));
  stage = lead-last status (calls_asked calls) (Answering answer) made.leads;
  appended = (let appended = made.appended in omega (arith, appended));
}
  where
    by-shown : ⊥ ⊎ ShowsLower calls made.lower → ShowsLower calls made.lower
    by-shown (inl never) = absurd never
    by-shown (inr shows) = shows

-- ---- One call more

-- a call that an answer follows where it was refused was done, where none does
goes-done : (before now : Moment) (call : Call) (state : State)
    (asks : AsksOnce before now call (IsAnswering state)) → given_in state ≡ None →
    WasDone (makes call asks.reply)
goes-done before now call state asks none = by-reply asks.reply refl
  where
    answers-some : (one : State) → IsAnswering one → given_in one ≡ None → ⊥
    answers-some (Answering answer) is given = absurd (cc given)
    answers-some one is given = absurd is

    by-reply : (reply : Reply) → asks.reply ≡ reply → WasDone (makes call reply)
    by-reply was_refused is = absurd (answers-some state (asks.refused is) none)
    by-reply (showed numbers) is = tt
    by-reply was_done is = tt

-- after calls of which none was refused another may come
module _ (entry between now : Moment) (old new : Phase) (asked : HasAsked entry between old)
    (none : answer_of old ≡ None) (call : Call) (WhereRefused : Type 0)
    (asks : AsksOnce between now call WhereRefused)
    (goes : answer_of new ≡ None → WasDone (makes call asks.reply))
    (within : MadeWithin new (makes call asks.reply ∷ asked.calls)) where
  one-more : HasAsked entry now new
  one-more = record {
    calls = makes call asks.reply ∷ asked.calls;
    parts = asks.noted ∙ ap (λ (older : List Entry). makes call asks.reply ∷ older) asked.parts;
    are_calls = (tt, asked.are_calls);
    stops = (inl (asked.goes none), asked.stops);
    goes = λ going. (goes going, asked.goes none);
    within = within;
  }

-- the calls of a session that hasn't begun are none
alone-begun : (calls : List Entry) (entry : Entry) (P : List Entry → Type 0) → calls ≡ [] →
    P (entry ∷ []) → P (entry ∷ calls)
alone-begun calls entry P is held =
    subst (λ (one : List Entry). P (entry ∷ one)) (sym is) held

-- a turn of a session that has no answer yet
pub asked-turn : (entry between now : Moment) (old new : Phase) → HasAsked entry between old →
    answer_of old ≡ None → SessionTurns between now old new → HasAsked entry now new
asked-turn entry between now (Waiting question) (Begun runner state) asked none turns =
    let asks = turns.1.asks in
    one-more entry between now (Waiting question) (Begun runner state) asked none _ _ asks
    (λ going. goes-done between now _ state asks going)
    (alone-begun asked.calls (makes (begins question.command) asks.reply) (HasMadeCalls state)
    asked.within (first-made runner _ asks.reply state turns.3))
asked-turn entry between now (Waiting question) (Unbegun tool answer) asked none turns =
    let asks = turns.2 in
    one-more entry between now (Waiting question) (Unbegun tool answer) asked none _ _ asks
    (λ going. absurd (cc going))
    (alone-begun asked.calls (makes (begins question.command) asks.reply) AreWithin
    asked.within (one-within _ asks.reply))
asked-turn entry between now (Begun runner state) (Begun same next) asked none turns =
    let asks = turns.1.asks in
    one-more entry between now (Begun runner state) (Begun same next) asked none _ _ asks
    (λ going. goes-done between now _ next asks going)
    (turn-made now.told runner asks.reply asked.calls between.journal now.journal state next
    asks.noted turns.2 asked.within)
asked-turn entry between now (Begun runner state) (Over same answer) asked none turns =
    let has : given_in state ≡ Some answer = ap given_in turns.1 in
    let wrong : None ≡ Some answer = sym none ∙ has in absurd (cc)
asked-turn entry between now (Over runner answer) new asked none turns = absurd (cc)
asked-turn entry between now (Unbegun tool answer) new asked none turns = absurd (cc)
asked-turn entry between now old new asked none turns = absurd turns
