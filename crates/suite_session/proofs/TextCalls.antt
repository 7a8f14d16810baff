-- Claims: all calls of a session lead to what its state has staged (`lead-first`, `lead-then`, `lead-none`),
-- until the answer gives that up (`lead-last`); their appends are at most those of the texts that they begin
-- (`stages-texts`).
-- Way: by one call after another; each append leaves a piece fewer of what its text had at its write.
use Rattle.std.proofs.Common.{refl, ap, subst, ◌≤◌, ◌+◌, ℕ, List, [], ◌∷◌, filter, length, Option, Some, None, arith}
use Rattle.acct_outside.specs.Calls.{Call, Command, answers, appends, begins, writes}
use Rattle.suite_session.specs.declared.state.State.{State}
use Rattle.suite_session.specs.declared.state.State.TheVariants.{Answering}
use Rattle.suite_session.specs.Left.{is_append}
use Rattle.suite_session.specs.NextCall.{state_call}
use Rattle.suite_session.specs.Stands.{FindsNoMemory}
use Rattle.suite_session.specs.Texts.{GoesOn, HoldsText, LeadTo, LeaveText, StageTexts, StagedText, StagesOn, appends_due, text_in}

-- the call of a state goes on with the text to which the calls before it lead
lead-on : (old : State) (before after : Option StagedText) → HoldsText old before →
    StagesOn (state_call old) (text_in old) after → StagesOn (state_call old) before after
lead-on (Answering answer) before after holds stages = stages
lead-on old before after holds stages =
    subst (λ (text : Option StagedText). StagesOn (state_call old) text after) holds stages

-- so it leads to that of the next one
pub lead-then : (calls : List Call) (old next : State) → GoesOn old next → LeadTo calls old →
    LeadTo (state_call old ∷ calls) next
lead-then calls old next goes_on lead = record {
  text = goes_on.text;
  leave =
      (lead.text, lead.leave, lead-on old lead.text goes_on.text lead.holds goes_on.stages);
  holds = goes_on.holds;
}

-- a state that found no memory holds any text
memory-holds : (state : State) → FindsNoMemory state → (text : Option StagedText) →
    HoldsText state text
memory-holds (Answering answer) found text = tt
memory-holds state found text = absurd found

-- so does one to which no call led
pub lead-none : (calls : List Call) (old next : State) → FindsNoMemory next → LeadTo calls old →
    LeadTo calls next
lead-none calls old next found lead =
    record { text = lead.text; leave = lead.leave; holds = memory-holds next found lead.text }

-- the begin leads to none
pub lead-first : (command : Command) (state : State) → HoldsText state None →
    LeadTo (begins command ∷ []) state
lead-first command state holds =
    record { text = None; leave = (None, refl, (refl, refl)); holds = holds }

-- how many pieces of a text are left
text_left : Option StagedText → ℕ
text_left None = 0
text_left (Some text) = length text.further

-- the appends that calls made, with those that are left, are at most those that are due
counted : (calls : List Call) (text : Option StagedText) (leave : LeaveText calls text) →
    length (filter is_append calls) + text_left text ≤ appends_due calls text leave
unfolding text_left
counted [] text leave = let none = ap text_left leave in omega (arith, none)
counted (writes name first ∷ older) text leave =
    let was = counted older leave.0 leave.1 in
    let left = ap text_left leave.2.leaves in
    omega (arith, was, left)
counted (appends name piece ∷ older) text leave =
    let was = counted older leave.0 leave.1 in
    let before = ap text_left leave.2.is_next in
    let left = ap text_left leave.2.leaves in
    omega (arith, was, before, left)
counted (answers status ∷ older) text leave =
    let was = counted older leave.0 leave.1 in
    let left = ap text_left leave.2 in
    omega (arith, was, left)
counted (call ∷ older) text leave =
    let was = counted older leave.0 leave.1 in
    let left = ap text_left leave.2.1 in
    omega (arith, was, left)

-- so they stage texts
pub stages-texts : (calls : List Call) (text : Option StagedText) → LeaveText calls text →
    StageTexts calls
stages-texts calls text leave = record {
  text = text;
  leave = leave;
  appended = (let most = counted calls text leave in omega (arith, most));
}

-- and the answer
pub lead-last : (status : ℕ) (calls : List Call) (state : State) → LeadTo calls state →
    StageTexts (answers status ∷ calls)
lead-last status calls state lead =
    stages-texts (answers status ∷ calls) None (lead.text, lead.leave, refl)
