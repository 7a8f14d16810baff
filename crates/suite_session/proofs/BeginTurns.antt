-- Claim: a begin leads to the first state, or to the answer of a fault (`begins-turn`, `unbegun`).
-- Way: a begin's event is the session's only one, after those of others, and tells of nothing that was
-- met (`begin-came`).
use Rattle.std.proofs.Common.{◌≡◌, refl, sym, ap, subst, ◌∙◌, ℕ, ◌≤◌, List, [], ◌∷◌, inl, inr, Option, Some, None, IfSome, Result, Ok, Err, arith}
use Rattle.std.proofs.lemmas.List.Elements.{filter-append}
use Rattle.std.proofs.lemmas.Slice.Eq.{bytes_eq-Decides}
use Rattle.acct_text.specs.Bytes.{Bytes}
use Rattle.acct_outside.specs.declared.FolderFault.{FolderFault}
use Rattle.acct_outside.specs.declared.FolderFault.TheVariants.{Failed, Memory as NoMemory}
use Rattle.acct_outside.specs.declared.CommitStage.TheVariants.{Before}
use Rattle.acct_outside.specs.Tokens.{Token}
use Rattle.acct_outside.specs.Calls.{Answer, CallResult, Command, begins, done}
use Rattle.acct_outside.specs.History.{Event, History, is_of, own_events}
use Rattle.acct_outside.specs.Life.{Life, MayCall}
use Rattle.acct_outside.specs.Others.{Admission}
use Rattle.acct_outside.specs.Contract.{NeverAdmits, WhereTold, TellsBegin, TellsEvent}
use Rattle.acct_outside.specs.Faults.{HasRisen}
use Rattle.account_model.specs.Options.{Word}
use Rattle.account_model.specs.Request.{Request}
use Rattle.suite_rules.specs.Deeds.{SuiteDeeds}
use Rattle.suite_rules.specs.Standing.{Standing}
use Rattle.suite_rules.specs.Rules.{free_begin}
use Rattle.suite_rules.specs.Lawful.{Lawful, goes_on}
use Rattle.suite_rules.specs.Steps.{begun_with}
use Rattle.suite_rules.proofs.StepLemmas.{may-answer-now, stands-begun, stands-weaker, others-lawful}
use Rattle.suite_session.specs.Causes.{HasListedNone}
use Rattle.suite_answers.specs.declared.answer.Answer.{Answer as FinalAnswer}
use Rattle.suite_session.specs.declared.state.State.{State}
use Rattle.suite_session.specs.declared.state.State.TheVariants.{Looking, Answering}
use Rattle.suite_session.specs.Runner.{Question, Runner}
use Rattle.acct_outside.specs.Journal.{makes, was_done}
use Rattle.acct_outside.specs.Moment.{Past, Moment, Narrows, Notes}
use Rattle.suite_rules.proofs.Parts.{StandsWhere, StaysLawfulWhere, TellsWhere}
use Rattle.suite_session.specs.Moment.{Runs, At}
use Rattle.suite_session.specs.Answers.{memory_answer, IsTold}
use Rattle.suite_session.specs.Due.{IsDue}
use Rattle.suite_session.specs.Belongs.{CameTo}
use Rattle.suite_session.specs.Grows.{Grew}
use Rattle.suite_session.specs.Bound.{HasCalled, HasCalledFree}
use Rattle.suite_session.specs.Left.{most_lower}
use Rattle.suite_session.specs.Looks.{HasLooksLeft}
use Rattle.suite_session.specs.Locking.{cause_of_fault}
use Rattle.suite_session.specs.Turning.{IsFirst, IsNew, IsUnbegun, StepsTo}
use Rattle.suite_session.specs.Stands.{FindsNoMemory, MakesOne, MayGive, IsOutside, StandsAs, TellsOutside, TurnsTo}
use Rattle.suite_session.specs.Telling.{IsToTell, Remembers}
use Rattle.suite_session.proofs.TellingLemmas.{tells-nothing, tells-own}
use Rattle.suite_session.proofs.CauseLemmas.{told-says, told-cause, fault-failed, fault-plain}
use Rattle.suite_session.proofs.BoundLemmas.{wrote-first, called-first}
use Rattle.suite_session.proofs.FreeLemmas.{free-first}
use Rattle.suite_session.proofs.GrowsLemmas.{others-extend, second-empty, tells-grow}
use Rattle.suite_session.proofs.LooksLemmas.{looked-first}
use Rattle.suite_session.proofs.StagingLemmas.{staged-first}

-- ---- The begin

-- the token of a begin's event: none where it failed
abbrev begun_token : Result Token FolderFault → Token
begun_token (Ok token) = token
begun_token (Err fault) = []

-- the answer of its call
abbrev begun_answer : Result Token FolderFault → Result (Unit {0}) FolderFault
begun_answer (Ok token) = Ok tt
begun_answer (Err fault) = Err fault

-- a begin is told as any call
begin-tells : (admits : Admission) (command : Command) (result : Result Token FolderFault)
    (before now : Option Past) → WhereTold before now (TellsBegin admits command result) →
    TellsWhere admits before now (begun_token result) (begins command) (begun_answer result)
begin-tells admits command result None None tells = tt
begin-tells admits command (Ok token) (Some before) (Some now) tells = (tells.0, tells.1.0)
begin-tells admits command (Err Failed) (Some before) (Some now) tells = tells
begin-tells admits command (Err NoMemory) (Some before) (Some now) tells = tells
begin-tells admits command result None (Some now) tells = absurd tells
begin-tells admits command result (Some before) None tells = absurd tells

-- so it is the one event of its token
begin-grows : (admits : Admission) (command : Command) (result : Result Token FolderFault)
    (before now : Option Past) → WhereTold before now (TellsBegin admits command result) →
    Grew admits (begun_token result) 1 before now
begin-grows admits command result before now tells =
    tells-grow admits (begun_token result) (begins command) (begun_answer result) before now
    (λ past is between others. tt) (begin-tells admits command result before now tells)

-- before its begin no event of the token came
begin-first : (admits : Admission) (command : Command) (token : Token) (old new : History)
    (gives : History → CallResult (Answer (begins command)) → Type 0)
    (event : TellsEvent admits token (begins command) (done tt) gives old new) →
    own_events token new ≡ record { token = token; call = begins command; result = done tt } ∷ [] →
    own_events token event.others_then.between ≡ []
begin-first admits command token old new gives event only =
    let came = event.others_then in
    let begun : Event = record { token = token; call = begins command; result = done tt } in
    let first : own_events token (begun ∷ came.between) ≡ begun ∷ own_events token came.between =
    rw ((bytes_eq-Decides token token).1 refl) refl in
    let one : begun ∷ own_events token came.between ≡ begun ∷ [] =
    sym first ∙ (ap (λ (past : History). own_events token past) (sym came.last) ∙ only) in
    cc one

-- its token is new
pub begin-new : (admits : Admission) (command : Command) (token : Token)
    (before now : Option Past) →
    WhereTold before now (TellsBegin admits command (Ok token)) → IsNew before token
begin-new admits command token None now tells = tt
begin-new admits command token (Some before) (Some now) tells =
    let came = tells.1.0.others_then in
    let none = begin-first admits command token before.history now.history _ tells.1.0 tells.1.1 in
    let older = others-extend admits before.history came.between came.others in
    second-empty (own_events token older.0) (own_events token before.history)
    (sym (filter-append (is_of token) older.0 before.history)
    ∙ (ap (λ (past : History). own_events token past) (sym older.1) ∙ none))
begin-new admits command token (Some before) None tells = absurd tells

-- it is one event of it
begin-one : (admits : Admission) (command : Command) (token : Token) (Otherwise : Type 0)
    (before now : Option Past) → WhereTold before now (TellsBegin admits command (Ok token)) →
    MakesOne before now token (begins command) Otherwise
begin-one admits command token Otherwise None None tells = tt
begin-one admits command token Otherwise (Some before) (Some now) tells = (
  tells.0,
  inl (
    _,
    tells.1.1 ∙ ap (λ (older : History). let event : Event =
        record { token = token; call = begins command; result = done tt } in event ∷ older)
        (sym (begin-new admits command token (Some before) (Some now) tells)),
  ),
)
begin-one admits command token Otherwise before now tells = absurd tells

-- in its first state a session has called the begin alone
first-called : (runner : Runner) (state : State) (history : History) →
    own_events runner.token history ≡ record {
      token = runner.token;
      call = begins runner.asked.command;
      result = done tt;
    } ∷ [] → IsFirst runner state → HasCalled runner.token state history
first-called runner (Looking looking) history only is =
    called-first runner.token runner.asked.command (Looking looking) history most_lower only
    (omega arith) (inl tt) (omega arith) (omega arith) refl
first-called runner (Answering answer) history only is =
    called-first runner.token runner.asked.command (Answering answer) history 0 only
    (omega arith) (inr (inl refl)) (omega arith) (omega arith) tt
first-called runner state history only is = absurd is

-- so a report has changed no name
first-free : (runner : Runner) (state : State) (history : History) →
    own_events runner.token history ≡ record {
      token = runner.token;
      call = begins runner.asked.command;
      result = done tt;
    } ∷ [] → IsFirst runner state → HasCalledFree runner.token state history
first-free runner (Looking looking) history only is =
    free-first runner.token runner.asked.command (Looking looking) history only (omega arith)
first-free runner (Answering answer) history only is =
    free-first runner.token runner.asked.command (Answering answer) history only (omega arith)
first-free runner state history only is = absurd is

-- it has looked at nothing
first-looked : (runner : Runner) (state : State) (history : History) →
    own_events runner.token history ≡ record {
      token = runner.token;
      call = begins runner.asked.command;
      result = done tt;
    } ∷ [] → IsFirst runner state → HasLooksLeft runner.token state history
first-looked runner (Looking looking) history only is = looked-first runner.token
    runner.asked.command (Looking looking) history only (λ look. omega arith)
first-looked runner (Answering answer) history only is = looked-first runner.token
    runner.asked.command (Answering answer) history only (λ look. omega arith)
first-looked runner state history only is = absurd is

-- the begin shows nothing that the session is to tell, and is its only event
begin-came : (admits : Admission) (runner : Runner) (state : State) → IsFirst runner state →
    (before now : Option Past) →
    WhereTold before now (TellsBegin admits runner.asked.command (Ok runner.token)) →
    IfSome now (CameTo runner state)
begin-came admits runner state is None None tells = tt
begin-came admits runner state is (Some before) (Some now) tells =
    let came = tells.1.0.others_then in
    record {
      named = tells.1.0.given.0;
      remembers = subst (Remembers runner.token state) (sym came.last)
          (tells-own (λ met. ⊥) runner.token (IsToTell state) _ came.between
          (λ met none. absurd none) (λ met shows. absurd shows)
          (tells-nothing runner.token came.between (begin-first admits runner.asked.command
          runner.token before.history now.history _ tells.1.0 tells.1.1)));
      called = first-called runner state now.history tells.1.1 is;
      looked = first-looked runner state now.history tells.1.1 is;
      wrote = wrote-first runner.token runner.asked.command now.history tells.1.1;
      staged = staged-first runner.token runner.asked.command state now.history tells.1.1;
      free = λ report. first-free runner state now.history tells.1.1 is;
    }
begin-came admits runner state is before now tells = absurd tells

-- it keeps a history lawful, for whatever deeds
begin-lawful : (deeds : SuiteDeeds) (admits : Admission) (command : Command)
    (result : Result Token FolderFault) (before now : Option Past) →
    WhereTold before now (TellsBegin admits command result) →
    StaysLawfulWhere deeds admits before now
begin-lawful deeds admits command result None None tells = tt
begin-lawful deeds admits command (Ok token) (Some before) (Some now) tells =
    let event = tells.1.0 in
    let came = event.others_then in (
      tells.0,
      λ others lawful. subst (Lawful deeds before.first) (sym came.last)
          (goes_on _ came.between
          (others-lawful deeds admits before.first others before.history came.between
          came.others lawful)
          (record {
            keeps = record {
              life_rule = subst (λ (lived : Life). MayCall lived (begins command))
                  (sym event.given.1) tt;
              permitted = free_begin command;
            };
            gives = event.given;
          })),
    )
begin-lawful deeds admits command (Err Failed) (Some before) (Some now) tells =
    let event = tells.1.1 in
    let came = event.others_then in (
      tells.0,
      λ others lawful. subst (Lawful deeds before.first) (sym came.last)
          (goes_on _ came.between
          (others-lawful deeds admits before.first others before.history came.between
          came.others lawful)
          (record { keeps = tt; gives = event.given })),
    )
begin-lawful deeds admits command (Err NoMemory) (Some before) (Some now) tells = (
  tells.0,
  λ others lawful.
      others-lawful deeds admits before.first others before.history now.history tells.1 lawful,
)
begin-lawful deeds admits command result before now tells = absurd tells

-- the command of what was asked is that of the words, the input and the day
pub asked-command : {words others : List Word} (input : Bytes) (day : ℕ) (asked : Question)
    {request : Request} → words ≡ others →
    record { command = record { words = others; input = input; day = day }; request = request }
    ≡ asked →
    record { words = words; input = input; day = day } ≡ asked.command
asked-command input day asked same is =
    (λ i. record { words = same i; input = input; day = day })
    ∙ ap (λ (one : Question). one.command) is

module _ (before now : Moment) where
  module _ (runner : Runner)
      (tells : WhereTold before.told now.told
      (TellsBegin before.admits runner.asked.command (Ok runner.token)))
      (own : NeverAdmits now.admits runner.token) where
    -- a session that has begun has no lock, and its command
    begun-stands : At now runner Before HasListedNone
    begun-stands = stands-weaker now.admits runner.token
        (λ stood. stood ≡ begun_with runner.asked.command) (Runs runner Before HasListedNone)
        (λ stood is. record {
          holds = record {
            owns = ap (λ (one : Standing). one.own) is;
            unlisted = ap (λ (one : Standing). one.listing) is;
          };
          asked = ap (λ (one : Standing). one.command) is;
          commits = ap (λ (one : Standing). one.commit) is;
        })
        now.told
        (stands-begun before.admits now.admits runner.token runner.asked.command own
        before.told now.told tells)

    -- want of memory is due then
    memory-due : (told : Option Past) →
        StandsWhere now.admits told runner.token (Runs runner Before HasListedNone) →
        IfSome told (IsDue runner (memory_answer Before))
    memory-due None stands = tt
    memory-due (Some past) stands = record {
      asked = stands.holds.asked;
      commits = stands.holds.commits;
      shown = tt;
    }

    -- and may be told
    memory-given : MayGive now runner (memory_answer Before)
    memory-given = record {
      may_answer = may-answer-now now.admits runner.token (Runs runner Before HasListedNone)
          now.told begun-stands;
      gives = record { says = refl; due = memory-due now.told begun-stands };
      left = λ goes_on. absurd (goes_on tt);
    }

    -- it stands in its first state
    first-stands : (state : State) → IsFirst runner state → StandsAs now runner state
    first-stands (Looking looking) is = (is, begun-stands)
    first-stands (Answering answer) is = subst (MayGive now runner) (sym is) memory-given
    first-stands state is = absurd is

    -- which tells of no fault of the folder
    first-quiet : (state : State) → IsFirst runner state → TellsOutside state → ⊥
    first-quiet (Answering answer) is fault =
        subst IsOutside (ap (λ (given : FinalAnswer). given.outcome.cause) is) fault
    first-quiet (Looking looking) is fault = fault
    first-quiet state is fault = absurd is

    -- a begin that gave a token leads there
    pub begins-turn : Narrows before.admits now.admits → before.faults ≤ now.faults →
        (state : State) → IsFirst runner state →
        Notes before now (makes (begins runner.asked.command) was_done) →
        StepsTo before now runner (begins runner.asked.command) state
    begins-turn narrows never_falls state is noted = record {
      turns = record {
        stands = record {
          stands = first-stands state is;
          came = begin-came before.admits runner state is before.told now.told tells;
        };
        grew = begin-grows before.admits runner.asked.command (Ok runner.token)
            before.told now.told tells;
        lawful = λ deeds ours. begin-lawful deeds before.admits runner.asked.command
            (Ok runner.token) before.told now.told tells;
        narrows = narrows;
        never_falls = never_falls;
        risen = λ fault. absurd (first-quiet state is fault);
      };
      makes_one = begin-one before.admits runner.asked.command runner.token (FindsNoMemory state)
          before.told now.told tells;
      asks = record { reply = was_done; noted = noted; refused = λ is. absurd (cc is) };
    }

  module _ (asked : Question) (fault : FolderFault)
      (tells : WhereTold before.told now.told (TellsBegin before.admits asked.command (Err fault)))
      (answer : FinalAnswer)
      (told : IsTold asked.request.tool (cause_of_fault Before fault) answer) where
    -- it tells of a fault of the folder only where that failed
    unbegun-failed : IsOutside answer.outcome.cause → fault ≡ Failed
    unbegun-failed is =
        elim (told-cause asked.request.tool (cause_of_fault Before fault) answer told) [
          | inl same ↦ fault-failed Before fault (subst IsOutside same is)
          | inr same ↦ absurd (subst IsOutside same is)
        ]

    -- it is told as a fault, and nothing is left to call
    pub unbegun : Narrows before.admits now.admits → before.faults ≤ now.faults →
        (fault ≡ Failed → HasRisen before.faults now.faults) →
        TurnsTo before now [] 1 (IsUnbegun asked before now answer)
        (IsOutside answer.outcome.cause)
    unbegun narrows never_falls risen = record {
      stands = record {
        fault = fault;
        begin = tells;
        tells = told;
        says = told-says asked (cause_of_fault Before fault) answer (fault-plain Before fault) told;
      };
      grew = begin-grows before.admits asked.command (Err fault) before.told now.told tells;
      lawful = λ deeds ours. begin-lawful deeds before.admits asked.command (Err fault)
          before.told now.told tells;
      narrows = narrows;
      never_falls = never_falls;
      risen = λ is. risen (unbegun-failed is);
    }
