-- Claim: turn by turn a session comes from its entry to its answer (`comes-turn`), and what holds from
-- the entry to a moment and from there on holds from the entry on (`turns-then`).
-- Way: histories grow and stay lawful one after another, as a folder never admits more than before.
use Rattle.std.proofs.Common.{◌≡◌, refl, sym, ap, subst, ◌∙◌, ◌≤◌, ◌+◌, [], ℕ, inl, inr, Option, Some, None, Ok, Err, true, is_none, arith}
use Rattle.std.proofs.lemmas.List.Elements.{filter-append}
use Rattle.acct_outside.specs.declared.FolderFault.{FolderFault}
use Rattle.acct_outside.specs.declared.FolderFault.TheVariants.{Failed, Memory as NoMemory}
use Rattle.acct_outside.specs.Faults.{HasRisen}
use Rattle.acct_outside.specs.Calls.{Command}
use Rattle.acct_outside.specs.Folder.{Folder}
use Rattle.acct_outside.specs.Tokens.{Token}
use Rattle.acct_outside.specs.History.{History, is_of, own_events}
use Rattle.acct_outside.specs.Others.{Admission, ByOthers, none_came, one_came}
use Rattle.acct_outside.specs.Contract.{TellsBegin, WhereTold}
use Rattle.account_model.specs.declared.tool.Tool.{Tool}
use Rattle.suite_rules.specs.Deeds.{SuiteDeeds}
use Rattle.suite_rules.specs.Lawful.{Lawful}
use Rattle.suite_rules.specs.Steps.{LawfulOthers}
use Rattle.suite_answers.specs.declared.answer.Answer.{Answer}
use Rattle.suite_session.specs.declared.session.Phase.{Phase}
use Rattle.suite_session.specs.declared.session.Phase.TheVariants.{Waiting, Begun, Over, Unbegun}
use Rattle.suite_session.specs.Runner.{Question, Runner}
use Rattle.acct_outside.specs.Moment.{Past, Moment, Narrows}
use Rattle.suite_rules.proofs.Parts.{StaysLawfulWhere}
use Rattle.suite_session.specs.Belongs.{Belongs, HasNoToken, IsLedTo}
use Rattle.suite_session.specs.Session.{IsWaiting, answer_of, given_in}
use Rattle.suite_session.specs.Stands.{Extends, TellsOutside, TurnsTo}
use Rattle.suite_session.specs.Turning.{IsNew, IsUnbegun, SessionTurns}
use Rattle.suite_session.proofs.BelongsLemmas.{without-token}
use Rattle.suite_session.proofs.GrowsLemmas.{grew-extends, grew-none, grew-nothing, grew-then, second-empty}
use Rattle.suite_course.specs.Course.{Comes, Reached}
use Rattle.suite_course.proofs.AskedLemmas.{asked-turn}

-- ---- One after another

-- others that are lawful for more are lawful for fewer
others-narrow : (deeds : SuiteDeeds) (more fewer : Admission) (first : Folder) →
    Narrows more fewer → LawfulOthers deeds more first → LawfulOthers deeds fewer first
others-narrow deeds more fewer first narrows others history event lawful admitted =
    others history event lawful (narrows history event admitted)

-- a history that twice stayed lawful stays so
lawful-then : (deeds : SuiteDeeds) (more fewer : Admission) → Narrows more fewer →
    (entry between now : Option Past) → StaysLawfulWhere deeds more entry between →
    StaysLawfulWhere deeds fewer between now → StaysLawfulWhere deeds more entry now
lawful-then deeds more fewer narrows None None None first second = tt
lawful-then deeds more fewer narrows (Some entry) (Some between) (Some now) first second = (
  second.0 ∙ first.0,
  λ others lawful.
      subst (λ (one : Folder). Lawful deeds one now.history) first.0
      (second.1
      (subst (λ (one : Folder). LawfulOthers deeds fewer one) (sym first.0)
      (others-narrow deeds more fewer entry.first narrows others))
      (subst (λ (one : Folder). Lawful deeds one between.history) (sym first.0)
      (first.1 others lawful))),
)
lawful-then deeds more fewer narrows None None (Some now) first second = absurd second
lawful-then deeds more fewer narrows None (Some between) now first second = absurd first
lawful-then deeds more fewer narrows (Some entry) None now first second = absurd first
lawful-then deeds more fewer narrows (Some entry) (Some between) None first second = absurd second

-- a count that rose later rose from the beginning
risen-then : (entry between now : ℕ) → entry ≤ between → HasRisen between now → HasRisen entry now
risen-then entry between now low (inl rose) = inl (omega (arith, low, rose))
risen-then entry between now low (inr last) = inr last

-- turns one after another
pub turns-then : (entry between now : Moment) (token : Token) (made most : ℕ)
    {S T Stands TellsFault : Type 0} → TurnsTo entry between token made S T →
    TurnsTo between now token most Stands TellsFault →
    TurnsTo entry now token (made + most) Stands TellsFault
turns-then entry between now token made most first second = record {
  stands = second.stands;
  grew = grew-then entry.admits between.admits token made most entry.told between.told now.told
      first.narrows first.grew second.grew;
  lawful = λ deeds ours. lawful-then deeds entry.admits between.admits first.narrows
      entry.told between.told now.told (first.lawful deeds ours) (second.lawful deeds ours);
  narrows = λ history event admitted.
      first.narrows history event (second.narrows history event admitted);
  never_falls = omega (arith, first.never_falls, second.never_falls);
  risen = λ told. risen-then entry.faults between.faults now.faults first.never_falls
      (second.risen told);
}

-- the same turns to what follows from their end
pub turns-as : (entry now : Moment) (token : Token) (most : ℕ) {S T Stands TellsFault : Type 0} →
    (S → Stands) → (TellsFault → HasRisen entry.faults now.faults) →
    TurnsTo entry now token most S T → TurnsTo entry now token most Stands TellsFault
turns-as entry now token most stands risen turns = record {
  stands = stands turns.stands;
  grew = turns.grew;
  lawful = turns.lawful;
  narrows = turns.narrows;
  never_falls = turns.never_falls;
  risen = risen;
}

-- turns without an event of one session have none of another
pub turns-none : (entry now : Moment) (token other : Token) {S T : Type 0} →
    TurnsTo entry now token 0 S T → TurnsTo entry now other 0 S T
turns-none entry now token other turns = record {
  stands = turns.stands;
  grew = grew-none entry.admits token other entry.told now.told turns.grew;
  lawful = turns.lawful;
  narrows = turns.narrows;
  never_falls = turns.never_falls;
  risen = turns.risen;
}

-- ---- A begin that gave no token

-- events that a narrower folder admits a wider one admits
others-wider : (wide narrow : Admission) → Narrows wide narrow → (old new : History) →
    ByOthers narrow old new → ByOthers wide old new
others-wider wide narrow narrows old _ none_came = none_came
others-wider wide narrow narrows old _ (one_came event new others admitted) =
    one_came event new (others-wider wide narrow narrows old new others)
    (narrows new event admitted)

-- so its begin is told there
begin-wider : (wide narrow : Admission) → Narrows wide narrow → (command : Command)
    (fault : FolderFault) (first : Folder) (old new : History) →
    TellsBegin narrow command (Err fault) first old new →
    TellsBegin wide command (Err fault) first old new
begin-wider wide narrow narrows command Failed first old new begin =
    let then = begin.1.others_then in (
      begin.0,
      record {
        others_then = record {
          between = then.between;
          others = others-wider wide narrow narrows old then.between then.others;
          last = then.last;
        };
        given = begin.1.given;
      },
    )
begin-wider wide narrow narrows command NoMemory first old new begin =
    others-wider wide narrow narrows old new begin

-- where it is told from a moment
told-wider : (wide narrow : Admission) → Narrows wide narrow → (command : Command)
    (fault : FolderFault) (was told : Option Past) →
    WhereTold was told (TellsBegin narrow command (Err fault)) →
    WhereTold was told (TellsBegin wide command (Err fault))
told-wider wide narrow narrows command fault None None tells = tt
told-wider wide narrow narrows command fault (Some was) (Some past) tells = (
  tells.0,
  begin-wider wide narrow narrows command fault was.first was.history past.history tells.1,
)
told-wider wide narrow narrows command fault was told tells = absurd tells

-- one since a moment is one since an entry at which as much was told
pub unbegun-from : (asked : Question) (entry between now : Moment) (answer : Answer) →
    between.told ≡ entry.told → Narrows entry.admits between.admits →
    IsUnbegun asked between now answer → IsUnbegun asked entry now answer
unbegun-from asked entry between now answer told narrows unbegun = record {
  fault = unbegun.fault;
  begin = subst (λ (was : Option Past).
      WhereTold was now.told (TellsBegin entry.admits asked.command (Err unbegun.fault))) told
      (told-wider entry.admits between.admits narrows asked.command unbegun.fault between.told
      now.told unbegun.begin);
  tells = unbegun.tells;
  says = unbegun.says;
}

-- and stays so while as much is told
pub unbegun-stays : (asked : Question) (entry between now : Moment) (answer : Answer) →
    now.told ≡ between.told → IsUnbegun asked entry between answer →
    IsUnbegun asked entry now answer
unbegun-stays asked entry between now answer told unbegun = record {
  fault = unbegun.fault;
  begin = subst (λ (one : Option Past).
      WhereTold entry.told one (TellsBegin entry.admits asked.command (Err unbegun.fault)))
      (sym told) unbegun.begin;
  tells = unbegun.tells;
  says = unbegun.says;
}

-- ---- A session on its way

-- a token that is new was so before
pub new-from : (token : Token) (was told : Option Past) → Extends was told → IsNew told token →
    IsNew was token
new-from token None told extends new = tt
new-from token (Some was) (Some past) extends new =
    second-empty (own_events token extends.1.0) (own_events token was.history)
    (sym (filter-append (is_of token) extends.1.0 was.history)
    ∙ (ap (λ (one : History). own_events token one) (sym extends.1.1) ∙ new))
new-from token (Some was) None extends new = absurd extends

-- a turn of a session that has no answer yet
pub comes-turn : (asked : Question) (entry between now : Moment) (old new : Phase) →
    Comes asked entry between old → answer_of old ≡ None → SessionTurns between now old new →
    Comes asked entry now new
comes-turn asked entry between now (Waiting question) (Begun runner state) comes none turns =
    let first = turns-none entry between [] runner.token comes.turns in
    let both = turns-then entry between now runner.token 0 1 first turns.1.turns in
    record {
      made = 1;
      asks = asked-turn entry between now (Waiting question) (Begun runner state) comes.asks none
          turns;
      turns = turns-as entry now runner.token 1
          (λ stands. (
            turns.0 ∙ comes.turns.stands.0,
            stands,
            new-from runner.token entry.told between.told
                (grew-extends entry.admits runner.token 0 entry.told between.told first.grew)
                turns.2,
          )) both.risen both;
    }
comes-turn asked entry between now (Waiting question) (Unbegun tool answer) comes none turns =
    let both = turns-then entry between now [] 0 1 comes.turns turns.1 in
    record {
      made = 1;
      asks = asked-turn entry between now (Waiting question) (Unbegun tool answer) comes.asks none
          turns;
      turns = turns-as entry now [] 1
          (λ unbegun. (
            turns.0 ∙ ap (λ (one : Question). one.request.tool) comes.turns.stands.0,
            unbegun-from asked entry between now answer comes.turns.stands.1 comes.turns.narrows
                (subst (λ (one : Question). IsUnbegun one between now answer)
                comes.turns.stands.0 unbegun),
          )) both.risen both;
    }
comes-turn asked entry between now (Begun runner state) (Begun same next) comes none turns =
    let both = turns-then entry between now runner.token comes.made 1 comes.turns turns.1.turns in
    record {
      made = comes.made + 1;
      asks = asked-turn entry between now (Begun runner state) (Begun same next) comes.asks none
          turns;
      turns = subst (λ (one : Runner). TurnsTo entry now one.token (comes.made + 1)
          (Reached asked entry now (Begun same next)) (TellsOutside next)) (sym turns.0)
          (turns-as entry now runner.token (comes.made + 1)
          (λ stands. (
            ap (λ (one : Runner). one.asked) turns.0 ∙ comes.turns.stands.0,
            subst (λ (one : Runner). IsLedTo now one next) (sym turns.0) stands,
            subst (λ (one : Runner). IsNew entry.told one.token) (sym turns.0) comes.turns.stands.2,
          )) both.risen both);
    }
comes-turn asked entry between now (Begun runner state) (Over same answer) comes none turns =
    let has : given_in state ≡ Some answer = ap given_in turns.1 in
    let wrong : None ≡ Some answer = sym none ∙ has in absurd (cc)
comes-turn asked entry between now (Over runner answer) new comes none turns = absurd (cc)
comes-turn asked entry between now (Unbegun tool answer) new comes none turns = absurd (cc)
comes-turn asked entry between now old new comes none turns = absurd turns

-- a session that hasn't begun was asked something
pub waiting-is : (phase : Phase) → IsWaiting phase → (asked : Question) × (phase ≡ Waiting asked)
waiting-is (Waiting asked) waits = (asked, refl)
waiting-is phase waits = absurd waits

-- a session on its way belongs to the folder
pub comes-belongs : (asked : Question) (entry now : Moment) (phase : Phase) →
    Comes asked entry now phase → Belongs now phase
comes-belongs asked entry now (Waiting question) comes = tt
comes-belongs asked entry now (Begun runner state) comes =
    record {
      own = state;
      led = comes.turns.stands.1;
      put = Ok tt;
      left = refl;
      texted = λ fault failed. absurd (cc failed);
    }
comes-belongs asked entry now (Over runner answer) comes = absurd comes.turns.stands
comes-belongs asked entry now (Unbegun tool answer) comes =
    subst (λ (one : Tool). HasNoToken one answer) (sym comes.turns.stands.0)
    (without-token asked entry now answer comes.turns.stands.1)

-- at its entry it has come to where it is
pub comes-first : (asked : Question) (entry : Moment) (phase : Phase) → phase ≡ Waiting asked →
    Comes asked entry entry phase
comes-first asked entry phase is =
    subst (λ (one : Phase). Comes asked entry entry one) (sym is) (record {
      made = 0;
      asks = record {
        calls = [];
        parts = refl;
        are_calls = tt;
        stops = tt;
        goes = λ going. tt;
        within = refl;
      };
      turns = record {
        stands = (refl, refl);
        grew = grew-nothing entry.admits [] entry.told;
        lawful = λ deeds ours. still-lawful deeds entry.admits entry.told;
        narrows = λ history event admitted. admitted;
        never_falls = omega arith;
        risen = λ fault. absurd fault;
      };
    })
  where
    still-lawful : (deeds : SuiteDeeds) (admits : Admission) (was : Option Past) →
        StaysLawfulWhere deeds admits was was
    still-lawful deeds admits None = tt
    still-lawful deeds admits (Some was) = (refl, λ others lawful. lawful)

-- what isn't there is none
pub none-of : {T : Type 0} (held : Option T) → is_none held ≡ true → held ≡ None
none-of None is = refl
none-of (Some held) is = absurd (cc is)
