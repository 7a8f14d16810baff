-- Claims: a call's event is the one new event of its session, after admitted ones of others
-- (`tells-grow`); what grows twice grows by the sum (`grew-then`); what has got no event of one session
-- has got none of another (`grew-none`); and what grows is longer (`grew-extends`).
use Rattle.std.proofs.Common.{◌≡◌, refl, sym, ap, subst, ◌∙◌, ℕ, zero, suc, ◌+◌, List, ◌++◌, ◌∷◌, [], Option, Some, None, Result, Ok, Err, arith}
use Rattle.acct_outside.specs.declared.FolderFault.{FolderFault}
use Rattle.acct_outside.specs.declared.FolderFault.TheVariants.{Failed, Memory as NoMemory}
use Rattle.acct_outside.specs.Tokens.{Token}
use Rattle.acct_outside.specs.Calls.{Call, Answer}
use Rattle.acct_outside.specs.History.{Event, History}
use Rattle.acct_outside.specs.Others.{Admission, ByOthers, none_came, one_came, ByOthersThen}
use Rattle.acct_outside.specs.Moment.{Past, Narrows}
use Rattle.suite_rules.specs.Standing.{standing}
use Rattle.suite_rules.proofs.Parts.{TellsWhere}
use Rattle.suite_session.specs.Writing.{WritesDue}
use Rattle.suite_session.specs.Grows.{Grows, none_new, others_new, own_new, Grew}
use Rattle.suite_session.specs.Stands.{Extends}

-- what follows in an empty list is empty
pub second-empty : {T : Type 0} (first second : List T) → first ++ second ≡ [] → second ≡ []
second-empty [] second is = is
second-empty (one ∷ first) second is = absurd (cc is)

module _ (admits : Admission) (token : Token) (old : History) where
  -- admitted events of others are none of the session's
  pub others-grow : (most : ℕ) (new : History) → ByOthers admits old new →
      Grows admits token old most new
  others-grow most _ none_came = none_new most
  others-grow most _ (one_came event new came admitted) =
      others_new most event new (others-grow most new came) admitted

  -- an own event after them is one
  event-grows : (own : Event) (new : History) → own.token ≡ token →
      ((between : History) → ByOthers admits old between →
      WritesDue (standing token between) own.call) →
      ByOthersThen admits old own new → Grows admits token old 1 new
  event-grows own new is due then = subst (Grows admits token old 1) (sym then.last)
      (own_new 0 own then.between (others-grow 0 then.between then.others) is
      (due then.between then.others))

  -- by another name of the number
  as-many : (most same : ℕ) (new : History) → most ≡ same → Grows admits token old most new →
      Grows admits token old same new
  as-many most same new is = subst (λ (one : ℕ). Grows admits token old one new) is

  -- at most so many are at most one more
  grows-one : (most : ℕ) (new : History) → Grows admits token old most new →
      Grows admits token old (suc most) new
  grows-one most _ (none_new _) = none_new (suc most)
  grows-one most _ (others_new _ event new grown admitted) =
      others_new (suc most) event new (grows-one most new grown) admitted
  grows-one _ _ (own_new most event new grown is due) =
      own_new (suc most) event new (grows-one most new grown) is due

  -- or any number more
  grows-more : (most more : ℕ) (new : History) → Grows admits token old most new →
      Grows admits token old (most + more) new
  grows-more most zero new grown = as-many most (most + zero) new (omega arith) grown
  grows-more most (suc more) new grown =
      as-many (suc (most + more)) (most + suc more) new (omega arith)
      (grows-one (most + more) new (grows-more most more new grown))

  -- the history is longer
  pub grows-extends : (most : ℕ) (new : History) → Grows admits token old most new →
      (newer : History) × (new ≡ newer ++ old)
  grows-extends most _ (none_new _) = ([], refl)
  grows-extends most _ (others_new _ event new grown admitted) =
      let before = grows-extends most new grown in
      (event ∷ before.0, ap (λ (events : History). event ∷ events) before.1)
  grows-extends _ _ (own_new most event new grown is due) =
      let before = grows-extends most new grown in
      (event ∷ before.0, ap (λ (events : History). event ∷ events) before.1)

  -- where none of it is the session's, all is of others
  none-grows : (most : ℕ) (new : History) → most ≡ 0 → Grows admits token old most new →
      ByOthers admits old new
  none-grows most _ none (none_new _) = none_came
  none-grows most _ none (others_new _ event new grown admitted) =
      one_came event new (none-grows most new none grown) admitted
  none-grows _ _ none (own_new most event new grown is due) = absurd (cc none)

-- what grows while the folder admits less grows while it admits more
grows-wider : (more fewer : Admission) → Narrows more fewer → (token : Token) (old : History)
    (most : ℕ) (new : History) → Grows fewer token old most new → Grows more token old most new
grows-wider more fewer narrows token old most _ (none_new _) = none_new most
grows-wider more fewer narrows token old most _ (others_new _ event new grown admitted) =
    others_new most event new (grows-wider more fewer narrows token old most new grown)
    (narrows new event admitted)
grows-wider more fewer narrows token old _ _ (own_new most event new grown is due) =
    own_new most event new (grows-wider more fewer narrows token old most new grown) is due

-- what grows twice grows by both
grows-then : (admits : Admission) (token : Token) (old between : History) (made most : ℕ)
    (new : History) → Grows admits token old made between → Grows admits token between most new →
    Grows admits token old (made + most) new
grows-then admits token old between made most _ first (none_new _) =
    grows-more admits token old made most between first
grows-then admits token old between made most _ first (others_new _ event new grown admitted) =
    others_new (made + most) event new
    (grows-then admits token old between made most new first grown) admitted
grows-then admits token old between made _ _ first (own_new most event new grown is due) =
    as-many admits token old (suc (made + most)) (made + suc most) (event ∷ new) (omega arith)
    (own_new (made + most) event new
    (grows-then admits token old between made most new first grown) is due)

-- admitted events of others extend a history
pub others-extend : (admits : Admission) (old new : History) → ByOthers admits old new →
    (newer : History) × (new ≡ newer ++ old)
others-extend admits old new came =
    grows-extends admits [] old 0 new (others-grow admits [] old 0 new came)

-- ---- Where the folder tells its history

-- what the call writes is due, after whatever events of others
abbrev pub WritesDueThen : Admission → Token → Call → Option Past → Type 0
WritesDueThen admits token call before = (past : Past) → before ≡ Some past → (between : History) →
    ByOthers admits past.history between → WritesDue (standing token between) call

-- such a call makes one event of its session, or none
pub tells-grow : (admits : Admission) (token : Token) (call : Call)
    (answer : Result (Answer call) FolderFault) (before now : Option Past) →
    WritesDueThen admits token call before → TellsWhere admits before now token call answer →
    Grew admits token 1 before now
tells-grow admits token call answer None None due tells = tt
tells-grow admits token call (Ok answer) (Some before) (Some now) due tells = (
  tells.0,
  event-grows admits token before.history _ now.history refl (due before refl)
      tells.1.others_then,
)
tells-grow admits token call (Err Failed) (Some before) (Some now) due tells = (
  tells.0,
  event-grows admits token before.history _ now.history refl (due before refl)
      tells.1.1.others_then,
)
tells-grow admits token call (Err NoMemory) (Some before) (Some now) due tells =
    (tells.0, others-grow admits token before.history 1 now.history tells.1)
tells-grow admits token call answer before now due tells = absurd tells

-- so it extends the history
pub grew-extends : (admits : Admission) (token : Token) (most : ℕ) (before now : Option Past) →
    Grew admits token most before now → Extends before now
grew-extends admits token most None None grew = tt
grew-extends admits token most (Some before) (Some now) grew =
    (grew.0, grows-extends admits token before.history most now.history grew.1)
grew-extends admits token most before now grew = absurd grew

-- nothing new is none of the session's
pub grew-nothing : (admits : Admission) (token : Token) (was : Option Past) →
    Grew admits token 0 was was
grew-nothing admits token None = tt
grew-nothing admits token (Some was) = (refl, none_new 0)

-- what has got no event of one session has got none of another
pub grew-none : (admits : Admission) (token other : Token) (before now : Option Past) →
    Grew admits token 0 before now → Grew admits other 0 before now
grew-none admits token other None None grew = tt
grew-none admits token other (Some before) (Some now) grew = (
  grew.0,
  others-grow admits other before.history 0 now.history
      (none-grows admits token before.history 0 now.history refl grew.1),
)
grew-none admits token other before now grew = absurd grew

-- what grew twice, while the folder admitted no more the second time, grew by both
pub grew-then : (admits fewer : Admission) (token : Token) (made most : ℕ)
    (entry between now : Option Past) → Narrows admits fewer →
    Grew admits token made entry between →
    Grew fewer token most between now → Grew admits token (made + most) entry now
grew-then admits fewer token made most None None None narrows first second = tt
grew-then admits fewer token made most (Some entry) (Some between) (Some now)
    narrows first second = (
      second.0 ∙ first.0,
      grows-then admits token entry.history between.history made most now.history first.1
          (grows-wider admits fewer narrows token between.history most now.history second.1),
    )
grew-then admits fewer token made most None None (Some now) narrows first second = absurd second
grew-then admits fewer token made most None (Some between) now narrows first second = absurd first
grew-then admits fewer token made most (Some entry) None now narrows first second = absurd first
grew-then admits fewer token made most (Some entry) (Some between) None narrows first second =
    absurd second
