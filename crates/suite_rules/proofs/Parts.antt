-- What a step says of a moment, at the parts of the moment, so that a lemma can go by whether the
-- history is told. Each is the word of its name without Where, as that unfolds.
use Rattle.std.proofs.Common.{◌≡◌, ℕ, Option, Result}
use Rattle.std.specs.Prelude.{IfSome}
use Rattle.acct_outside.specs.declared.FolderFault.{FolderFault}
use Rattle.acct_outside.specs.declared.Name.{Name}
use Rattle.acct_outside.specs.declared.Found.{Found as Reading}
use Rattle.acct_outside.specs.Tokens.{Token}
use Rattle.acct_outside.specs.Calls.{Call, Answer, reads}
use Rattle.acct_outside.specs.History.{after}
use Rattle.acct_outside.specs.Gives.{GivesResult}
use Rattle.acct_outside.specs.Others.{Admission}
use Rattle.acct_outside.specs.Moment.{Past}
use Rattle.acct_outside.specs.Contract.{ActsIn, RunsIn, WhereTold, TellsCall, GivesRead, found_result}
use Rattle.suite_rules.specs.Deeds.{SuiteDeeds}
use Rattle.suite_rules.specs.Standing.{Standing, standing}
use Rattle.suite_rules.specs.Lawful.{Lawful}
use Rattle.suite_rules.specs.Steps.{Stands, LawfulOthers}

-- the session may call the folder
abbrev pub MayActWhere : Admission → Option Past → Token → Type 0
MayActWhere admits told token = IfSome told (ActsIn admits token)

-- it may answer
abbrev pub MayAnswerWhere : Admission → Option Past → Token → Type 0
MayAnswerWhere admits told token = IfSome told (RunsIn admits token)

-- the call has its event
abbrev pub TellsWhere : Admission → Option Past → Option Past → Token → (call : Call)
    → Result (Answer call) FolderFault → Type 0
TellsWhere admits before now token call result =
    WhereTold before now
    (λ first old new.
    TellsCall admits token call
    (λ between given. GivesResult (after first between) between token call given) result old new)

-- the read has its event
abbrev pub TellsReadWhere : Admission → Option Past → Option Past → Token → Name → ℕ
    → Result Reading FolderFault → Type 0
TellsReadWhere admits before now token name limit result =
    WhereTold before now
    (λ first old new.
    TellsCall admits token (reads name)
    (λ between given. GivesRead limit (after first between) name given)
    (found_result result) old new)

-- this holds of the session's standing
abbrev pub StandsWhere : Admission → Option Past → Token → (Standing → Type 0) → Type 0
StandsWhere admits told token Holds = IfSome told (Stands admits token Holds)

-- a lawful history stays lawful
abbrev pub StaysLawfulWhere : SuiteDeeds → Admission → Option Past → Option Past → Type 0
StaysLawfulWhere deeds admits before now = WhereTold before now (λ first old new.
    LawfulOthers deeds admits first → Lawful deeds first old → Lawful deeds first new)

-- a part of the session's standing is as it was
abbrev pub LeavesWhere : {A : Type 0} → (Standing → A) → Token → Option Past → Option Past → Type 0
LeavesWhere part token before now = WhereTold before now (λ first old new.
    part (standing token new) ≡ part (standing token old))
