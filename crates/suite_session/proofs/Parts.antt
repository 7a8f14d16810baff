-- What a turn says of a lawful history, at the parts of a moment, so that a lemma can go by whether
-- the history is told.
use Rattle.std.proofs.Common.{Option}
use Rattle.acct_outside.specs.Others.{Admission}
use Rattle.acct_outside.specs.Moment.{Past}
use Rattle.suite_rules.specs.Deeds.{SuiteDeeds}
use Rattle.suite_rules.proofs.Parts.{StaysLawfulWhere}
use Rattle.suite_session.specs.Deeds.{AreOfTools}

-- a lawful history stays lawful, for the deeds of the tools
abbrev pub StaysOursWhere : Admission → Option Past → Option Past → Type 0
StaysOursWhere admits before now =
    (deeds : SuiteDeeds) → AreOfTools deeds → StaysLawfulWhere deeds admits before now
