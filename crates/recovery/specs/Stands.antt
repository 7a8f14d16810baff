-- The standing of a session in each state of a recovery (docs/ARCHITECTURE.md, "Typed steps"). Each
-- is found from the session's own events alone.
use Rattle.std.specs.Prelude.{⊤}
use Rattle.acct_outside.specs.Tokens.{Token}
use Rattle.acct_outside.specs.Moment.{Moment}
use Rattle.intent_file.specs.Intent.{Intended}
use Rattle.suite_rules.specs.Standing.{Standing}
use Rattle.suite_rules.specs.Steps.{StandsIn}
use Rattle.lock_steps.specs.Stands.{Keeps, KnowsAnything, KnowsNoneYet}
use Rattle.recovery.specs.declared.IntentSeen.{IntentSeen}
use Rattle.recovery.specs.declared.IntentSeen.TheVariants.{Clean, Listed}
use Rattle.recovery.specs.declared.RecoveryEnd.{RecoveryEnd}
use Rattle.recovery.specs.declared.RecoveryEnd.TheVariants.{Fault, Damaged, TooLarge}
use Rattle.recovery.specs.States.{Recoverer, Mover, recoverer_of}
use Rattle.recovery.specs.Carrying.{Carries, HasStagedFirst}

-- it carries out an intent, of whose tables these are left
pub record Recovers (recovering : Recoverer) (standing : Standing) : Type 0 where
  pub intent : Intended
  pub carries : Carries intent recovering.keeper recovering.left standing

-- it recovers, and has staged so many first pieces of the first table that is left
pub record HasStagedNext (moving : Mover) (standing : Standing) : Type 0 where
  pub recovers : Recovers (recoverer_of moving) standing
  pub staged : HasStagedFirst moving.left moving.staged standing

-- after the read of the intent: none stands, or all tables of the one that stands are left
abbrev pub HoldsSeen : IntentSeen → Standing → Type 0
HoldsSeen (Clean keeper) = Keeps keeper KnowsNoneYet
HoldsSeen (Listed recovering) = Recovers recovering

-- the session stands so after that
abbrev pub StandsSeen : Moment → Token → IntentSeen → Type 0
StandsSeen now token seen = StandsIn now token (HoldsSeen seen)

-- after a read of the intent that leads no further: a refusal hands the keeper back
abbrev pub StandsRefused : Moment → Token → RecoveryEnd → Type 0
StandsRefused now token (Fault fault) = ⊤
StandsRefused now token (Damaged part keeper) =
    StandsIn now token (Keeps keeper KnowsAnything)
StandsRefused now token (TooLarge keeper) =
    StandsIn now token (Keeps keeper KnowsAnything)
