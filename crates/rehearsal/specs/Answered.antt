-- Whether a command changed the tables.
use Rattle.std.specs.Prelude.{Bool, true, false}
use Rattle.suite_answers.specs.declared.cause.Cause.{Cause}
use Rattle.suite_answers.specs.declared.cause.Cause.TheVariants.{Changed}

-- the cause is a change
abbrev pub is_changed : Cause → Bool
is_changed Changed = true
is_changed cause = false
