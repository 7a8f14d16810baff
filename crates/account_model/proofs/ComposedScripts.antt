-- Scripts together: what holds of no edits, and of two scripts where it holds of each (`IsComposed`), holds of scripts in
-- their order (`all-hold`), of those of a value, an option or a flag, of one of two, and of the edits of an outcome.
use Rattle.std.proofs.Common.{◌≡◌, ℕ, Bool, true, false, List, [], ◌∷◌, refl}
use Rattle.std.specs.Prelude.{Option, Some, None, Result, Ok, Err, if◌then◌else◌}
use Rattle.std.specs.List.{AllByRecursion}
use Rattle.acct_text.specs.declared.files.Files.{Files}
use Rattle.account_model.specs.declared.refusal.Refusal.{Refusal}
use Rattle.account_model.specs.Text.{first_some}
use Rattle.account_model.specs.Tables.{Script, no_edits, followed_by, in_order}
use Rattle.account_model.specs.Request.{Request, has_option, value_of}
use Rattle.account_model.specs.Action.{Action, Made, outcome_of, with_flag, with_option}
use Rattle.account_model.specs.DeedLines.{edits_by}
use Rattle.account_model.proofs.BatchLaws.{outcome-made}

-- it holds of no edits, and of two scripts where it holds of each
pub record IsComposed (Holds : Script → Type 0) : Type 0 where
  pub none : Holds no_edits
  pub both : (first second : Script) → Holds first → Holds second
      → Holds (followed_by first second)

module _ {Holds : Script → Type 0} (composed : IsComposed Holds) where
  -- scripts in their order
  pub all-hold : (scripts : List Script) → AllByRecursion Holds scripts → Holds (in_order scripts)
  all-hold [] all = composed.none
  all-hold (script ∷ rest) all =
      composed.both script (in_order rest) all.0 (all-hold rest all.1)

  -- the script of a value that may be there
  pub some-holds :
      {V : Type 0} (edits : V → Script) (given : Option V)
      → ((value : V) → given ≡ Some value → Holds (edits value))
      → Holds (elim given [ None ↦ no_edits | Some value ↦ edits value ])
  some-holds edits None each = composed.none
  some-holds edits (Some value) each = each value refl

  -- the script of an option
  pub option-holds :
      (letter : List ℕ) (request : Request) (edits : List ℕ → Script)
      → ((value : List ℕ) → value_of letter request ≡ Some value → Holds (edits value))
      → Holds (with_option letter request edits)
  option-holds letter request edits each = some-holds edits (value_of letter request) each

  -- one of two scripts
  pub either-holds :
      (test : Bool) (one other : Script)
      → Holds one
      → Holds other
      → Holds (if test then one else other)
  either-holds true one other is also = is
  either-holds false one other is also = also

  -- the script of a flag
  pub flag-holds :
      (letter : List ℕ) (request : Request) (script : Script)
      → Holds script
      → Holds (with_flag letter request script)
  flag-holds letter request script is =
      either-holds (has_option letter request) script no_edits is composed.none

  -- the edits of a tool, where what it does is so unless it refuses
  pub outcome-holds :
      (action : Action) (files : Files)
      → (first_some action.refusals ≡ None → Holds action.script)
      → Holds (edits_by (outcome_of action files) action)
  outcome-holds action files holds = by (outcome_of action files) refl
    where
      by :
          (outcome : Result Made Refusal)
          → outcome_of action files ≡ outcome
          → Holds (edits_by outcome action)
      by (Ok made) is = holds (outcome-made action files made is).passes
      by (Err refusal) is = composed.none
