-- The group of a user's name when the user goes (userdel(8)).
use Rattle.std.specs.Prelude.{ℕ, Bool, not, List, [], ◌∷◌, bytes_eq, Option, Some, None}
use Rattle.std.specs.List.{list_any}
use Rattle.acct_text.specs.declared.files.Files.{Files}
use Rattle.account_model.specs.declared.records.GroupRecord.{GroupRecord}
use Rattle.account_model.specs.Groupdel.{remove_group}
use Rattle.account_model.specs.Request.{Request, operand}
use Rattle.account_model.specs.Tables.{Script, no_edits}
use Rattle.account_model.specs.Userdel.{kept_text, reason_to_keep}

-- whether a list has another name
abbrev pub has_others : List ℕ → List (List ℕ) → Bool
has_others user names = list_any (λ name. not (bytes_eq name user)) names

-- a group that goes with the user goes where there is no reason to keep it
abbrev pub removal_of_group : Request → Files → Option GroupRecord → Script
removal_of_group request files group = elim group [
  | None ↦ no_edits
  | Some group ↦ elim (reason_to_keep request files group) [
    | None ↦ remove_group (operand request)
    | Some kept ↦ no_edits
  ]
]

-- and else there is a notice
abbrev pub notices_of_group : Request → Files → Option GroupRecord → List (List ℕ)
notices_of_group request files group = elim group [
  | None ↦ []
  | Some group ↦ elim (reason_to_keep request files group) [
    | None ↦ []
    | Some kept ↦ kept_text (operand request) kept ∷ []
  ]
]
