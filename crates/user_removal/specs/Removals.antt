-- How a user goes from the tables (userdel(8)).
use Rattle.std.specs.Prelude.{ℕ, List, [], ◌∷◌, Option}
use Rattle.account_model.specs.Edits.{each, drop_where}
use Rattle.account_model.specs.Format.{is_named}
use Rattle.account_model.specs.Records.{passwd_format, shadow_format}
use Rattle.account_model.specs.SubidOwner.{is_owned}
use Rattle.account_model.specs.Tables.{Script, no_edits}
use Rattle.account_model.specs.Userdel.{group_without, gshadow_without}

-- from passwd and shadow
abbrev pub lines_removal : List ℕ → Script
lines_removal user = record no_edits {
  passwd = drop_where (is_named passwd_format user) ∷ [];
  shadow = drop_where (is_named shadow_format user) ∷ [];
}

-- from all lists of group and gshadow
abbrev pub lists_removal : List ℕ → Script
lists_removal user = record no_edits {
  group = each (group_without user) ∷ [];
  gshadow = each (gshadow_without user) ∷ [];
}

-- from the owners of ranges, also by the UID
abbrev pub ranges_removal : List ℕ → Option ℕ → Script
ranges_removal user uid = record no_edits {
  subuid = drop_where (is_owned user uid) ∷ [];
  subgid = drop_where (is_owned user uid) ∷ [];
}
