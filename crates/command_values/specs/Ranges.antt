-- The IDs that a value names (usermod(8), `-v`, `-V`, `-w` and `-W`).
use Rattle.account_model.specs.UsermodRanges as model
use Rattle.command_values.specs.declared.id_range.IdRange.{IdRange}

-- the IDs from the first to the last, as account_model has them
abbrev pub ids_named : IdRange → model.IdRange
ids_named ids = record { first = ids.first; last = ids.last }
