use Rattle.std.proofs.Common.{◌≡◌, drop}
use Rattle.std.specs.Prelude.{find}
use Rattle.account_model.specs.GivenGroups.{is_unknown_group}
use Rattle.table_edits.proofs.given_groups.first_unknown.Given as goal

-- the first word without a group among those left is that among all
abbrev pub invariant-loop-word : goal.invariant-loop-word
invariant-loop-word l =
    find (is_unknown_group l.tables) (drop l.word-index l.words)
    ≡ find (is_unknown_group l.tables) l.words
