-- What contracts see of a recovery: the keeper that carries the intent out, and what it has still to
-- do.
use Rattle.std.specs.Prelude.{ℕ, ◌+◌, List, slice_get, drop, option_map, unwrap_or}
use Rattle.intent_file.specs.Intent.{NewTable}
use Rattle.suite_rules.specs.Outcomes.{pieces_left}
use Rattle.lock_steps.specs.States.{Kept}

-- a keeper that carries a standing intent out; of the tables that the intent lists these are not
-- moved yet, in their order
pub record Recoverer : Type 0 where
  pub keeper : Kept
  pub left : List NewTable

-- one that has staged so many first pieces of the first table that is left
pub record Mover : Type 0 where
  pub keeper : Kept
  pub left : List NewTable
  pub staged : ℕ

-- the recovery whose table is staged
abbrev pub recoverer_of : Mover → Recoverer
recoverer_of moving = record { keeper = moving.keeper; left = moving.left }

-- the recovery once the first of the tables that are left is moved
abbrev pub moved_once : Mover → Recoverer
moved_once moving = record { keeper = moving.keeper; left = drop 1 moving.left }

-- the recovery with so many first pieces of the first table staged
abbrev pub mover_of : ℕ → Recoverer → Mover
mover_of staged recovering =
    record { keeper = recovering.keeper; left = recovering.left; staged = staged }

-- the same with one piece more
abbrev pub appended_once : Mover → Mover
appended_once moving = record moving { staged = moving.staged + 1 }

-- how many pieces of the first table are left to append
abbrev pub moving_pieces : Mover → ℕ
moving_pieces moving = unwrap_or
    (option_map (λ next. pieces_left moving.staged next.bytes) (slice_get moving.left 0)) 0
