-- Claims: each call goes on with the text that its state has staged, to what the next state has (`goes`); so
-- it does where the next state answers (`answers-on`).
-- Way: `text_then` names what is staged behind the call of each state; a text loses its next piece by an
-- append (`behind-step`), and has none left where it is whole.
use Rattle.std.proofs.Common.{◌≡◌, refl, sym, ap, subst, ◌∙◌, ◌<◌, ◌+◌, ◌-◌, ℕ, zero, suc, Bool, true, false, nat_lt, if◌then◌else◌, List, [], ◌∷◌, length, map, drop, drop-cons, slice_get, Option, Some, None, arith}
use Rattle.std.specs.Prelude.{option_map, unwrap_or}
use Rattle.std.specs.List.{range_with_len}
use Rattle.std.proofs.lemmas.Bool.Decides.{nat_tests}
use Rattle.std.proofs.lemmas.List.{drop_all}
use Rattle.std.proofs.lemmas.Option.{unwrap_or-slice_get}
use Rattle.acct_text.specs.Bytes.{Bytes}
use Rattle.acct_outside.specs.declared.Name.{Name}
use Rattle.acct_outside.specs.declared.Name.TheVariants.{Backup, BackupStage, FreeStage, Intent, IntentStage, Lock, Staged, Table}
use Rattle.acct_outside.specs.Calls.{appends, lists, reads, removes, renames, writes}
use Rattle.acct_outside.specs.Pieces.{piece_at, piece_count, pieces_of}
use Rattle.acct_outside.specs.Tokens.{free_text}
use Rattle.account_model.specs.declared.tool.Tool.{Tool}
use Rattle.intent_file.specs.Intent.{NewTable}
use Rattle.intent_file.specs.Pieces.{intent_pieces}
use Rattle.suite_rules.specs.Outcomes.{pieces_left, stages}
use Rattle.lock_steps.specs.NextCall.{next_or}
use Rattle.lock_steps.specs.States.{Kept}
use Rattle.recovery.specs.NextCall.{moves_table}
use Rattle.recovery.specs.States.{Mover}
use Rattle.recovery.proofs.CarryLemmas.{left-of, some-staged}
use Rattle.commit_steps.specs.NextCall.{backs_up_table, committing_call, installs_table}
use Rattle.commit_steps.specs.States.{Stager, Walker, append_intent, begun_of, has_staged, intent_left, intent_piece, intended, next_table, old_bytes, step_on}
use Rattle.commit_steps.proofs.BackupLemmas.{some-piece}
use Rattle.commit_steps.proofs.InstallLemmas.{step-staged, step-unstaged}
use Rattle.suite_answers.specs.declared.cause.Cause.{Cause}
use Rattle.suite_session.specs.declared.state.State.{State}
use Rattle.suite_session.specs.declared.state.State.TheVariants.{Moving, Recovering, BackingUp, Committing, Installing, Unlocking, Freeing, Gathering, Answering}
use Rattle.suite_session.specs.NextCall.{state_call}
use Rattle.suite_session.specs.Stands.{AnswersWith, LeavesWith}
use Rattle.suite_session.specs.Texts.{ArePieces, GoesOn, HoldsText, CutsOneText, StagedText, StagesOn, begun_text, pieces_behind, stager_text, table_text, text_at, text_in}
use Rattle.suite_session.proofs.AppendsLemmas.{begun-left}

-- ---- A text in its pieces

-- a number has a first
range-first : (f : ℕ → Bytes) (start many fewer : ℕ) → many ≡ fewer + 1 →
    map f (range_with_len start many) ≡ f start ∷ map f (range_with_len (start + 1) fewer)
range-first f start zero fewer is = absurd (omega (arith, is))
range-first f start (suc many) fewer is =
    let same : many ≡ fewer = omega (arith, is) in
    ap (λ (count : ℕ). f start ∷ map f (range_with_len (start + 1) count)) same

-- the piece that is appended next is the first of those that are left
pub behind-step : (staged : ℕ) (text : Bytes) → 0 < pieces_left staged text →
    pieces_behind staged text ≡ piece_at staged text ∷ pieces_behind (staged + 1) text
behind-step staged text some =
    let begun = begun-left staged text some in
    let now = left-of staged text begun in
    let next = left-of (staged + 1) text (omega arith) in
    range-first (λ place. piece_at place text) staged (pieces_left staged text)
    (pieces_left (staged + 1) text) (omega (arith, now, next, some))

-- a text that is whole has none left
behind-none : (staged : ℕ) (text : Bytes) → pieces_left staged text ≡ 0 →
    pieces_behind staged text ≡ []
behind-none staged text whole =
    ap (λ (count : ℕ). map (λ place. piece_at place text) (range_with_len staged count)) whole

-- behind its first piece the others are left
behind-first : (text : Bytes) → pieces_behind 1 text ≡ drop 1 (pieces_of text)
behind-first text = of-count (λ place. piece_at place text) (piece_count text)
  where
    of-count : (f : ℕ → Bytes) (count : ℕ) →
        map f (range_with_len 1 (count - 1)) ≡ drop 1 (map f (range_with_len 0 count))
    of-count f zero = refl
    of-count f (suc count) =
        let same : suc count - 1 ≡ count = omega arith in
        ap (λ (left : ℕ). map f (range_with_len 1 left)) same

-- so a table's text has these pieces
table-cut : (text : Bytes) → CutsOneText (piece_at 0 text) (pieces_behind 1 text)
table-cut text = record { text = text; is_first = refl; behind = behind-first text }

-- ---- What is staged behind a call

-- no text
abbrev pub none : Option StagedText
none = None

-- behind the next step for a text of which so many first pieces are staged
abbrev pub text_then : Name → ℕ → Bytes → Option StagedText
text_then name staged text =
    if nat_lt 0 (pieces_left staged text) then text_at name (pieces_behind (staged + 1) text)
    else (if nat_lt 0 staged then None else text_at name (pieces_behind 1 text))

-- where a table is moved
abbrev pub moved_then : ℕ → Option NewTable → Option StagedText
moved_then staged None = None
moved_then staged (Some new) = if nat_lt 0 (pieces_left staged new.bytes)
    then text_at (Staged new.table) (pieces_behind (staged + 1) new.bytes) else None

-- where a table is backed up, and where all are
abbrev pub backed_then : Walker → Option NewTable → Option StagedText
backed_then walker None = stager_text (begun_of walker.change)
backed_then walker (Some new) =
    text_then BackupStage walker.staged (old_bytes walker.change new.table)

-- where one is installed, and where all are
abbrev pub installed_then : ℕ → Option NewTable → Option StagedText
installed_then staged None = None
installed_then staged (Some new) = text_then (Staged new.table) staged new.bytes

-- where the intent is staged
abbrev pub intent_then : Stager → Option StagedText
intent_then stager = if nat_lt 0 (intent_left stager) then stager_text (append_intent stager)
    else None

-- where the lock is freed
abbrev pub freed_then : Option ℕ → Option StagedText
freed_then None = text_at FreeStage []
freed_then (Some number) = None

-- behind the call of each state
abbrev pub staged_then : State → Option StagedText
staged_then (Recovering recovering) = table_text (λ new. Staged new.table) (λ new. new.bytes) 1
    (slice_get recovering.left 0)
staged_then (Moving moving) = moved_then moving.staged (slice_get moving.left 0)
staged_then (BackingUp walker answer) = backed_then walker (next_table walker)
staged_then (Committing stager answer) = intent_then stager
staged_then (Installing walker answer) = installed_then walker.staged (next_table walker)
staged_then (Unlocking keeper answer) = freed_then (slice_get keeper.lower 0)
staged_then state = None

-- ---- The call of each state

-- for a text
module _ (staged : ℕ) (text : Bytes) (name to : Name)
    (cut : (first : Bytes) (further : List Bytes) → CutsOneText first further →
    ArePieces name first further) where
  -- the next piece
  piece-on : 0 < pieces_left staged text → StagesOn (appends name (piece_at staged text))
      (text_at name (pieces_behind staged text)) (text_at name (pieces_behind (staged + 1) text))
  piece-on some = record {
    further = pieces_behind (staged + 1) text;
    is_next = ap (text_at name) (behind-step staged text some);
    leaves = refl;
  }

  -- the move
  move-on : pieces_left staged text ≡ 0 →
      StagesOn (renames name to) (text_at name (pieces_behind staged text)) None
  move-on whole = (ap (text_at name) (behind-none staged text whole), refl)

  -- the first piece
  write-on : StagesOn (writes name (piece_at 0 text)) None (text_at name (pieces_behind 1 text))
  write-on = record {
    comes = refl;
    further = pieces_behind 1 text;
    are_pieces = cut (piece_at 0 text) (pieces_behind 1 text) (table-cut text);
    leaves = refl;
  }

  -- a piece or the move
  moves-on : StagesOn (if nat_lt 0 (pieces_left staged text)
      then appends name (piece_at staged text) else renames name to)
      (text_at name (pieces_behind staged text))
      (if nat_lt 0 (pieces_left staged text)
      then text_at name (pieces_behind (staged + 1) text) else None)
  moves-on = cases (nat_lt 0 (pieces_left staged text)) refl
    where
      cases : (left : Bool) → nat_lt 0 (pieces_left staged text) ≡ left →
          StagesOn (if left then appends name (piece_at staged text) else renames name to)
          (text_at name (pieces_behind staged text))
          (if left then text_at name (pieces_behind (staged + 1) text) else None)
      cases true left = piece-on (grind (arith, nat_tests, left))
      cases false left = move-on (grind (arith, nat_tests, left))

  -- any of the three
  walks-on : StagesOn (if nat_lt 0 (pieces_left staged text)
      then appends name (piece_at staged text)
      else (if nat_lt 0 staged then renames name to else writes name (piece_at 0 text)))
      (if nat_lt 0 staged then text_at name (pieces_behind staged text) else None)
      (text_then name staged text)
  walks-on = cases (nat_lt 0 staged) refl
    where
      cases : (begun : Bool) → nat_lt 0 staged ≡ begun →
          StagesOn (if nat_lt 0 (if begun then piece_count text - staged else 0)
          then appends name (piece_at staged text)
          else (if begun then renames name to else writes name (piece_at 0 text)))
          (if begun then text_at name (pieces_behind staged text) else None)
          (if nat_lt 0 (if begun then piece_count text - staged else 0)
          then text_at name (pieces_behind (staged + 1) text)
          else (if begun then None else text_at name (pieces_behind 1 text)))
      cases true begun = subst (λ (count : ℕ). StagesOn (if nat_lt 0 count
          then appends name (piece_at staged text) else renames name to)
          (text_at name (pieces_behind staged text))
          (if nat_lt 0 count then text_at name (pieces_behind (staged + 1) text) else None))
          (left-of staged text (grind (arith, nat_tests, begun))) moves-on
      cases false begun = write-on

-- where none is staged either way
none-either : (begun : Bool) →
    (if begun then none else none) ≡ none
none-either true = refl
none-either false = refl

-- of a backup
backing-on : (walker : Walker) (next : Option NewTable) →
    StagesOn (next_or (writes IntentStage (intent_piece 0 walker.change))
    (backs_up_table walker) next)
    (begun_text (λ new. BackupStage) (λ new. old_bytes walker.change new.table) walker.staged next)
    (backed_then walker next)
backing-on walker None = record {
  comes = none-either (nat_lt 0 walker.staged);
  further = drop 1 (intent_pieces (intended walker.change));
  are_pieces = record {
    intent = intended walker.change;
    are_pieces = first-of-pieces (intent_pieces (intended walker.change))
        (some-piece (intended walker.change));
  };
  leaves = refl;
}
  where
    first-of-pieces : (pieces : List Bytes) → 0 < length pieces →
        unwrap_or (slice_get pieces 0) [] ∷ drop 1 pieces ≡ pieces
    first-of-pieces [] some = absurd (omega (arith, some))
    first-of-pieces (piece ∷ pieces) some = refl
backing-on walker (Some next) = walks-on walker.staged (old_bytes walker.change next.table)
    BackupStage (Backup next.table) (λ first further is. is)

-- of an installation
installing-on : (walker : Walker) (next : Option NewTable) →
    StagesOn (next_or (removes Intent) (installs_table walker) next)
    (begun_text (λ new. Staged new.table) (λ new. new.bytes) walker.staged next)
    (installed_then walker.staged next)
installing-on walker None = (none-either (nat_lt 0 walker.staged), refl)
installing-on walker (Some next) = walks-on walker.staged next.bytes
    (Staged next.table) (Table next.table) (λ first further is. is)

-- of a table that is moved
moving-on : (moving : Mover) (next : Option NewTable) →
    StagesOn (next_or (removes Intent) (moves_table moving) next)
    (table_text (λ new. Staged new.table) (λ new. new.bytes) moving.staged next)
    (moved_then moving.staged next)
moving-on moving None = (refl, refl)
moving-on moving (Some next) = moves-on moving.staged next.bytes
    (Staged next.table) (Table next.table) (λ first further is. is)

-- of the intent
committing-on : (stager : Stager) →
    StagesOn (committing_call stager) (stager_text stager) (intent_then stager)
committing-on stager = cases (nat_lt 0 (intent_left stager)) refl
  where
    pieces : List Bytes
    pieces = intent_pieces (intended stager.change)

    next-piece : stager.staged < length pieces →
        drop stager.staged pieces
        ≡ intent_piece stager.staged stager.change ∷ drop (stager.staged + 1) pieces
    next-piece within =
        let more : suc stager.staged ≡ stager.staged + 1 = omega arith in
        drop-cons pieces stager.staged [] within
        ∙ (ap (λ (piece : Bytes). piece ∷ drop (suc stager.staged) pieces)
        (sym (unwrap_or-slice_get pieces stager.staged []))
        ∙ ap (λ (place : ℕ). intent_piece stager.staged stager.change ∷ drop place pieces) more)

    cases : (left : Bool) → nat_lt 0 (length pieces - stager.staged) ≡ left → StagesOn (if left
        then appends IntentStage (intent_piece stager.staged stager.change)
        else renames IntentStage Intent) (stager_text stager)
        (if left then stager_text (append_intent stager) else None)
    cases true left =
        let some : 0 < length pieces - stager.staged = grind (arith, nat_tests, left) in record {
          further = drop (stager.staged + 1) pieces;
          is_next = ap (text_at IntentStage) (next-piece (omega (arith, some)));
          leaves = refl;
        }
    cases false left =
        let whole : length pieces - stager.staged ≡ 0 = grind (arith, nat_tests, left) in
        (ap (text_at IntentStage) (drop_all stager.staged pieces (omega (arith, whole))), refl)

-- of a recovery
recovering-on : (next : Option NewTable) → StagesOn (next_or (removes Intent) stages next) None
    (table_text (λ new. Staged new.table) (λ new. new.bytes) 1 next)
recovering-on None = (refl, refl)
recovering-on (Some next) =
    write-on 0 next.bytes (Staged next.table) (Table next.table) (λ first further is. is)

-- of a keeper on its way out
unlocking-on : (next : Option ℕ) →
    StagesOn (next_or (writes FreeStage free_text) (λ number. removes (Lock number)) next) None
    (freed_then next)
unlocking-on None =
    record { comes = refl; further = []; are_pieces = (refl, refl); leaves = refl }
unlocking-on (Some number) = (refl, refl)

-- of a report
gathering-on : (next : Option Name) → StagesOn (next_or lists reads next) None None
gathering-on None = (refl, refl)
gathering-on (Some name) = (refl, refl)

-- so it is in each state
stages-on : (state : State) → StagesOn (state_call state) (text_in state) (staged_then state)
stages-on (Recovering recovering) = recovering-on (slice_get recovering.left 0)
stages-on (Moving moving) = moving-on moving (slice_get moving.left 0)
stages-on (BackingUp walker answer) = backing-on walker (next_table walker)
stages-on (Committing stager answer) = committing-on stager
stages-on (Installing walker answer) = installing-on walker (next_table walker)
stages-on (Unlocking keeper answer) = unlocking-on (slice_get keeper.lower 0)
stages-on (Gathering reading) = gathering-on (slice_get reading.left 0)
stages-on (Freeing freeing answer) = (refl, refl)
stages-on (Answering answer) = refl
stages-on state = (refl, refl)

-- the first claim
pub goes : (old new : State) → HoldsText new (staged_then old) → GoesOn old new
goes old new holds =
    record { text = staged_then old; stages = stages-on old; holds = holds }

-- ---- The next state

-- an answer holds any text
pub answers-hold : (tool : Tool) (cause : Cause) (state : State) → AnswersWith tool cause state →
    (text : Option StagedText) → HoldsText state text
answers-hold tool cause (Answering answer) told text = tt
answers-hold tool cause state told text = absurd told

-- the second claim
pub answers-on : (tool : Tool) (cause : Cause) (old state : State) →
    AnswersWith tool cause state → GoesOn old state
answers-on tool cause old state told =
    goes old state (answers-hold tool cause state told (staged_then old))

-- who leaves holds none
pub leaves-hold : (tool : Tool) (keeper : Kept) (cause : Cause) (state : State) →
    LeavesWith tool keeper cause state → HoldsText state None
leaves-hold tool keeper cause (Answering answer) told = tt
leaves-hold tool keeper cause (Unlocking kept answer) told = refl
leaves-hold tool keeper cause state told = absurd told

-- where a piece of the next table was left, one more is staged
pub moved-more : (staged : ℕ) (next : Option NewTable) →
    0 < unwrap_or (option_map (λ one. pieces_left staged one.bytes) next) 0 →
    table_text (λ new. Staged new.table) (λ new. new.bytes) (staged + 1) next
    ≡ moved_then staged next
moved-more staged None some = absurd (omega (arith, some))
moved-more staged (Some next) some = ap (λ (left : Bool).
    if left then text_at (Staged next.table) (pieces_behind (staged + 1) next.bytes) else none)
    (sym (some-staged (pieces_left staged next.bytes) some))

-- where none was, it is moved
pub moved-whole : (staged : ℕ) (next : Option NewTable) →
    unwrap_or (option_map (λ one. pieces_left staged one.bytes) next) 0 ≡ 0 →
    None ≡ moved_then staged next
moved-whole staged None whole = refl
moved-whole staged (Some next) whole = ap (λ (count : ℕ).
    if nat_lt 0 count then text_at (Staged next.table) (pieces_behind (staged + 1) next.bytes)
    else none) (sym whole)

-- One step of a walk over the tables that differ, whose texts stand at these names.
module _ (name_of : NewTable → Name) (bytes_of : NewTable → Bytes) (walker : Walker)
    (next : NewTable) (is_next : next_table walker ≡ Some next) where
  -- what a walker has staged that is at the same place
  begun-at : (staged : ℕ) → 0 < staged →
      begun_text name_of bytes_of staged (next_table walker)
      ≡ text_at (name_of next) (pieces_behind staged (bytes_of next))
  begun-at staged begun =
      ap (λ (is : Bool). if is then table_text name_of bytes_of staged (next_table walker)
      else none)
      (some-staged staged begun)
      ∙ ap (table_text name_of bytes_of staged) is_next

  -- with an append one piece more is
  pub walked-more : 0 < pieces_left walker.staged (bytes_of next) →
      begun_text name_of bytes_of (walker.staged + 1) (next_table walker)
      ≡ text_then (name_of next) walker.staged (bytes_of next)
  walked-more some = begun-at (walker.staged + 1) (omega arith)
      ∙ ap (λ (left : Bool). if left
      then text_at (name_of next) (pieces_behind (walker.staged + 1) (bytes_of next))
      else (if nat_lt 0 walker.staged then none
      else text_at (name_of next) (pieces_behind 1 (bytes_of next))))
      (sym (some-staged (pieces_left walker.staged (bytes_of next)) some))

  -- with a step the first piece is, or none
  pub walked-step : pieces_left walker.staged (bytes_of next) ≡ 0 →
      begun_text name_of bytes_of (step_on walker).staged (next_table (step_on walker))
      ≡ text_then (name_of next) walker.staged (bytes_of next)
  walked-step whole = cases (has_staged walker) refl
      ∙ ap (λ (count : ℕ). if nat_lt 0 count
      then text_at (name_of next) (pieces_behind (walker.staged + 1) (bytes_of next))
      else (if nat_lt 0 walker.staged then none
      else text_at (name_of next) (pieces_behind 1 (bytes_of next)))) (sym whole)
    where
      cases : (begun : Bool) → has_staged walker ≡ begun →
          begun_text name_of bytes_of (step_on walker).staged (next_table (step_on walker))
          ≡ (if nat_lt 0 walker.staged then none
          else text_at (name_of next) (pieces_behind 1 (bytes_of next)))
      cases true begun =
          ap (λ (one : Walker). begun_text name_of bytes_of one.staged (next_table one))
          (step-staged walker begun)
          ∙ ap (λ (is : Bool). if is then none
          else text_at (name_of next) (pieces_behind 1 (bytes_of next))) (sym begun)
      cases false begun =
          ap (λ (one : Walker). begun_text name_of bytes_of one.staged (next_table one))
          (step-unstaged walker begun)
          ∙ (begun-at 1 (omega arith)
          ∙ ap (λ (is : Bool). if is then none
          else text_at (name_of next) (pieces_behind 1 (bytes_of next))) (sym begun))

-- the intent with a piece left has one more staged
pub intent-more : (stager : Stager) → 0 < intent_left stager →
    stager_text (append_intent stager) ≡ intent_then stager
intent-more stager some = ap (λ (left : Bool).
    if left then stager_text (append_intent stager) else none)
    (sym (some-staged (intent_left stager) some))

-- and a whole one is moved
pub intent-moved : (stager : Stager) → intent_left stager ≡ 0 → None ≡ intent_then stager
intent-moved stager whole = ap (λ (count : ℕ).
    if nat_lt 0 count then stager_text (append_intent stager) else none) (sym whole)

-- where no lower lock is left the free text is staged, and else none
pub freed-text : (lower : List ℕ) → length lower ≡ 0 →
    text_at FreeStage [] ≡ freed_then (slice_get lower 0)
freed-text [] empty = refl
freed-text (number ∷ lower) empty = absurd (omega (arith, empty))

pub freed-none : (lower : List ℕ) → 0 < length lower → None ≡ freed_then (slice_get lower 0)
freed-none [] some = absurd (omega (arith, some))
freed-none (number ∷ lower) some = refl

-- a recovery with no table left stages none
pub recovered-none : (left : List NewTable) → length left ≡ 0 →
    None ≡ table_text (λ new. Staged new.table) (λ new. new.bytes) 1 (slice_get left 0)
recovered-none [] empty = refl
recovered-none (new ∷ left) empty = absurd (omega (arith, empty))
