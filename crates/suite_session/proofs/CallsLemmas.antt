-- Claims: each turn up to the commit's leaves an append fewer where it makes one, and else another call
-- fewer (`append-fewer`, `other-fewer`, `intent-calls` to `moved-calls`, `cleaned-calls`). Way: by the state
-- that follows, whose keeper is the one before; six tables at most are listed. Those up to the second listing
-- are in LockCalls.
use Rattle.std.proofs.Common.{◌≡◌, refl, sym, ap, subst, ◌<◌, ◌≤◌, ◌+◌, ℕ, zero, suc, Bool, true, false, nat_lt, List, ◌∙◌, length, length-drop, drop, slice_get, inl, inr, Option, Some, None, IfSome, Result, Ok, Err, if◌then◌else◌, arith}
use Rattle.std.specs.Prelude.{option_map, unwrap_or}
use Rattle.std.proofs.lemmas.List.{length-map}
use Rattle.acct_outside.specs.declared.FolderFault.{FolderFault}
use Rattle.acct_outside.specs.declared.Name.TheVariants.{Backup, BackupStage, FreeStage, Intent, IntentStage, Lock, Staged}
use Rattle.acct_outside.specs.Calls.{Call, Found, appends, found_absent, found_bytes, found_too_large, lists, removes, reads as reads_name, renames, writes}
use Rattle.acct_outside.specs.Pieces.{piece_at}
use Rattle.acct_outside.specs.Moment.{Past}
use Rattle.acct_outside.specs.Tokens.{free_text}
use Rattle.account_model.specs.declared.tool.Tool.{Tool}
use Rattle.acct_text.specs.Bytes.{Bytes}
use Rattle.intent_file.specs.Intent.{Intended, NewTable, ReadsIntent}
use Rattle.intent_file.proofs.Reading.{allowed_parts, at_most_six}
use Rattle.lock_steps.specs.States.{Kept, Maker}
use Rattle.lock_steps.specs.Outcomes.{cleaned_once}
use Rattle.suite_rules.specs.Outcomes.{installs, pieces_left, stages, stages_more}
use Rattle.lock_steps.specs.NextCall.{next_or}
use Rattle.recovery.specs.States.{Mover, Recoverer, appended_once, moved_once, mover_of, moving_pieces}
use Rattle.recovery.proofs.CarryLemmas.{some-staged}
use Rattle.recovery.specs.Outcomes.{FindsIntent}
use Rattle.recovery.specs.declared.IntentSeen.{IntentSeen}
use Rattle.recovery.specs.declared.IntentSeen.TheVariants.{Clean, Listed as ListedTables}
use Rattle.recovery.specs.declared.RecoveryEnd.{RecoveryEnd}
use Rattle.recovery.specs.declared.RecoveryEnd.TheVariants.{Fault as RecoveryFault, Damaged, TooLarge as IntentIsLarge}
use Rattle.commit_steps.specs.Outcomes.{backs_up_more, backup_call, install_call, installs_more}
use Rattle.commit_steps.specs.States.{Stager, Walker, backup_pieces, has_staged, install_pieces, intent_left, intent_piece, next_table, old_bytes, start_of}
use Rattle.suite_answers.specs.declared.cause.Cause.{Cause}
use Rattle.suite_answers.specs.declared.cause.Cause.TheVariants.{IntentDamaged, TooLarge as IsTooLarge}
use Rattle.suite_answers.specs.declared.cause.Which.TheVariants.{File}
use Rattle.suite_answers.specs.declared.answer.Answer.{Answer as FinalAnswer}
use Rattle.suite_session.specs.declared.state.State.{State}
use Rattle.suite_session.specs.declared.state.State.TheVariants.{Unlocking, Answering, BackingUp, Committing, Confirming, Gathering, Installing, Loading, Moving, ReadingIntent, Recovering}
use Rattle.suite_session.specs.Runner.{Runner}
use Rattle.suite_session.specs.Counts.{CountsLower, LeavesFewer, Listed, Nears}
use Rattle.suite_session.specs.Left.{appends_left, calls_left, is_append, leaving_calls, loading_calls, new_texts, table_appends, texts_appends}
use Rattle.suite_session.specs.NextCall.{state_call}
use Rattle.suite_session.specs.Recovering.{after_intent, Refuses}
use Rattle.suite_session.specs.Stands.{AnswersWith, LeavesWith}
use Rattle.suite_session.specs.Texts.{HoldsText, table_text}
use Rattle.suite_session.proofs.AppendsLemmas.{begun-same, listed-begun, listed-fewer, listed-most, listed-small, tables-most}
use Rattle.acct_outside.specs.Journal.{Entry}
use Rattle.suite_session.proofs.TextsLemmas.{answers-hold, answers-on, freed-none, goes, leaves-hold, moved-more, moved-whole, recovered-none, staged_then}

-- ---- What is left

-- where a number of what is left isn't 0, some is left
pub some-left : (count left : ℕ) → count ≡ left → (count ≡ 0 → ⊥) → 0 < left
some-left zero left is some = absurd (some refl)
some-left (suc count) left is some = omega (arith, is)

-- ---- Appends and other calls

-- the pieces that a state has left to append before its next step
abbrev pub pieces_in : State → ℕ
pieces_in (Moving moving) = moving_pieces moving
pieces_in (BackingUp walker answer) = backup_pieces walker
pieces_in (Committing stager answer) = intent_left stager
pieces_in (Installing walker answer) = install_pieces walker
pieces_in state = 0

-- a call for what is next is no append where none of these calls is
next-apart : {A : Type 0} (last : Call) (call_for : A → Call) (next : Option A) →
    is_append last ≡ false → ((one : A) → is_append (call_for one) ≡ false) →
    is_append (next_or last call_for next) ≡ false
next-apart last call_for None apart each = apart
next-apart last call_for (Some one) apart each = each one

-- a step of a backup is no append, nor is one of an installation
backup-apart : (walker : Walker) (next : NewTable) → is_append (backup_call walker next) ≡ false
backup-apart walker next = cases (has_staged walker)
  where
    cases : (staged : Bool) → is_append (if staged then renames BackupStage (Backup next.table)
        else writes BackupStage (piece_at 0 (old_bytes walker.change next.table))) ≡ false
    cases true = refl
    cases false = refl

-- the call that installs a table is no append
install-apart : (walker : Walker) (next : NewTable) → is_append (install_call walker next) ≡ false
install-apart walker next = cases (has_staged walker)
  where
    cases : (staged : Bool) → is_append (if staged then installs next else stages next) ≡ false
    cases true = refl
    cases false = refl

-- where no piece of the next table is left, the call for it is its step
whole-apart : (left : NewTable → ℕ) (more step : NewTable → Call) (last : Call)
    (next : Option NewTable) → unwrap_or (option_map left next) 0 ≡ 0 → is_append last ≡ false →
    ((one : NewTable) → is_append (step one) ≡ false) →
    is_append (next_or last (λ one. if nat_lt 0 (left one) then more one else step one) next)
    ≡ false
whole-apart left more step last None whole apart each = apart
whole-apart left more step last (Some one) whole apart each =
    subst (λ (count : ℕ). is_append (if nat_lt 0 count then more one else step one) ≡ false)
    (sym whole) (each one)

-- where one is left, it is the append
piece-appends : (left : NewTable → ℕ) (more step : NewTable → Call) (last : Call)
    (next : Option NewTable) → 0 < unwrap_or (option_map left next) 0 →
    ((one : NewTable) → is_append (more one) ≡ true) →
    is_append (next_or last (λ one. if nat_lt 0 (left one) then more one else step one) next)
    ≡ true
piece-appends left more step last None some each = absurd (omega (arith, some))
piece-appends left more step last (Some one) some each =
    subst (λ (is_more : Bool). is_append (if is_more then more one else step one) ≡ true)
    (sym (some-staged (left one) some)) (each one)

-- a state with no piece left makes no append
pub no-append : (state : State) → pieces_in state ≡ 0 → is_append (state_call state) ≡ false
no-append (Recovering recovering) none =
    next-apart (removes Intent) stages (slice_get recovering.left 0) refl (λ one. refl)
no-append (Moving moving) none =
    whole-apart (λ one. pieces_left moving.staged one.bytes) (stages_more moving.staged) installs
    (removes Intent) (slice_get moving.left 0) none refl (λ one. refl)
no-append (BackingUp walker answer) none =
    whole-apart (λ one. pieces_left walker.staged (old_bytes walker.change one.table))
    (backs_up_more walker) (backup_call walker) (writes IntentStage (intent_piece 0 walker.change))
    (next_table walker) none refl (backup-apart walker)
no-append (Committing stager answer) none =
    subst (λ (count : ℕ). is_append (if nat_lt 0 count
    then appends IntentStage (intent_piece stager.staged stager.change)
    else renames IntentStage Intent) ≡ false) (sym none) refl
no-append (Installing walker answer) none =
    whole-apart (λ one. pieces_left walker.staged one.bytes) (installs_more walker)
    (install_call walker) (removes Intent) (next_table walker) none refl (install-apart walker)
no-append (Unlocking keeper answer) none =
    next-apart (writes FreeStage free_text) (λ number. removes (Lock number))
    (slice_get keeper.lower 0) refl (λ one. refl)
no-append (Gathering reading) none =
    next-apart lists reads_name (slice_get reading.left 0) refl (λ name. refl)
no-append state none = refl

-- one with a piece left makes one
pub one-append : (state : State) → 0 < pieces_in state → is_append (state_call state) ≡ true
one-append (Moving moving) some =
    piece-appends (λ one. pieces_left moving.staged one.bytes) (stages_more moving.staged) installs
    (removes Intent) (slice_get moving.left 0) some (λ one. refl)
one-append (BackingUp walker answer) some =
    piece-appends (λ one. pieces_left walker.staged (old_bytes walker.change one.table))
    (backs_up_more walker) (backup_call walker) (writes IntentStage (intent_piece 0 walker.change))
    (next_table walker) some (λ one. refl)
one-append (Committing stager answer) some =
    subst (λ (is_more : Bool). is_append (if is_more
    then appends IntentStage (intent_piece stager.staged stager.change)
    else renames IntentStage Intent) ≡ true) (sym (some-staged (intent_left stager) some)) refl
one-append (Installing walker answer) some =
    piece-appends (λ one. pieces_left walker.staged one.bytes) (installs_more walker)
    (install_call walker) (removes Intent) (next_table walker) some (λ one. refl)
one-append state some = absurd (omega (arith, some))

-- a turn with another call leaves such a call fewer, and no more appends
pub other-fewer : (old new : State) → pieces_in old ≡ 0 → calls_left new < calls_left old →
    appends_left new ≤ appends_left old → HoldsText new (staged_then old) → LeavesFewer old new
other-fewer old new whole calls few holds = record {
  calls = subst (λ (append : Bool). calls_left new + (if append then 0 else 1) ≤ calls_left old)
      (sym (no-append old whole)) (omega (arith, calls));
  appends = subst (λ (append : Bool).
      appends_left new + (if append then 1 else 0) ≤ appends_left old)
      (sym (no-append old whole)) (omega (arith, few));
  goes_on = goes old new holds;
}

-- one with an append leaves an append fewer
pub append-fewer : (old new : State) → 0 < pieces_in old → calls_left new ≤ calls_left old →
    appends_left new < appends_left old → HoldsText new (staged_then old) → LeavesFewer old new
append-fewer old new some calls few holds = record {
  calls = subst (λ (append : Bool). calls_left new + (if append then 0 else 1) ≤ calls_left old)
      (sym (one-append old some)) (omega (arith, calls));
  appends = subst (λ (append : Bool).
      appends_left new + (if append then 1 else 0) ≤ appends_left old)
      (sym (one-append old some)) (omega (arith, few));
  goes_on = goes old new holds;
}

-- ---- To the answer

-- a state that answers has one call left
pub answers-calls : (tool : Tool) (cause : Cause) (state : State) → AnswersWith tool cause state →
    calls_left state ≡ 1
answers-calls tool cause (Answering answer) told = refl
answers-calls tool cause state told = absurd told

-- and no append
pub answers-appends : (tool : Tool) (cause : Cause) (state : State) → AnswersWith tool cause state →
    appends_left state ≡ 0
answers-appends tool cause (Answering answer) told = refl
answers-appends tool cause state told = absurd told

-- so it has fewer calls than any state before
less-calls : (tool : Tool) (cause : Cause) (state : State) → AnswersWith tool cause state →
    (old : ℕ) → 1 < old → calls_left state < old
less-calls tool cause state told old more =
    let one = answers-calls tool cause state told in omega (arith, one, more)

-- where that was to make another call than an append
pub answers-fewer : (tool : Tool) (cause : Cause) (state : State) → AnswersWith tool cause state →
    (old : State) → 1 < calls_left old → pieces_in old ≡ 0 → LeavesFewer old state
answers-fewer tool cause state told old more whole =
    let none = answers-appends tool cause state told in
    other-fewer old state whole (less-calls tool cause state told (calls_left old) more)
    (omega (arith, none)) (answers-hold tool cause state told (staged_then old))

-- and where it was to append a piece
pub answers-append : (tool : Tool) (cause : Cause) (state : State) → AnswersWith tool cause state →
    (old : State) → 1 < calls_left old → 0 < pieces_in old → 0 < appends_left old →
    LeavesFewer old state
answers-append tool cause state told old more some left =
    let one = answers-calls tool cause state told in
    let none = answers-appends tool cause state told in
    append-fewer old state some (omega (arith, one, more)) (omega (arith, none, left))
    (answers-hold tool cause state told (staged_then old))

-- also where the second listing was still to come
pub answers-near : (tool : Tool) (cause : Cause) (old state : State) →
    AnswersWith tool cause state → 1 < calls_left old → Nears old state
answers-near tool cause old state told more = record {
  fewer = less-calls tool cause state told (calls_left old) more;
  appends = (let none = answers-appends tool cause state told in omega (arith, none));
  next = inr (let one = answers-calls tool cause state told in omega (arith, one));
  goes_on = answers-on tool cause old state told;
}

-- or next
pub answers-listed : (now : Option Past) (journal : List Entry) (runner : Runner) (claimed : Maker)
    (tool : Tool)
    (cause : Cause) (state : State) → AnswersWith tool cause state →
    Listed now journal runner (Confirming claimed) state
answers-listed now journal runner claimed tool cause state told = record {
  lower = 0;
  most = omega arith;
  counts = told-none now;
  shown = inl refl;
  fewer = (let one = answers-calls tool cause state told in omega (arith, one));
  appends = (let none = answers-appends tool cause state told in omega (arith, none));
  goes_on = answers-on tool cause (Confirming claimed) state told;
}
  where
    told-none : (past : Option Past) →
        IfSome past (λ one. CountsLower runner.token one.history 0)
    told-none None = tt
    told-none (Some past) = inl refl

-- the answer isn't the only call of a keeper
pub unlocking-some : (keeper : Kept) (answer : FinalAnswer) →
    1 < calls_left (Unlocking keeper answer)
unlocking-some keeper answer = omega arith

-- who is to unlock has more than two calls left
pub unlocking-more : (keeper : Kept) (answer : FinalAnswer) →
    2 < calls_left (Unlocking keeper answer)
unlocking-more keeper answer = omega arith

-- who installs tables has more than one call left
pub installing-some : (walker : Walker) (answer : FinalAnswer) →
    1 < calls_left (Installing walker answer)
installing-some walker answer = omega arith

-- who is to commit has more than one call left
pub committing-some : (stager : Stager) (answer : FinalAnswer) →
    1 < calls_left (Committing stager answer)
committing-some stager answer = omega arith

-- who backs tables up has more than one call left
pub backing-some : (walker : Walker) (answer : FinalAnswer) →
    1 < calls_left (BackingUp walker answer)
backing-some walker answer = omega arith

-- who recovers the tables of an intent has more than one call left
pub recovering-some : (recovering : Recoverer) → 1 < calls_left (Recovering recovering)
recovering-some recovering = omega arith

-- who moves a table of an intent has more than one call left
pub moving-some : (moving : Mover) → 1 < calls_left (Moving moving)
moving-some moving = omega arith

-- one that leaves has no more than the way out
pub leaves-calls : (tool : Tool) (keeper : Kept) (cause : Cause) (state : State) →
    LeavesWith tool keeper cause state → calls_left state ≤ leaving_calls keeper
leaves-calls tool keeper cause (Answering answer) told = omega arith
leaves-calls tool keeper cause (Unlocking kept answer) told =
    let same = ap leaving_calls told.0 in omega (arith, same)
leaves-calls tool keeper cause state told = absurd told

-- ---- A recovery

-- an intent that reads lists six tables at most
few-listed : (bytes : Bytes) (intent : Intended) → ReadsIntent bytes intent →
    length intent.tables ≤ 6
few-listed bytes intent reads =
    at_most_six intent.tables (allowed_parts intent reads.allowed).in_order

-- the tables that it lists have 1,530 appends at most
listed-appends : (bytes : Bytes) (intent : Intended) → ReadsIntent bytes intent →
    texts_appends 0 (new_texts intent.tables) ≤ table_appends
listed-appends bytes intent reads =
    let parts = allowed_parts intent reads.allowed in
    let size = length-map intent.tables (λ (new : NewTable). new.bytes) in
    let few = at_most_six intent.tables parts.in_order in
    tables-most (new_texts intent.tables) (listed-small intent.tables parts.within_limit)
    (omega (arith, size, few))

-- after the read of the intent
pub intent-calls : (keeper : Kept) (answer : Result Found FolderFault) (seen : IntentSeen) →
    FindsIntent keeper answer (Ok seen) → LeavesFewer (ReadingIntent keeper) (after_intent seen)
intent-calls keeper (Ok found_absent) (Clean kept) shown =
    let same = ap loading_calls shown in
    other-fewer (ReadingIntent keeper) (after_intent (Clean kept)) refl (omega (arith, same))
    (omega arith) refl
intent-calls keeper (Ok (found_bytes bytes)) (ListedTables recovering) shown =
    let few = few-listed bytes shown.intent shown.reads_it in
    let left = ap (λ (one : Recoverer). length one.left) shown.is in
    let same = ap (λ (one : Recoverer). loading_calls one.keeper) shown.is in
    let appends = listed-appends bytes shown.intent shown.reads_it in
    let listed = ap (λ (one : Recoverer). texts_appends 0 (new_texts one.left)) shown.is in
    other-fewer (ReadingIntent keeper) (Recovering recovering) refl
    (omega (arith, few, left, same)) (omega (arith, appends, listed)) refl
intent-calls keeper answer seen shown = absurd shown

-- a state that leaves has no append left
pub leaves-appends : (tool : Tool) (keeper : Kept) (cause : Cause) (state : State) →
    LeavesWith tool keeper cause state → appends_left state ≡ 0
leaves-appends tool keeper cause (Answering answer) told = refl
leaves-appends tool keeper cause (Unlocking kept answer) told = refl
leaves-appends tool keeper cause state told = absurd told

-- and where it can't be read
pub refused-calls : (tool : Tool) (keeper : Kept) (answer : Result Found FolderFault)
    (end : RecoveryEnd) (state : State) → Refuses tool end state →
    FindsIntent keeper answer (Err end) → LeavesFewer (ReadingIntent keeper) state
refused-calls tool keeper answer (RecoveryFault fault) state ends shown =
    answers-fewer tool _ state ends (ReadingIntent keeper) (omega arith) refl
refused-calls tool keeper (Ok (found_bytes bytes)) (Damaged part kept) state ends shown =
    let few = leaves-calls tool kept (IntentDamaged part) state ends in
    let same = ap leaving_calls shown.1 in
    let none = leaves-appends tool kept (IntentDamaged part) state ends in
    other-fewer (ReadingIntent keeper) state refl (omega (arith, few, same)) (omega (arith, none))
    (leaves-hold tool kept (IntentDamaged part) state ends)
refused-calls tool keeper (Ok found_too_large) (IntentIsLarge kept) state ends shown =
    let few = leaves-calls tool kept (IsTooLarge (File Intent)) state ends in
    let same = ap leaving_calls shown in
    let none = leaves-appends tool kept (IsTooLarge (File Intent)) state ends in
    other-fewer (ReadingIntent keeper) state refl (omega (arith, few, same)) (omega (arith, none))
    (leaves-hold tool kept (IsTooLarge (File Intent)) state ends)
refused-calls tool keeper answer end state ends shown = absurd shown

-- the first piece of a table leads to its other pieces and its move
pub staged-calls : (recovering : Recoverer) (moving : Mover) → moving ≡ mover_of 1 recovering →
    LeavesFewer (Recovering recovering) (Moving moving)
staged-calls recovering moving is =
    let same = ap (λ (one : Mover). calls_left (Moving one)) is in
    let appends = ap (λ (one : Mover). appends_left (Moving one)) is in
    let begun = begun-same (new_texts recovering.left) in
    other-fewer (Recovering recovering) (Moving moving) refl (omega (arith, same))
    (omega (arith, appends, begun))
    (ap (λ (one : Mover). table_text (λ new. Staged new.table) (λ new. new.bytes) one.staged
    (slice_get one.left 0)) is)

-- the removal of the intent leads to the reads
pub removed-calls : (recovering : Recoverer) (keeper : Kept) → keeper ≡ recovering.keeper →
    length recovering.left ≡ 0 → LeavesFewer (Recovering recovering) (Loading (start_of keeper))
removed-calls recovering keeper is none =
    let same = ap loading_calls is in
    other-fewer (Recovering recovering) (Loading (start_of keeper)) refl (omega (arith, same))
    (omega arith) (recovered-none recovering.left none)

-- a list without its first is shorter by one
one-fewer : {A : Type 0} (items : List A) → 0 < length items →
    length (drop 1 items) + 1 ≡ length items
one-fewer items some = let dropped = length-drop 1 items in omega (arith, some, dropped)

-- a piece of a table is appended
pub added-calls : (moving next : Mover) → next ≡ appended_once moving →
    0 < moving_pieces moving → LeavesFewer (Moving moving) (Moving next)
added-calls moving next is some =
    let begun = listed-begun moving.staged moving.left some in
    let same = ap (λ (one : Mover). calls_left (Moving one)) is in
    let appends = ap (λ (one : Mover). appends_left (Moving one)) is in
    let fewer = listed-fewer moving.staged moving.left begun some in
    append-fewer (Moving moving) (Moving next) some (omega (arith, same))
    (omega (arith, appends, fewer))
    (ap (λ (one : Mover). table_text (λ new. Staged new.table) (λ new. new.bytes) one.staged
    (slice_get one.left 0)) is ∙ moved-more moving.staged (slice_get moving.left 0) some)

-- a table with a piece left has an append left
pub moving-appends : (moving : Mover) → 0 < moving_pieces moving → 0 < appends_left (Moving moving)
moving-appends moving some =
    let begun = listed-begun moving.staged moving.left some in
    let fewer = listed-fewer moving.staged moving.left begun some in
    omega (arith, fewer)

-- and the move of all leads to the next table
pub moved-calls : (moving : Mover) (recovering : Recoverer) → recovering ≡ moved_once moving →
    0 < length moving.left → moving_pieces moving ≡ 0 →
    LeavesFewer (Moving moving) (Recovering recovering)
moved-calls moving recovering is some whole =
    let same = ap (λ (one : Recoverer). calls_left (Recovering one)) is in
    let fewer = one-fewer moving.left some in
    let appends = ap (λ (one : Recoverer). appends_left (Recovering one)) is in
    let most = listed-most moving.staged moving.left some in
    other-fewer (Moving moving) (Recovering recovering) whole (omega (arith, same, fewer))
    (omega (arith, appends, most)) (moved-whole moving.staged (slice_get moving.left 0) whole)

-- ---- The way out

-- a lower lock is removed
pub cleaned-calls : (keeper kept : Kept) (answer : FinalAnswer) → kept ≡ cleaned_once keeper →
    0 < length keeper.lower → LeavesFewer (Unlocking keeper answer) (Unlocking kept answer)
cleaned-calls keeper kept answer is some =
    let same = ap (λ (one : Kept). length one.lower) is in
    let fewer = one-fewer keeper.lower some in
    other-fewer (Unlocking keeper answer) (Unlocking kept answer) refl
    (omega (arith, same, fewer)) (omega arith) (freed-none keeper.lower some)
