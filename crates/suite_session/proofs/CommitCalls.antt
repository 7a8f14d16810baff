-- Claims: so do the turns of the reads (`loads-calls`, `ended-calls`) and of a commit (`backed-calls` to
-- `cleared-calls`). Way: by the state that follows, whose keeper is the one before; six tables at most
-- differ.
use Rattle.std.proofs.Common.{◌≡◌, refl, sym, ap, subst, ◌∙◌, ◌<◌, ◌≤◌, ◌+◌, ℕ, Bool, true, false, List, [], ◌∷◌, length, drop, All, Option, Some, None, Result, Ok, Err, if◌then◌else◌, arith, lit≤}
use Rattle.std.specs.Prelude.{option_map, unwrap_or}
use Rattle.std.proofs.lemmas.List.{length-map}
use Rattle.std.proofs.lemmas.List.Elements.{All-cons, All-nil}
use Rattle.acct_text.specs.declared.Tab.{Tab}
use Rattle.acct_text.specs.declared.Tab.TheVariants.{Passwd}
use Rattle.acct_text.specs.declared.files.Files.{Files}
use Rattle.acct_text.specs.Contents.{Contents, same_content}
use Rattle.acct_text.specs.Files.{table_of}
use Rattle.acct_text.specs.Limits.{table_limit}
use Rattle.acct_text.specs.Tables.{all_tables}
use Rattle.acct_outside.specs.declared.FolderFault.{FolderFault}
use Rattle.acct_outside.specs.Calls.{Found}
use Rattle.acct_outside.specs.declared.Name.TheVariants.{BackupStage, Staged}
use Rattle.account_model.specs.declared.tool.Tool.{Tool}
use Rattle.acct_text.specs.Bytes.{Bytes}
use Rattle.acct_text.specs.ChangedTables.{changed_among, with_new_table}
use Rattle.intent_file.specs.Intent.{NewTable}
use Rattle.intent_file.proofs.SizeLemmas.{pieces-most}
use Rattle.suite_rules.specs.Outcomes.{pieces_left}
use Rattle.commit_steps.specs.declared.Loading.{Loading as Loaded}
use Rattle.commit_steps.specs.declared.Loading.TheVariants.{More, Done}
use Rattle.commit_steps.specs.declared.LoadEnd.{LoadEnd}
use Rattle.commit_steps.specs.declared.LoadEnd.TheVariants.{Fault, TooLarge, NoTable}
use Rattle.commit_steps.specs.Outcomes.{Loads}
use Rattle.commit_steps.proofs.BackupLemmas.{old-pieces}
use Rattle.commit_steps.proofs.InstallLemmas.{pieces-are}
use Rattle.commit_steps.proofs.NextLemmas.{no-table}
use Rattle.commit_steps.specs.States.{AreSound, Change, Inputs, Reader, Stager, Walker, append_intent, append_on, backup_pieces, begun_of, changed, install_pieces, intended, intent_left, new_files, next_table, old_bytes, old_files, step_on, steps_left, table_behind, walk_of}
use Rattle.suite_answers.specs.declared.cause.Cause.TheVariants.{NoTable as HasNoTable, TooLarge as IsTooLarge}
use Rattle.suite_answers.specs.declared.cause.Which.TheVariants.{File}
use Rattle.suite_answers.specs.declared.answer.Answer.{Answer as FinalAnswer}
use Rattle.suite_session.specs.declared.state.State.{State}
use Rattle.suite_session.specs.declared.state.State.TheVariants.{Unlocking, Answering, BackingUp, Committing, Installing, Loading}
use Rattle.suite_session.specs.Runner.{Runner}
use Rattle.suite_session.specs.Counts.{LeavesFewer}
use Rattle.suite_session.specs.Left.{appends_left, calls_left, change_appends, change_calls, commit_calls, install_appends, leaving_calls, new_texts, old_texts, reads_left, table_calls, texts_appends}
use Rattle.suite_session.specs.Loading.{DecidesTo, EndsLoad, LoadsTo}
use Rattle.suite_session.specs.Texts.{HoldsText, begun_text, stager_text, text_in}
use Rattle.suite_session.proofs.AppendsLemmas.{added-steps, begun-left, tables-most, walk-appends, walked-appends}
use Rattle.suite_session.proofs.LoadingTurns.{change-is}
use Rattle.suite_session.proofs.WalkingLemmas.{changed-most, fewer-steps, step-change}
use Rattle.suite_session.proofs.LoadingLemmas.{done-files, done-keeper, large-shown, missing-shown, more-shown}
use Rattle.suite_session.proofs.CallsLemmas.{other-fewer, append-fewer, answers-fewer, leaves-calls, leaves-appends}
use Rattle.suite_session.proofs.TextsLemmas.{backed_then, installed_then, intent-more, intent-moved, leaves-hold, walked-more, walked-step}

-- ---- The reads

-- a table read leaves a read fewer
reads-fewer : (table : Tab) → reads_left (table_behind table) < reads_left (Some table)
reads-fewer Passwd = omega arith
reads-fewer table = omega arith

-- one is left at least
reads-some : (next : Option Tab) → 0 < reads_left next
reads-some None = omega arith
reads-some (Some Passwd) = omega arith
reads-some next = omega arith

-- a walk over the tables that differ has two steps for each of six at most
pub walk-few : (change : Change) → steps_left (walk_of change) ≤ table_calls
walk-few change =
    let few = changed-most all_tables (old_files change) (new_files change) in omega (arith, few)

-- the texts of the tables that differ are those that stood and those that are to stand
changed-small : (tables : List Tab) (old new : Contents) → ((table : Tab) (bytes : Bytes) →
    new table ≡ Some bytes → length bytes ≤ table_limit) →
    All (λ text. length text ≤ table_limit) (new_texts (changed_among tables old new))
changed-small [] old new small = All-nil (λ (text : Bytes). length text ≤ table_limit)
changed-small (table ∷ tables) old new small =
    cases (same_content (old table) (new table)) (changed-small tables old new small)
  where
    Small : List NewTable → Type 0
    Small news = All (λ text. length text ≤ table_limit) (new_texts news)

    more : (content : Option Bytes) → new table ≡ content → Small (changed_among tables old new) →
        Small (with_new_table table content (changed_among tables old new))
    more None is rest = rest
    more (Some bytes) is rest = All-cons (λ (text : Bytes). length text ≤ table_limit) bytes
        (new_texts (changed_among tables old new)) (small table bytes is) rest

    cases : (same : Bool) → Small (changed_among tables old new) →
        Small (if same then changed_among tables old new
        else with_new_table table (new table) (changed_among tables old new))
    cases true rest = rest
    cases false rest = more (new table) refl rest

-- those that stood are within their limit
old-small : (change : Change) → ((table : Tab) (bytes : Bytes) →
    table_of change.inputs.files table ≡ Some bytes → length bytes ≤ table_limit) →
    (tables : List NewTable) → All (λ text. length text ≤ table_limit) (old_texts change tables)
old-small change small [] = All-nil (λ (text : Bytes). length text ≤ table_limit)
old-small change small (new ∷ tables) =
    All-cons (λ (text : Bytes). length text ≤ table_limit) (old_bytes change new.table)
    (old_texts change tables) (here (table_of change.inputs.files new.table) refl)
    (old-small change small tables)
  where
    here : (content : Option Bytes) → table_of change.inputs.files new.table ≡ content →
        length (unwrap_or content []) ≤ table_limit
    here None is = lit≤ tt
    here (Some bytes) is = small new.table bytes is

-- what the tool decides on
decided-calls : (runner : Runner) (inputs : Inputs) (state : State) →
    DecidesTo runner inputs state → calls_left state ≤ change_calls inputs.keeper
decided-calls runner inputs (Answering answer) decided = omega arith
decided-calls runner inputs (BackingUp walker answer) decided =
    let few = walk-few walker.change in
    let steps = ap steps_left decided.0 in
    let same = ap (λ (one : Inputs). commit_calls one.keeper) decided.1 in
    omega (arith, few, steps, same)
decided-calls runner inputs (Unlocking keeper answer) decided =
    let same = ap leaving_calls decided.0 in omega (arith, same)
decided-calls runner inputs state decided = absurd decided

-- its appends are those of a change at most
decided-appends : (runner : Runner) (inputs : Inputs) → ((table : Tab) (bytes : Bytes) →
    table_of inputs.files table ≡ Some bytes → length bytes ≤ table_limit) → (state : State) →
    DecidesTo runner inputs state → appends_left state ≤ change_appends
decided-appends runner inputs small (Answering answer) decided = omega arith
decided-appends runner inputs small (BackingUp walker answer) decided =
    let change = walker.change in
    let allowed = change-is runner.asked change.inputs.files change.inputs.defs change.new
    decided.2.is_change in
    let size = changed-most all_tables (old_files change) (new_files change) in
    let news = length-map (changed change) (λ (new : NewTable). new.bytes) in
    let olds = length-map (changed change) (λ (new : NewTable). old_bytes change new.table) in
    let were = subst (λ (one : Inputs). (table : Tab) (bytes : Bytes) →
    table_of one.files table ≡ Some bytes → length bytes ≤ table_limit) (sym decided.1) small in
    let backups = tables-most (old_texts change (changed change))
    (old-small change were (changed change)) (omega (arith, olds, size)) in
    let tables = tables-most (new_texts (changed change))
    (changed-small all_tables (old_files change) (new_files change) allowed.small)
    (omega (arith, news, size)) in
    let intent = pieces-most (intended change) decided.3.allowed in
    let start = ap (λ (one : Walker). texts_appends one.staged
    (old_texts change (drop one.place (changed change)))) decided.0 in
    omega (arith, backups, tables, intent, start)
decided-appends runner inputs small (Unlocking keeper answer) decided = omega arith
decided-appends runner inputs small state decided = absurd decided

-- none is staged yet
decided-hold : (runner : Runner) (inputs : Inputs) (state : State) →
    DecidesTo runner inputs state → HoldsText state None
decided-hold runner inputs (Answering answer) decided = tt
decided-hold runner inputs (BackingUp walker answer) decided =
    ap (λ (one : Walker). text_in (BackingUp one answer)) decided.0
decided-hold runner inputs (Unlocking keeper answer) decided = refl
decided-hold runner inputs state decided = absurd decided

-- the inputs that are loaded are sound where what was read before the last was
loaded-small : (reader : Reader) (inputs : Inputs) (answer : Result Found FolderFault) →
    AreSound reader.next reader.files → Loads reader answer (Ok (Done inputs)) → (table : Tab)
    (bytes : Bytes) → table_of inputs.files table ≡ Some bytes → length bytes ≤ table_limit
loaded-small reader inputs answer sound shown table bytes is =
    sound.small table bytes
    (ap (λ (files : Files). table_of files table) (sym (done-files reader inputs answer shown))
    ∙ is)

-- after a read
pub loads-calls : (runner : Runner) (reader : Reader) (loading : Loaded) (state : State)
    (answer : Result Found FolderFault) → AreSound reader.next reader.files →
    LoadsTo runner loading state → Loads reader answer (Ok loading) →
    LeavesFewer (Loading reader) state
loads-calls runner reader (More more) state answer sound leads shown =
    let next = (more-shown reader more answer shown).1 in
    let same = ap calls_left leads in
    let appends = ap appends_left leads in
    let keeper = ap (λ (one : Reader). change_calls one.keeper) next.2 in
    let left = ap (λ (one : Reader). reads_left one.next) next.2 in
    let was = ap reads_left next.1 in
    let fewer = reads-fewer next.0 in
    other-fewer (Loading reader) state refl (omega (arith, same, keeper, left, was, fewer))
    (omega (arith, appends)) (loads-hold state leads)
  where
    loads-hold : (one : State) → one ≡ Loading more → HoldsText one None
    loads-hold one is = subst (λ (same : State). HoldsText same None) (sym is) refl
loads-calls runner reader (Done inputs) state answer sound leads shown =
    let few = decided-calls runner inputs state leads in
    let keeper = ap change_calls (done-keeper reader inputs answer shown) in
    let some = reads-some reader.next in
    let appends = decided-appends runner inputs (loaded-small reader inputs answer sound shown)
    state leads in
    other-fewer (Loading reader) state refl (omega (arith, few, keeper, some))
    (omega (arith, appends)) (decided-hold runner inputs state leads)

-- and one that leads no further
pub ended-calls : (tool : Tool) (reader : Reader) (answer : Result Found FolderFault)
    (end : LoadEnd) (state : State) → EndsLoad tool end state → Loads reader answer (Err end) →
    LeavesFewer (Loading reader) state
ended-calls tool reader answer (Fault fault) state ends shown =
    let some = reads-some reader.next in
    answers-fewer tool _ state ends (Loading reader) (omega (arith, some)) refl
ended-calls tool reader answer (TooLarge name kept) state ends shown =
    let few = leaves-calls tool kept (IsTooLarge (File name)) state ends in
    let keeper = ap leaving_calls (large-shown reader name kept answer shown).2 in
    let some = reads-some reader.next in
    let none = leaves-appends tool kept (IsTooLarge (File name)) state ends in
    other-fewer (Loading reader) state refl (omega (arith, few, keeper, some))
    (omega (arith, none)) (leaves-hold tool kept (IsTooLarge (File name)) state ends)
ended-calls tool reader answer (NoTable table kept) state ends shown =
    let few = leaves-calls tool kept (HasNoTable table) state ends in
    let keeper = ap leaving_calls (missing-shown reader table kept answer shown).1 in
    let some = reads-some reader.next in
    let none = leaves-appends tool kept (HasNoTable table) state ends in
    other-fewer (Loading reader) state refl (omega (arith, few, keeper, some))
    (omega (arith, none)) (leaves-hold tool kept (HasNoTable table) state ends)

-- ---- The commit

-- the appends of a backup, by the change that is backed up
abbrev backups_left : Change → Walker → ℕ
backups_left change walker = texts_appends walker.staged
    (old_texts change (drop walker.place (changed change)))
    + (intent_left (begun_of change) + install_appends change)

-- a step of the backups
pub backed-calls : (walker : Walker) (answer : FinalAnswer) (table : NewTable) →
    next_table walker ≡ Some table → 0 < steps_left walker → backup_pieces walker ≡ 0 →
    LeavesFewer (BackingUp walker answer) (BackingUp (step_on walker) answer)
backed-calls walker answer table is_next some whole =
    let fewer = fewer-steps walker some in
    let same = ap (λ (one : Change). commit_calls one.inputs.keeper) (step-change walker) in
    let left : appends_left (BackingUp (step_on walker) answer)
    ≡ backups_left walker.change (step_on walker) =
    ap (λ (one : Change). backups_left one (step_on walker)) (step-change walker) in
    let less = walked-appends (λ new. old_bytes walker.change new.table) walker table is_next in
    let steps = ap (λ (one : Change). texts_appends (step_on walker).staged
    (old_texts walker.change (drop (step_on walker).place (changed one)))) (step-change walker) in
    other-fewer (BackingUp walker answer) (BackingUp (step_on walker) answer) whole
    (omega (arith, fewer, same)) (omega (arith, left, less, steps))
    (ap (λ (one : Change). begun_text (λ new. BackupStage) (λ new. old_bytes one new.table)
    (step_on walker).staged (next_table (step_on walker))) (step-change walker)
    ∙ walked-step (λ new. BackupStage) (λ new. old_bytes walker.change new.table) walker table
    is_next (sym (old-pieces walker table is_next) ∙ whole)
    ∙ sym (ap (backed_then walker) is_next))

-- an append for a backup
pub backed-more : (walker : Walker) (answer : FinalAnswer) (table : NewTable) →
    next_table walker ≡ Some table → 0 < backup_pieces walker →
    LeavesFewer (BackingUp walker answer) (BackingUp (append_on walker) answer)
backed-more walker answer table is_next some =
    let piece = subst (λ (count : ℕ). 0 < count) (old-pieces walker table is_next) some in
    let begun = begun-left walker.staged (old_bytes walker.change table.table) piece in
    let less = walk-appends (λ new. old_bytes walker.change new.table) walker table is_next begun
    piece in
    let steps = added-steps walker begun in
    append-fewer (BackingUp walker answer) (BackingUp (append_on walker) answer) some
    (omega (arith, steps)) (omega (arith, less))
    (walked-more (λ new. BackupStage) (λ new. old_bytes walker.change new.table) walker table
    is_next piece
    ∙ sym (ap (backed_then walker) is_next))

-- a backup with a piece left has an append left
pub backing-appends : (walker : Walker) (answer : FinalAnswer) → 0 < backup_pieces walker →
    0 < appends_left (BackingUp walker answer)
backing-appends walker answer some = cases (next_table walker) refl some
  where
    cases : (found : Option NewTable) → next_table walker ≡ found →
        0 < unwrap_or (option_map
        (λ one. pieces_left walker.staged (old_bytes walker.change one.table)) found) 0 →
        0 < appends_left (BackingUp walker answer)
    cases None is left = absurd (omega (arith, left))
    cases (Some table) is left =
        let begun = begun-left walker.staged (old_bytes walker.change table.table) left in
        let less = walk-appends (λ new. old_bytes walker.change new.table) walker table is begun
        left in
        omega (arith, less)

-- a step of the installation
pub installed-calls : (walker : Walker) (answer : FinalAnswer) (table : NewTable) →
    next_table walker ≡ Some table → 0 < steps_left walker → install_pieces walker ≡ 0 →
    LeavesFewer (Installing walker answer) (Installing (step_on walker) answer)
installed-calls walker answer table is_next some whole =
    let fewer = fewer-steps walker some in
    let same = ap (λ (one : Change). leaving_calls one.inputs.keeper) (step-change walker) in
    let less = walked-appends (λ new. new.bytes) walker table is_next in
    other-fewer (Installing walker answer) (Installing (step_on walker) answer) whole
    (omega (arith, fewer, same)) (omega (arith, less))
    (walked-step (λ new. Staged new.table) (λ new. new.bytes) walker table is_next
    (sym (pieces-are walker table is_next) ∙ whole)
    ∙ sym (ap (installed_then walker.staged) is_next))

-- an append for it
pub installed-more : (walker : Walker) (answer : FinalAnswer) (table : NewTable) →
    next_table walker ≡ Some table → 0 < install_pieces walker →
    LeavesFewer (Installing walker answer) (Installing (append_on walker) answer)
installed-more walker answer table is_next some =
    let piece = subst (λ (count : ℕ). 0 < count) (pieces-are walker table is_next) some in
    let begun = begun-left walker.staged table.bytes piece in
    let less = walk-appends (λ new. new.bytes) walker table is_next begun piece in
    let steps = added-steps walker begun in
    append-fewer (Installing walker answer) (Installing (append_on walker) answer) some
    (omega (arith, steps)) (omega (arith, less))
    (walked-more (λ new. Staged new.table) (λ new. new.bytes) walker table is_next piece
    ∙ sym (ap (installed_then walker.staged) is_next))

-- an installation with a piece left has an append left
pub installing-appends : (walker : Walker) (answer : FinalAnswer) → 0 < install_pieces walker →
    0 < appends_left (Installing walker answer)
installing-appends walker answer some = cases (next_table walker) refl some
  where
    cases : (found : Option NewTable) → next_table walker ≡ found →
        0 < unwrap_or (option_map (λ one. pieces_left walker.staged one.bytes) found) 0 →
        0 < appends_left (Installing walker answer)
    cases None is left = absurd (omega (arith, left))
    cases (Some table) is left =
        let begun = begun-left walker.staged table.bytes left in
        let less = walk-appends (λ new. new.bytes) walker table is begun left in
        omega (arith, less)

-- the first piece of the intent is staged
pub intended-calls : (walker : Walker) (answer : FinalAnswer) → steps_left walker ≡ 0 →
    backup_pieces walker ≡ 0 →
    LeavesFewer (BackingUp walker answer) (Committing (begun_of walker.change) answer)
intended-calls walker answer none whole =
    other-fewer (BackingUp walker answer) (Committing (begun_of walker.change) answer) whole
    (omega arith) (omega arith) (sym (ap (backed_then walker) (no-table walker none)))

-- a further one
pub staged-more : (stager next : Stager) (answer : FinalAnswer) → next ≡ append_intent stager →
    0 < intent_left stager → LeavesFewer (Committing stager answer) (Committing next answer)
staged-more stager next answer is some =
    let calls = ap (λ (one : Stager). calls_left (Committing one answer)) is in
    let appends = ap (λ (one : Stager). appends_left (Committing one answer)) is in
    append-fewer (Committing stager answer) (Committing next answer) some
    (omega (arith, calls)) (omega (arith, appends, some))
    (ap stager_text is ∙ intent-more stager some)

-- an intent with a piece left has an append left
pub committing-appends : (stager : Stager) (answer : FinalAnswer) → 0 < intent_left stager →
    0 < appends_left (Committing stager answer)
committing-appends stager answer some = omega (arith, some)

-- the change is committed
pub committed-calls : (stager : Stager) (walker : Walker) (answer : FinalAnswer) →
    walker ≡ walk_of stager.change → intent_left stager ≡ 0 →
    LeavesFewer (Committing stager answer) (Installing walker answer)
committed-calls stager walker answer is whole =
    let few = walk-few stager.change in
    let steps = ap steps_left is in
    let same = ap (λ (one : Walker). leaving_calls one.change.inputs.keeper) is in
    let appends = ap (λ (one : Walker). appends_left (Installing one answer)) is in
    other-fewer (Committing stager answer) (Installing walker answer) whole
    (omega (arith, few, steps, same)) (omega (arith, appends))
    (ap (λ (one : Walker). text_in (Installing one answer)) is ∙ intent-moved stager whole)

-- the intent is removed
pub cleared-calls : (walker : Walker) (answer : FinalAnswer) → install_pieces walker ≡ 0 →
    steps_left walker ≡ 0 →
    LeavesFewer (Installing walker answer) (Unlocking walker.change.inputs.keeper answer)
cleared-calls walker answer whole none =
    other-fewer (Installing walker answer) (Unlocking walker.change.inputs.keeper answer) whole
    (omega arith) (omega arith) (sym (ap (installed_then walker.staged) (no-table walker none)))
