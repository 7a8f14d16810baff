-- How a session stages a text: by a write of its first piece and an append of each further one, in order.
-- Then it moves the text. No other call comes between (docs/ARCHITECTURE.md, "Typed steps").
use Rattle.std.specs.Prelude.{◌≡◌, ◌≤◌, ◌+◌, ⊤, ℕ, nat_lt, if◌then◌else◌, List, [], ◌∷◌, drop, filter, length, map, slice_get, Option, Some, None}
use Rattle.std.specs.List.{range_with_len}
use Rattle.acct_text.specs.Bytes.{Bytes}
use Rattle.acct_outside.specs.declared.Name.{Name}
use Rattle.acct_outside.specs.declared.Name.TheVariants.{Staged, IntentStage, BackupStage, FreeStage}
use Rattle.acct_outside.specs.Calls.{Call, answers, appends, renames, writes}
use Rattle.acct_outside.specs.Pieces.{piece_at, pieces_of}
use Rattle.acct_outside.specs.Tokens.{free_text}
use Rattle.intent_file.specs.Intent.{Intended, NewTable}
use Rattle.intent_file.specs.Pieces.{intent_pieces}
use Rattle.suite_rules.specs.Outcomes.{pieces_left}
use Rattle.commit_steps.specs.States.{Stager, intended, next_table, old_bytes}
use Rattle.suite_session.specs.declared.state.State.{State}
use Rattle.suite_session.specs.declared.state.State.TheVariants.{Moving, BackingUp, Committing, Installing, Freeing, Answering}
use Rattle.suite_session.specs.Left.{is_append}
use Rattle.suite_session.specs.NextCall.{state_call}

-- ---- A text in its pieces

-- a text at a staging name, of which these pieces are still to be appended
pub record StagedText : Type 0 where
  pub name : Name
  pub further : List Bytes

-- such a text
abbrev pub text_at : Name → List Bytes → Option StagedText
text_at name further = Some (record { name = name; further = further })

-- one text, cut at each 65,536 bytes, has this piece first and these behind it; an empty one has an empty
-- first piece
pub record CutsOneText (first : Bytes) (further : List Bytes) : Type 0 where
  pub text : Bytes
  pub is_first : first ≡ piece_at 0 text
  pub behind : further ≡ drop 1 (pieces_of text)

-- the text of one intent has this piece first and these behind it
pub record IsIntentCut (first : Bytes) (further : List Bytes) : Type 0 where
  pub intent : Intended
  pub are_pieces : first ∷ further ≡ intent_pieces intent

-- These are the pieces of a text of the staging name: of a table, a backup or an intent, or the free text.
abbrev pub ArePieces : Name → Bytes → List Bytes → Type 0
ArePieces (Staged table) first further = CutsOneText first further
ArePieces BackupStage first further = CutsOneText first further
ArePieces IntentStage first further = IsIntentCut first further
ArePieces FreeStage first further = (first ≡ free_text) × (further ≡ [])
ArePieces name first further = ⊥

-- ---- Call by call

-- a write of this piece begins a text of the name, where none is staged
pub record BeginsText (name : Name) (first : Bytes) (before after : Option StagedText)
    : Type 0 where
  pub comes : before ≡ None
  pub further : List Bytes
  pub are_pieces : ArePieces name first further
  pub leaves : after ≡ text_at name further

-- an append of this piece is the next of the text that is staged at the name
pub record AddsPiece (name : Name) (piece : Bytes) (before after : Option StagedText)
    : Type 0 where
  pub further : List Bytes
  pub is_next : before ≡ text_at name (piece ∷ further)
  pub leaves : after ≡ text_at name further

-- The call comes where this text is staged, or none, and leaves that one: a write begins a text, an append
-- is its next piece, and a move comes behind the last. An answer gives up what is staged, and any other
-- call comes where nothing is.
abbrev pub StagesOn : Call → Option StagedText → Option StagedText → Type 0
StagesOn (writes name first) before after = BeginsText name first before after
StagesOn (appends name piece) before after = AddsPiece name piece before after
StagesOn (renames from to) before after = (before ≡ text_at from []) × (after ≡ None)
StagesOn (answers status) before after = after ≡ None
StagesOn call before after = (before ≡ None) × (after ≡ None)

-- ---- In a state

-- the pieces of a text behind the first ones, so many, that are staged
abbrev pub pieces_behind : ℕ → Bytes → List Bytes
pieces_behind staged text =
    map (λ place. piece_at place text) (range_with_len staged (pieces_left staged text))

-- of the next table so many first pieces are staged at this name
abbrev pub table_text :
    (NewTable → Name) → (NewTable → Bytes) → ℕ → Option NewTable → Option StagedText
table_text name_of bytes_of staged None = None
table_text name_of bytes_of staged (Some new) =
    text_at (name_of new) (pieces_behind staged (bytes_of new))

-- the same, where any piece is staged
abbrev pub begun_text :
    (NewTable → Name) → (NewTable → Bytes) → ℕ → Option NewTable → Option StagedText
begun_text name_of bytes_of staged next =
    if nat_lt 0 staged then table_text name_of bytes_of staged next else None

-- so many first pieces of the intent are staged
abbrev pub stager_text : Stager → Option StagedText
stager_text stager =
    text_at IntentStage (drop stager.staged (intent_pieces (intended stager.change)))

-- the text that a session in this state has staged and is to move
abbrev pub text_in : State → Option StagedText
text_in (Moving moving) = table_text (λ new. Staged new.table) (λ new. new.bytes) moving.staged
    (slice_get moving.left 0)
text_in (BackingUp walker answer) = begun_text (λ new. BackupStage)
    (λ new. old_bytes walker.change new.table) walker.staged (next_table walker)
text_in (Committing stager answer) = stager_text stager
text_in (Installing walker answer) = begun_text (λ new. Staged new.table) (λ new. new.bytes)
    walker.staged (next_table walker)
text_in (Freeing freeing answer) = text_at FreeStage []
text_in state = None

-- the state has this text staged, or answers
abbrev pub HoldsText : State → Option StagedText → Type 0
HoldsText (Answering answer) text = ⊤
HoldsText state text = text_in state ≡ text

-- a turn's call goes on with the text that the old state has staged, to what the new one has
pub record GoesOn (old new : State) : Type 0 where
  pub text : Option StagedText
  pub stages : StagesOn (state_call old) (text_in old) text
  pub holds : HoldsText new text

-- ---- All calls

-- These calls, the newest first, leave this text staged: each goes on with what those before it left.
abbrev pub LeaveText : List Call → Option StagedText → Type 0
LeaveText [] text = text ≡ None
LeaveText (call ∷ older) text =
    (before : Option StagedText) × LeaveText older before × StagesOn call before text

-- the appends of the texts that the calls begin: one for each piece behind the first
abbrev pub appends_due : (calls : List Call) (text : Option StagedText) → LeaveText calls text → ℕ
appends_due [] text leave = 0
appends_due (writes name first ∷ older) text leave =
    length leave.2.further + appends_due older leave.0 leave.1
appends_due (call ∷ older) text leave = appends_due older leave.0 leave.1

-- So they leave one, or none. What is written and appended is one text after another, each in its pieces and
-- whole before it is moved; what isn't moved is given up by the answer. The appends are at most those of
-- these texts.
pub record StageTexts (calls : List Call) : Type 0 where
  pub text : Option StagedText
  pub leave : LeaveText calls text
  pub appended : length (filter is_append calls) ≤ appends_due calls text leave

-- they leave the text that the state has staged
pub record LeadTo (calls : List Call) (state : State) : Type 0 where
  pub text : Option StagedText
  pub leave : LeaveText calls text
  pub holds : HoldsText state text
