-- What a session writes: at a staging name the first bytes of the text that is due there, and before its
-- commit backups of the tables that its change changes (docs/ARCHITECTURE.md, "The commit").
use Rattle.std.specs.Prelude.{◌≡◌, ◌≢◌, ⊤, ℕ, [], ◌∷◌, take, Some}
use Rattle.acct_text.specs.declared.Tab.{Tab}
use Rattle.acct_text.specs.Bytes.{Bytes}
use Rattle.acct_text.specs.Contents.{Contents}
use Rattle.acct_outside.specs.declared.Name.{Name}
use Rattle.acct_outside.specs.declared.Name.TheVariants.{Backup}
use Rattle.acct_outside.specs.Tokens.{Token}
use Rattle.acct_outside.specs.Calls.{Call, appends, done, renames, writes}
use Rattle.acct_outside.specs.History.{History}
use Rattle.acct_outside.specs.declared.CommitStage.TheVariants.{Before}
use Rattle.suite_rules.specs.Deeds.{SuiteDeeds}
use Rattle.suite_rules.specs.Knowledge.{Seen, knows_none}
use Rattle.suite_rules.specs.Standing.{Standing, staged_with, standing, standing_step}
use Rattle.suite_rules.specs.Rules.{HasSeen, Permits}
use Rattle.suite_session.specs.Deeds.{AreOfTools, tools_deed}

-- ---- Moves

-- The session hasn't called its commit, and the deed of what it was asked, on what it has seen,
-- changes the table.
pub record IsToChange (standing : Standing) (table : Tab) : Type 0 where
  pub uncommitted : standing.commit ≡ Before
  pub seen : Seen
  pub clean : standing.knows ≡ knows_none seen
  pub has_seen : HasSeen standing.command seen
  pub new : Contents
  pub is_deed : tools_deed has_seen.command has_seen.files has_seen.defs ≡ Some new
  pub differs : new table ≢ has_seen.files table

-- a move to a backup is of such a table; to another name any may come
abbrev pub MovesDue : Standing → Name → Type 0
MovesDue standing (Backup table) = IsToChange standing table
MovesDue standing to = ⊤

-- ---- Staged texts

-- the session as it would stand with this text staged at the name
abbrev pub with_text : Name → Bytes → Standing → Standing
with_text name text standing =
    record standing { staged = staged_with name (Some text) standing.staged }

-- The text is due at the staging name: were all of it staged there, the rules would let the session move it.
pub record IsDueAt (name : Name) (text : Bytes) (standing : Standing) : Type 0 where
  pub to : Name
  pub may_move : (deeds : SuiteDeeds) → AreOfTools deeds →
      Permits deeds (with_text name text standing) (renames name to)
  pub moves : MovesDue standing to

-- the session has staged the first bytes, so many, of a text that is due at the name
pub record StagesDue (name : Name) (standing : Standing) : Type 0 where
  pub text : Bytes
  pub is_due : IsDueAt name text standing
  pub size : ℕ
  pub staged : standing.staged name ≡ Some (take size text)

-- ---- Calls

-- a write or an append, once it is done, has staged what is due; a move is due; every other call may come
abbrev pub WritesDue : Standing → Call → Type 0
WritesDue standing (writes name piece) =
    StagesDue name (standing_step (writes name piece) (done tt) standing)
WritesDue standing (appends name piece) =
    StagesDue name (standing_step (appends name piece) (done tt) standing)
WritesDue standing (renames from to) = MovesDue standing to
WritesDue standing call = ⊤

-- so it was with each call of the session, whatever came of it
abbrev pub WroteDue : Token → History → Type 0
WroteDue token [] = ⊤
WroteDue token (event ∷ history) =
    (event.token ≡ token → WritesDue (standing token history) event.call)
    × WroteDue token history
