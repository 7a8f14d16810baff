-- batch: the commands that the lines of an input ask for, made as one. Each is made on the files that
-- those before it leave, and one that refuses refuses all. With `--ensure` a line is passed by of which
-- what it is to make stands, or what it is to remove is gone. No manual page has such a tool.
use Rattle.std.specs.Prelude.{◌≡◌, ℕ, Bool, true, false, ◌&&◌, if◌then◌else◌, codes, List, [], ◌∷◌, ◌++◌, Result}
use Rattle.std.specs.declared.result.Result.TheVariants.{Ok, Err}
use Rattle.acct_text.specs.declared.files.Files.{Files}
use Rattle.account_model.specs.declared.tool.Tool.{Tool}
use Rattle.account_model.specs.BatchLines.{LineRequest}
use Rattle.account_model.specs.Settings.{Setting}
use Rattle.account_model.specs.declared.refusal.Refusal.{Refusal}
use Rattle.account_model.specs.declared.refusal.Refusal.TheVariants.{UserExists, GroupExists, NoUser, NoGroup, NotMember}
use Rattle.account_model.specs.declared.row.Done.{Done}
use Rattle.account_model.specs.declared.row.Done.TheVariants.{UserStands, GroupStands, UserGone, GroupGone, MemberGone}
use Rattle.account_model.specs.Rows.{row_of}
use Rattle.account_model.specs.Request.{Request, has_option}
use Rattle.account_model.specs.Action.{Made, outcome_of}
use Rattle.account_model.specs.Change.{action_of}
use Rattle.account_model.specs.Messages.{messages}

-- what a command that isn't refused leaves: the files, the status, and what goes to each stream
pub record Written : Type 0 where
  pub files : Files
  pub status : ℕ
  pub output : List ℕ
  pub error : List ℕ

-- what a tool made, with its notices as lines of the tool
abbrev pub written_by : Tool → Made → Written
written_by tool made = record {
  files = made.files;
  status = made.status;
  output = made.output;
  error = messages tool made.notices;
}

-- the line that refuses, by its number from 1, with its tool and its reason
pub record LineRefusal : Type 0 where
  pub number : ℕ
  pub tool : Tool
  pub refusal : Refusal

-- a batch of no lines leaves all as it is
abbrev pub nothing_on : Files → Written
nothing_on files = record { files = files; status = 0; output = []; error = [] }

-- what is left and printed by one and then by others
abbrev pub in_turn : Written → Written → Written
in_turn first others = record {
  files = others.files;
  status = others.status;
  output = first.output ++ others.output;
  error = first.error ++ others.error;
}

-- what a line has written before the others, by their outcome
abbrev pub before_others : Written → Result Written LineRefusal → Result Written LineRefusal
before_others first (Err refused) = Err refused
before_others first (Ok others) = Ok (in_turn first others)

-- a line with those behind it, by its own outcome and by theirs on the files that it leaves
abbrev pub with_rest : LineRequest → Result Made Refusal → (Files → Result Written LineRefusal)
    → Result Written LineRefusal
with_rest line (Err refusal) rest =
    Err (record { number = line.number; tool = line.request.tool; refusal = refusal })
with_rest line (Ok made) rest =
    before_others (written_by line.request.tool made) (rest made.files)

-- ---- Lines that are done already

-- whether a refusal says that what the tool is to make stands already: a user or a group of the name;
-- or that what it is to remove is gone: the user, the group, or the member of the group
abbrev pub says_done : Done → Refusal → Bool
says_done UserStands (UserExists name) = true
says_done GroupStands (GroupExists name) = true
says_done UserGone (NoUser name) = true
says_done GroupGone (NoGroup name) = true
says_done MemberGone (NotMember user group) = true
says_done done refusal = false

-- whether the tool refuses so
abbrev pub is_done : Tool → Refusal → Bool
is_done tool refusal = says_done (row_of tool).done refusal

-- whether the batch passes such lines by
abbrev pub ensures : Request → Bool
ensures request = has_option (codes "e") request

-- a line that is passed by
abbrev pub skipped_line : Files → Made
skipped_line files = record { files = files; status = 0; output = []; notices = [] }

-- what becomes of a line by its outcome, where such lines are passed by or aren't
abbrev pub outcome_ensured : Bool → Tool → Files → Result Made Refusal → Result Made Refusal
outcome_ensured ensuring tool files (Ok made) = Ok made
outcome_ensured ensuring tool files (Err refusal) =
    if ensuring && is_done tool refusal then Ok (skipped_line files) else Err refusal

-- what becomes of a line on these files
abbrev pub line_outcome : Bool → Request → ℕ → List Setting → Files → Result Made Refusal
line_outcome ensuring request day settings files = outcome_ensured ensuring request.tool files
    (outcome_of (action_of request [] day files settings) files)

-- the line is done on these files: it is passed by, or leaves them as they are
pub record IsDoneOn (day : ℕ) (settings : List Setting) (files : Files) (line : LineRequest)
    : Type 0 where
  pub made : Made
  pub outcome : line_outcome true line.request day settings files ≡ Ok made
  pub stays : made.files ≡ files

-- ---- The whole

-- what the lines make of the files, one after another, on one day and under the same settings
abbrev pub batch : Bool → List LineRequest → ℕ → List Setting → Files → Result Written LineRefusal
batch ensuring [] day settings files = Ok (nothing_on files)
batch ensuring (line ∷ rest) day settings files =
    with_rest line (line_outcome ensuring line.request day settings files)
    (batch ensuring rest day settings)
