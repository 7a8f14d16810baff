-- The texts of refusals, as a tool prints them on the error stream. They are this profile's own.
use Rattle.std.specs.Prelude.{ℕ, List, [], ◌∷◌, ◌++◌, codes, decimal, flat_map, Option, None, Some}
use Rattle.account_model.specs.declared.tool.Tool.{Tool}
use Rattle.account_model.specs.declared.refusal.Refusal.{Refusal}
use Rattle.account_model.specs.declared.refusal.Refusal.TheVariants.{BadName, BadKey, BadValue, UserExists, GroupExists, NoUser, NoGroup, UidInUse, GidInUse, NoFreeUid, NoFreeGid, NoGap, Meets, EmptyHash, PrimaryGroup, NotMember, NoShadow, NoGshadow, BadLine, NoRanges, Multiple}
use Rattle.account_model.specs.declared.refusal.LineProblem.{LineProblem}
use Rattle.account_model.specs.declared.refusal.LineProblem.TheVariants.{NoColon, HashColon, UnknownUser, UnknownGroup, LineEnd}
use Rattle.acct_text.specs.Bytes.{newline}
use Rattle.acct_text.specs.Tables.{table_name}
use Rattle.account_model.specs.Options.{OptionForm}
use Rattle.account_model.specs.Spelling.{form_of_letter}
use Rattle.account_model.specs.ToolOptions.{own_options}
use Rattle.account_model.specs.ValueForms.{key_form, name_form}
use Rattle.account_model.specs.Words.{tool_name}

-- ---- Texts

-- the form that an option says of its value
abbrev pub form_said : Option OptionForm → List ℕ
form_said None = []
form_said (Some option) = option.wanted

-- the form of the value of a tool's option, by its letter
abbrev pub wanted_form : Tool → ℕ → List ℕ
wanted_form tool letter = form_said (form_of_letter (own_options tool) letter)

-- what can't be used, with the form that is wanted
abbrev pub but_wanted : List ℕ → List ℕ → List ℕ
but_wanted text form = text ++ codes " (" ++ form ++ codes ")"

-- what is wrong with a line of the input of chpasswd and of chgpasswd
abbrev pub line_problem_text : LineProblem → List ℕ
line_problem_text NoColon = codes "no colon"
line_problem_text HashColon = codes "colon in hash"
line_problem_text (UnknownUser name) = codes "unknown user " ++ name
line_problem_text (UnknownGroup name) = codes "unknown group " ++ name
line_problem_text LineEnd = codes "ends in a carriage return"

-- why the tool refuses
abbrev pub refusal_text : Tool → Refusal → List ℕ
refusal_text tool (BadName name) = but_wanted (codes "invalid name: " ++ name) name_form
refusal_text tool (BadKey word) = but_wanted (codes "invalid setting: " ++ word) key_form
refusal_text tool (BadValue letter value) =
    but_wanted (codes "invalid value for -" ++ letter ∷ codes ": " ++ value)
    (wanted_form tool letter)
refusal_text tool (UserExists name) = codes "user " ++ name ++ codes " exists"
refusal_text tool (GroupExists name) = codes "group " ++ name ++ codes " exists"
refusal_text tool (NoUser name) = codes "unknown user " ++ name
refusal_text tool (NoGroup word) = codes "unknown group " ++ word
refusal_text tool (UidInUse uid) = codes "UID " ++ decimal uid ++ codes " is in use"
refusal_text tool (GidInUse gid) = codes "GID " ++ decimal gid ++ codes " is in use"
refusal_text tool NoFreeUid = codes "no free UID"
refusal_text tool NoFreeGid = codes "no free GID"
refusal_text tool (NoGap tab) = codes "no free range in " ++ table_name tab
refusal_text tool (Meets first last tab line) =
    codes "range " ++ decimal first ++ codes "-" ++ decimal last ++ codes " meets "
    ++ table_name tab ++ codes " line " ++ decimal line
refusal_text tool (EmptyHash name) = codes "unlocking " ++ name ++ codes " would leave no password"
refusal_text tool (PrimaryGroup group user) =
    codes "group " ++ group ++ codes " is the primary group of " ++ user
refusal_text tool (NotMember user group) = codes "user " ++ user ++ codes " is not a member of " ++ group
refusal_text tool NoShadow = codes "shadow does not exist"
refusal_text tool NoGshadow = codes "gshadow does not exist"
refusal_text tool (BadLine line problem) =
    codes "line " ++ decimal line ++ codes ": " ++ line_problem_text problem
refusal_text tool (NoRanges name) = codes "no ranges for " ++ name
refusal_text tool (Multiple tab name) = table_name tab ++ codes " has multiple entries for " ++ name

-- what is said of a line of a batch, by its number from 1
abbrev pub line_text : ℕ → List ℕ → List ℕ
line_text number text = codes "line " ++ decimal number ++ codes ": " ++ text

-- why a batch refuses: the line, its tool, and why that refuses
abbrev pub line_refusal_text : ℕ → Tool → Refusal → List ℕ
line_refusal_text number tool refusal =
    line_text number (tool_name tool ++ codes ": " ++ refusal_text tool refusal)

-- ---- Lines

-- who speaks: the tool, or the suite where no tool is known
abbrev pub speaker : Option Tool → List ℕ
speaker None = codes "accounts"
speaker (Some tool) = tool_name tool

-- one line on the error stream, behind who speaks
abbrev pub line_by : Option Tool → List ℕ → List ℕ
line_by tool text = speaker tool ++ codes ": " ++ text ++ newline ∷ []

-- one line of the tool
abbrev pub message : Tool → List ℕ → List ℕ
message tool text = line_by (Some tool) text

-- one such line for each text
abbrev pub messages : Tool → List (List ℕ) → List ℕ
messages tool texts = flat_map (message tool) texts
