-- chpasswd -e and chgpasswd -e (chpasswd(8), chgpasswd(8)): set the hashes of users and of groups, from lines NAME:HASH of
-- the input.
use Rattle.std.specs.Prelude.{ℕ, suc, Bool, not, ◌==◌, if◌then◌else◌, List, [], ◌∷◌, map, Option, Some, None}
use Rattle.std.specs.List.{before_first, after_first}
use Rattle.acct_text.specs.declared.files.Files.{Files}
use Rattle.account_model.specs.declared.hashes_of.HashesOf.{HashesOf}
use Rattle.account_model.specs.declared.hashes_of.HashesOf.TheVariants.{Users, Groups}
use Rattle.account_model.specs.declared.refusal.LineProblem.{LineProblem}
use Rattle.account_model.specs.declared.refusal.LineProblem.TheVariants.{NoColon, HashColon, UnknownUser, UnknownGroup, LineEnd}
use Rattle.account_model.specs.declared.refusal.Refusal.{Refusal}
use Rattle.account_model.specs.declared.refusal.Refusal.TheVariants.{BadLine}
use Rattle.acct_text.specs.Bytes.{colon}
use Rattle.account_model.specs.Text.{has_byte}
use Rattle.acct_text.specs.Lines.{Line, lines_of}
use Rattle.account_model.specs.Format.{is_named}
use Rattle.account_model.specs.LineWords.{ends_in_return}
use Rattle.account_model.specs.Edits.{each_where}
use Rattle.account_model.specs.Records.{shadow_format}
use Rattle.account_model.specs.Tables.{Script, no_edits, in_order}
use Rattle.account_model.specs.Action.{Action, changes}
use Rattle.account_model.specs.Users.{has_group, has_user}
use Rattle.account_model.specs.Hashes.{demand_shadow, each_user_hash, set_group_hash}

-- the name stands before the first `:`
abbrev pub line_account : List ℕ → List ℕ
line_account text = before_first (λ b. b == colon) text

-- the hash stands behind it
abbrev pub line_hash : List ℕ → List ℕ
line_hash text = after_first (λ b. b == colon) text

-- the names of all lines
abbrev pub names_of_lines : List Line → List (List ℕ)
names_of_lines lines = map (λ line. line_account line.text) lines

-- whether there is such a user, or such a group
abbrev pub has_account : HashesOf → List ℕ → Files → Bool
has_account Users name files = has_user name files
has_account Groups name files = has_group name files

-- what is wrong where there is none
abbrev pub unknown : HashesOf → List ℕ → LineProblem
unknown Users name = UnknownUser name
unknown Groups name = UnknownGroup name

-- what is wrong with a line: no `:`, then one in the hash, then a name that isn't there, then a
-- carriage return at its end, with which no password would match the hash
abbrev pub line_problem : HashesOf → Files → List ℕ → Option LineProblem
line_problem whose files text =
    if not (has_byte colon text) then Some NoColon else
    (if has_byte colon (line_hash text) then Some HashColon else
    (if not (has_account whose (line_account text) files)
    then Some (unknown whose (line_account text)) else
    (if ends_in_return text then Some LineEnd else None)))

-- the first bad line, by its number; the first of these lines has the number that is given
abbrev pub bad_line_from : HashesOf → ℕ → Files → List Line → Option Refusal
bad_line_from whose number files [] = None
bad_line_from whose number files (line ∷ lines) = elim (line_problem whose files line.text) [
  | Some problem ↦ Some (BadLine number problem)
  | None ↦ bad_line_from whose (suc number) files lines
]

-- with shadow the last change of the user becomes the day
abbrev pub set_last_change : List ℕ → ℕ → Script
set_last_change name day = record no_edits {
  shadow = each_where (is_named shadow_format name) (λ r. record r { last_change = Some day }) ∷ [];
}

-- the line of shadow on demand, then the hash, then the last change
abbrev pub set_user_hash : List ℕ → List ℕ → Files → ℕ → Script
set_user_hash name hash files day = in_order
    (demand_shadow name files
    ∷ each_user_hash name (λ old. hash) files
    ∷ set_last_change name day
    ∷ [])

-- the hash of a user is set on this day; that of a group has none
abbrev pub set_hash : HashesOf → List ℕ → List ℕ → Files → ℕ → Script
set_hash Users name hash files day = set_user_hash name hash files day
set_hash Groups name hash files day = set_group_hash name hash files

-- what a line of the input does
abbrev pub line_script : HashesOf → Files → ℕ → Line → Script
line_script whose files day line =
    set_hash whose (line_account line.text) (line_hash line.text) files day

-- what chpasswd and chgpasswd do, by the input, the tables and the day: a bad line refuses the whole input
abbrev pub set_hashes : HashesOf → List ℕ → Files → ℕ → Action
set_hashes whose input files day =
    changes (bad_line_from whose 1 files (lines_of input) ∷ [])
    (in_order (map (line_script whose files day) (lines_of input)))
