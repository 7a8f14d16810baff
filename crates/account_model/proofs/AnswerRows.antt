-- What the files do to an answer before and behind the tool, and what the deed of an answer is, each row decided by
-- computing, or for all files that pass a limit.
use Rattle.std.specs.Prelude.{◌≡◌, ℕ, ◌&&◌, if◌then◌else◌, true, false, find, List, [], ◌∷◌, codes, option_map, refl, Option, Some, None, Ok, Err}
use Rattle.std.specs.Fmt.{digits}
use Rattle.acct_text.specs.declared.files.Files.{Files}
use Rattle.acct_text.specs.declared.Tab.TheVariants.{Passwd, Group}
use Rattle.account_model.specs.declared.tool.Tool.{Tool}
use Rattle.account_model.specs.declared.tool.Tool.TheVariants.{Groupadd}
use Rattle.account_model.specs.Change.{action_of}
use Rattle.account_model.specs.Text.{first_some}
use Rattle.account_model.specs.Action.{Action, Made, made_by, multiple_entries, outcome_of}
use Rattle.account_model.specs.Request.{Request}
use Rattle.account_model.specs.Groupadd.{groupadd}
use Rattle.account_model.specs.declared.refusal.Refusal.TheVariants.{Multiple}
use Rattle.std.proofs.Common.{◌∙◌, ap}
use Rattle.account_model.specs.Words.{is_batch, request_of}
use Rattle.account_model.specs.Batch.{written_by}
use Rattle.account_model.specs.Answer.{Changed, FileProblem, files_problem, files_eq, succeeding, answer, command_answer, answer_under, answer_written, unusable as unusable_answer, deed, new_problem, passes_limit, TableTooLarge, TableAbsent, SettingsTooLarge, BadSettingAt}
use Rattle.account_model.proofs.Image.{image}
use Rattle.account_model.proofs.SettingsImage.{image_defs, file}
use Rattle.account_model.specs.Tables.{passwd_records, files_after}
use Rattle.acct_text.proofs.LinesLaws.{lines_of-are}
use Rattle.account_model.proofs.SameLaws.{bytes-self}
use Rattle.account_model.proofs.Commands.{words, lines, today, answer_to, unusable, nothing}

-- the deed of words
abbrev deed_of : List (List ℕ) → Files → Option (List ℕ) → Option Files
deed_of words files defs = elim (request_of words) [
  | Err fault ↦ None
  | Ok request ↦ deed request [] today files defs
]

-- `groupadd -P R -g 1500 staff` changes group
its_deed : deed_of (words "groupadd -P R -g 1500 staff") nothing None
    ≡ Some (record nothing { group = Some (lines "staff:!:1500:") })
unfolding digits
its_deed = refl

-- `groupadd -P R -g 0 other` is refused and has no deed
refused_deed : deed_of (words "groupadd -P R -g 0 other") image None ≡ None
unfolding digits
refused_deed = refl

-- `groupadd -P R -f sudo` changes nothing and has no deed
same_deed : deed_of (words "groupadd -P R -f sudo") image (Some (file image_defs)) ≡ None
unfolding digits
same_deed = refl

-- `groupadd -P R q`: a passwd above the limit is seen before the absent group
large_table : (bytes : List ℕ) → passes_limit bytes ≡ true
    → answer_to (words "groupadd -P R q") (record nothing
    { passwd = Some bytes; group = None }) None
    ≡ unusable 10 (TableTooLarge Passwd) "groupadd: passwd is too large"
unfolding digits
large_table bytes large = rw (large, answer, command_answer, first_some) refl

-- `pwck -P R -r`: a login.defs above the limit
large_settings : (bytes : List ℕ) → passes_limit bytes ≡ true
    → answer_to (words "pwck -P R -r") nothing (Some bytes)
    ≡ unusable 3 SettingsTooLarge "pwck: login.defs is too large"
unfolding digits
large_settings bytes large = rw (large, answer, command_answer, first_some) refl

-- a new group above the limit is answered as one that was read
large_new_table :
    (files : Files) (made : Made) → new_problem made.files ≡ Some (TableTooLarge Group)
    → answer_written Groupadd files (written_by Groupadd made)
    ≡ unusable_answer Groupadd (TableTooLarge Group)
large_new_table files made large = rw (large, answer_written) refl

-- `groupadd -P R q`: an absent group is seen before a bad number of login.defs
table_before_settings : answer_to (words "groupadd -P R q") (record nothing { group = None })
    (Some (lines "UID_MIN x"))
    ≡ unusable 10 (TableAbsent Group) "groupadd: group does not exist"
unfolding digits
table_before_settings = refl

-- `groupadd -P R -`: a bad number of login.defs is seen before the tool looks at its words
settings_before_tool : answer_to (words "groupadd -P R -") nothing (Some (lines "UID_MIN x"))
    ≡ unusable 10 (BadSettingAt 1) "groupadd: login.defs line 1: bad number"
unfolding digits
settings_before_tool = refl

-- ---- A passwd of any lines

-- a test that nothing passes finds nothing
find-nothing : {R : Type 0} (records : List R) → find (λ r. false) records ≡ None
find-nothing [] = refl
find-nothing (r ∷ records) = find-nothing records

-- the request of `groupadd -P R q`
abbrev adding_q : Request
adding_q = record {
  tool = Groupadd;
  prefix = codes "R";
  options = [];
  operands = codes "q" ∷ [];
  plan = None;
}

-- an empty group, and a passwd of these bytes
abbrev with_passwd : List ℕ → Files
with_passwd bytes = record nothing { passwd = Some bytes }

-- and with the group q
abbrev with_q : List ℕ → Files
with_q bytes = record nothing { passwd = Some bytes; group = Some (lines "q:!:1000:") }

-- no table has multiple entries
none-multiple : (bytes : List ℕ) → multiple_entries
    (groupadd adding_q (with_passwd bytes) []).script (with_passwd bytes) ≡ None
unfolding digits
none-multiple bytes =
    ap (λ o. first_some (option_map (λ name. Multiple Passwd name) (option_map (λ r. r.name) o)
    ∷ None ∷ None ∷ None ∷ []))
    (find-nothing (passwd_records (with_passwd bytes)))

-- what groupadd makes
q-made : (bytes : List ℕ) → files_after (groupadd adding_q (with_passwd bytes) []).script
    (with_passwd bytes) ≡ with_q bytes
unfolding digits
q-made bytes = ap with_q (lines_of-are bytes).joined

-- the outcome of a tool that doesn't refuse and touches no multiple entries
outcome-made :
    (action : Action) (files : Files)
    → first_some action.refusals ≡ None
    → multiple_entries action.script files ≡ None
    → outcome_of action files ≡ Ok (made_by action files)
outcome-made action files none single = rw (none, single, outcome_of) refl

-- the outcome of `groupadd -P R q`
q-outcome : (bytes : List ℕ)
    → outcome_of (groupadd adding_q (with_passwd bytes) []) (with_passwd bytes)
    ≡ Ok (record { files = with_q bytes; status = 0; output = []; notices = [] })
unfolding digits
q-outcome bytes =
    outcome-made (groupadd adding_q (with_passwd bytes) []) (with_passwd bytes) refl
    (none-multiple bytes)
    ∙ ap (λ files. Ok (record {
      files = files;
      status = 0;
      output = [];
      notices = [];
    })) (q-made bytes)

-- the answer to what a tool made of usable files
answer-made :
    (request : Request) (files : Files) (made : Made)
    → files_problem files None ≡ None
    → outcome_of (action_of request [] today files []) files ≡ Ok made
    → is_batch request.tool ≡ false
    → request.plan ≡ None
    → answer request [] today files None
    ≡ answer_written request.tool files (written_by request.tool made)
answer-made request files made usable outcome single carried =
    rw (carried, usable, single, outcome, answer, command_answer, answer_under) refl

-- the answer to a change within the limits
changed-made :
    (tool : Tool) (files : Files) (made : Made)
    → new_problem made.files ≡ None
    → files_eq files made.files ≡ false
    → answer_written tool files (written_by tool made)
    ≡ succeeding (Changed made.files) (written_by tool made)
changed-made tool files made small differ = rw (small, differ, answer_written) refl

-- a passwd within the limit, in front of tables without a problem
first-small :
    (rest : List (Option FileProblem)) (bytes : List ℕ)
    → passes_limit bytes ≡ false
    → first_some ((if passes_limit bytes then Some (TableTooLarge Passwd) else None)
    ∷ rest) ≡ first_some rest
first-small rest bytes small = rw small refl

-- `groupadd -P R q`: whatever passwd holds within its limit, it stays as it is
any_passwd : (bytes : List ℕ) → passes_limit bytes ≡ false
    → answer adding_q [] today (with_passwd bytes) None
    ≡ record { cause = Changed (with_q bytes); status = 0; output = []; error = [] }
unfolding digits
any_passwd bytes small =
    answer-made adding_q (with_passwd bytes) (record
    { files = with_q bytes; status = 0; output = []; notices = [] })
    (first-small (None ∷ None ∷ None ∷ None ∷ None ∷ None ∷ []) bytes small) (q-outcome bytes) refl refl
    ∙ changed-made Groupadd (with_passwd bytes)
    (record { files = with_q bytes; status = 0; output = []; notices = [] })
    (first-small (None ∷ None ∷ None ∷ None ∷ None ∷ []) bytes small)
    (ap (λ b. b && false) (bytes-self bytes))
