-- Plans from their words to their answer, each row decided by computing.
use Rattle.std.specs.Prelude.{◌≡◌, [], ◌∷◌, ◌++◌, codes, option_map, refl, replicate, true, Some, None}
use Rattle.std.specs.Fmt.{digits}
use Rattle.std.specs.Result.{result_ok}
use Rattle.acct_text.specs.declared.Tab.TheVariants.{Group}
use Rattle.account_model.specs.declared.plan_form.PlanForm.TheVariants.{Sizes, Diff, Json}
use Rattle.account_model.specs.declared.refusal.Refusal.TheVariants.{PrimaryGroup}
use Rattle.account_model.specs.declared.word_fault.WordFault.TheVariants.{MissingValue, NoTool, UnknownTool, WordLimit}
use Rattle.account_model.specs.Answer.{TableAbsent, deed}
use Rattle.account_model.specs.PlanWords.{command_words, plan_of}
use Rattle.account_model.specs.Request.{is_report}
use Rattle.account_model.specs.Words.{fault, request_of}
use Rattle.account_model.proofs.Image.{image}
use Rattle.account_model.proofs.Commands.{answer_with, lines, nothing, on, plainly_on, printed, refused, reported, same, today, unusable, words}

-- ---- Words

-- the form stands right behind `plan`
sizes_form : plan_of (words "plan groupadd -P R q") ≡ Some Sizes
sizes_form = refl

diff_form : plan_of (words "plan --diff groupadd -P R q") ≡ Some Diff
diff_form = refl

json_form : plan_of (words "plan --json groupadd -P R q") ≡ Some Json
json_form = refl

-- a command is carried out
no_form : plan_of (words "groupadd -P R q") ≡ None
no_form = refl

-- behind it are the words of the command
words_behind : command_words (words "plan --json groupadd -P R q") ≡ words "groupadd -P R q"
words_behind = refl

-- of which there must be some
no_words_behind : (fault (words "plan") ≡ Some NoTool) × (fault (words "plan --diff") ≡ Some NoTool)
no_words_behind = (refl, refl)

-- `plan` isn't planned, one form is given at most, and nothing is rehearsed
unknown_behind :
    (fault (words "plan plan groupadd -P R q") ≡ Some UnknownTool)
    × (fault (words "plan --diff --json groupadd -P R q") ≡ Some UnknownTool)
    × (fault (words "plan rehearse") ≡ Some UnknownTool)
unknown_behind = (refl, refl, refl)

-- places count from the word behind, and so do the limits
places_behind : fault (words "plan gpasswd sudo -P") ≡ Some (MissingValue 2)
places_behind = refl

limits_behind :
    (fault (codes "plan" ∷ replicate 512 []) ≡ Some UnknownTool)
    × (fault (codes "plan" ∷ replicate 513 []) ≡ Some (WordLimit 512))
limits_behind = (refl, refl)

-- each plan is a report
plan_reports :
    option_map is_report (result_ok (request_of (words "plan groupadd -P R q"))) ≡ Some true
plan_reports = refl

-- ---- Answers

-- `plan groupadd -P R -g 1500 staff`
change_told : plainly_on nothing (words "plan groupadd -P R -g 1500 staff")
    ≡ reported 0 "would change group 0 14"
unfolding digits
change_told = refl

-- `plan groupdel -P R bob`
refusal_told : on image (words "plan groupdel -P R bob")
    ≡ refused 8 (PrimaryGroup (codes "bob") (codes "bob"))
    "groupdel: group bob is the primary group of bob"
unfolding digits
refusal_told = refl

-- `plan groupadd -P R -f sudo`: nothing would change
same_told : on image (words "plan groupadd -P R -f sudo") ≡ same
unfolding digits
same_told = refl

-- `plan groupadd -P R q`: an absent group is told as the command tells it
absence_told : plainly_on (record nothing { group = None }) (words "plan groupadd -P R q")
    ≡ unusable 10 (TableAbsent Group) "groupadd: group does not exist"
unfolding digits
absence_told = refl

-- `plan batch -P R` with two groups
batch_told :
    answer_with (lines "groupadd -g 1500 staff|groupadd q") (words "plan batch -P R") nothing None
    ≡ reported 0 "would change group 0 24"
unfolding digits
batch_told = refl

-- `plan useradd -P R -G sudo ann`: all six tables of the image, in their order
tables_told : on image (words "plan useradd -P R -G sudo ann") ≡ printed 0 (
    lines "would change passwd 374 402|would change shadow 219 244|would change group 120 136"
    ++ lines "would change gshadow 98 110|would change subuid 17 34|would change subgid 17 34")
unfolding digits
tables_told = refl

-- a plan has no deed
planned_deed : option_map (λ request. deed request [] today nothing None)
    (result_ok (request_of (words "plan groupadd -P R -g 1500 staff"))) ≡ Some None
unfolding digits
planned_deed = refl
