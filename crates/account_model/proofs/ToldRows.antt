-- What plans print of changes of short files, each row decided by computing; the diffs are those that
-- `diff -u` prints of the files.
use Rattle.std.specs.Prelude.{◌≡◌, [], ◌∷◌, ◌++◌, codes, refl, Some}
use Rattle.std.specs.Fmt.{digits}
use Rattle.std.specs.Str.{is_utf8, chars}
use Rattle.std.specs.Str.Lossy.{utf8_lossy, utf8_valid_len, utf8_error_len}
use lib.Utf8.{encode}
use Rattle.acct_text.specs.Bytes.{Bytes}
use Rattle.account_model.specs.declared.plan_form.PlanForm.{PlanForm}
use Rattle.account_model.specs.declared.plan_form.PlanForm.TheVariants.{Sizes, Diff, Json}
use Rattle.account_model.specs.PlanTexts.{plan_text}
use Rattle.account_model.specs.PlanJson.{json_string}
use Rattle.account_model.proofs.Commands.{lines, nothing}

-- what a plan of this form tells of a change of group
abbrev told_of_group : PlanForm → Bytes → Bytes → Bytes
told_of_group form old new =
    plan_text form (record nothing { group = Some old }) (record nothing { group = Some new }) 0
    (codes "done\n") []

-- `plan groupadd -P R -g 1500 staff`, behind what the command prints
sizes : told_of_group Sizes [] (lines "staff:!:1500:") ≡ codes "done\nwould change group 0 14\n"
unfolding digits
sizes = refl

-- nothing is told of tables that stay
no_sizes : told_of_group Sizes (lines "a:x:1:") (lines "a:x:1:") ≡ codes "done\n"
unfolding digits
no_sizes = refl

-- `plan --diff groupadd -P R -g 1500 staff`, where there are no groups
first_line : told_of_group Diff [] (lines "staff:!:1500:") ≡ codes
    "done\n--- a/etc/group\n+++ b/etc/group\n@@ -0,0 +1 @@\n+staff:!:1500:\n"
unfolding digits
first_line = refl

-- a line is replaced in a file of nine, of which three before it and three behind it are shown
replaced_line : told_of_group Diff (lines "a|b|c|d|e|f|g|h|i") (lines "a|b|c|d|E|f|g|h|i") ≡ codes
    "done\n--- a/etc/group\n+++ b/etc/group\n@@ -2,7 +2,7 @@\n b\n c\n d\n-e\n+E\n f\n g\n h\n"
unfolding digits
replaced_line = refl

-- two lines that are far apart are in two hunks
two_hunks : told_of_group Diff (lines "a|b|c|d|e|f|g|h|i") (lines "b|c|d|e|f|g|h|i|j") ≡ codes
    "done\n--- a/etc/group\n+++ b/etc/group\n@@ -1,4 +1,3 @@\n-a\n b\n c\n d\n"
    ++ codes "@@ -7,3 +6,4 @@\n g\n h\n i\n+j\n"
unfolding digits
two_hunks = refl

-- a last line without a newline says so
no_last_newline : told_of_group Diff (codes "a:x:1:") (codes "a:x:1:\nb:x:2:\n") ≡ codes
    "done\n--- a/etc/group\n+++ b/etc/group\n@@ -1 +1,2 @@\n-a:x:1:\n"
    ++ codes "\\ No newline at end of file\n+a:x:1:\n+b:x:2:\n"
unfolding digits
no_last_newline = refl

-- `plan --json groupadd -P R -g 1500 staff`
object : told_of_group Json [] (lines "staff:!:1500:") ≡ codes
    "{\"status\":0,\"message\":\"\",\"output\":\"done\\u000a\",\"users\":[],"
    ++ codes "\"groups\":[{\"name\":\"staff\",\"gid\":1500}],\"subuids\":[],\"subgids\":[],"
    ++ codes "\"tables\":[{\"name\":\"group\",\"old\":0,\"new\":14}]}\n"
unfolding digits utf8_lossy utf8_valid_len is_utf8 chars encode
object = refl

-- what a string can't hold is escaped, and what isn't UTF-8 is replaced
string : json_string (97 ∷ 34 ∷ 92 ∷ 9 ∷ 255 ∷ [])
    ≡ codes "\"a\\\"\\\\\\u0009" ++ 239 ∷ 191 ∷ 189 ∷ codes "\""
unfolding utf8_lossy utf8_valid_len utf8_error_len is_utf8 chars encode
string = refl
