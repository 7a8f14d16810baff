-- getsubids NAME (getsubids(1)): lists the subordinate ranges of a user (subuid(5), subgid(5)).
use Rattle.std.specs.Prelude.{ℕ, suc, if◌then◌else◌, List, [], ◌∷◌, ◌++◌, filter, decimal, codes}
use Rattle.acct_text.specs.declared.files.Files.{Files}
use Rattle.account_model.specs.declared.records.SubidRecord.{SubidRecord}
use Rattle.account_model.specs.declared.refusal.Refusal.TheVariants.{NoRanges}
use Rattle.acct_text.specs.Bytes.{newline, is_empty}
use Rattle.account_model.specs.Tables.{subuid_records, subgid_records}
use Rattle.account_model.specs.Request.{Request, has_option, operand}
use Rattle.account_model.specs.Refusals.{refuse_if}
use Rattle.account_model.specs.Action.{Action, reports}
use Rattle.account_model.specs.SubidOwner.{is_owned}
use Rattle.account_model.specs.Users.{uid_of}

-- I: NAME START COUNT
abbrev pub range_line : ℕ → List ℕ → SubidRecord → List ℕ
range_line number user r = decimal number ++ codes ": " ++ user ++ codes " " ++ decimal r.first
    ++ codes " " ++ decimal r.count ++ newline ∷ []

-- a line for each range; the first of them has the number that is given
abbrev pub range_lines_from : ℕ → List ℕ → List SubidRecord → List ℕ
range_lines_from number user [] = []
range_lines_from number user (r ∷ rest) =
    range_line number user r ++ range_lines_from (suc number) user rest

-- the table that is read: subgid with `-g`, and else subuid
abbrev pub listed_records : Request → Files → List SubidRecord
listed_records request files =
    if has_option (codes "g") request then subgid_records files else subuid_records files

-- the ranges of the user, in the order of the file
abbrev pub ranges_of_user : Request → Files → List SubidRecord
ranges_of_user request files =
    filter (is_owned (operand request) (uid_of (operand request) files))
    (listed_records request files)

-- what getsubids prints, by the tables; without a range it refuses
abbrev pub getsubids : Request → Files → Action
getsubids request files = reports
    (refuse_if (is_empty (ranges_of_user request files)) (NoRanges (operand request)) ∷ [])
    0 (range_lines_from 0 (operand request) (ranges_of_user request files))
