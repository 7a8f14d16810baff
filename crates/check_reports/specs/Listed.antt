-- What getsubids lists (getsubids(1), subuid(5), subgid(5)).
use Rattle.std.specs.Prelude.{ℕ, List, codes, Option, if◌then◌else◌}
use Rattle.acct_text.specs.declared.files.Files.{Files}
use Rattle.account_model.specs.declared.records.SubidRecord.{SubidRecord}
use Rattle.account_model.specs.Request.{Request, has_option}

-- the file that is listed: subgid with `-g`, and else subuid
abbrev pub listed_file : Request → Files → Option (List ℕ)
listed_file request files =
    if has_option (codes "g") request then files.subgid else files.subuid

-- the range of the user with this first ID and this count
abbrev pub range_for : List ℕ → ℕ × ℕ → SubidRecord
range_for user range = record { owner = user; first = range.0; count = range.1 }
