-- The ranges of one owner, as a caller sees them (getsubids(1)).
use Rattle.std.specs.Prelude.{ℕ, List, map, filter, Option, Some, None, if◌then◌else◌}
use Rattle.acct_text.specs.Lines.{Line}
use Rattle.account_model.specs.declared.records.SubidRecord.{SubidRecord}
use Rattle.account_model.specs.Format.{records_of}
use Rattle.account_model.specs.Records.{subid_format}
use Rattle.account_model.specs.SubidOwner.{is_owned}

-- the first ID and the count
abbrev pub first_and_count : SubidRecord → ℕ × ℕ
first_and_count r = (r.first, r.count)

-- those of what is found, where it is a range whose owner is the name or the text of the UID
abbrev pub owned_one : List ℕ → Option ℕ → Option SubidRecord → Option (ℕ × ℕ)
owned_one name uid None = None
owned_one name uid (Some r) = if is_owned name uid r then Some (first_and_count r) else None

-- those of the ranges whose owner is the name or the text of the UID, in the order of lines
abbrev pub owned_ranges : List ℕ → Option ℕ → List Line → List (ℕ × ℕ)
owned_ranges name uid lines =
    map first_and_count (filter (is_owned name uid) (records_of subid_format lines))
