-- How what is known of ranges goes on through the lines of a file (subuid(5), subgid(5)).
use Rattle.std.specs.Prelude.{List, ◌++◌}
use Rattle.account_model.specs.declared.records.SubidRecord.{SubidRecord}

-- whatever ranges the old value is that of, the new one is that of these and then of more
abbrev pub GathersMore :
    {G : Type 0} → (List SubidRecord → G → Type 0) → List SubidRecord → G → G → Type 0
GathersMore is_of more old new =
    (ranges : List SubidRecord) → is_of ranges old → is_of (ranges ++ more) new
