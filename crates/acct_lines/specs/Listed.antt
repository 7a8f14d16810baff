-- The text of a list of names, to which names are added (group(5), gshadow(5)).
use Rattle.std.specs.Prelude.{ℕ, List, ◌∷◌, ◌++◌, if◌then◌else◌}
use Rattle.acct_text.specs.Bytes.{is_empty}
use Rattle.account_model.specs.Text.{comma}

-- the text with one more name at its end; an empty name is left out
abbrev pub listed_behind : List ℕ → List ℕ → List ℕ
listed_behind list name =
    if is_empty name then list
    else if is_empty list then name else list ++ comma ∷ name
