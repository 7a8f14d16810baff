-- Which lines of a table's file are records of a name (passwd(5), shadow(5), group(5), gshadow(5),
-- subuid(5), subgid(5)).
use Rattle.std.specs.Prelude.{ℕ, Bool, false, List, None, Some}
use Rattle.account_model.specs.Format.{Format, is_named}

-- whether the text is a record of the name
abbrev pub text_is_named : {R : Type 0} → Format R → List ℕ → List ℕ → Bool
text_is_named format name text =
    elim (format.read text) [ None ↦ false | Some r ↦ is_named format name r ]
