-- The name of a record, which is the first field of its line (passwd(5), shadow(5), group(5),
-- gshadow(5), subuid(5), subgid(5)).
use Rattle.std.specs.Prelude.{◌≡◌, ℕ, List, Some}
use Rattle.acct_text.specs.Pieces.{fields_of}
use Rattle.account_model.specs.Faults.{field_at}
use Rattle.account_model.specs.Format.{Format}

-- the text in front of the first colon, and the whole text where there is none
abbrev pub first_field : List ℕ → List ℕ
first_field text = field_at 1 (fields_of text)

-- each text that is a record begins with its name
abbrev pub NamesFirst : {R : Type 0} → Format R → Type 0
NamesFirst {R = R} format =
    (text : List ℕ) (r : R) → format.read text ≡ Some r → first_field text ≡ format.name r
