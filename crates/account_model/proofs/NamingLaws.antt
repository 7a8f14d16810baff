-- Claim: the name of a record is the first field of its line (`passwd-names_first` and the others).
-- Way: a text that is a record is cut into fields, of which the first is its name, and it has one
-- cut into fields.
use Rattle.std.proofs.Common.{◌≡◌, ℕ, List, ◌∷◌, ap}
use Rattle.acct_text.specs.Bytes.{colon}
use Rattle.acct_text.specs.Pieces.{AreCutAt}
use Rattle.acct_text.proofs.Cut.{cut_at-only}
use Rattle.account_model.specs.Faults.{field_at}
use Rattle.account_model.specs.Records.{passwd_format, shadow_format, group_format, gshadow_format, subid_format}
use Rattle.account_model.proofs.ReadsLaws.{passwd-is, shadow-is, group-is, gshadow-is, subid-is}
use Rattle.account_model.specs.Naming.{NamesFirst, first_field}

-- a text that is cut into these fields begins with the first
first-of-cut :
    (text name : List ℕ) (rest : List (List ℕ))
    → AreCutAt colon text (name ∷ rest)
    → first_field text ≡ name
first-of-cut text name rest cut = ap (field_at 1) (cut_at-only colon text (name ∷ rest) cut)

-- a record of passwd
pub passwd-names_first : NamesFirst passwd_format
passwd-names_first text r read = first-of-cut text r.name _ (passwd-is text r read).cut

-- a record of shadow
pub shadow-names_first : NamesFirst shadow_format
shadow-names_first text r read = first-of-cut text r.name _ (shadow-is text r read).cut

-- a record of group
pub group-names_first : NamesFirst group_format
group-names_first text r read = first-of-cut text r.name _ (group-is text r read).cut

-- a record of gshadow
pub gshadow-names_first : NamesFirst gshadow_format
gshadow-names_first text r read = first-of-cut text r.name _ (gshadow-is text r read).cut

-- a range of subuid or subgid
pub subid-names_first : NamesFirst subid_format
subid-names_first text r read = first-of-cut text r.owner _ (subid-is text r read).cut
