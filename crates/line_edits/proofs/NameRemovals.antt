-- Claim: a removal of the ranges of a user whose UID isn't known is that of those with the name alone
-- (`removal-named`). Way: by whether the UID is there.
use Rattle.std.proofs.Common.{◌≡◌, ℕ, List, false}
use Rattle.std.specs.Prelude.{Option, Some, None, is_some}
use Rattle.line_edits.specs.declared.subid_changes.SubidChange.{SubidChange}
use Rattle.line_edits.specs.declared.subid_changes.SubidChange.TheVariants.{Remove}

-- it removes no range by the text of a UID
pub removal-named :
    (change : SubidChange) (user : List ℕ) (uid : Option ℕ)
    → change ≡ Remove user uid
    → is_some uid ≡ false
    → change ≡ Remove user None
removal-named change user None is none = is
removal-named change user (Some uid) is some = cc
