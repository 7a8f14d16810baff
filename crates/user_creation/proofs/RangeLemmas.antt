-- Claim: what a user gets of a table of subordinate IDs stays by other names of the UID, the file and
-- the bounds (`same-allotment`). Way: each stands in the place of the other.
use Rattle.std.proofs.Common.{◌≡◌, ℕ, List}
use Rattle.std.specs.Prelude.{Option}
use Rattle.account_model.specs.NewRanges.{allotment}
use Rattle.account_model.specs.Request.{Request}
use Rattle.user_creation.specs.Allotments.{subordinate_of}
use Rattle.user_creation.specs.declared.ranges.Bounds.{Bounds}

-- what a user of a UID gets of a table, by another name of each
pub same-allotment :
    (request : Request) (uid wanted : Option ℕ) (file table : Option (List ℕ))
    (bounds limits : Bounds)
    → uid ≡ wanted
    → file ≡ table
    → bounds ≡ limits
    → allotment request uid (subordinate_of file bounds)
    ≡ allotment request wanted (subordinate_of table limits)
same-allotment request uid wanted file table bounds limits same_uid same_file same_bounds =
    λ i. allotment request (same_uid i) (subordinate_of (same_file i) (same_bounds i))
