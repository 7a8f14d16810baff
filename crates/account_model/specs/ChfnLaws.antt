-- What becomes of the parts of a user's comment (chfn(1)).
use Rattle.std.specs.Prelude.{◌≡◌, ℕ, List, codes, Some, None, Ok}
use Rattle.acct_text.specs.declared.files.Files.{Files}
use Rattle.account_model.specs.declared.records.PasswdRecord.{PasswdRecord}
use Rattle.account_model.specs.Request.{Request, operand, value_of}
use Rattle.account_model.specs.Action.{Made, outcome_of}
use Rattle.account_model.specs.Users.{find_user}
use Rattle.account_model.specs.Chfn.{CommentParts, chfn, parts_of}

-- a part that its option doesn't name is as before, and one that it names is the option's value
pub record IsKeptOrGiven (letter : List ℕ) (request : Request) (old new : List ℕ) : Type 0 where
  pub kept : value_of letter request ≡ None → new ≡ old
  pub given : (value : List ℕ) → value_of letter request ≡ Some value → new ≡ value

-- so is each part
pub record KeepsParts (request : Request) (old new : CommentParts) : Type 0 where
  pub full_name : IsKeptOrGiven (codes "f") request old.full_name new.full_name
  pub room : IsKeptOrGiven (codes "r") request old.room new.room
  pub work_phone : IsKeptOrGiven (codes "w") request old.work_phone new.work_phone
  pub home_phone : IsKeptOrGiven (codes "h") request old.home_phone new.home_phone
  pub other : IsKeptOrGiven (codes "o") request old.other new.other

-- the user's record after a chfn that isn't refused: of the fields the comment alone is another, and of that the parts
-- that no option names are as before
pub record HasNewParts (request : Request) (old new : PasswdRecord) : Type 0 where
  pub fields : new ≡ record old { comment = new.comment }
  pub parts : KeepsParts request (parts_of old.comment) (parts_of new.comment)

-- so it is whatever the old comment was
abbrev pub ChfnKeepsParts : Type 0
ChfnKeepsParts = (request : Request) (files : Files) (made : Made) (old : PasswdRecord)
    → outcome_of (chfn request files) files ≡ Ok made
    → find_user (operand request) files ≡ Some old
    → (new : PasswdRecord) × (find_user (operand request) made.files ≡ Some new)
    × HasNewParts request old new
