-- What a password gets back that is locked and unlocked (passwd(1), `-l` and `-u`).
use Rattle.std.specs.Prelude.{◌≡◌, ℕ, true, false, List, [], ◌∷◌, codes, slice_index, Option, Some, None, Ok, ⊤}
use Rattle.std.specs.List.{AllByRecursion}
use Rattle.acct_text.specs.declared.files.Files.{Files}
use Rattle.acct_text.specs.Bytes.{is_empty}
use Rattle.acct_text.specs.Lines.{lines_of}
use Rattle.account_model.specs.declared.tool.Tool.{Tool}
use Rattle.account_model.specs.Text.{begins_with, exclamation}
use Rattle.account_model.specs.Format.{Format, is_named}
use Rattle.account_model.specs.Records.{passwd_format, shadow_format}
use Rattle.account_model.specs.Request.{Request}
use Rattle.account_model.specs.Action.{Made, outcome_of}
use Rattle.account_model.specs.Hashes.{lacks_shadow}
use Rattle.account_model.specs.Users.{hash_of}
use Rattle.account_model.specs.Passwd.{passwd}

-- a command about a user with one flag, as `passwd -P R -l LOGIN`
abbrev pub flag_alone : Tool → List ℕ → List ℕ → List ℕ → Request
flag_alone tool prefix letter user = record {
  tool = tool;
  prefix = prefix;
  options = record { letter = slice_index letter 0; value = None } ∷ [];
  operands = user ∷ [];
  plan = None;
}

-- each line of the name is as its record is printed
abbrev pub AreCanonical : {R : Type 0} → Format R → List ℕ → Option (List ℕ) → Type 0
AreCanonical format name None = ⊤
AreCanonical {R = R} format name (Some bytes) = AllByRecursion (λ line. (r : R)
    → format.read line.text ≡ Some r → is_named format name r ≡ true
    → line.text ≡ format.print r) (lines_of bytes)

-- the user has a hash in its place, which isn't locked and isn't empty, on canonical lines
pub record HasOpenHash (user : List ℕ) (files : Files) : Type 0 where
  pub in_place : lacks_shadow user files ≡ false
  pub unlocked : begins_with exclamation (hash_of user files) ≡ false
  pub some : is_empty (hash_of user files) ≡ false
  pub passwd_lines : AreCanonical passwd_format user files.passwd
  pub shadow_lines : AreCanonical shadow_format user files.shadow

-- `-l` that isn't refused, and then `-u`, gives back the files
abbrev pub LockThenUnlock : Type 0
LockThenUnlock = (tool : Tool) (prefix user : List ℕ) (files : Files) (made : Made)
    → HasOpenHash user files
    → outcome_of (passwd (flag_alone tool prefix (codes "l") user) files) files ≡ Ok made
    → outcome_of (passwd (flag_alone tool prefix (codes "u") user) made.files) made.files
    ≡ Ok (record { files = files; status = 0; output = []; notices = [] })
