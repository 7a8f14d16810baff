-- What one call does to the folder: which effects it gives (`gives-effect`), what a move does
-- (`file-moved`), and which calls leave the locks, or all but the locks, as they stand.
use Rattle.std.proofs.Common.{◌≡◌, refl, sym, ◌∙◌, ℕ, Bool, true, false, ◌==◌, if◌then◌else◌, nat_lt, length, Option, Some, None, IsSome, true≢false}
use Rattle.acct_text.specs.Bytes.{Bytes}
use Rattle.acct_outside.specs.declared.Name.{Name}
use Rattle.acct_outside.specs.declared.Name.TheVariants.{FreeStage, Lock}
use Rattle.acct_outside.specs.declared.Created.TheVariants.{Done, Exists}
use Rattle.acct_outside.specs.Names.{is_staging, same_name}
use Rattle.acct_outside.specs.Tokens.{Token}
use Rattle.acct_outside.specs.Folder.{Folder, with_number, without_number, with_file, with_piece, moved, moved_content}
use Rattle.acct_outside.specs.Calls.{Call, Answer, CallResult, Effect, Found, found_within, creates, writes, appends, renames, removes, done, happened, nothing, left, found_absent, found_bytes, found_too_large, effect_of, changed_by}
use Rattle.acct_outside.specs.History.{History}
use Rattle.acct_outside.specs.Gives.{GivesEffect, GivesResult}
use Rattle.suite_rules.specs.Knowledge.{whole_content}
use Rattle.suite_rules.proofs.Names.{is_lock, staging-no-lock, then-is, else-is}

-- what a call did, done or not, is an effect that the folder gives
pub gives-effect : (folder : Folder) (history : History) (token : Token) (call : Call)
    (result : CallResult (Answer call)) → GivesResult folder history token call result →
    GivesEffect folder call (effect_of call result)
gives-effect folder history token (creates number) (done Done) gives = gives
gives-effect folder history token (creates number) (done Exists) gives = tt
gives-effect folder history token (creates number) result gives = gives
gives-effect folder history token (appends name piece) (done answer) gives = gives
gives-effect folder history token (appends name piece) result gives = gives
gives-effect folder history token (renames from to) (done answer) gives = gives
gives-effect folder history token (renames from to) result gives = gives
gives-effect folder history token (removes name) (done answer) gives = tt
gives-effect folder history token (removes name) result gives = gives
gives-effect folder history token _ result gives = tt

-- the same locks stand with the same texts
pub record SameLocks (before after : Folder) : Type 0 where
  pub numbers : after.locks ≡ before.locks
  pub texts : (number : ℕ) → after.file (Lock number) ≡ before.file (Lock number)

-- one lock more stands, with this text
pub record WithLock (number : ℕ) (text : Bytes) (before after : Folder) : Type 0 where
  pub numbers : after.locks ≡ with_number number before.locks
  pub texts : (other : ℕ) → after.file (Lock other)
      ≡ (if other == number then Some text else before.file (Lock other))

-- one lock less stands
pub record WithoutLock (number : ℕ) (before after : Folder) : Type 0 where
  pub numbers : after.locks ≡ without_number number before.locks
  pub texts : (other : ℕ) → after.file (Lock other)
      ≡ (if other == number then None else before.file (Lock other))

-- all but the locks stands as before
abbrev pub SameFiles : Folder → Folder → Type 0
SameFiles before after =
    (name : Name) → is_lock name ≡ false → after.file name ≡ before.file name

-- all but the locks and this name stands as before
abbrev pub SameBut : Name → Folder → Folder → Type 0
SameBut name before after = (other : Name) → is_lock other ≡ false →
    same_name other name ≡ false → after.file other ≡ before.file other

-- what stood at one name was moved to another; all else but the locks stands as before
pub record FileMoved (before after : Folder) (from to : Name) : Type 0 where
  pub bytes : Bytes
  pub source : before.file from ≡ Some bytes
  pub target : after.file to ≡ Some bytes
  pub others : (name : Name) → is_lock name ≡ false → same_name name from ≡ false →
      same_name name to ≡ false → after.file name ≡ before.file name

module _ (folder : Folder) where
  -- nothing happened
  pub locks-same : SameLocks folder folder
  locks-same = record { numbers = refl; texts = λ number. refl }

  -- nothing happened
  pub files-same : SameFiles folder folder
  files-same name free = refl

  -- a change at a name that is no lock's leaves the locks
  pub file-locks : (name : Name) (content : Option Bytes) → is_lock name ≡ false →
      SameLocks folder (with_file name content folder)
  file-locks (Lock number) content free = absurd (true≢false free)
  file-locks _ content free = record { numbers = refl; texts = λ number. refl }

  -- a move between names that are no locks leaves the locks
  pub moved-locks : (from to : Name) → is_lock from ≡ false → is_lock to ≡ false →
      SameLocks folder (moved from to folder)
  moved-locks from to free unlocked = cases (folder.file from)
    where
      cases : (content : Option Bytes) → SameLocks folder (moved_content content from to folder)
      cases None = locks-same
      cases (Some bytes) =
          let taken = file-locks from None free in
          let put = file-locks-of (with_file from None folder) to (Some bytes) unlocked in
          record {
            numbers = put.numbers ∙ taken.numbers;
            texts = λ number. put.texts number ∙ taken.texts number;
          }
        where
          file-locks-of : (other : Folder) (name : Name) (content : Option Bytes) →
              is_lock name ≡ false → SameLocks other (with_file name content other)
          file-locks-of other (Lock number) content free = absurd (true≢false free)
          file-locks-of other _ content free =
              record { numbers = refl; texts = λ number. refl }

  -- a write at a staging name leaves the locks
  pub write-locks : (token : Token) (name : Name) (bytes : Bytes) (effect : Effect) →
      is_staging name ≡ true → SameLocks folder (changed_by token (writes name bytes) effect folder)
  write-locks token name bytes happened is = file-locks name (Some bytes) (staging-no-lock name is)
  write-locks token name bytes nothing is = locks-same
  write-locks token name bytes (left content) is = file-locks name content (staging-no-lock name is)

  -- an append at a staging name leaves the locks
  pub append-locks : (token : Token) (name : Name) (piece : Bytes) (effect : Effect) →
      is_staging name ≡ true →
      SameLocks folder (changed_by token (appends name piece) effect folder)
  append-locks token name piece happened is =
      file-locks name (with_piece piece (folder.file name)) (staging-no-lock name is)
  append-locks token name piece nothing is = locks-same
  append-locks token name piece (left content) is =
      file-locks name content (staging-no-lock name is)

  -- a move between names that are no locks leaves the locks, done or not
  pub rename-locks : (token : Token) (from to : Name) (effect : Effect) → is_lock from ≡ false →
      is_lock to ≡ false → SameLocks folder (changed_by token (renames from to) effect folder)
  rename-locks token from to happened free unlocked = moved-locks from to free unlocked
  rename-locks token from to nothing free unlocked = locks-same
  rename-locks token from to (left content) free unlocked = locks-same

  -- a removal of a name that is no lock's leaves the locks, done or not
  pub remove-locks : (token : Token) (name : Name) (effect : Effect) → is_lock name ≡ false →
      SameLocks folder (changed_by token (removes name) effect folder)
  remove-locks token name happened free = file-locks name None free
  remove-locks token name nothing free = locks-same
  remove-locks token name (left content) free = locks-same

  -- the free text came to a lock
  pub free-lock : (number : ℕ) (text : Bytes) → folder.file FreeStage ≡ Some text →
      WithLock number text folder (moved FreeStage (Lock number) folder)
  free-lock number text is = rw is (record { numbers = refl; texts = λ other. refl })

  -- a change of a lock leaves all else
  pub lock-files : (number : ℕ) (content : Option Bytes) →
      SameFiles folder (with_file (Lock number) content folder)
  lock-files number content (Lock other) free = absurd (true≢false free)
  lock-files number content _ free = refl

  -- a write changes nothing but its name
  pub write-others : (token : Token) (name : Name) (bytes : Bytes) (effect : Effect) →
      SameBut name folder (changed_by token (writes name bytes) effect folder)
  write-others token name bytes happened other free off =
      else-is (same_name other name) (Some bytes) (folder.file other) off
  write-others token name bytes nothing other free off = refl
  write-others token name bytes (left content) other free off =
      else-is (same_name other name) content (folder.file other) off

  -- an append changes nothing but its name
  pub append-others : (token : Token) (name : Name) (piece : Bytes) (effect : Effect) →
      SameBut name folder (changed_by token (appends name piece) effect folder)
  append-others token name piece happened other free off =
      else-is (same_name other name) (with_piece piece (folder.file name)) (folder.file other) off
  append-others token name piece nothing other free off = refl
  append-others token name piece (left content) other free off =
      else-is (same_name other name) content (folder.file other) off

  -- a move that happened moved what stood at its source
  pub file-moved : (from to : Name) → same_name to to ≡ true → IsSome (folder.file from) →
      FileMoved folder (moved from to folder) from to
  file-moved from to self some = cases (folder.file from) refl some
    where
      cases : (content : Option Bytes) → folder.file from ≡ content → IsSome content →
          FileMoved folder (moved_content content from to folder) from to
      cases None is some = absurd (true≢false (sym some))
      cases (Some bytes) is some = record {
        bytes = bytes;
        source = is;
        target = then-is (same_name to to) (Some bytes) _ self;
        others = λ name free off_from off_to.
            else-is (same_name name to) (Some bytes) _ off_to
            ∙ else-is (same_name name from) None (folder.file name) off_from;
      }

-- What a read tells of what stands at its name.
module _ (limit : ℕ) where
  -- absent: nothing stands
  pub absent-stands : (content : Option Bytes) → found_absent ≡ found_within limit content →
      content ≡ None
  absent-stands None is = refl
  absent-stands (Some bytes) is = cases (nat_lt limit (length bytes)) is
    where
      cases : (large : Bool) →
          found_absent ≡ (if large then found_too_large else found_bytes bytes) →
          Some bytes ≡ None
      cases true same = absurd (cc)
      cases false same = absurd (cc)

  -- bytes: they stand
  pub bytes-stand : (content : Option Bytes) (text : Bytes) →
      found_bytes text ≡ found_within limit content → content ≡ Some text
  bytes-stand None text is = absurd (cc)
  bytes-stand (Some bytes) text is = cases (nat_lt limit (length bytes)) is
    where
      cases : (large : Bool) →
          found_bytes text ≡ (if large then found_too_large else found_bytes bytes) →
          Some bytes ≡ Some text
      cases true same = absurd (cc)
      cases false same = cc

  -- what was found whole stands
  pub whole-stands : (content : Option Bytes) (found : Found) (whole : Option Bytes) →
      found ≡ found_within limit content → whole_content found ≡ Some whole → content ≡ whole
  whole-stands content found_absent whole is found = absent-stands content is ∙ cc
  whole-stands content (found_bytes bytes) whole is found = bytes-stand content bytes is ∙ cc
  whole-stands content found_too_large whole is found = absurd (cc)
