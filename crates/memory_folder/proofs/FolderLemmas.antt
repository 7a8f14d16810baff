-- A folder stays one when a file is put or taken away, and when a file is moved:
-- its lock numbers are those of the locks that stand, ascending and in their bounds.
-- The claims are `IsFolder-with_file`, `IsFolder-without_file` and `IsFolder-moved`; and an append
-- where nothing stands leaves it as it is (`appended-absent`).
use Rattle.std.proofs.Common.{◌≡◌, refl, sym, ◌∙◌, ap, inl, inr, ℕ, ◌≤◌, Bool, true, false, cond, not, ◌||◌, ◌&&◌, ◌==◌, Option, None, Some}
use Rattle.std.specs.Option.{is_some}
use Rattle.std.proofs.lemmas.Bool.{cases_Bool}
use Rattle.std.proofs.lemmas.List.Elements.{All-filter}
use Rattle.acct_text.specs.Bytes.{Bytes}
use Rattle.acct_outside.specs.declared.Name.{Name}
use Rattle.acct_outside.specs.declared.Name.TheVariants.{Lock}
use Rattle.acct_outside.specs.Names.{greatest_lock, same_name}
use Rattle.acct_outside.specs.Folder.{Folder, IsFolder, has_number, locks_with, with_file, with_piece, appended, moved_content, moved}
use Rattle.acct_outside.specs.Contract.{IsName, IsLockNumber}
use Rattle.acct_outside.proofs.NameLemmas.{name-is}
use Rattle.memory_folder.proofs.NumberLemmas.{has_with, has_without, without-absent, All-with, Ascends-with, Ascends-without}

-- a lock number in its bounds, as a folder has it
abbrev IsInBounds : ℕ → Type 0
IsInBounds n = (1 ≤ n) × (n ≤ greatest_lock)

-- a lock that was put stands, and the others as before
put_stands : (same standing : Bool) (bytes : Bytes) (content : Option Bytes)
    → standing ≡ is_some content
    → (same || standing) ≡ is_some (cond same (Some bytes) content)
put_stands true standing bytes content is = refl
put_stands false standing bytes content is = is

-- a lock that was taken away doesn't stand, and the others as before
taken_stands : (same standing : Bool) (content : Option Bytes)
    → standing ≡ is_some content
    → (not same && standing) ≡ is_some (cond same None content)
taken_stands true standing content is = refl
taken_stands false standing content is = is

-- a folder in which a lock was put is one
with_lock : (number : ℕ) → IsLockNumber number → (bytes : Bytes) (folder : Folder)
    → IsFolder folder → IsFolder (with_file (Lock number) (Some bytes) folder)
with_lock number bounds bytes folder is = record {
  standing = λ n.
      has_with n number folder.locks
      ∙ put_stands (n == number) (has_number n folder.locks) bytes (folder.file (Lock n))
      (is.standing n);
  ascending = Ascends-with number folder.locks is.ascending;
  in_bounds =
      All-with IsInBounds number (bounds.low, bounds.high) folder.locks is.in_bounds;
}

-- a folder from which a lock was taken away is one
without_lock : (number : ℕ) (folder : Folder)
    → IsFolder folder → IsFolder (with_file (Lock number) None folder)
without_lock number folder is = record {
  standing = λ n.
      has_without n number folder.locks
      ∙ taken_stands (n == number) (has_number n folder.locks) (folder.file (Lock n))
      (is.standing n);
  ascending = Ascends-without number folder.locks is.ascending;
  in_bounds = All-filter (λ k. not (k == number)) IsInBounds folder.locks is.in_bounds;
}

-- a folder in which a file was put is one
pub IsFolder-with_file : (name : Name) → IsName name → (bytes : Bytes) (folder : Folder)
    → IsFolder folder → IsFolder (with_file name (Some bytes) folder)
IsFolder-with_file (Lock number) bounds bytes folder is = with_lock number bounds bytes folder is
IsFolder-with_file _ bounds bytes folder is =
    record { standing = is.standing; ascending = is.ascending; in_bounds = is.in_bounds }

-- a folder from which a file was taken away is one
pub IsFolder-without_file : (name : Name) (folder : Folder)
    → IsFolder folder → IsFolder (with_file name None folder)
IsFolder-without_file (Lock number) folder is = without_lock number folder is
IsFolder-without_file _ folder is =
    record { standing = is.standing; ascending = is.ascending; in_bounds = is.in_bounds }

-- a folder in which these bytes were moved from one name to another is one
pub IsFolder-moved_content : (content : Option Bytes) (from to : Name) → IsName to
    → (folder : Folder) → IsFolder folder → IsFolder (moved_content content from to folder)
IsFolder-moved_content None from to bounds folder is = is
IsFolder-moved_content (Some bytes) from to bounds folder is =
    IsFolder-with_file to bounds bytes (with_file from None folder)
    (IsFolder-without_file from folder is)

-- a folder in which what stood at one name was moved to another is one
pub IsFolder-moved : (from to : Name) → IsName to → (folder : Folder)
    → IsFolder folder → IsFolder (moved from to folder)
IsFolder-moved from to bounds folder is =
    IsFolder-moved_content (folder.file from) from to bounds folder is

-- what stands at each name once a name where nothing stood is taken away
file_without-absent : (name other : Name) (folder : Folder)
    → folder.file name ≡ None
    → folder.file other ≡ (with_file name None folder).file other
file_without-absent name other folder none =
    elim (cases_Bool (same_name other name)) [
      | inl hit ↦ rw hit (ap folder.file (name-is other name hit) ∙ none)
      | inr miss ↦ rw miss refl
    ]

-- the lock numbers once a name where nothing stood is taken away
locks_without-absent : (name : Name) (folder : Folder)
    → IsFolder folder
    → folder.file name ≡ None
    → folder.locks ≡ locks_with name None folder.locks
locks_without-absent (Lock number) folder is none =
    sym (without-absent number folder.locks (is.standing number ∙ ap is_some none))
locks_without-absent _ folder is none = refl

-- an append where nothing stands leaves the folder as it is
pub appended-absent : (name : Name) (piece : Bytes) (folder : Folder)
    → IsFolder folder
    → folder.file name ≡ None
    → folder ≡ appended name piece folder
appended-absent name piece folder is none =
    let without : folder ≡ with_file name None folder =
    λ i. record {
      file = λ other. file_without-absent name other folder none i;
      locks = locks_without-absent name folder is none i;
    } in
    without
    ∙ ap (λ (content : Option Bytes). with_file name (with_piece piece content) folder) (sym none)
