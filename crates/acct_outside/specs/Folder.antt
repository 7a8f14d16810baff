-- The folder as a finite map from names to bytes.
use Rattle.std.specs.Prelude.{◌≡◌, ℕ, ◌<◌, ◌≤◌, Bool, false, ◌||◌, ◌==◌, nat_lt, not, if◌then◌else◌, max, List, [], ◌∷◌, ◌++◌, filter, All, AllPairs, Option, Some, None, is_some}
use Rattle.acct_text.specs.Bytes.{Bytes}
use Rattle.acct_text.specs.Contents.{Contents}
use Rattle.acct_outside.specs.declared.Name.{Name}
use Rattle.acct_outside.specs.declared.Name.TheVariants.{Table, Lock, Defs}
use Rattle.acct_outside.specs.Names.{same_name, greatest_lock}

-- what stands at each name, and the numbers of the locks that stand, ascending
pub record Folder : Type 0 where
  pub file : Name → Option Bytes
  pub locks : List ℕ

-- the number stands in the list
abbrev pub has_number : ℕ → List ℕ → Bool
has_number n [] = false
has_number n (k ∷ ks) = (n == k) || has_number n ks

-- the list of numbers is that of the standing locks
pub record IsFolder (folder : Folder) : Type 0 where
  pub standing : (n : ℕ) → has_number n folder.locks ≡ is_some (folder.file (Lock n))
  pub ascending : AllPairs (λ k n. k < n) folder.locks
  pub in_bounds : All (λ n. (1 ≤ n) × (n ≤ greatest_lock)) folder.locks

-- the greatest of the numbers, 0 for none
abbrev pub greatest : List ℕ → ℕ
greatest [] = 0
greatest (n ∷ ns) = max n (greatest ns)

-- the greatest N for which Lock(N) stands, 0 for none
abbrev pub top : Folder → ℕ
top folder = greatest folder.locks

-- the six tables as they stand
abbrev pub tables : Folder → Contents
tables folder = λ t. folder.file (Table t)

-- login.defs as it stands
abbrev pub settings_file : Folder → Option Bytes
settings_file folder = folder.file Defs

-- the numbers with n, in its place
abbrev pub with_number : ℕ → List ℕ → List ℕ
with_number n [] = n ∷ []
with_number n (k ∷ ks) =
    if nat_lt n k then n ∷ k ∷ ks else (if n == k then k ∷ ks else k ∷ with_number n ks)

-- the numbers without n
abbrev pub without_number : ℕ → List ℕ → List ℕ
without_number n ks = filter (λ k. not (k == n)) ks

-- the standing locks once this is what stands at the name
abbrev pub locks_with : Name → Option Bytes → List ℕ → List ℕ
locks_with (Lock n) (Some bytes) ks = with_number n ks
locks_with (Lock n) None ks = without_number n ks
locks_with _ _ ks = ks

-- the folder with this at the name and all else as it was
abbrev pub with_file : Name → Option Bytes → Folder → Folder
with_file name content folder = record {
  file = λ other. if same_name other name then content else folder.file other;
  locks = locks_with name content folder.locks;
}

-- what stands at a name with a piece behind it: still nothing, where nothing stood
abbrev pub with_piece : Bytes → Option Bytes → Option Bytes
with_piece piece None = None
with_piece piece (Some bytes) = Some (bytes ++ piece)

-- the folder with a piece behind what stands at the name
abbrev pub appended : Name → Bytes → Folder → Folder
appended name piece folder = with_file name (with_piece piece (folder.file name)) folder

-- the folder after what stands at one name was moved to another, where anything stands there
abbrev pub moved_content : Option Bytes → Name → Name → Folder → Folder
moved_content None from to folder = folder
moved_content (Some bytes) from to folder = with_file to (Some bytes) (with_file from None folder)

-- the folder after a rename from one name to another
abbrev pub moved : Name → Name → Folder → Folder
moved from to folder = moved_content (folder.file from) from to folder
