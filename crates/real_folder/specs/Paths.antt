-- Which path of the file system stands for which name of the folder.
use Rattle.std.specs.Prelude.{◌≡◌, ◌↔◌, ℕ, ◌==◌, ◌++◌, List, [], length, Option, None, Some, codes, if◌then◌else◌}
use Rattle.std.specs.Str.{is_utf8}
use Rattle.acct_text.specs.declared.Tab.{Tab}
use Rattle.acct_text.specs.Tables.{table_name}
use Rattle.acct_outside.specs.declared.Name.{Name}
use Rattle.acct_outside.specs.Contract.{IsLockNumber}
use Rattle.acct_outside.specs.Names.{file_name}
use Rattle.acct_outside.specs.Journal.{Entry, last_entered, replied, was_done}

-- the path of DIR/etc by the prefix DIR, empty where that is no text
abbrev pub etc_by : List ℕ → List ℕ
etc_by prefix = if is_utf8 prefix then prefix ++ codes "/etc" else []

-- the path of the folder by what it was asked: that of the prefix by which it was named last, empty where
-- it has no name
abbrev pub etc_after : List Entry → List ℕ
etc_after journal = elim (last_entered journal) [ None ↦ [] | Some prefix ↦ etc_by prefix ]

-- what the folder was asked last was no name: done it leaves the path
abbrev pub IsOfCall : List Entry → Type 0
IsOfCall journal = etc_after (replied was_done journal) ≡ etc_after journal

-- The path of a file in the folder. A folder that no prefix named has the empty path, and so has all
-- in it: nothing stands there, and nothing can be made there (path_resolution(7), "Empty pathname").
abbrev pub path_in : List ℕ → List ℕ → List ℕ
path_in etc file = if length etc == 0 then [] else etc ++ codes "/" ++ file

-- the path of a name of the suite
abbrev pub path_at : List ℕ → Name → List ℕ
path_at etc name = path_in etc (file_name name)

-- the front of the names that sessions have for their lock files before these are locks
abbrev pub own_front : List ℕ
own_front = codes "accounts.held+"

-- the name of the file that the session with a token fills before it is its lock
abbrev pub own_name : List ℕ → List ℕ
own_name token = own_front ++ token

-- the name of the lock file that shadow-utils has for a table (its commonio_lock)
abbrev pub shadow_lock : Tab → List ℕ
shadow_lock table = table_name table ++ codes ".lock"

-- what is found is the number of a lock whose text this is
abbrev pub FindsLock : (ℕ → List ℕ) → List ℕ → Option ℕ → Type 0
FindsLock text_of text found =
    (number : ℕ) → IsLockNumber number → (found ≡ Some number) ↔ (text ≡ text_of number)
