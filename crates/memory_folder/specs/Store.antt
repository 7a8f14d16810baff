-- What stands in a folder in memory, as the `Folder` that contracts see.
use Rattle.std.specs.Prelude.{ℕ, List, [], ◌∷◌, Option, None, Some, if◌then◌else◌}
use Rattle.acct_text.specs.Bytes.{Bytes}
use Rattle.acct_outside.specs.declared.Name.{Name}
use Rattle.acct_outside.specs.Names.{same_name}
use Rattle.acct_outside.specs.Folder.{Folder, with_file}

-- the first file with the name
abbrev pub file_in : List (Name × Bytes) → Name → Option Bytes
file_in [] name = None
file_in (file ∷ files) name = if same_name file.0 name then Some file.1 else file_in files name

-- the folder of these files and of the numbers of the locks among them
abbrev pub folder_of : List (Name × Bytes) → List ℕ → Folder
folder_of files locks = record { file = file_in files; locks = locks }

-- the folder in which nothing stands
abbrev pub empty_folder : Folder
empty_folder = record { file = λ name. None; locks = [] }

-- the folder after files were put in it one by one
abbrev pub with_files : List (Name × Bytes) → Folder → Folder
with_files [] folder = folder
with_files (file ∷ files) folder = with_files files (with_file file.0 (Some file.1) folder)

-- the folder of these contents, of which a later file replaces an earlier one of its name
abbrev pub folder_with : List (Name × Bytes) → Folder
folder_with contents = with_files contents empty_folder
