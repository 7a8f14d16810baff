-- What stands in a store: the folder that contracts speak of.
use Rattle.memory_folder.specs.declared.store.Store.{Store}
use Rattle.acct_outside.specs.Folder.{Folder}
use Rattle.memory_folder.specs.Store.{folder_of}

-- the store's files, with the numbers of the locks among them
abbrev pub folder_in : Store → Folder
folder_in store = folder_of store.files.items store.locks.items
