use Rattle.std.proofs.Common.{◌≡◌, take}
use Rattle.memory_folder.specs.Store.{with_files, empty_folder}
use Rattle.memory_folder.specs.Stored.{folder_in}
use Rattle.memory_folder.proofs.store.Store.of.Given as goal

abbrev pub invariant-loop-file : goal.invariant-loop-file
invariant-loop-file l =
    folder_in l.store ≡ with_files (take l.file-index l.contents) empty_folder
