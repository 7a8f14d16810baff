use Rattle.std.proofs.Common.{◌≡◌, drop}
use Rattle.memory_folder.specs.Store.{file_in}
use Rattle.memory_folder.proofs.store.file_at.Given as goal

abbrev pub invariant-loop-file : goal.invariant-loop-file
invariant-loop-file l =
    file_in (drop l.file-index l.files.items) l.name ≡ file_in l.files.items l.name
