use Rattle.std.proofs.Common.{◌≡◌, ◌∙◌, ap, sym, subst, if◌then◌else◌, List, Some, Option}
use Rattle.acct_text.specs.Bytes.{Bytes}
use Rattle.acct_outside.specs.declared.Name.{Name}
use Rattle.acct_outside.specs.Folder.{IsFolder, with_file, locks_with}
use Rattle.acct_outside.specs.Names.{same_name}
use Rattle.memory_folder.specs.Store.{file_in, folder_of}
use Rattle.memory_folder.specs.Stored.{folder_in}
use Rattle.memory_folder.proofs.StoreLemmas.{folder_of-is}
use Rattle.memory_folder.proofs.FolderLemmas.{IsFolder-with_file}
use Rattle.memory_folder.proofs.store.Store.put.Goals as goal

-- the store with the file
put : (c : goal.After-add_lock)
    → folder_of c.put_file.new.files.items c.add_lock.new.locks.items
    ≡ with_file c.args.name (Some c.args.bytes) (folder_in c.args.self.now)
put c =
    let bytes = c.args.bytes in
    folder_of-is c.put_file.new.files.items c.add_lock.new.locks.items
    (with_file c.args.name (Some bytes) (folder_in c.args.self.now))
    (λ other.
    let now : List (Name × Bytes) → Option Bytes =
    λ files. if same_name other c.args.name then Some bytes else file_in files other in
    c.put_file.ensures other ∙ ap now c.reserve.ensures.items)
    (c.add_lock.ensures bytes ∙ ap (locks_with c.args.name (Some bytes)) c.reserve-2.ensures.items)

pub invariant_of-self-2 : goal.invariant_of-self-2
invariant_of-self-2 c =
    record {
      is_folder =
          subst IsFolder (sym (put c))
          (IsFolder-with_file c.args.name c.requires c.args.bytes (folder_in c.args.self.now)
          c.args.self.now.is_folder);
    }
